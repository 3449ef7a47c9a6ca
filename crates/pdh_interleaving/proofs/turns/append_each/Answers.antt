use Rattle.std.proofs.Common.{◌≡◌, ℕ, ◌+◌, ◌++◌, List, Bool, length, take, drop, set, get_or, sym, ap, ◌∙◌, arith}
use Rattle.pdh_bits.specs.BitOut.{BoundedBits}
use Rattle.pdh_packed.specs.Words.{low_bits, bounded}
use Rattle.pdh_interleaving.specs.Interleaving.{appended_to_each}
use Rattle.pdh_interleaving.proofs.DealtLaws.{length-appended_to_each, get_or-appended_to_each, one_written, not_yet_written, all_written}
use Rattle.pdh_interleaving.proofs.turns.append_each.Goals as goal

pub loop-index-preserved : goal.loop-index-preserved
loop-index-preserved c =
    let words = c.args.words.now in
    let old = c.args.lists.now in
    let i = c.loop-index.index in
    let count = c.args.count in
    let d = c.index-lists-index.result in
    let more : ℕ → List Bool = λ j. take count (low_bits 64 (get_or words j 0)) in
    let new : List BoundedBits = appended_to_each more 0 old in
    let many : length new ≡ length old = length-appended_to_each more 0 old in
    let place : i + 0 ≡ i = omega arith in
    let held : get_or c.loop-index.lists i d ≡ get_or old i d = ap (λ (lists : List BoundedBits). get_or lists i d) c.loop-index.invariant ∙ not_yet_written new old i d (omega arith) in
    let has : get_or new i d ≡ bounded (get_or old i d).capacity ((get_or old i d).bits ++ more i) =
    get_or-appended_to_each more 0 old i d (omega arith) ∙ ap (λ (k : ℕ). bounded (get_or old i d).capacity ((get_or old i d).bits ++ more k)) place in
    let put : c.append_front.new.list ≡ get_or new i d = c.append_front.ensures ∙ ap (λ (b : BoundedBits). bounded b.capacity (b.bits ++ more i)) held ∙ sym has in
    ap (λ (lists : List BoundedBits). set lists i c.append_front.new.list) c.loop-index.invariant ∙ ap (set (take i new ++ drop i old) i) put ∙ one_written new old i d (omega arith) (omega arith)

pub append_front-requires-clause-room : goal.append_front-requires-clause-room
append_front-requires-clause-room c =
    let words = c.args.words.now in
    let old = c.args.lists.now in
    let i = c.loop-index.index in
    let count = c.args.count in
    let d = c.index-lists-index.result in
    let more : ℕ → List Bool = λ j. take count (low_bits 64 (get_or words j 0)) in
    let new : List BoundedBits = appended_to_each more 0 old in
    let many : length new ≡ length old = length-appended_to_each more 0 old in
    let held : get_or c.loop-index.lists i d ≡ get_or old i d = ap (λ (lists : List BoundedBits). get_or lists i d) c.loop-index.invariant ∙ not_yet_written new old i d (omega arith) in
    let room = c.requires.room i d c.loop-index-test.true in
    omega (arith, room, ap (λ (b : BoundedBits). length b.bits) held, ap (λ (b : BoundedBits). b.capacity) held)

pub returns : goal.returns
returns c =
    let words = c.args.words.now in
    let old = c.args.lists.now in
    let i = c.loop-index.index in
    let more : ℕ → List Bool = λ j. take c.args.count (low_bits 64 (get_or words j 0)) in
    let new : List BoundedBits = appended_to_each more 0 old in
    let many : length new ≡ length old = length-appended_to_each more 0 old in
    c.loop-index.invariant ∙ all_written new old i (omega arith) (omega arith)
