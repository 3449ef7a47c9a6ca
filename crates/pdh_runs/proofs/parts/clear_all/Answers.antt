use Rattle.std.proofs.Common.{◌≡◌, ◌<◌, ◌++◌, List, [], length, take, drop, set, get_or, sym, ap, ◌∙◌, arith}
use Rattle.std.proofs.lemmas.List.{length-map, get_or-map}
use Rattle.pdh_bits.specs.BitOut.{BoundedBits}
use Rattle.pdh_packed.specs.Words.{bounded}
use Rattle.pdh_interleaving.proofs.DealtLaws.{one_written, not_yet_written, all_written}
use Rattle.pdh_runs.specs.Taking.{emptied}
use Rattle.pdh_runs.proofs.parts.clear_all.Goals as goal

pub loop-index-preserved : goal.loop-index-preserved
loop-index-preserved c =
    let old = c.args.lists.now in
    let i = c.loop-index.index in
    let d = c.index-lists-index.result in
    let new : List BoundedBits = emptied old in
    let many : length new ≡ length old = length-map old (λ (list : BoundedBits). bounded list.capacity []) in
    let within : i < length old = omega (arith, c.loop-index-test.true) in
    let held : get_or c.loop-index.lists i d ≡ get_or old i d = ap (λ (lists : List BoundedBits). get_or lists i d) c.loop-index.invariant ∙ not_yet_written new old i d (omega (arith, many, within)) in
    let put : c.clear.new.self ≡ get_or new i d = c.clear.ensures ∙ ap (λ (b : BoundedBits). bounded b.capacity []) held ∙ sym (get_or-map (λ (list : BoundedBits). bounded list.capacity []) old i d d within) in
    ap (λ (lists : List BoundedBits). set lists i c.clear.new.self) c.loop-index.invariant ∙ ap (set (take i new ++ drop i old) i) put ∙ one_written new old i d (omega (arith, many, within)) within

pub returns : goal.returns
returns c =
    let old = c.args.lists.now in
    let i = c.loop-index.index in
    let new : List BoundedBits = emptied old in
    let many : length new ≡ length old = length-map old (λ (list : BoundedBits). bounded list.capacity []) in
    c.loop-index.invariant ∙ all_written new old i (omega arith) (omega arith)
