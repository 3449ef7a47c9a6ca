use Rattle.std.proofs.Common.{◌≡◌, ℕ, ◌+◌, ◌-◌, ◌++◌, Bool, List, length, take, drop, ap, sym, ◌∙◌, arith, length-append}
use Rattle.std.proofs.lemmas.List.{append-nil, take-take}
use Rattle.pdh_packed.specs.Words.{low_bits, bits_of_words}
use Rattle.pdh_packed.proofs.PackedLaws.{filled, length-bits_of_words}
use Rattle.pdh_packed.proofs.BoundedLaws.{length-packed, bits_become}
use Rattle.pdh_packed.proofs.packed.Packed.end_word.Goals as goal

pub returns-then-held-eq0-clause-whole : goal.returns-then-held-eq0-clause-whole
returns-then-held-eq0-clause-whole c =
    let long = length-packed c.self.inside.capacity c.self.inside.words.items c.self.inside.tail c.args.self.now c.self.view_is in
    omega (arith, long.0, c.if-held-eq0.true, c.len-held.ensures.count)

pub push_reserved-requires : goal.push_reserved-requires
push_reserved-requires c =
    let long = length-packed c.self.inside.capacity c.self.inside.words.items c.self.inside.tail c.args.self.now c.self.view_is in
    omega (arith, long.0, long.1, c.requires.room, c.self.invariant, c.self.inside.words.ok)

pub invariant_of-self : goal.invariant_of-self
invariant_of-self c =
    let long = length-packed c.self.inside.capacity c.self.inside.words.items c.self.inside.tail c.args.self.now c.self.view_is in
    let pushed : length c.push_reserved.new.self.items ≡ length c.self.inside.words.items + 1 = search (arith, c.push_reserved.ensures.items) in
    omega (arith, long.0, long.1, pushed, c.requires.room, c.self.invariant, c.push_reserved.ensures.capacity, ap length c.empty-self-inside.ensures)

pub returns-clause-bits : goal.returns-clause-bits
returns-clause-bits c =
    let words = c.self.inside.words.items in
    let tail = c.self.inside.tail in
    let others = c.args.other.now.bits in
    let place = c.args.place in
    let held = c.len-held.result in
    let x = c.filled.result in
    let word : List Bool = take (64 - held) (drop place others) in
    let read : take (64 - length tail) (low_bits 64 c.read_whole.result) ≡ word =
    ap (take (64 - length tail)) c.read_whole.ensures ∙ take-take (64 - length tail) 64 (drop place others) (omega arith)
    ∙ ap (λ (n : ℕ). take (64 - n) (drop place others)) (sym c.len-held.ensures.count) in
    let full : low_bits 64 x ++ c.empty-self-inside.result ≡ tail ++ word =
    ap (λ (bits : List Bool). low_bits 64 x ++ bits) c.empty-self-inside.ensures ∙ append-nil (low_bits 64 x) ∙ c.filled.ensures ∙ ap (λ (bits : List Bool). tail ++ bits) read in
    bits_become (λ (bits : List Bool). bits ++ word) c.self.inside.capacity (bits_of_words words ++ tail) _ c.args.self.now c.self.view_is
    (filled words c.push_reserved.new.self.items tail c.empty-self-inside.result word x c.push_reserved.ensures.items full)

pub returns-clause-whole : goal.returns-clause-whole
returns-clause-whole c =
    let pushed = c.push_reserved.new.self.items in
    omega (arith, length-append (bits_of_words pushed) c.empty-self-inside.result, length-bits_of_words pushed, ap length c.empty-self-inside.ensures)
