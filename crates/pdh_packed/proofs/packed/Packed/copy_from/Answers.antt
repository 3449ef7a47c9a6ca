use Rattle.std.proofs.Common.{◌≡◌, ◌++◌, ℕ, List, length, ap, ◌∙◌, arith}
use Rattle.pdh_packed.proofs.BoundedLaws.{length-packed}
use Rattle.pdh_packed.proofs.packed.Packed.copy_from.Goals as goal

pub append_words-requires : goal.append_words-requires
append_words-requires c =
    let mine = length-packed c.self.inside.capacity c.self.inside.words.items c.self.inside.tail c.args.self.now c.self.view_is in
    let others = length-packed c.other.inside.capacity c.other.inside.words.items c.other.inside.tail c.args.other.now c.other.view_is in
    omega (arith, mine.1, others.0, c.requires, ap length c.deref.ensures.value, c.self.invariant.1)

pub invariant_of-self : goal.invariant_of-self
invariant_of-self c =
    let mine = length-packed c.self.inside.capacity c.self.inside.words.items c.self.inside.tail c.args.self.now c.self.view_is in
    let others = length-packed c.other.inside.capacity c.other.inside.words.items c.other.inside.tail c.args.other.now c.other.view_is in
    let words : length c.append_words.new.words.items ≡ length c.other.inside.words.items = ap length (c.append_words.ensures.items ∙ ap (λ (words : List ℕ). words ++ c.deref.result.now) c.clear.ensures.items ∙ c.deref.ensures.value) in
    (c.other.invariant.0, omega (arith, c.append_words.ensures.capacity, c.self.invariant.1), omega (arith, words, mine.1, others.0, c.requires), c.self.invariant.3)
