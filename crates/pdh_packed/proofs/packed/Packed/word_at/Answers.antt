use Rattle.std.proofs.Common.{◌*◌, Bool, List, take, drop, sym, ◌∙◌, ap, arith}
use Rattle.pdh_packed.proofs.PackedLaws.{word_after, word_past}
use Rattle.pdh_packed.proofs.BoundedLaws.{bits_inside}
use Rattle.pdh_packed.proofs.packed.Packed.word_at.Goals as goal

pub returns-then-index-count-2 : goal.returns-then-index-count-2
returns-then-index-count-2 c =
    let words = c.self.inside.words.items in
    let tail = c.self.inside.tail in
    sym (word_after words tail c.args.index (omega arith) c.self.invariant.0) ∙ ap (λ (bits : List Bool). take 64 (drop (64 * c.args.index) bits)) (bits_inside _ _ _ c.self.view_is)

pub returns : goal.returns
returns c =
    let words = c.self.inside.words.items in
    let tail = c.self.inside.tail in
    c.empty.ensures ∙ sym (word_past words tail c.args.index (omega arith) c.self.invariant.0) ∙ ap (λ (bits : List Bool). take 64 (drop (64 * c.args.index) bits)) (bits_inside _ _ _ c.self.view_is)
