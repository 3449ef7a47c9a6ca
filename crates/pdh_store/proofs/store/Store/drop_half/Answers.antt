use Rattle.std.proofs.Common.{length, ap, ◌∙◌, arith, length-drop}
use Rattle.pdh_line.specs.Edits.{half_store}
use Rattle.pdh_store.proofs.store.Store.drop_half.Goals as goal

pub invariant_of-self : goal.invariant_of-self
invariant_of-self c =
    let bits = c.self.inside.ring.bits in
    let is = c.drop_oldest.ensures in (
      ap (λ r. r.capacity) is ∙ c.self.invariant.0,
      omega (arith, c.self.invariant.1, ap (λ r. length r.bits) is, length-drop half_store bits),
    )
