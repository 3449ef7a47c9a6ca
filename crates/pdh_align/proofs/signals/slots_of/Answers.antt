use Rattle.std.proofs.Common.{◌≡◌, ◌+◌, subst, sym, ap, ◌∙◌, arith}
use Rattle.pdh_align.proofs.SignalLaws.{SoFar, so_far_signal, so_far_other, so_far_all}
use Rattle.pdh_align.proofs.signals.slots_of.Goals as goal
use Rattle.pdh_align.proofs.signals.slots_of.Goals.{in-Align+in_ok-push, in_default}

pub loop-slot-preserved : goal.loop-slot-preserved
loop-slot-preserved g c =
    elim c.match-role.branch [
      | in-Align+in_ok-push w ↦
          so_far_signal g.S.Shape.shape c.loop-slot.slot c.loop-slot.slots.items c.match-role.slots.items w.in-Align.bit c.loop-slot.invariant (sym c.role.ensures ∙ w.in-Align.is)
          (ap (λ v. v.items) w.slots-is ∙ w.in_ok-push.ensures.items)
      | in_default w ↦
          let same : c.loop-slot.slots.items ≡ c.match-role.slots.items = ap (λ v. v.items) (sym w.slots-is) in
          subst (SoFar g.S.Shape.shape (c.loop-slot.slot + 1)) same
          (so_far_other g.S.Shape.shape c.loop-slot.slot c.loop-slot.slots.items c.loop-slot.invariant (λ b is. w.in_default.not-Align b (c.role.ensures ∙ is)))
    ]

pub returns : goal.returns
returns g c = so_far_all g.S.Shape.shape c.loop-slot.slot c.loop-slot.slots.items c.loop-slot.invariant (omega (arith, g.met.S.Shape.len_is))
