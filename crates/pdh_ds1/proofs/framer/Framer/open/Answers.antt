use Rattle.std.proofs.Common.{◌*◌, [], ap, ◌∙◌}
use Rattle.pdh_bits.specs.BitOut.{BoundedBits}
use Rattle.pdh_ds1.specs.declared.plan.SuperframePlan.{SuperframePlan}
use Rattle.pdh_ds1.proofs.FramerLaws.{opened}
use Rattle.pdh_ds1.proofs.framer.Framer.open.Goals as goal

pub returns : goal.returns
returns g c =
    let plan : SuperframePlan = g.P.InSuperframe.PLAN in
    opened g.P.InSuperframe.f_bits plan g.met.P.InSuperframe.is_plan c.in_ok-payload.payload c.in_ok-superframe.superframe
    (c.in_ok-payload.ensures ∙ ap (λ (p : SuperframePlan). record { capacity = 192 * p.frames; bits = [] }) c.PLAN.ensures)
    (ap (λ (p : BoundedBits). p.capacity) c.in_ok-superframe.ensures ∙ ap (λ (p : SuperframePlan). p.len) c.PLAN-2.ensures)
