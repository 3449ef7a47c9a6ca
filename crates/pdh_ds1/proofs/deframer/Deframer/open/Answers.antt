use Rattle.std.proofs.Common.{◌*◌, ap, ◌∙◌}
use Rattle.pdh_bits.specs.BitOut.{BoundedBits}
use Rattle.pdh_ds1.specs.declared.plan.SuperframePlan.{SuperframePlan}
use Rattle.pdh_shape.specs.laws.LawsOfTest.{laws-is_frame}
use Rattle.pdh_ds1.specs.Superframe.{in_superframe}
use Rattle.pdh_ds1.proofs.MachineLaws.{opened}
use Rattle.pdh_ds1.proofs.deframer.Deframer.open.Goals as goal

pub returns : goal.returns
returns g c =
    let f_bits = g.P.InSuperframe.f_bits in
    let plan : SuperframePlan = g.P.InSuperframe.PLAN in
    opened f_bits plan c.in_ok-aligner.aligner c.in_ok-superframe.superframe c.in_ok-payload.payload (laws-is_frame (in_superframe f_bits plan) g.met.P.InSuperframe.lawful) c.in_ok-aligner.ensures.stands
    (ap (λ (p : BoundedBits). p.capacity) c.in_ok-superframe.ensures ∙ ap (λ (p : SuperframePlan). p.len) c.PLAN.ensures)
    (ap (λ (p : BoundedBits). p.capacity) c.in_ok-payload.ensures ∙ ap (λ (p : SuperframePlan). 576 * p.frames) c.PLAN-2.ensures)
    c.none.result c.none.ensures
