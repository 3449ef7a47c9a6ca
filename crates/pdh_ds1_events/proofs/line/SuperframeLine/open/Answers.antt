use Rattle.std.proofs.Common.{[], sym, subst, ap, ◌∙◌}
use Rattle.std.specs.Prelude.{Option, ℕ}
use Rattle.pdh_shape.specs.laws.LawsOfTest.{laws-is_frame}
use Rattle.pdh_ds1.specs.declared.plan.SuperframePlan.{SuperframePlan}
use Rattle.pdh_ds1.specs.Superframe.{in_superframe}
use Rattle.pdh_ds1_events.specs.Line.{LineStands}
use Rattle.pdh_ds1_events.proofs.LineLaws.{stands_empty}
use Rattle.pdh_ds1_events.proofs.line.SuperframeLine.open.Goals as goal

pub returns-clause-stands : goal.returns-clause-stands
returns-clause-stands g c =
    let stands = stands_empty g.P.InSuperframe.f_bits g.P.InSuperframe.PLAN c.in_ok-aligner.aligner c.new.result (laws-is_frame (in_superframe g.P.InSuperframe.f_bits g.P.InSuperframe.PLAN) g.met.P.InSuperframe.lawful) c.in_ok-aligner.ensures.stands (c.new.ensures.long ∙ ap (λ (p : SuperframePlan). p.len) c.PLAN.ensures) c.new.ensures.none in
    subst (λ (w : Option ℕ). LineStands g.P.InSuperframe.f_bits g.P.InSuperframe.PLAN c.in_ok-aligner.aligner c.new.result w 0 0 (record { frames = 0; right = 0 }) []) (sym c.in_ok-checker.ensures) stands
