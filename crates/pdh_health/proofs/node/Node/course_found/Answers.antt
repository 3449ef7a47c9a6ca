use Rattle.std.proofs.Common.{Bool, true, false, sym, subst}
use Rattle.pdh_health.specs.Marking.{marks_of, codes_of}
use Rattle.pdh_health.specs.Nodes.{last_place}
use Rattle.pdh_health.specs.Findings.{IsFound}
use Rattle.pdh_health.proofs.Pushing.{marks_few}
use Rattle.pdh_health.proofs.node.Node.course_found.Goals as goal

pub returns-then-is_late : goal.returns-then-is_late
returns-then-is_late c rate plan events stands less few =
    subst (λ (b : Bool). IsFound rate plan.block c.args.bits (marks_of b events) (codes_of events) c.finish.result) (sym c.if-is_late.true)
    (c.finish.ensures rate plan.block (marks_of true events) (codes_of events) (last_place events) stands.late_stands less (marks_few true events few))

pub returns : goal.returns
returns c rate plan events stands less few =
    subst (λ (b : Bool). IsFound rate plan.block c.args.bits (marks_of b events) (codes_of events) c.finish-2.result) (sym c.if-is_late.false)
    (c.finish-2.ensures rate plan.block (marks_of false events) (codes_of events) (last_place events) stands.early_stands less (marks_few false events few))
