use Rattle.std.proofs.Common.{ap, lit<, lit≤}
use Rattle.std.proofs.lemmas.Result.{IfOk-weaker}
use Rattle.pdh_cells.specs.declared.cell.Cell.{Cell}
use Rattle.pdh_claims_of_health.proofs.Pictures.{in_one_bit}
use Rattle.pdh_claims_of_health.proofs.health.alarm_at_the_end_not_shown.Goals as goal

pub returns : goal.returns
returns c =
    IfOk-weaker c.found_after.result _ _ (λ node is. ap (λ (x : Cell). x.alarm) (in_one_bit 1 _ _ 0 (lit≤ tt) (lit< tt) is.course_is.cells_are)) c.found_after.ensures
