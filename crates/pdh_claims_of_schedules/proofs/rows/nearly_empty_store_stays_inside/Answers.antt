use Rattle.std.proofs.Common.{arith}
use Rattle.pdh_line.specs.Tolerance.{fill_from}
use Rattle.pdh_claims_of_schedules.proofs.rows.nearly_empty_store_stays_inside.Goals as goal

pub returns : goal.returns
unfolding fill_from
returns c inside = (c.stays_inside.ensures inside 0 (omega arith)).least_before
