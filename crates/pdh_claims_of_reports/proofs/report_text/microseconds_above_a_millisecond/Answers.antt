use Rattle.std.specs.Fmt.{digits}
use Rattle.pdh_claims_of_reports.proofs.report_text.microseconds_above_a_millisecond.Goals as goal

pub returns : goal.returns
unfolding digits
returns c = c.duration.ensures
