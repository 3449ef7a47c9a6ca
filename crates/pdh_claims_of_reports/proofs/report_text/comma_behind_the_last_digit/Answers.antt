use Rattle.std.specs.Fmt.{digits}
use Rattle.pdh_report_text.specs.Numbers.{in_threes}
use Rattle.pdh_claims_of_reports.proofs.report_text.comma_behind_the_last_digit.Goals as goal

pub returns : goal.returns
unfolding digits in_threes
returns c = c.grouped.ensures
