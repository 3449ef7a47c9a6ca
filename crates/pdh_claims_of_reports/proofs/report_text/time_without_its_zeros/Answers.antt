use Rattle.std.specs.Fmt.{digits, padded_integral, char_count}
use Rattle.pdh_claims_of_reports.proofs.report_text.time_without_its_zeros.Goals as goal

pub returns : goal.returns
unfolding digits padded_integral char_count
returns c = c.clock_time.ensures
