use Rattle.std.specs.Fmt.{digits, padded_integral, char_count}
use Rattle.csv.specs.Writing.{fields_text, is_blank}
use Rattle.pdh_claims_of_reports.proofs.event_rows.milliseconds_for_seconds.Goals as goal

pub returns : goal.returns
unfolding digits padded_integral char_count fields_text is_blank
returns g c = c.write_row.ensures.written
