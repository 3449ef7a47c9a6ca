use Rattle.std.proofs.Common.{refl, lit≤}
use Rattle.pdh_claims_of_lines.proofs.duplex.last_error_tick_told.Goals as goal

pub returns : goal.returns
returns c = λ seed to_west is. ((c.an_undisturbed_line_tells_what_was_said.ensures _ is (lit≤ tt)).east refl).block_errors
