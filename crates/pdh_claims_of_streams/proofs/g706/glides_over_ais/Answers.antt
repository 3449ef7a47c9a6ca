use Rattle.std.proofs.Common.{take, drop}
use Rattle.pdh_events.specs.laws.QuietLaws.{quiet_events}
use Rattle.pdh_g706.specs.Events.{e1_bit_events}
use Rattle.pdh_claims_of_streams.proofs.g706.glides_over_ais.Goals as goal

pub returns : goal.returns
returns c line stands = quiet_events e1_bit_events line (take c.glide.result (drop c.args.from c.args.bits.now.bits)) (c.glide.ensures.quiet line stands)
