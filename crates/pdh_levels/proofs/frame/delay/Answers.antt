use Rattle.std.proofs.Common.{length}
use Rattle.pdh_levels.proofs.DelayLaws.{two_few}
use Rattle.pdh_levels.proofs.frame.delay.Goals as goal

pub delay_below-requires-clause-few : goal.delay_below-requires-clause-few
delay_below-requires-clause-few c = two_few (length c.args.levels.now) c.requires.levels.few
