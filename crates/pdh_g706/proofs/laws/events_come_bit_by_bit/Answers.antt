use Rattle.pdh_g706.proofs.TakeLaws.{events_whole, events_more}
use Rattle.pdh_g706.proofs.laws.events_come_bit_by_bit.Goals as goal

pub returns-clause-whole : goal.returns-clause-whole
returns-clause-whole c = events_whole

pub returns-clause-more : goal.returns-clause-more
returns-clause-more c = events_more
