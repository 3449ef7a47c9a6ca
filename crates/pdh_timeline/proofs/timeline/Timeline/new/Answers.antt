use Rattle.pdh_timeline.proofs.Standings.{new_stands}
use Rattle.pdh_timeline.proofs.timeline.Timeline.new.Goals as goal

pub returns-clause-stands : goal.returns-clause-stands
returns-clause-stands c = new_stands c.args.rate c.args.block c.none-touch.result c.new-seconds.result c.requires c.none-touch.ensures c.new-seconds.ensures
