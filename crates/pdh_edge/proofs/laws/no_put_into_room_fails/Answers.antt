use Rattle.pdh_edge.proofs.InRoom.{puts_in_room}
use Rattle.pdh_edge.proofs.laws.no_put_into_room_fails.Goals as goal

pub returns : goal.returns
returns c old new kept few = puts_in_room old new kept.3 few
