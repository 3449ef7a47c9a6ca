use Rattle.pdh_lab.proofs.Received.{lists_hold}
use Rattle.pdh_lab.proofs.receiving.port_of.Goals as goal

pub make_room-requires-clause-held : goal.make_room-requires-clause-held
make_room-requires-clause-held c k low = lists_hold c.args.leaves k c.in_ok-port.ensures.outputs low
