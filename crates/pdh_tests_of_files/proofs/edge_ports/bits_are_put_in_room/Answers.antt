use Rattle.std.proofs.Common.{ap}
use Rattle.pdh_tests_of_files.proofs.edge_ports.bits_are_put_in_room.Goals as goal

pub has_room-requires : goal.has_room-requires
has_room-requires g c = ap (λ o. o.holds 0) c.in_ok-port.ensures.outputs

pub room-requires : goal.room-requires
room-requires g c = record { held = ap (λ o. o.holds 0) c.in_ok-port.ensures.outputs }
