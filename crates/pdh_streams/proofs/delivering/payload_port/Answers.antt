use Rattle.pdh_streams.proofs.DeliveringLaws.{first_holds}
use Rattle.pdh_streams.proofs.delivering.payload_port.Goals as goal

pub room-requires : goal.room-requires
room-requires c = record { held = first_holds c.in_ok-port.ensures.outputs }
