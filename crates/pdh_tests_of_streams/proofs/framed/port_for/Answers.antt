use Rattle.std.proofs.Common.{ap, ◌∙◌}
use Rattle.pdh_edge.specs.Ports.{Outputs}
use Rattle.pdh_tests_of_streams.proofs.framed.port_for.Goals as goal

pub room-requires : goal.room-requires
room-requires c = record { held = ap (λ (o : Outputs). o.holds 0) c.in_ok-port.ensures.outputs }

pub returns : goal.returns
returns c = ap (λ (o : Outputs). o.holds 0) c.in_ok-room.ensures.outputs ∙ ap (λ (o : Outputs). o.holds 0) c.in_ok-port.ensures.outputs
