use Rattle.std.proofs.Common.{true, [], ◌∷◌, ◌++◌, ap}
use Rattle.pdh_g706.specs.Machine.{Turn, still, turn, last_bits, lost_turn, framed_turn}
use Rattle.pdh_g706.specs.Machine.Phase.{Searching, Framed}
use Rattle.pdh_g706.proofs.AlignSteps.{ends_loss}
use Rattle.pdh_claims_of_streams.proofs.Turns.{holds_then}
use Rattle.pdh_claims_of_streams.proofs.g706.multiframe_delivered_after_the_loss.Goals as goal

pub returns : goal.returns
unfolding turn
returns g c held group wrong is whole lost =
    let bits = held ++ c.args.bit ∷ [] in
    holds_then c.turn.result c.args.align.now c.turn.new.self c.args.bit (Framed held group wrong) (Searching (last_bits 256 bits)) c.turn.ensures.becomes is
    (ap (λ (t : Turn). t.phase) (ends_loss bits (lost_turn true bits) (framed_turn bits group wrong) (still (Framed bits group wrong)) whole lost))
