use Rattle.std.proofs.Common.{false, [], ◌∷◌, ◌++◌, drop, sym, ap, arith}
use Rattle.std.proofs.lemmas.List.{length_push}
use Rattle.pdh_g706.specs.Machine.{Turn, turn}
use Rattle.pdh_g706.specs.Machine.Phase.{Searching}
use Rattle.pdh_g706.proofs.AlignSteps.{search_long}
use Rattle.pdh_g706.proofs.HeldLaws.{confirmed_second}
use Rattle.pdh_claims_of_streams.proofs.Turns.{holds_then}
use Rattle.pdh_claims_of_streams.proofs.g706.confirmed_without_bit_2.Goals as goal

pub returns : goal.returns
unfolding turn
returns g c held is long zero =
    let bits = held ++ c.args.bit ∷ [] in
    holds_then c.turn.result c.args.align.now c.turn.new.self c.args.bit (Searching held) (Searching (drop 1 bits)) c.turn.ensures.becomes is
    (ap (λ (t : Turn). t.phase) (search_long bits false (omega (arith, long, length_push held c.args.bit)) (sym (confirmed_second bits zero))))
