use Rattle.std.proofs.Common.{◌≡◌, ◌+◌, true, false, [], ◌∷◌, ◌++◌, List, Bool, refl, ◌∙◌}
use Rattle.pdh_bits.specs.Bits.{bit_value}
use Rattle.pdh_g706.specs.Frames.{frames_of}
use Rattle.pdh_g706.specs.Alignment.{errs}
use Rattle.pdh_g706.specs.Machine.{group_phase}
use Rattle.pdh_g706.specs.Machine.Phase.{Framed}
use Rattle.pdh_claims_of_streams.proofs.Turns.{holds_then, block_phase}
use Rattle.pdh_claims_of_streams.proofs.g706.false_at_914.Goals as goal

not_false : (bits : List Bool) (errored : Bool) → group_phase bits bits 1000 (913 + bit_value errored) ≡ Framed bits 0 0
not_false bits true = refl
not_false bits false = refl

pub returns : goal.returns
returns g c held is long =
    let bits = held ++ c.args.bit ∷ [] in
    holds_then c.turn.result c.args.align.now c.turn.new.self c.args.bit (Framed held 999 913) (Framed bits 0 0) c.turn.ensures.becomes is
    (block_phase held 999 913 c.args.bit long ∙ not_false bits (errs (frames_of bits) 8))
