use Rattle.std.proofs.Common.{◌≡◌, ◌+◌, false, cond, not, [], ◌∷◌, ◌++◌, ap, ◌∙◌, arith}
use Rattle.std.specs.Prelude.{nat_le}
use Rattle.std.proofs.lemmas.Bool.{eq-eqb, ne_eqb}
use Rattle.pdh_bits.specs.Bits.{bit_value}
use Rattle.pdh_g706.specs.Frames.{frames_of}
use Rattle.pdh_g706.specs.Alignment.{errs}
use Rattle.pdh_g706.specs.Machine.{group_phase, last_bits}
use Rattle.pdh_g706.specs.Machine.Phase.{Searching, Framed}
use Rattle.pdh_claims_of_streams.proofs.Turns.{holds_then, block_phase}
use Rattle.pdh_claims_of_streams.proofs.g706.crc_of_this_sub_multiframe.Goals as goal

pub returns : goal.returns
unfolding errs
returns g c held group wrong is long few right =
    let bits = held ++ c.args.bit ∷ [] in
    let counted : errs (frames_of bits) 8 ≡ false = ap not (eq-eqb _ _ right) in
    holds_then c.turn.result c.args.align.now c.turn.new.self c.args.bit (Framed held group wrong) (Framed bits (group + 1) wrong) c.turn.ensures.becomes is
    (block_phase held group wrong c.args.bit long
    ∙ ap (λ b. group_phase bits bits (group + 1) (wrong + bit_value b)) counted
    ∙ ap (λ b. cond b (cond (nat_le 915 (wrong + 0)) (Searching (last_bits 255 bits)) (Framed bits 0 0)) (Framed bits (group + 1) (wrong + 0))) (ne_eqb _ _ (λ e. absurd (omega (arith, few, e))))
    ∙ ap (Framed bits (group + 1)) (omega arith))
