use Rattle.std.proofs.Common.{◌≡◌, ℕ, ◌*◌, ◌/◌, ◌%◌, Bool, false, List, [], ◌++◌, length, map, get_or, ap, ◌∙◌, arith}
use Rattle.std.proofs.lemmas.List.{length-map}
use Rattle.pdh_bits.specs.BitOut.{BoundedBits}
use Rattle.pdh_interleaving.specs.Interleaving.{interleaved}
use Rattle.pdh_interleaving.proofs.TurnLaws.{get_or-interleaved}
use Rattle.pdh_claims_of_bits.proofs.interleaving.first_bits_take_their_turn_again.Goals as goal

pub returns : goal.returns
returns c s within =
    let lists : List (List Bool) = map (λ (t : BoundedBits). t.bits) c.args.tributaries.now in
    let many : length lists ≡ length c.args.tributaries.now = length-map c.args.tributaries.now (λ (t : BoundedBits). t.bits) in
    let times = ap (λ (t : ℕ). c.args.each * t) many in
    ap (λ (line : BoundedBits). get_or line.bits s false) c.interleave.ensures
    ∙ ap (λ (bits : List Bool). get_or (bits ++ interleaved lists c.args.each) s false) c.requires.empty
    ∙ get_or-interleaved lists c.args.each s false (omega (arith, within, times))
    ∙ ap (λ (t : ℕ). get_or (get_or lists (s % t) []) (s / t) false) many
