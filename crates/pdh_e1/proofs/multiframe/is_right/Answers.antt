use Rattle.std.proofs.Common.{ℕ, eqb, ap, ◌∙◌}
use Rattle.std.specs.Prelude.{slice_index}
use Rattle.std.specs.Int.RustNames.{bit_xor, bit_and}
use Rattle.pdh_e1.proofs.OctetLaws.{mask_is, fixed_bits}
use Rattle.pdh_e1.proofs.multiframe.is_right.Goals as goal

pub returns : goal.returns
returns c =
    let frame = c.args.frame in
    ap (λ (n : ℕ). eqb (bit_and (bit_xor c.args.octet n) (slice_index fixed_bits frame)) 0) c.first_octet.ensures
    ∙ mask_is frame c.args.word c.args.octet c.requires.in_multiframe c.requires.four_bits c.ranges.octet.fits
