use Rattle.std.proofs.Common.{◌≡◌, ℕ, ◌<◌, arith}
use Rattle.pdh_bits.specs.Bits.{bits_of}
use Rattle.pdh_ds1.specs.declared.form.Frame1.TheVariants.{Extended}
use Rattle.pdh_ds1.specs.Packing.{f_bit_of, packed_f_bit, FramePacked}
use Rattle.pdh_ds1.specs.Plans.{esf_f_bits}
use Rattle.pdh_claims_of_streams.proofs.Lines.{where_packed, frame_made}
use Rattle.pdh_claims_of_streams.proofs.ds1.sf_framing_in_the_extended_form.Goals as goal

pub returns : goal.returns
unfolding FramePacked
returns c = where_packed c.pack.result _ _ _ _ (λ v packed is.
    let at : (k : ℕ) → k < 24 → f_bit_of (bits_of v.items) k ≡ packed_f_bit esf_f_bits 24 (bits_of v.items) k =
    λ k below. frame_made Extended c.args.payload.now v.items k (omega (arith, c.requires)) (omega (arith, below, c.requires)) packed is in
    (at 3 (omega arith), at 7 (omega arith), at 11 (omega arith), at 15 (omega arith), at 19 (omega arith), at 23 (omega arith))) c.pack.ensures.packed c.pack.ensures.line
