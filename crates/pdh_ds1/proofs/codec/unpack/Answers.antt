use Rattle.std.proofs.Common.{◌≡◌, ◌/◌, List, Bool, length, ap, ◌∙◌, subst, arith}
use Rattle.pdh_bits.specs.Bits.{bits_of, bytes_of}
use Rattle.pdh_bits.specs.BitOut.{BoundedBits}
use Rattle.pdh_bits.proofs.BitsLemmas.{length-bits_of}
use Rattle.pdh_framed.specs.RightFrames.{AreRight, FirstWrong}
use Rattle.pdh_ds1.specs.Packing.{frame_right, line_payload}
use Rattle.pdh_ds1.specs.Codec.{f_bits_of, frames_of}
use Rattle.pdh_ds1.proofs.codec.unpack.Goals as goal

pub first_wrong_of-requires : goal.first_wrong_of-requires
first_wrong_of-requires c =
    let bits : c.in_ok-bits.bits.bits ≡ bits_of c.args.line.now = ap (λ (p : BoundedBits). p.bits) c.in_ok-bits.ensures in
    omega (arith, ap length bits, length-bits_of c.args.line.now, c.if-line-ne0.false)

pub returns-in-Some : goal.returns-in-Some
returns-in-Some c =
    let form = c.args.frame in
    let bits : c.in_ok-bits.bits.bits ≡ bits_of c.args.line.now = ap (λ (p : BoundedBits). p.bits) c.in_ok-bits.ensures in
    (c.if-line-ne0.false, subst (λ (b : List Bool). FirstWrong (frame_right (f_bits_of form) (frames_of form) b) (length b / 193) c.in-Some.wrong) bits c.in-Some.ensures)

pub returns : goal.returns
returns c =
    let form = c.args.frame in
    let bits : c.in_ok-bits.bits.bits ≡ bits_of c.args.line.now = ap (λ (p : BoundedBits). p.bits) c.in_ok-bits.ensures in
    record {
      framed = record {
        whole = c.if-line-ne0.false;
        right = subst (λ (b : List Bool). AreRight (frame_right (f_bits_of form) (frames_of form) b) (length b / 193)) bits c.in-None.ensures;
      };
      carried = c.in_ok-payload_of-in-None.ensures ∙ ap (λ (b : List Bool). bytes_of (line_payload b (length b / 193))) bits;
    }
