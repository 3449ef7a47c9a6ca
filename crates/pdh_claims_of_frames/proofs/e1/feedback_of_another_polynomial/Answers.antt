use Rattle.std.proofs.Common.{[], refl, ◌∙◌, ap}
use Rattle.pdh_bits.specs.Bits.{bits_of}
use Rattle.pdh_e1.specs.Crc4.{crc4}
use Rattle.pdh_claims_of_frames.proofs.e1.feedback_of_another_polynomial.Goals as goal

pub returns : goal.returns
returns c = c.crc4_after.ensures.word [] refl ∙ ap (λ octets. crc4 (bits_of octets)) c.requires
