use Rattle.std.proofs.Common.{◌∙◌, ap}
use Rattle.pdh_cbit.specs.Feac.{feac_bit, word_of}
use Rattle.pdh_claims_of_frames.proofs.cbit.least_significant_bit_first.Goals as goal

pub returns : goal.returns
unfolding feac_bit word_of
returns c = c.next.ensures.bit 9 c.requires.sent ∙ ap (λ code. feac_bit code 9) c.requires.code
