use Rattle.pdh_cbit.specs.Feac.{feac_bit, word_of}
use Rattle.pdh_claims_of_frames.proofs.cbit.word_of_fifteen_bits.Goals as goal

pub returns : goal.returns
unfolding feac_bit word_of
returns c = c.next-2.ensures.bit 15 (c.next.ensures.sent 14 c.requires)
