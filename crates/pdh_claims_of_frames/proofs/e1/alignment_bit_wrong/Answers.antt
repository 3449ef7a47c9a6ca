use Rattle.pdh_e1.specs.Multiframe.{FramePacked, packed_octet, sent_word}
use Rattle.pdh_claims_of_frames.proofs.Results.{value_matched}
use Rattle.pdh_claims_of_frames.proofs.e1.alignment_bit_wrong.Goals as goal

pub returns : goal.returns
unfolding FramePacked packed_octet sent_word
returns c = value_matched c.pack.result _ _ _ (λ line packed within. packed.idle 6 within) c.pack.ensures
