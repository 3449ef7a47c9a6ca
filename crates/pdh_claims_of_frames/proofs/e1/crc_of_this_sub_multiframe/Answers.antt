use Rattle.std.proofs.Common.{sym, ◌∙◌, ap}
use Rattle.pdh_e1.specs.Multiframe.{frame_right, octet_right, sent_word}
use Rattle.pdh_claims_of_frames.proofs.Results.{no_value, differ}
use Rattle.pdh_claims_of_frames.proofs.e1.crc_of_this_sub_multiframe.Goals as goal

pub returns : goal.returns
unfolding frame_right octet_right sent_word
returns c =
    no_value c.unpack.result _ _
    (λ payload unpacked. differ (sym (unpacked.framed.right 0 c.requires.some) ∙ ap (λ octet. octet_right 0 0 octet) c.requires.first))
    c.unpack.ensures
