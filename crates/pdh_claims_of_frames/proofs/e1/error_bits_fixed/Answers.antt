use Rattle.std.proofs.Common.{sym, ◌∙◌, ap}
use Rattle.pdh_e1.specs.Multiframe.{frame_right, octet_right, sent_word}
use Rattle.pdh_claims_of_frames.proofs.Results.{error_matched, differ}
use Rattle.pdh_claims_of_frames.proofs.e1.error_bits_fixed.Goals as goal

pub returns : goal.returns
unfolding frame_right octet_right
returns c told =
    let line = c.args.line.now in
    let wrong = (error_matched c.unpack.result _ _ c.unpack.ensures _ told).1.wrong in
    differ (sym (ap (λ octet. octet_right 13 (sent_word line 1) octet) c.requires) ∙ wrong)
