use Rattle.std.proofs.Common.{[], ◌∷◌, ◌++◌, sym, ◌∙◌}
use Rattle.pdh_claims_of_frames.proofs.cbit.answers_again_at_the_eleventh_word.Goals as goal

pub returns : goal.returns
returns c bits code received eleven told =
    ((c.answered_codes.ensures (bits ++ c.args.bit ∷ []) code).0 (sym (c.push.ensures.answer bits received) ∙ told)).anew eleven
