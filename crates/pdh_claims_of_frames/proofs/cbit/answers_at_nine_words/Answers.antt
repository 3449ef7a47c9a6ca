use Rattle.std.proofs.Common.{[], ◌∷◌, ◌++◌, sym, ◌∙◌}
use Rattle.pdh_cbit.specs.Feac.{ten_words}
use Rattle.pdh_claims_of_frames.proofs.cbit.answers_at_nine_words.Goals as goal

pub returns : goal.returns
unfolding ten_words
returns c bits code received told =
    ((c.answered_codes.ensures (bits ++ c.args.bit ∷ []) code).0 (sym (c.push.ensures.answer bits received) ∙ told)).ten
