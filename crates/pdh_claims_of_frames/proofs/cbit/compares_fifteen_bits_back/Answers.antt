use Rattle.std.proofs.Common.{[], ◌∷◌, ◌++◌, ◌∙◌}
use Rattle.pdh_claims_of_frames.proofs.cbit.compares_fifteen_bits_back.Goals as goal

pub returns : goal.returns
returns c bits code received fits ten anew =
    c.push.ensures.answer bits received ∙ (c.answered_codes.ensures (bits ++ c.args.bit ∷ []) code).1 (record { fits = fits; ten = ten; anew = anew })
