use Rattle.pdh_claims_of_frames.proofs.Results.{value_matched}
use Rattle.pdh_claims_of_frames.proofs.e1.not_whole_by_frames.Goals as goal

pub returns : goal.returns
returns c = value_matched c.pack.result _ _ _ (λ line packed. packed.carries) c.pack.ensures
