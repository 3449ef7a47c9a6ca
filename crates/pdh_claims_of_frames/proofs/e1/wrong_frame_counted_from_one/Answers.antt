use Rattle.pdh_claims_of_frames.proofs.Results.{error_matched}
use Rattle.pdh_claims_of_frames.proofs.e1.wrong_frame_counted_from_one.Goals as goal

pub returns : goal.returns
returns c frame told = (error_matched c.unpack.result _ _ c.unpack.ensures _ told).1.wrong
