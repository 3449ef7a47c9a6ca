use Rattle.pdh_ds1.proofs.PackingLaws.{given_back}
use Rattle.pdh_ds1.proofs.codec.packed_is_given_back.Goals as goal

pub returns : goal.returns
returns c = given_back
