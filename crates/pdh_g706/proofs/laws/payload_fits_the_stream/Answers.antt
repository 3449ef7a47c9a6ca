use Rattle.pdh_g706.proofs.PayloadLaws.{payload_fits}
use Rattle.pdh_g706.proofs.laws.payload_fits_the_stream.Goals as goal

pub returns : goal.returns
returns c line = payload_fits line
