use Rattle.std.proofs.Common.{arith}
use Rattle.std.proofs.lemmas.Grind.{common_steps}
use Rattle.pdh_bits.proofs.BitsLemmas.{length-bytes_of}
use Rattle.pdh_claims_of_bits.proofs.bits.last_partial_byte_is_written.Goals as goal

pub returns : goal.returns
returns c = grind (arith, common_steps, length-bytes_of c.args.bits.now)
