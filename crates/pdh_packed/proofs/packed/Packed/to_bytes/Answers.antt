use Rattle.std.proofs.Common.{arith}
use Rattle.std.proofs.lemmas.Grind.{common_steps}
use Rattle.pdh_bits.proofs.BitsLemmas.{length-bytes_of}
use Rattle.pdh_packed.proofs.packed.Packed.to_bytes.Goals as goal

pub returns : goal.returns
returns c = grind (arith, common_steps, length-bytes_of c.args.self.now.bits)
