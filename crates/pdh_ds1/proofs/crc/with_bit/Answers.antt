use Rattle.std.proofs.Common.{true, false, arith}
use Rattle.std.proofs.lemmas.Nat.{xor_lt}
use Rattle.std.proofs.Common.{◌*◌, ◌%◌}
use Rattle.pdh_ds1.proofs.CrcLaws.{crc6_bit}
use Rattle.pdh_ds1.proofs.crc.with_bit.Goals as goal

pub returns-then-register-bit-clause-word : goal.returns-then-register-bit-clause-word
returns-then-register-bit-clause-word c = λ bits holds. crc6_bit c.args.register c.args.bit true bits holds c.if-register-bit.true

pub returns-then-register-bit-clause-six_bits : goal.returns-then-register-bit-clause-six_bits
returns-then-register-bit-clause-six_bits c = xor_lt 6 (2 * (c.args.register % 32)) 3 (omega arith) (omega arith)

pub returns-else-register-bit-clause-word : goal.returns-else-register-bit-clause-word
returns-else-register-bit-clause-word c = λ bits holds. crc6_bit c.args.register c.args.bit false bits holds c.if-register-bit.false
