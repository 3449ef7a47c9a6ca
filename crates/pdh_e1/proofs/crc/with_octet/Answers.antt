use Rattle.std.proofs.Common.{◌<◌, ◌%◌, arith}
use Rattle.std.proofs.lemmas.Nat.{xor_lt}
use Rattle.pdh_e1.proofs.CrcLaws.{crc4_octet, halves_lt, four_bits_lt}
use Rattle.pdh_e1.proofs.crc.with_octet.Goals as goal

pub bounds-from : goal.bounds-from
bounds-from c = omega (arith, halves_lt c.args.register c.args.octet c.requires c.ranges.octet.fits)

pub bounds-from-2 : goal.bounds-from-2
bounds-from-2 c =
    let first : c.from.result < 16 = omega (arith, halves_lt c.args.register c.args.octet c.requires c.ranges.octet.fits) in
    omega (arith, c.from-2.ensures, xor_lt 4 _ (c.args.octet % 16) (four_bits_lt c.from.result first) (omega arith))

pub returns-clause-word : goal.returns-clause-word
returns-clause-word c = λ bits holds. let e = crc4_octet bits c.args.octet c.ranges.octet.fits in cc

pub returns-clause-four_bits : goal.returns-clause-four_bits
returns-clause-four_bits c =
    let first : c.from.result < 16 = omega (arith, halves_lt c.args.register c.args.octet c.requires c.ranges.octet.fits) in
    let second : c.from-2.result < 16 = omega (arith, c.from-2.ensures, xor_lt 4 _ (c.args.octet % 16) (four_bits_lt c.from.result first) (omega arith)) in
    four_bits_lt c.from-2.result second
