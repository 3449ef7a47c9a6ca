use Rattle.std.proofs.Common.{◌<◌, ℕ, sym, subst}
use Rattle.pdh_ds1.proofs.CrcLaws.{crc6_octet, by_octet_lt, reduced_twice}
use Rattle.pdh_ds1.proofs.crc.with_octet.Goals as goal

pub returns-clause-word : goal.returns-clause-word
returns-clause-word c = λ bits holds. let e = crc6_octet bits c.args.octet c.ranges.octet.fits in cc

pub returns-clause-six_bits : goal.returns-clause-six_bits
returns-clause-six_bits c = subst (λ (n : ℕ). reduced_twice n < 64) (sym c.from-bits.ensures) (by_octet_lt c.args.register c.args.octet c.requires c.ranges.octet.fits)
