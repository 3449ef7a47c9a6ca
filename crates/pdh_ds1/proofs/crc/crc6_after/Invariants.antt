use Rattle.std.proofs.Common.{◌≡◌, ◌<◌, Bool, List, ◌++◌, take}
use Rattle.pdh_bits.specs.Bits.{bits_of}
use Rattle.pdh_ds1.specs.Crc6.{crc6}
use Rattle.pdh_ds1.proofs.crc.crc6_after.Given as goal

-- the octets so far are counted in
abbrev pub invariant-loop-octet : goal.invariant-loop-octet
invariant-loop-octet l = record {
  word : (bits : List Bool) → l.word ≡ crc6 bits → l.register ≡ crc6 (bits ++ bits_of (take l.octet-index l.octets));
  few : l.register < 64;
}
