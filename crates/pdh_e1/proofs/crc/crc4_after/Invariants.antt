use Rattle.std.proofs.Common.{◌≡◌, ◌<◌, Bool, List, ◌++◌, take}
use Rattle.pdh_bits.specs.Bits.{bits_of}
use Rattle.pdh_e1.specs.Crc4.{crc4}
use Rattle.pdh_e1.proofs.crc.crc4_after.Given as goal

-- the octets so far are counted in
abbrev pub invariant-loop-octet : goal.invariant-loop-octet
invariant-loop-octet l = record {
  word : (bits : List Bool) → l.word ≡ crc4 bits → l.register ≡ crc4 (bits ++ bits_of (take l.octet-index l.octets));
  few : l.register < 16;
}
