use Rattle.std.proofs.Common.{◌≡◌, ◌*◌, ◌<◌, take, drop}
use Rattle.pdh_e1.specs.Crc4.{crc4, cleared}
use Rattle.pdh_g706.proofs.held.word_of.Given as goal

-- so many times 64 bits are counted in
abbrev pub invariant-loop-index : goal.invariant-loop-index
invariant-loop-index l = record {
  word : l.word ≡ crc4 (take (64 * l.index) (cleared (take 2048 (drop l.start l.held.bits))));
  few : l.word < 16;
}
