use Rattle.std.proofs.Common.{◌≡◌, ◌<◌, drop}
use Rattle.pdh_ds1.specs.Crc6.{crc6}
use Rattle.pdh_ds1.specs.Packing.{with_ones}
use Rattle.pdh_ds1.proofs.words.word_of.Given as goal

-- the frames so far are counted in
abbrev pub invariant-loop-frame : goal.invariant-loop-frame
invariant-loop-frame l = record {
  word : l.word ≡ crc6 (with_ones (drop l.start l.line.bits) l.frame);
  six_bits : l.word < 64;
}
