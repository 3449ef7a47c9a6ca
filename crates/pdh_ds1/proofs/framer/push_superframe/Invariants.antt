use Rattle.std.proofs.Common.{◌≡◌, ◌<◌, ◌++◌}
use Rattle.pdh_bits.specs.Bits.{bits_of}
use Rattle.pdh_ds1.specs.Crc6.{crc6}
use Rattle.pdh_ds1.specs.Packing.{with_ones, superframe_of}
use Rattle.pdh_ds1.proofs.framer.push_superframe.Given as goal

-- its frames so far are appended
abbrev pub invariant-loop-place : goal.invariant-loop-place
invariant-loop-place g l = record {
  line : l.line ≡ record l.initial.line { bits = l.initial.line.bits ++ superframe_of g.P.InSuperframe.f_bits l.sent (bits_of l.payload) l.place };
  word : l.word ≡ crc6 (with_ones (superframe_of g.P.InSuperframe.f_bits l.sent (bits_of l.payload) l.place) l.place);
  six_bits : l.word < 64;
}
