use Rattle.std.proofs.Common.{◌≡◌, ◌+◌, ◌*◌}
use Rattle.pdh_e1.specs.Multiframe.{sent_word}
use Rattle.pdh_e1.specs.Codec.{IsPackedUpTo}
use Rattle.pdh_e1.proofs.codec.push_sub_multiframe.Given as goal

abbrev pub invariant-loop-place : goal.invariant-loop-place
invariant-loop-place l = record {
  packed : IsPackedUpTo l.payload l.line.items (8 * l.number + l.place);
  sends : l.word ≡ sent_word l.line.items l.number;
}
