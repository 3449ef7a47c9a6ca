use Rattle.std.proofs.Common.{◌≡◌, ◌-◌, ◌*◌, ◌/◌, ◌≤◌, length}
use Rattle.pdh_bits.specs.Bits.{bits_of}
use Rattle.pdh_ds1.specs.Packing.{sent_word, packed_frames}
use Rattle.pdh_ds1.proofs.codec.pack_by.Given as goal

-- the superframes so far are packed
abbrev pub invariant-loop-first : goal.invariant-loop-first
invariant-loop-first g l = record {
  packed : l.line.bits ≡ packed_frames g.P.InSuperframe.f_bits g.P.InSuperframe.PLAN.frames (bits_of l.payload) l.first;
  long : length l.line.bits ≡ 193 * l.first;
  whole : g.P.InSuperframe.PLAN.frames * (l.first / g.P.InSuperframe.PLAN.frames) ≡ l.first;
  sends : l.sent ≡ sent_word g.P.InSuperframe.PLAN.frames l.line.bits (l.first / g.P.InSuperframe.PLAN.frames);
  within : l.first ≤ l.count;
  room : l.line.capacity ≡ l.capacity;
  count : l.count ≡ length l.payload / 24;
  frames : l.frames ≡ g.P.InSuperframe.PLAN.frames;
}

abbrev pub decreases-loop-first : goal.decreases-loop-first
decreases-loop-first g l = l.count - l.first
