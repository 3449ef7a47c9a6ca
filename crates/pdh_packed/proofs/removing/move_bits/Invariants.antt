use Rattle.std.proofs.Common.{◌≡◌, ℕ, ◌+◌, ◌*◌, ◌/◌, ◌%◌, ◌^◌, ◌<◌, ◌≤◌, slice_index}
use Rattle.pdh_packed.proofs.removing.move_bits.Given as goal

-- the words so far
abbrev pub invariant-loop-index : goal.invariant-loop-index
invariant-loop-index l = record {
  before : (k : ℕ) → k < l.from → slice_index l.words k ≡ slice_index l.initial.words k;
  moved : (k : ℕ) → l.from ≤ k → k < l.index → slice_index l.words k ≡ (slice_index l.initial.words k * 2 ^ 1 % 2 ^ 64 + slice_index l.initial.words (k + 1) / 2 ^ 63) % 2 ^ 64;
  kept : (k : ℕ) → l.index ≤ k → slice_index l.words k ≡ slice_index l.initial.words k;
}
