use Rattle.std.proofs.Common.{◌≡◌, ◌+◌, ◌<◌, ℕ, length, slice_index}
use Rattle.pdh_rows.specs.Stored.{sum_with}
use Rattle.pdh_rows.proofs.table.push_sums.Given as goal

abbrev pub invariant-loop-number : goal.invariant-loop-number
invariant-loop-number l = record {
  len : length l.before.items ≡ length l.fn.before.items + l.number-index;
  kept : (k : ℕ) → k < length l.fn.before.items → slice_index l.before.items k ≡ slice_index l.fn.before.items k;
  sums : (k : ℕ) → k < l.number-index → slice_index l.before.items (length l.fn.before.items + k)
      ≡ sum_with l.ratio l.fn.before.items l.repeat l.says l.numbers k;
}
