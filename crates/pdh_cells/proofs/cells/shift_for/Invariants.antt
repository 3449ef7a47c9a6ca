use Rattle.std.proofs.Common.{ℕ, suc, ◌-◌, ◌*◌, ◌^◌, ◌≤◌}
use Rattle.pdh_cells.proofs.cells.shift_for.Given as goal

-- no smaller one is enough
abbrev pub invariant-loop-shift : goal.invariant-loop-shift
invariant-loop-shift l = record {
  least : (other : ℕ) → suc l.last ≤ 4096 * 2 ^ other → l.shift ≤ other;
  small : l.shift ≤ 52;
}

abbrev pub decreases-loop-shift : goal.decreases-loop-shift
decreases-loop-shift l = 52 - l.shift
