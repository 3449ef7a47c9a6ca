use Rattle.std.proofs.Common.{◌≡◌, ◌<◌, ◌≤◌, ◌+◌, ℕ, length, get_or}
use Rattle.pdh_runs.specs.Tables.{EndsStretch}
use Rattle.pdh_runs.proofs.tables.ends.Given as goal

-- those of so many of the last slots
abbrev pub invariant-loop-done : goal.invariant-loop-done
invariant-loop-done g l = record {
  count : length l.ends.items ≡ l.len;
  each : (t : ℕ) → l.len ≤ t + l.done → t < l.len → EndsStretch g.S.Shape.shape t (get_or l.ends.items t 0);
}
