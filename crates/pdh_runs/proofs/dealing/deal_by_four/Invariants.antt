use Rattle.std.proofs.Common.{◌≡◌, ◌≤◌, ◌⊎◌, ◌-◌, ◌%◌}
use Rattle.pdh_interleaving.specs.Interleaving.{dealt}
use Rattle.pdh_runs.specs.Columns.{payload_bits}
use Rattle.pdh_runs.proofs.dealing.deal_by_four.Given as goal

-- whole words so far
abbrev pub invariant-loop-done : goal.invariant-loop-done
invariant-loop-done g l = record {
  within : l.done ≤ l.each;
  whole : (l.done % 64 ≡ 0) ⊎ (l.done ≡ l.each);
  dealt : l.tributaries ≡ dealt l.done (payload_bits g.S.Shape.shape l.frame.bits) l.initial.tributaries;
}

abbrev pub decreases-loop-done : goal.decreases-loop-done
decreases-loop-done g l = l.each - l.done
