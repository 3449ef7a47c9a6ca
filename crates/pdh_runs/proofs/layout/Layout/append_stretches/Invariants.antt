use Rattle.std.proofs.Common.{◌≡◌, ◌≤◌, ◌+◌, ◌-◌, ◌++◌}
use Rattle.pdh_packed.specs.Words.{bounded}
use Rattle.pdh_runs.specs.Pieces.{slot_bits}
use Rattle.pdh_runs.proofs.layout.Layout.append_stretches.Given as goal

-- the bits of the slots so far
abbrev pub invariant-loop-slot : goal.invariant-loop-slot
invariant-loop-slot g l = record {
  begun : l.first ≤ l.slot;
  within : l.slot ≤ l.first + l.len;
  bits : bounded l.into.capacity (l.into.bits ++ l.held) ≡ bounded l.initial.into.capacity (l.initial.into.bits ++ slot_bits g.S.Shape.shape l.first l.skipped l.payload.bits l.overhead.bits (l.slot - l.first));
}

abbrev pub decreases-loop-slot : goal.decreases-loop-slot
decreases-loop-slot g l = l.first + l.len - l.slot
