use Rattle.std.proofs.Common.{◌≡◌, false, take, slice_index_or}
use Rattle.std.specs.Prelude.{count_by}
use Rattle.pdh_runs.proofs.receiving.count_ones.Given as goal

-- those of the slots so far
abbrev pub invariant-loop-slot : goal.invariant-loop-slot
invariant-loop-slot l = l.ones ≡ count_by (λ slot. slice_index_or l.frame.bits slot false) (take l.slot-index l.slots)
