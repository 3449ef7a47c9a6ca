use Rattle.std.proofs.Common.{◌≡◌, map}
use Rattle.std.specs.List.{range_with_len}
use Rattle.pdh_shape.specs.Payload.{payload_before}
use Rattle.pdh_runs.proofs.tables.payload.Given as goal

-- those of the slots so far
abbrev pub invariant-loop-slot : goal.invariant-loop-slot
invariant-loop-slot g l = record {
  payload : l.payload.items ≡ map (payload_before g.S.Shape.shape) (range_with_len 0 l.slot);
  before : l.before ≡ payload_before g.S.Shape.shape l.slot;
}
