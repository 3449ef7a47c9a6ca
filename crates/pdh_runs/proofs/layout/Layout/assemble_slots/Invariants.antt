use Rattle.std.proofs.Common.{◌≡◌, ◌-◌, ◌%◌, ◌==◌, map}
use Rattle.pdh_packed.specs.Gaining.{gained, IsGrown}
use Rattle.pdh_shape.specs.Payload.{payload_ones}
use Rattle.pdh_runs.specs.Pieces.{Assembled}
use Rattle.pdh_runs.proofs.layout.Layout.assemble_slots.Given as goal

-- the bits of the slots so far, and their parity
abbrev pub invariant-loop-slot : goal.invariant-loop-slot
invariant-loop-slot g l = record {
  grown : IsGrown l.initial.into l.into (l.slot - l.first);
  assembled : Assembled g.S.Shape.shape l.first (l.slot - l.first) l.overhead.bits (map (λ c. c.bits) l.columns) (gained l.initial.into l.into);
  odd : l.odd ≡ (payload_ones g.S.Shape.shape l.first (gained l.initial.into l.into) % 2 == 1);
}
