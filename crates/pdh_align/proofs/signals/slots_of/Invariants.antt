use Rattle.pdh_align.proofs.SignalLaws.{SoFar}
use Rattle.pdh_align.proofs.signals.slots_of.Given as goal

-- the list stands for the slots so far
abbrev pub invariant-loop-slot : goal.invariant-loop-slot
invariant-loop-slot g l = SoFar g.S.Shape.shape l.slot l.slots.items
