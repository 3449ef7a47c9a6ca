use Rattle.std.proofs.Common.{◌≡◌, filter, take}
use Rattle.pdh_events.proofs.DutyLaws.{has_slot}
use Rattle.pdh_events.proofs.duties.slots_of.Given as goal

-- those of the slots so far
abbrev pub invariant-loop-slot : goal.invariant-loop-slot
invariant-loop-slot g l = l.slots.items ≡ filter (has_slot g.S.Shape.shape l.fn.duty) (take l.slot-index l.overhead)
