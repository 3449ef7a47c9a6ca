use Rattle.std.proofs.Common.{◌≡◌, filter, map, take}
use Rattle.pdh_shape.specs.declared.role.Duty.TheVariants.{Alarm}
use Rattle.pdh_events.specs.Keeping.{alarm_slot}
use Rattle.pdh_events.proofs.DutyLaws.{has_slot}
use Rattle.pdh_events.proofs.alarm.alarm_slots_of.Given as goal

-- those of the slots so far
abbrev pub invariant-loop-slot : goal.invariant-loop-slot
invariant-loop-slot g l = l.slots.items ≡ map (alarm_slot g.S.Shape.shape) (filter (has_slot g.S.Shape.shape Alarm) (take l.slot-index l.overhead))
