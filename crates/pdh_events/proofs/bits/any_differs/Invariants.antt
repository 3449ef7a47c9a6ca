use Rattle.std.proofs.Common.{◌≡◌, not, take}
use Rattle.std.specs.Bool.{beq}
use Rattle.std.specs.List.{list_any}
use Rattle.pdh_events.specs.Keeping.{bits_at}
use Rattle.pdh_events.proofs.bits.any_differs.Given as goal

-- one of the slots so far
abbrev pub invariant-loop-slot : goal.invariant-loop-slot
invariant-loop-slot l = l.differs ≡ list_any (λ at. not (beq at l.bit)) (bits_at (take l.slot-index l.slots) l.frame.bits)
