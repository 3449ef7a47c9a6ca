use Rattle.std.proofs.Common.{◌≡◌, length}
use Rattle.pdh_tests_of_events.proofs.events.frame_with.Given as goal

-- the frame has the slots so far, and there is room for them all
abbrev pub invariant-loop-slot : goal.invariant-loop-slot
invariant-loop-slot l = record { count : length l.frame.bits ≡ l.slot-counter; room : l.frame.capacity ≡ 848 }
