use Rattle.std.proofs.Common.{◌≡◌}
use Rattle.pdh_tests_of_alignment.proofs.align.a_ready_frame_is_exchanged_once.Given as goal

-- the list has room for a frame still
abbrev pub invariant-loop-frame : goal.invariant-loop-frame
invariant-loop-frame g l = l.list.capacity ≡ 848

abbrev pub invariant-loop-slot : goal.invariant-loop-slot
invariant-loop-slot g l = l.list.capacity ≡ 848
