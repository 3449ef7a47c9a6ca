use Rattle.std.proofs.Common.{◌≡◌, ◌++◌}
use Rattle.pdh_phases.proofs.Searching.{right_so_far}
use Rattle.pdh_phases.proofs.signal.signals.Given as goal

-- the slots so far are right there
abbrev pub invariant-loop-slot : goal.invariant-loop-slot
invariant-loop-slot g l = l.stands ≡ right_so_far g.S.Shape.shape (l.last ++ l.next) l.slot
