use Rattle.std.proofs.Common.{◌≡◌}
use Rattle.pdh_phases.specs.Runs.{bits_before}
use Rattle.pdh_phases.proofs.signal.signal_word.Given as goal

-- the bits are those of the slots so far
abbrev pub invariant-loop-slot : goal.invariant-loop-slot
invariant-loop-slot g l = l.bits ≡ bits_before g.S.Shape.shape l.slot
