use Rattle.std.proofs.Common.{◌≡◌, take, vec_capacity}
use Rattle.pdh_phases.specs.Runs.{signal_bits}
use Rattle.pdh_phases.specs.Keeping.{wrong_words}
use Rattle.pdh_phases.proofs.signal.wrong_bits.Given as goal

-- there is one for each slot so far, and room for all
abbrev pub invariant-loop-slot : goal.invariant-loop-slot
invariant-loop-slot g l = (l.wrong.items ≡ wrong_words (take l.slot (signal_bits g.S.Shape.shape))) × (vec_capacity l.wrong ≡ g.S.Shape.SIGNAL)
