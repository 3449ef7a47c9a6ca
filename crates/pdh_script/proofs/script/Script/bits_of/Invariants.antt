use Rattle.std.proofs.Common.{◌≡◌, ◌+◌, drop}
use Rattle.pdh_script.proofs.Lengths.{steps_drop}
use Rattle.pdh_script.proofs.script.Script.bits_of.Given as goal

-- the bits that the steps so far leave out were counted
abbrev pub invariant-loop-step : goal.invariant-loop-step
invariant-loop-step l = l.dropped + steps_drop (drop l.step-index l.step-items) ≡ steps_drop l.step-items
