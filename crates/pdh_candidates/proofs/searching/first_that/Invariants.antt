use Rattle.std.proofs.Common.{◌≡◌, drop, find}
use Rattle.pdh_candidates.proofs.searching.first_that.Given as goal

-- the first that meets the test is among those that are left
abbrev pub invariant-loop-candidate : goal.invariant-loop-candidate
invariant-loop-candidate g l = find (g.T.Trial.met l.trial) (drop l.candidate-index l.candidates) ≡ find (g.T.Trial.met l.trial) l.candidates
