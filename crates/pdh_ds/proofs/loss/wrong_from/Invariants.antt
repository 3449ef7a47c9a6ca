use Rattle.pdh_ds.proofs.LossLaws.{Counted}
use Rattle.pdh_ds.proofs.loss.wrong_from.Given as goal

-- the wrong slots so far are counted
abbrev pub invariant-loop-k : goal.invariant-loop-k
invariant-loop-k l = Counted l.rule l.before l.here l.first l.k l.wrong
