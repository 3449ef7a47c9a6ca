use Rattle.pdh_events.specs.Acts.{rounds_acts}
use Rattle.pdh_rx.specs.Node.{ActedWhole}
use Rattle.pdh_rx.proofs.rounds.push_rounds.Given as goal

-- so many rounds were given
abbrev pub invariant-loop-round : goal.invariant-loop-round
invariant-loop-round g l = ActedWhole g.C.Rx g.D.Drain g.W.Watch (rounds_acts g.S.Shape.shape l._round) l.fn.children l.children l.fn.drain l.drain l.fn.watch l.watch
