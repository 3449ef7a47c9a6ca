use Rattle.std.proofs.Common.{true, [], ◌∷◌}
use Rattle.std.specs.Prelude.{flat_map}
use Rattle.std.specs.List.{range_with_len}
use Rattle.pdh_events.specs.Acts.Act.{Give}
use Rattle.pdh_rx.specs.Node.{ActedWhole}
use Rattle.pdh_rx.proofs.rounds.push_round.Given as goal

-- the first tributaries were given a one
abbrev pub invariant-loop-trib : goal.invariant-loop-trib
invariant-loop-trib g l = ActedWhole g.C.Rx g.D.Drain g.W.Watch (flat_map (λ j. Give j true ∷ []) (range_with_len 0 l.trib)) l.fn.children l.children l.fn.drain l.drain l.fn.watch l.watch
