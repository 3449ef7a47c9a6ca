use Rattle.std.proofs.Common.{◌<◌, ℕ}
use Rattle.pdh_rx.specs.Node.{ChildIsDeaf}
use Rattle.pdh_rx.proofs.children.Children.are_deaf.Given as goal

-- each of the first children may be spared its bits
abbrev pub invariant-loop-trib : goal.invariant-loop-trib
invariant-loop-trib g l = (j : ℕ) → j < l.trib → ChildIsDeaf g.C.Rx.stands g.C.Rx.meaning l.self-inside.list.items (g.D.Drain.outputs l.drain) j
