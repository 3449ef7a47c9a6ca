use Rattle.std.proofs.Common.{◌<◌, ℕ}
use Rattle.pdh_rx.specs.Node.{ChildFits}
use Rattle.pdh_rx.proofs.children.Children.have_room.Given as goal

-- there is room for so many bits of each of the first tributaries
abbrev pub invariant-loop-trib : goal.invariant-loop-trib
invariant-loop-trib g l = (j : ℕ) → j < l.trib → ChildFits g.C.Rx.fits l.self-inside.list.items j (g.D.Drain.room l.drain) l.bits
