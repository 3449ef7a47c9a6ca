use Rattle.std.proofs.Common.{◌≡◌, ◌<◌, ℕ, Some, slice_get}
use Rattle.pdh_tx.specs.Meaning.{plan_in}
use Rattle.pdh_tx.specs.Quiet.{MeetsNothing}
use Rattle.pdh_tx.proofs.tributaries.Tributaries.meet_nothing.Given as goal

-- the bits meet nothing of the tributaries so far
abbrev pub invariant-loop-trib : goal.invariant-loop-trib
invariant-loop-trib g l = (j : ℕ) → j < l.trib → (w : _) → slice_get l.fn.self.list.items j ≡ Some w → MeetsNothing g.C.Tx g.S.Shape.shape w j (plan_in l.fn.clock g.G.SlipLog.takes) l.fn.next (g.F.Feed.inputs l.fn.feed)
