use Rattle.std.proofs.Common.{◌≡◌, ◌<◌, ℕ, Some, slice_get}
use Rattle.pdh_tx.specs.Meaning.{plan_in}
use Rattle.pdh_tx.specs.Calls.{GoesFree}
use Rattle.pdh_locked.proofs.children.Children.all_stay_free.Given as goal

-- nothing stands in the way of the children so far
abbrev pub invariant-loop-trib : goal.invariant-loop-trib
invariant-loop-trib g l = (j : ℕ) → j < l.trib → (child : _) → slice_get l.fn.self.list.items j ≡ Some child → GoesFree g.C.Tx.meaning g.C.Tx.stands_at child (plan_in l.fn.clock g.G.SlipLog.takes) l.fn.bits (g.F.Feed.inputs l.fn.feed)
