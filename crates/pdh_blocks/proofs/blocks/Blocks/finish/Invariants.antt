use Rattle.std.proofs.Common.{◌≡◌, ℕ, ◌<◌, Ok}
use Rattle.pdh_edge.specs.declared.shelf.Failed.{Failed}
use Rattle.pdh_blocks.specs.State.{over}
use Rattle.pdh_blocks.specs.Held.{WaitsAtMost, AreWritten}
use Rattle.pdh_blocks.specs.Done.{AppendsWaiting}
use Rattle.pdh_blocks.proofs.blocks.Blocks.finish.Given as goal

-- what waited for the outputs so far was appended
abbrev pub invariant-loop-leaf : goal.invariant-loop-leaf
invariant-loop-leaf g l = record {
  done : AppendsWaiting {T = Unit {0}} {E = Failed} (over (g.S.Shelf.state l.fn.shelf) l.fn.self) (over (g.S.Shelf.state l.shelf) l.self) (Ok tt);
  none : AreWritten (over (g.S.Shelf.state l.fn.shelf) l.fn.self) → over (g.S.Shelf.state l.shelf) l.self ≡ over (g.S.Shelf.state l.fn.shelf) l.fn.self;
  before : (j : ℕ) → j < l.leaf → WaitsAtMost 7 j (over (g.S.Shelf.state l.shelf) l.self);
}
