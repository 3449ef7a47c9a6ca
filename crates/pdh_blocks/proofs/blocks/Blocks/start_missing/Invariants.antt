use Rattle.std.proofs.Common.{◌-◌, length, Ok}
use Rattle.pdh_edge.specs.declared.shelf.Failed.{Failed}
use Rattle.pdh_blocks.specs.State.{over}
use Rattle.pdh_blocks.specs.Done.{StartsAtMost}
use Rattle.pdh_blocks.proofs.blocks.Blocks.start_missing.Given as goal

-- outputs were started at most
abbrev pub invariant-loop-self : goal.invariant-loop-self
invariant-loop-self g l = StartsAtMost {T = Unit {0}} {E = Failed} (over (g.S.Shelf.state l.fn.shelf) l.fn.self) (over (g.S.Shelf.state l.shelf) l.self) (Ok tt)

abbrev pub decreases-loop-self : goal.decreases-loop-self
decreases-loop-self g l = length l.self.outputs.items - l.self.started
