use Rattle.std.proofs.Common.{◌-◌, ◌≤◌, length, take, Ok}
use Rattle.pdh_edge.specs.declared.shelf.Failed.{Failed}
use Rattle.pdh_edge.specs.Ports.{for_leaf}
use Rattle.pdh_blocks.specs.State.{over}
use Rattle.pdh_blocks.specs.Done.{PutsBits}
use Rattle.pdh_blocks.proofs.blocks.Blocks.put_parts.Given as goal

-- the bits so far were put
abbrev pub invariant-loop-place : goal.invariant-loop-place
invariant-loop-place g l = record {
  within : l.place ≤ length l.bits.bits;
  puts : PutsBits {T = Unit {0}} {E = Failed} (for_leaf l.leaf (take l.place l.bits.bits)) (over (g.S.Shelf.state l.fn.shelf) l.fn.self) (over (g.S.Shelf.state l.shelf) l.self) (Ok tt);
}

abbrev pub decreases-loop-place : goal.decreases-loop-place
decreases-loop-place g l = length l.bits.bits - l.place
