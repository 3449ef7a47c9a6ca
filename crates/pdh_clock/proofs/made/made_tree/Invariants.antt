use Rattle.std.proofs.Common.{◌≡◌, length}
use Rattle.pdh_clock.specs.Making.{AreMade}
use Rattle.pdh_clock.specs.Stored.{IsTree}
use Rattle.pdh_clock.proofs.made.made_tree.Given as goal

abbrev pub invariant-loop-place : goal.invariant-loop-place
invariant-loop-place l = record {
  tree_is : IsTree l.tree;
  levels_are : l.tree.levels.items ≡ l.levels;
  nodes_are : length l.tree.nodes.items ≡ l.place-end;
  made : AreMade l.tree l.bias l.frames l.place;
}
