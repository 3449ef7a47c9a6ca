use Rattle.std.proofs.Common.{◌≡◌, take, map, All}
use Rattle.pdh_levels.specs.Levels.{nodes_in}
use Rattle.pdh_clock.specs.Stored.{node_path}
use Rattle.pdh_clock.proofs.Trees.{IsEmptyNode}
use Rattle.pdh_clock.proofs.tree.Tree.new.Given as goal

abbrev pub invariant-loop-place : goal.invariant-loop-place
invariant-loop-place l = record {
  paths : map node_path l.nodes.items ≡ take l.place (nodes_in l.levels);
  each : All (IsEmptyNode l.levels) l.nodes.items;
}
