use Rattle.std.proofs.Common.{◌≡◌, take}
use Rattle.std.specs.List.{flat_map}
use Rattle.pdh_clock.proofs.WrittenNodes.{node_text}
use Rattle.pdh_clock.proofs.writing.write_rows.Given as goal

abbrev pub invariant-loop-node : goal.invariant-loop-node
invariant-loop-node l = l.text.items ≡ flat_map node_text (take l.node-index l.tree.nodes.items)
