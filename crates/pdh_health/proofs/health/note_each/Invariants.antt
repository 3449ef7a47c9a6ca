use Rattle.std.proofs.Common.{◌≡◌, length}
use Rattle.pdh_health.proofs.Noting.{NotedFirst}
use Rattle.pdh_health.proofs.health.note_each.Given as goal

-- the first nodes were shown the event
abbrev pub invariant-loop-index : goal.invariant-loop-index
invariant-loop-index l = record {
  noted : NotedFirst l.index l.fn.nodes.items l.placed l.nodes.items;
  count : length l.nodes.items ≡ length l.fn.nodes.items;
}
