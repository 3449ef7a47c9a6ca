use Rattle.std.proofs.Common.{◌≡◌, [], ◌∷◌, map, length}
use Rattle.pdh_watch.proofs.Showing.{SawFirst}
use Rattle.pdh_watch.proofs.members.show_each.Given as goal

-- the first monitors saw the event
abbrev pub invariant-loop-i : goal.invariant-loop-i
invariant-loop-i g l = record {
  saw : SawFirst l.i (map g.M.Monitor.state l.fn.list.items) (l.event ∷ []) (map g.M.Monitor.state l.list.items);
  count : length l.list.items ≡ length l.fn.list.items;
}
