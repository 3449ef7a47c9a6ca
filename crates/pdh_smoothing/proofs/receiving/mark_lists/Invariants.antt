use Rattle.std.proofs.Common.{◌≡◌, ◌<◌, ◌≤◌, ℕ, [], replicate}
use Rattle.pdh_edge.specs.MemLists.{outputs_of, room_of}
use Rattle.pdh_smoothing.specs.Again.{lists_in}
use Rattle.pdh_smoothing.proofs.receiving.mark_lists.Given as goal

-- the first lists have room
abbrev pub invariant-loop-trib : goal.invariant-loop-trib
invariant-loop-trib g l = record {
  lists : lists_in l.port ≡ outputs_of (replicate g.S.Shape.TRIBS []);
  unfailed : l.port.faults ≡ 0;
  room : (j : ℕ) → j < l.trib → l.most ≤ room_of l.port j;
}
