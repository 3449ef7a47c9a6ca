use Rattle.std.proofs.Common.{◌≡◌, ◌≤◌, ◌-◌}
use Rattle.pdh_edge.proofs.Taken.{Took}
use Rattle.pdh_edge.proofs.taking.take_bits.Given as goal

-- the bits so far are taken
abbrev pub invariant-loop-taken : goal.invariant-loop-taken
invariant-loop-taken g l = record {
  upto : l.taken ≤ l.count;
  took : Took l.leaf l.fn.into l.into l.taken (g.F.Feed.inputs l.fn.feed) (g.F.Feed.inputs l.feed);
  unfailed : g.F.Feed.feed_faults l.feed ≡ g.F.Feed.feed_faults l.fn.feed;
  fed : g.F.Feed.fed l.fn.feed l.feed;
}

abbrev pub decreases-loop-taken : goal.decreases-loop-taken
decreases-loop-taken g l = l.count - l.taken
