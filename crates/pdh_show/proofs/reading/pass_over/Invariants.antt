use Rattle.std.proofs.Common.{◌≡◌, ◌≤◌, ◌-◌}
use Rattle.pdh_show.specs.Showing.{TakesSome}
use Rattle.pdh_show.proofs.reading.pass_over.Given as goal

-- the bits so far are taken
abbrev pub invariant-loop-passed : goal.invariant-loop-passed
invariant-loop-passed g l = record {
  within : l.passed ≤ l.bits;
  capacity : l.held.capacity ≡ l.fn.held.capacity;
  takes : TakesSome l.passed (g.F.Feed.inputs l.fn.feed) (g.F.Feed.inputs l.feed);
  unfailed : g.F.Feed.feed_faults l.feed ≡ g.F.Feed.feed_faults l.fn.feed;
  fed : g.F.Feed.fed l.fn.feed l.feed;
}

abbrev pub decreases-loop-passed : goal.decreases-loop-passed
decreases-loop-passed g l = l.bits - l.passed
