use Rattle.std.proofs.Common.{◌≡◌, ◌<◌, ◌≤◌, ◌-◌}
use Rattle.pdh_g706.specs.View.{StandsFor}
use Rattle.pdh_g706.specs.Events.{e1_events}
use Rattle.pdh_inspect.specs.Seen.{SeesAll}
use Rattle.pdh_inspect.proofs.framed.push_line.Given as goal

-- the bits so far were taken of the feed, and their events seen
abbrev pub invariant-loop-pushed : goal.invariant-loop-pushed
invariant-loop-pushed g l = record {
  within : l.pushed ≤ l.bits;
  room : 0 < l.buffer.capacity;
  unfailed : g.F.Feed.feed_faults l.port.feed ≡ g.F.Feed.feed_faults l.fn.port.feed;
  fed : g.F.Feed.fed l.fn.port.feed l.port.feed;
  sees : SeesAll (λ given. StandsFor l.align given × g.W.Watch.saw l.fn.watch (e1_events given) l.watch) l.pushed (g.F.Feed.inputs l.fn.port.feed) (g.F.Feed.inputs l.port.feed);
}

abbrev pub decreases-loop-pushed : goal.decreases-loop-pushed
decreases-loop-pushed g l = l.bits - l.pushed
