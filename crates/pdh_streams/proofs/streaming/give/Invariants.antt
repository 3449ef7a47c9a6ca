use Rattle.std.proofs.Common.{◌≡◌, ◌<◌, ◌≤◌, ◌-◌}
use Rattle.pdh_streams.specs.Streaming.{Streams}
use Rattle.pdh_streams.proofs.streaming.give.Given as goal

-- the bits so far were given
abbrev pub invariant-loop-given : goal.invariant-loop-given
invariant-loop-given g l = record {
  within : l.given ≤ l.bits;
  room : 0 < l.buffer.capacity;
  codec : g.M.Machine.codec l.machine ≡ g.M.Machine.codec l.fn.machine;
  same : g.M.Machine.far l.machine ≡ g.M.Machine.far l.fn.machine;
  kept : g.P.Port.kept l.fn.port l.port;
  unread : g.P.Feed.feed_faults l.port ≡ g.P.Feed.feed_faults l.fn.port;
  unwritten : g.P.Drain.drain_faults l.port ≡ g.P.Drain.drain_faults l.fn.port;
  streams : Streams (g.M.Machine.far l.fn.machine) (g.M.Machine.stands l.machine) l.given (g.P.Feed.inputs l.fn.port) (g.P.Feed.inputs l.port) (g.P.Drain.outputs l.fn.port) (g.P.Drain.outputs l.port);
}

abbrev pub decreases-loop-given : goal.decreases-loop-given
decreases-loop-given g l = l.bits - l.given
