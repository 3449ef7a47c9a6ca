use Rattle.std.proofs.Common.{◌≡◌, ◌≤◌, ◌-◌, ◌++◌, Bool, List, length, take}
use Rattle.pdh_placed.specs.Places.{placed_events}
use Rattle.pdh_placed.proofs.recorded.Recorded.take.Given as goal

-- so many bits were taken, and their events seen
abbrev pub invariant-loop-done : goal.invariant-loop-done
invariant-loop-done g l = record {
  within : l.done ≤ length l.bits.bits;
  stands : (line : List Bool) → g.Self.Recorded.stands l.fn.self line → g.Self.Recorded.stands l.self (line ++ take l.done l.bits.bits);
  seen : (line : List Bool) → g.Self.Recorded.stands l.fn.self line
      → g.W.PlacedWatch.saw l.fn.watch.watch (placed_events (g.Self.Recorded.meaning l.fn.self).notes line l.fn.watch.place (take l.done l.bits.bits)) l.watch.watch;
  same : g.Self.Recorded.meaning l.self ≡ g.Self.Recorded.meaning l.fn.self;
}

abbrev pub decreases-loop-done : goal.decreases-loop-done
decreases-loop-done g l = length l.bits.bits - l.done
