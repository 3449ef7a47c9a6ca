use Rattle.std.proofs.Common.{◌≡◌, ◌≤◌, ◌-◌, List}
use Rattle.pdh_timeline.specs.Marks.{Mark}
use Rattle.pdh_timeline.specs.Standing.{StandsFor}
use Rattle.pdh_timeline.proofs.timeline.Timeline.reach.Given as goal

-- the seconds so far are over
abbrev pub invariant-loop-self : goal.invariant-loop-self
invariant-loop-self l = record {
  stands : (marks : List Mark) → StandsFor l.fn.self marks → StandsFor l.self marks;
  within : l.fn.self.second ≤ l.second → l.self.second ≤ l.second;
  rate : l.self.rate ≡ l.fn.self.rate;
  block : l.self.block ≡ l.fn.self.block;
}

abbrev pub decreases-loop-self : goal.decreases-loop-self
decreases-loop-self l = l.second - l.self.second
