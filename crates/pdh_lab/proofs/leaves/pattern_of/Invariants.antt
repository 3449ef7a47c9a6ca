use Rattle.std.proofs.Common.{◌≡◌, ◌≤◌, ◌-◌}
use Rattle.pdh_patterns.specs.Pattern.{pattern, HasGiven}
use Rattle.pdh_lab.proofs.leaves.pattern_of.Given as goal

abbrev pub invariant-loop-made : goal.invariant-loop-made
invariant-loop-made l = record {
  within : l.made ≤ l.bits;
  room : l.list.capacity ≡ l.bits;
  given : HasGiven l.fn.seed l.fn.leaf l.made l.pattern;
  list : l.list.bits ≡ pattern l.fn.seed l.fn.leaf l.made;
}

abbrev pub decreases-loop-made : goal.decreases-loop-made
decreases-loop-made l = l.bits - l.made
