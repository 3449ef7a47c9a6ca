use Rattle.std.proofs.Common.{◌≡◌, ◌≤◌, ◌-◌, length, take}
use Rattle.pdh_patterns.specs.Pattern.{pattern, HasGiven}
use Rattle.pdh_lab.proofs.drilling.is_prefix.Given as goal

-- the bits before this place are those of the pattern
abbrev pub invariant-loop-place : goal.invariant-loop-place
invariant-loop-place l = record {
  within : l.place ≤ length l.bits.bits;
  given : HasGiven l.fn.seed l.fn.leaf l.place l.pattern;
  agree : take l.place l.bits.bits ≡ pattern l.fn.seed l.fn.leaf l.place;
}

abbrev pub decreases-loop-place : goal.decreases-loop-place
decreases-loop-place l = length l.bits.bits - l.place
