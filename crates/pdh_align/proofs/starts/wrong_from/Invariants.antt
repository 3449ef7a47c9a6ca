use Rattle.std.proofs.Common.{◌≡◌, ◌+◌, ◌<◌, ℕ, false}
use Rattle.pdh_align.specs.Searching.{two_right}
use Rattle.pdh_align.proofs.starts.wrong_from.Given as goal

-- the positions so far
abbrev pub invariant-loop-place : goal.invariant-loop-place
invariant-loop-place g l = (i : ℕ) → i < l.place → two_right g.S.Shape.shape l.held.bits (l.start + i) ≡ false
