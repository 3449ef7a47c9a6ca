use Rattle.std.proofs.Common.{◌≡◌, ◌-◌, ◌<◌, ◌≤◌, ℕ, false}
use Rattle.pdh_align.specs.Searching.{two_right}
use Rattle.pdh_align.proofs.starts.wrong_starts.Given as goal

-- the positions so far
abbrev pub invariant-loop-done : goal.invariant-loop-done
invariant-loop-done g l = (l.done ≤ l.most) × ((i : ℕ) → i < l.done → two_right g.S.Shape.shape l.held.bits i ≡ false)

abbrev pub decreases-loop-done : goal.decreases-loop-done
decreases-loop-done g l = l.most - l.done
