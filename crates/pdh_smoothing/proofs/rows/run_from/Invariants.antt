use Rattle.std.proofs.Common.{◌≡◌, ◌<◌, ◌≤◌, ℕ}
use Rattle.pdh_smoothing.specs.Again.{lists_in, counts_marked}
use Rattle.pdh_smoothing.proofs.rows.run_from.Given as goal

-- the pieces before the next one are alike
abbrev pub invariant-loop-next : goal.invariant-loop-next
invariant-loop-next g l = (k : ℕ) → l.first ≤ k → k < l.next → counts_marked g.S.Shape.shape (lists_in l.marks) k ≡ counts_marked g.S.Shape.shape (lists_in l.marks) l.first
