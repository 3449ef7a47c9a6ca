use Rattle.std.proofs.Common.{◌≡◌, ◌<◌, ℕ}
use Rattle.pdh_smoothing.specs.Again.{lists_in, count_marked}
use Rattle.pdh_smoothing.proofs.rows.are_alike.Given as goal

-- of the first tributaries as many are read
abbrev pub invariant-loop-trib : goal.invariant-loop-trib
invariant-loop-trib g l = (j : ℕ) → j < l.trib → count_marked g.S.Shape.shape (lists_in l.marks) l.one j ≡ count_marked g.S.Shape.shape (lists_in l.marks) l.other j
