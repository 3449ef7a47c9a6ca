use Rattle.std.proofs.Common.{◌≡◌, ◌≤◌, ◌+◌, ◌*◌, ◌∷◌, map, length}
use Rattle.std.specs.List.{range_with_len}
use Rattle.pdh_clock.specs.Written.{number_words}
use Rattle.pdh_smoothing.specs.Again.{lists_in, count_marked}
use Rattle.pdh_smoothing.proofs.rows.row_of.Given as goal

-- the path, the repeat, and the counts of the first tributaries
abbrev pub invariant-loop-trib : goal.invariant-loop-trib
invariant-loop-trib g l = record {
  bytes : l.row ≡ 47 ∷ number_words (l.frames ∷ map (count_marked g.S.Shape.shape (lists_in l.marks) l.piece) (range_with_len 0 l.trib));
  few : length l.row ≤ 22 + 21 * l.trib;
}
