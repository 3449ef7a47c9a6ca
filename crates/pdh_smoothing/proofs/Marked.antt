-- Marks of a whole line: how many there are, what the schedule is by them, and room for them.
use Rattle.std.proofs.Common.{◌≡◌, ℕ, ◌-◌, ◌*◌, ◌/◌, ◌<◌, ◌≤◌, Bool, false, List, [], length, map, get_or, Some, sym, ap, ◌∙◌, arith}
use Rattle.std.specs.Prelude.{unwrap_or, IsTrue}
use Rattle.std.specs.List.{range_with_len}
use Rattle.std.proofs.lemmas.List.FromFn.{length-map-range_with_len, get_or-map-range_with_len}
use Rattle.std.proofs.lemmas.Nat.{le-div}
use Rattle.pdh_shape.specs.Frame.{FrameShape, IsFrame}
use Rattle.pdh_line.specs.Sending.{carried}
use Rattle.pdh_line.proofs.Ranges.{map-range_same_on}
use Rattle.pdh_edge.specs.Ports.{Outputs}
use Rattle.pdh_desync.specs.FarStore.{pieces_of, reads_more, marks}
use Rattle.pdh_desync.proofs.PiecesFit.{pieces_fit}
use Rattle.pdh_smoothing.specs.Again.{reads_in, rows_text, schedule_again, list_of, pieces_marked, AreMarks, count_marked, counts_marked, frames_marked}

-- one mark for each piece
pub marks_long : (s : FrameShape) (j : ℕ) (line : List Bool) → length (marks s j line) ≡ length (pieces_of s line)
unfolding marks
marks_long s j line = length-map-range_with_len (reads_more s j (pieces_of s line)) 0 (length (pieces_of s line))

-- no more than the line has frames' lengths
pub marks_few : (s : FrameShape) (j bits : ℕ) (line : List Bool) → IsFrame s → length line ≤ bits → length (marks s j line) ≤ bits / s.len
marks_few s j bits line shape upto =
    le-div (length (marks s j line)) bits s.len shape.some_slots (let fit = pieces_fit s line shape in let same : length (marks s j line) * s.len ≡ length (pieces_of s line) * s.len = ap (λ n. n * s.len) (marks_long s j line) in omega (arith, fit, same, upto))

mark_at : (s : FrameShape) (j n : ℕ) (line : List Bool) → n < length (pieces_of s line) → get_or (marks s j line) n false ≡ reads_more s j (pieces_of s line) n
unfolding marks
mark_at s j n line inside = get_or-map-range_with_len (reads_more s j (pieces_of s line)) 0 (length (pieces_of s line)) n n false inside (omega arith)

module _ (s : FrameShape) (line : List Bool) (lists : Outputs) (told : (j : ℕ) → j < s.tribs → lists.told j ≡ Some (marks s j line)) where
  list_is : (j : ℕ) → j < s.tribs → list_of lists j ≡ marks s j line
  list_is j known = ap (λ t. unwrap_or t []) (told j known)

  pub count_is : 0 < s.tribs → pieces_marked lists ≡ length (pieces_of s line)
  count_is some = ap length (list_is 0 some) ∙ marks_long s 0 line

  -- they tell the reads of each piece
  counts_are : (n : ℕ) → n < length (pieces_of s line) → counts_marked s lists n ≡ reads_in s (pieces_of s line) n
  counts_are n inside = map-range_same_on (count_marked s lists n) _ 0 s.tribs (λ j h known.
      ap (λ list. carried s (get_or list n false)) (list_is j (omega (arith, known))) ∙ ap (carried s) (mark_at s j n line inside))

  -- and so the schedule
  pub again_is : 0 < s.tribs → rows_text (frames_marked s lists 1) ≡ schedule_again s line
  unfolding schedule_again
  again_is some =
      let n : ℕ = length (pieces_of s line) in
      ap (λ count. rows_text (map (counts_marked s lists) (range_with_len 1 (count - 1)))) (count_is some)
      ∙ ap rows_text (map-range_same_on (counts_marked s lists) (reads_in s (pieces_of s line)) 1 (n - 1) (λ k h less. counts_are k (omega (arith, h, less))))

  pub are_marks : 0 < s.tribs → ((j : ℕ) → j < s.tribs → IsTrue (lists.holds j)) → AreMarks s lists
  are_marks some held = record {
    held = held;
    long = λ j known. ap length (list_is j known) ∙ marks_long s j line ∙ sym (count_is some);
  }
