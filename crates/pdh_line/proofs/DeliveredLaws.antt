-- How many frames a line delivers: no more than it has bits.
use Rattle.std.proofs.Common.{◌≡◌, ℕ, zero, suc, ◌+◌, ◌*◌, ◌≤◌, Bool, true, cond, List, [], ◌∷◌, ◌++◌, length, map, drop, refl, ap, ◌∙◌, inl, inr, arith, length-drop}
use Rattle.std.specs.Prelude.{count_by}
use Rattle.std.specs.List.{range_with_len}
use Rattle.std.proofs.lemmas.List.Sums.{sum_by-append, sum_by-cons}
use Rattle.std.proofs.lemmas.Bool.{cases_Bool}
use Rattle.std.proofs.Math.Nat.{mul-le-mul_left}
use Rattle.pdh_shape.specs.Frame.{FrameShape, IsFrame}
use Rattle.pdh_line.specs.Tracking.{Piece, frame_of, gap_of, is_found, aligned, delivered, is_lost, after_loss, one_search, track_within, track, is_delivered, frames_delivered}
use Rattle.pdh_line.specs.Tracking.Piece.{Gap, Delivered}
use Rattle.pdh_line.proofs.Ranges.{length-range}
use Rattle.pdh_line.proofs.TrackingLaws.{delivered_none, delivered_within, is_lost_found, after_loss_is, one_search_is, track_within_lost, track_within_open, track_is}

abbrev one_count : Piece → ℕ
one_count p = cond (is_delivered p) 1 0

-- ---- counts of pieces

pub count_append : (xs ys : List Piece) → count_by is_delivered (xs ++ ys) ≡ count_by is_delivered xs + count_by is_delivered ys
count_append xs ys = sum_by-append one_count xs ys

-- each of these pieces is a delivered frame
pub count_frames : {X : Type 0} (frame : X → List Bool) (xs : List X) → count_by is_delivered (map (λ x. Delivered (frame x)) xs) ≡ length xs
count_frames frame [] = refl
count_frames frame (x ∷ xs) =
    sum_by-cons one_count (Delivered (frame x)) (map (λ x. Delivered (frame x)) xs) ∙ ap (λ n. 1 + n) (count_frames frame xs) ∙ omega arith

-- a gap is none
pub count_gap : (n : ℕ) → ◌≡◌ {A = ℕ} (count_by is_delivered (Gap n ∷ [])) 0
count_gap n = sum_by-cons one_count (Gap n) []

count_search : (s : FrameShape) (l : List Bool) → count_by is_delivered (one_search s l) ≡ delivered s l
count_search s l =
    let frames : List Piece = map (λ k. Delivered (frame_of s (aligned s l) k)) (range_with_len 0 (delivered s l)) in
    ap (count_by is_delivered) (one_search_is s l) ∙ sum_by-cons one_count (Gap (gap_of s l)) frames
    ∙ ap (λ n. 0 + n) (count_frames (frame_of s (aligned s l)) (range_with_len 0 (delivered s l)) ∙ length-range 0 (delivered s l)) ∙ omega arith

-- ---- a frame has one bit at least, and frames don't overlap

-- the frames that one search delivers have this many bits, which stand before the rest
frames_before : (s : FrameShape) (l : List Bool) → IsFrame s → is_found s l ≡ true → delivered s l + length (drop (delivered s l * s.len) (aligned s l)) ≤ length l
frames_before s l shape found =
    let within : delivered s l * s.len ≤ length (aligned s l) = delivered_within s l shape found in
    let fewer : length (aligned s l) ≤ length l = omega (arith, length-drop (gap_of s l) l) in
    let some : 1 ≤ s.len = shape.some_slots in
    let each : delivered s l * 1 ≤ delivered s l * s.len = mul-le-mul_left (delivered s l) some in
    omega (arith, length-drop (delivered s l * s.len) (aligned s l))

search_within : (s : FrameShape) (l : List Bool) → IsFrame s → delivered s l ≤ length l
search_within s l shape =
    elim (cases_Bool (is_found s l)) [
      | inl found ↦ omega (arith, frames_before s l shape found)
      | inr none ↦ omega (arith, delivered_none s l none)
    ]

count_within : (n : ℕ) (s : FrameShape) (l : List Bool) → IsFrame s → count_by is_delivered (track_within n s l) ≤ length l
unfolding track_within
count_within zero s l shape = omega arith
count_within (suc n) s l shape =
    elim (cases_Bool (is_lost s l)) [
      | inl lost ↦
          let rest : count_by is_delivered (track_within n s (after_loss s l)) ≤ length (after_loss s l) = count_within n s (after_loss s l) shape in
          let after : length (after_loss s l) ≡ length (drop (delivered s l * s.len) (aligned s l)) = ap length (after_loss_is s l) in
          let both : count_by is_delivered (track_within (suc n) s l) ≡ delivered s l + count_by is_delivered (track_within n s (after_loss s l)) =
          ap (count_by is_delivered) (track_within_lost n s l lost) ∙ count_append (one_search s l) (track_within n s (after_loss s l))
          ∙ ap (λ m. m + count_by is_delivered (track_within n s (after_loss s l))) (count_search s l) in
          omega (arith, rest, after, both, frames_before s l shape (is_lost_found s l lost))
      | inr kept ↦
          let one : count_by is_delivered (track_within (suc n) s l) ≡ delivered s l = ap (count_by is_delivered) (track_within_open n s l kept) ∙ count_search s l in
          omega (arith, one, search_within s l shape)
    ]

-- a line delivers no more frames than it has bits
pub frames_delivered-le : (s : FrameShape) (line : List Bool) → IsFrame s → frames_delivered s line ≤ length line
unfolding frames_delivered
frames_delivered-le s line shape =
    let is : count_by is_delivered (track s line) ≡ count_by is_delivered (track_within (suc (length line)) s line) = ap (count_by is_delivered) (track_is s line) in
    omega (arith, is, count_within (suc (length line)) s line shape)
