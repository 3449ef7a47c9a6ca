-- Pieces don't overlap, and each covers a frame's length of the line.
use Rattle.std.proofs.Common.{◌≡◌, inl, inr, ℕ, zero, suc, ◌+◌, ◌*◌, ◌/◌, ◌≤◌, Bool, true, List, [], ◌∷◌, ◌++◌, length, map, drop, refl, ap, ◌∙◌, arith, length-append, length-drop}
use Rattle.std.specs.Prelude.{flat_map}
use Rattle.std.specs.List.{range_with_len}
use Rattle.std.proofs.lemmas.Bool.{cases_Bool}
use Rattle.std.proofs.lemmas.Grind.{flat_map-append}
use Rattle.std.proofs.lemmas.List.{length-replicate}
use Rattle.std.proofs.Math.Nat.{div-mul-le_self, add-mul}
use Rattle.pdh_shape.specs.Frame.{FrameShape, IsFrame}
use Rattle.pdh_line.specs.Least.{least_below}
use Rattle.pdh_line.specs.Tracking.{Piece, frame_of, is_confirmed, positions, gap_of, is_found, aligned, delivered, is_lost, after_loss, one_search, track_within}
use Rattle.pdh_line.specs.Tracking.Piece.{Gap, Delivered}
use Rattle.pdh_line.proofs.LeastLaws.{least_below-le}
use Rattle.pdh_line.proofs.Ranges.{length-range}
use Rattle.pdh_line.proofs.TrackingLaws.{gap_of_is, delivered_none, delivered_within, is_lost_found, after_loss_is, one_search_is, track_within_lost, track_within_open, track_is}
use Rattle.pdh_desync.specs.FarStore.{far_pieces, pieces_of}
use Rattle.pdh_desync.specs.FarStore.FarPiece.{Ones}
use Rattle.pdh_desync.specs.laws.PieceSteps.{pieces_are}

-- how many far pieces these pieces give
abbrev far_count : FrameShape → List Piece → ℕ
far_count s pieces = length (flat_map (far_pieces s) pieces)

count_append : (s : FrameShape) (xs ys : List Piece) → far_count s (xs ++ ys) ≡ far_count s xs + far_count s ys
count_append s xs ys = ap length (flat_map-append (far_pieces s) xs ys) ∙ length-append (flat_map (far_pieces s) xs) (flat_map (far_pieces s) ys)

-- each delivered frame is one
count_frames : {X : Type 0} (s : FrameShape) (frame : X → List Bool) (xs : List X) → far_count s (map (λ x. Delivered (frame x)) xs) ≡ length xs
count_frames s frame [] = refl
count_frames s frame (x ∷ xs) = ap (λ n. suc n) (count_frames s frame xs)

count_search : (s : FrameShape) (l : List Bool) → far_count s (one_search s l) ≡ gap_of s l / s.len + delivered s l
count_search s l =
    let frames : List Piece = map (λ k. Delivered (frame_of s (aligned s l) k)) (range_with_len 0 (delivered s l)) in
    ap (far_count s) (one_search_is s l) ∙ length-append (far_pieces s (Gap (gap_of s l))) (flat_map (far_pieces s) frames)
    ∙ ap (λ n. n + far_count s frames) (length-replicate (gap_of s l / s.len) Ones)
    ∙ ap (λ n. gap_of s l / s.len + n) (count_frames s (frame_of s (aligned s l)) (range_with_len 0 (delivered s l)) ∙ length-range 0 (delivered s l))

-- ---- what one search covers

gap_within : (s : FrameShape) (l : List Bool) → IsFrame s → gap_of s l ≤ length l
gap_within s l shape =
    let few : least_below (positions s l) (λ p. is_confirmed s (drop p l)) ≤ positions s l = least_below-le (positions s l) (λ p. is_confirmed s (drop p l)) in
    omega (arith, few, gap_of_is s l, shape.some_slots)

-- the bits of its pieces, and those behind its frames
search_covers : (s : FrameShape) (l : List Bool) → IsFrame s → is_found s l ≡ true → far_count s (one_search s l) * s.len + length (drop (delivered s l * s.len) (aligned s l)) ≤ length l
search_covers s l shape found =
    let gap : gap_of s l / s.len * s.len ≤ gap_of s l = div-mul-le_self (gap_of s l) s.len in
    let frames : delivered s l * s.len ≤ length (aligned s l) = delivered_within s l shape found in
    let all : far_count s (one_search s l) * s.len ≡ gap_of s l / s.len * s.len + delivered s l * s.len =
    ap (λ n. n * s.len) (count_search s l) ∙ add-mul (gap_of s l / s.len) (delivered s l) s.len in
    omega (arith, gap, frames, all, gap_within s l shape, length-drop (gap_of s l) l, length-drop (delivered s l * s.len) (aligned s l))

search_fits : (s : FrameShape) (l : List Bool) → IsFrame s → far_count s (one_search s l) * s.len ≤ length l
search_fits s l shape =
    elim (cases_Bool (is_found s l)) [
      | inl found ↦ omega (arith, search_covers s l shape found)
      | inr none ↦
          let gap : gap_of s l / s.len * s.len ≤ gap_of s l = div-mul-le_self (gap_of s l) s.len in
          let alone : gap_of s l / s.len + delivered s l ≡ gap_of s l / s.len = omega (arith, delivered_none s l none) in
          let all : far_count s (one_search s l) * s.len ≡ gap_of s l / s.len * s.len = ap (λ n. n * s.len) (count_search s l ∙ alone) in
          omega (arith, gap, all, gap_within s l shape)
    ]

-- ---- a whole line

fits_within : (n : ℕ) (s : FrameShape) (l : List Bool) → IsFrame s → far_count s (track_within n s l) * s.len ≤ length l
unfolding track_within
fits_within zero s l shape = omega arith
fits_within (suc n) s l shape =
    elim (cases_Bool (is_lost s l)) [
      | inl lost ↦
          let rest : far_count s (track_within n s (after_loss s l)) * s.len ≤ length (after_loss s l) = fits_within n s (after_loss s l) shape in
          let after : length (after_loss s l) ≡ length (drop (delivered s l * s.len) (aligned s l)) = ap length (after_loss_is s l) in
          let both : far_count s (track_within (suc n) s l) * s.len ≡ far_count s (one_search s l) * s.len + far_count s (track_within n s (after_loss s l)) * s.len =
          ap (λ pieces. far_count s pieces * s.len) (track_within_lost n s l lost) ∙ ap (λ m. m * s.len) (count_append s (one_search s l) (track_within n s (after_loss s l)))
          ∙ add-mul (far_count s (one_search s l)) (far_count s (track_within n s (after_loss s l))) s.len in
          omega (arith, rest, after, both, search_covers s l shape (is_lost_found s l lost))
      | inr kept ↦
          let one : far_count s (track_within (suc n) s l) * s.len ≡ far_count s (one_search s l) * s.len = ap (λ pieces. far_count s pieces * s.len) (track_within_open n s l kept) in
          omega (arith, one, search_fits s l shape)
    ]

-- a line has no more pieces than whole frames' lengths
pub pieces_fit : (s : FrameShape) (line : List Bool) → IsFrame s → length (pieces_of s line) * s.len ≤ length line
pieces_fit s line shape =
    let is : length (pieces_of s line) * s.len ≡ far_count s (track_within (suc (length line)) s line) * s.len =
    ap (λ pieces. length pieces * s.len) (pieces_are s line) ∙ ap (λ pieces. far_count s pieces * s.len) (track_is s line) in
    omega (arith, is, fits_within (suc (length line)) s line shape)
