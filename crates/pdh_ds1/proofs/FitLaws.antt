-- The payload of a line is shorter than the line, by a bit of each frame.
use Rattle.std.proofs.Common.{◌≡◌, ℕ, zero, suc, ◌+◌, ◌-◌, ◌*◌, ◌≤◌, Bool, true, List, [], ◌∷◌, ◌++◌, length, map, drop, ap, ◌∙◌, inl, inr, arith, length-append, length-take, length-drop}
use Rattle.std.specs.Prelude.{flat_map}
use Rattle.std.specs.List.{range_with_len}
use Rattle.std.proofs.Math.Nat.{suc-mul}
use Rattle.std.proofs.lemmas.Bool.{cases_Bool}
use Rattle.std.proofs.lemmas.List.{nil_from_length}
use Rattle.pdh_shape.specs.Frame.{FrameShape, IsFrame}
use Rattle.pdh_line.specs.Tracking.{Piece, frame_of, gap_of, is_found, aligned, delivered, is_lost, after_loss, one_search, track_within}
use Rattle.pdh_line.specs.Tracking.Piece.{Delivered}
use Rattle.pdh_line.proofs.Ranges.{length-range}
use Rattle.pdh_line.proofs.TrackingLaws.{delivered_none, delivered_within, is_lost_found, after_loss_is, one_search_is, track_within_lost, track_within_open, track_is}
use Rattle.pdh_ds1.specs.Packing.{payload_at, line_payload}
use Rattle.pdh_ds1.specs.Receiving.{frames_of, piece_payload, ds1_far}
use Rattle.pdh_ds1.proofs.PackingLaws.{payload_more, payload_none}

-- a frame's payload has 192 bits at most
payload_few : (line : List Bool) (frames : ℕ) → length (line_payload line frames) ≤ 192 * frames
payload_few line zero = omega (arith, ap length (payload_none line))
payload_few line (suc k) =
    let next : suc k ≡ k + 1 = omega arith in
    let more : line_payload line (suc k) ≡ line_payload line k ++ payload_at line k = ap (line_payload line) next ∙ payload_more line k in
    omega (arith, ap length more, length-append (line_payload line k) (payload_at line k), length-take (193 * k + 193 - (193 * k + 1)) (drop (193 * k + 1) line), payload_few line k)

module _ (s : FrameShape) (shape : IsFrame s) where
  superframe_few : (superframe : List Bool) → 193 * length (piece_payload s (Delivered superframe)) ≤ 192 * s.len
  superframe_few superframe = omega (arith, payload_few superframe (frames_of s))

  abbrev bits_of_pieces : List Piece → ℕ
  bits_of_pieces pieces = length (flat_map (piece_payload s) pieces)

  pieces_append : (xs ys : List Piece) → bits_of_pieces (xs ++ ys) ≡ bits_of_pieces xs + bits_of_pieces ys
  pieces_append [] ys = omega arith
  pieces_append (x ∷ xs) ys =
      omega (arith, length-append (piece_payload s x) (flat_map (piece_payload s) (xs ++ ys)), length-append (piece_payload s x) (flat_map (piece_payload s) xs), pieces_append xs ys)

  frames_few : (frame : ℕ → List Bool) (ks : List ℕ) → 193 * bits_of_pieces (map (λ k. Delivered (frame k)) ks) ≤ 192 * (length ks * s.len)
  frames_few frame [] = omega arith
  frames_few frame (k ∷ ks) =
      omega (arith, length-append (piece_payload s (Delivered (frame k))) (flat_map (piece_payload s) (map (λ k. Delivered (frame k)) ks)), superframe_few (frame k), frames_few frame ks, suc-mul (length ks) s.len)

  search_few : (l : List Bool) → 193 * bits_of_pieces (one_search s l) ≤ 192 * (delivered s l * s.len)
  search_few l =
      let frames : List Piece = map (λ k. Delivered (frame_of s (aligned s l) k)) (range_with_len 0 (delivered s l)) in
      let is : bits_of_pieces (one_search s l) ≡ bits_of_pieces frames = ap bits_of_pieces (one_search_is s l) in
      let all : length (range_with_len 0 (delivered s l)) * s.len ≡ delivered s l * s.len = ap (λ n. n * s.len) (length-range 0 (delivered s l)) in
      omega (arith, is, frames_few (frame_of s (aligned s l)) (range_with_len 0 (delivered s l)), all)

  -- a search takes its frames from the line
  search_within : (l : List Bool) → is_found s l ≡ true → delivered s l * s.len + length (drop (delivered s l * s.len) (aligned s l)) ≤ length l
  search_within l found = omega (arith, delivered_within s l shape found, length-drop (gap_of s l) l, length-drop (delivered s l * s.len) (aligned s l))

  search_fits : (l : List Bool) → delivered s l * s.len ≤ length l
  search_fits l = elim (cases_Bool (is_found s l)) [
    | inl found ↦ omega (arith, search_within l found)
    | inr none ↦
        let no_frame : delivered s l * s.len ≡ 0 * s.len = ap (λ n. n * s.len) (delivered_none s l none) in
        let nothing : 0 * s.len ≡ 0 = omega arith in
        omega (arith, no_frame, nothing)
  ]

  track_few : (n : ℕ) (l : List Bool) → 193 * bits_of_pieces (track_within n s l) ≤ 192 * length l
  unfolding track_within
  track_few zero l = omega arith
  track_few (suc n) l = elim (cases_Bool (is_lost s l)) [
    | inl lost ↦
        let rest : List Piece = track_within n s (after_loss s l) in
        let after : length (after_loss s l) ≡ length (drop (delivered s l * s.len) (aligned s l)) = ap length (after_loss_is s l) in
        let both : bits_of_pieces (track_within (suc n) s l) ≡ bits_of_pieces (one_search s l) + bits_of_pieces rest = ap bits_of_pieces (track_within_lost n s l lost) ∙ pieces_append (one_search s l) rest in
        omega (arith, both, track_few n (after_loss s l), after, search_few l, search_within l (is_lost_found s l lost))
    | inr kept ↦
        let one : bits_of_pieces (track_within (suc n) s l) ≡ bits_of_pieces (one_search s l) = ap bits_of_pieces (track_within_open n s l kept) in
        omega (arith, one, search_few l, search_fits l)
  ]

  pub payload_fits : (line : List Bool) → 193 * length (ds1_far s line) ≤ 192 * length line
  unfolding ds1_far
  payload_fits line = omega (arith, ap bits_of_pieces (track_is s line), track_few (suc (length line)) line)

  -- no bits give nothing
  pub far_empty : ds1_far s [] ≡ []
  far_empty = nil_from_length (ds1_far s []) (omega (arith, payload_fits []))
