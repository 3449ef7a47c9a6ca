-- What the pieces of a longer received line give begins with what those of the shorter one gave, for everything that pieces give
-- one after another and that a longer gap gives no less of.
use Rattle.std.proofs.Common.{◌≡◌, ℕ, zero, suc, ◌+◌, ◌-◌, ◌<◌, ◌≤◌, Bool, true, List, [], ◌∷◌, ◌++◌, length, map, drop, sym, ap, ◌∙◌, inl, inr, arith, append_assoc, length-append}
use Rattle.std.specs.Prelude.{flat_map}
use Rattle.std.specs.List.{range_with_len}
use Rattle.std.proofs.lemmas.List.{append-nil, map-append}
use Rattle.std.proofs.lemmas.Bool.{cases_Bool}
use Rattle.std.proofs.lemmas.Grind.{flat_map-append}
use Rattle.pdh_shape.specs.Frame.{FrameShape, IsFrame}
use Rattle.pdh_line.specs.Least.{least_below}
use Rattle.pdh_line.specs.Tracking.{frame_of, is_confirmed, positions, gap_of, is_found, aligned, completes_loss, frames_in, delivered, is_lost, after_loss, Piece, one_search, track}
use Rattle.pdh_line.specs.Tracking.Piece.{Gap, Delivered}
use Rattle.pdh_line.proofs.Ranges.{range_append}
use Rattle.pdh_line.proofs.LeastLaws.{least_below-le, least_below_before, least_below_past}
use Rattle.pdh_line.proofs.TrackingLaws.{is_confirmed-drop-append, gap_of_is, gap_of-append, aligned-append, is_found-append, completes_loss-append, frames_in-append, delivered_is, delivered_none, delivered_within, after_loss_shorter, one_search_is, frames-append, track_lost, track_open, track_lost-append}

-- a list begins with another
abbrev pub Begins : {X : Type 0} → List X → List X → Type 0
Begins {X} xs ys = (rest : List X) × (ys ≡ xs ++ rest)

-- a longer gap gives no less
abbrev pub GapsGrow : {X : Type 0} → (Piece → List X) → Type 0
GapsGrow f = (n m : ℕ) → n ≤ m → Begins (f (Gap n)) (f (Gap m))

-- a search that hasn't ended, or ended the same, passes over no fewer positions in a longer line
gap_grows : (s : FrameShape) (l m : List Bool) → gap_of s l ≤ gap_of s (l ++ m)
gap_grows s l m =
    let test : ℕ → Bool = λ p. is_confirmed s (drop p l) in
    let is : gap_of s l ≡ least_below (positions s l) test = gap_of_is s l in
    let le : least_below (positions s l) test ≤ positions s l = least_below-le (positions s l) test in
    let more : positions s l ≤ positions s (l ++ m) = omega (arith, length-append l m) in
    let past : least_below (positions s l) test ≤ least_below (positions s (l ++ m)) (λ p. is_confirmed s (drop p (l ++ m))) =
    least_below_past (positions s (l ++ m)) (λ p. is_confirmed s (drop p (l ++ m))) (least_below (positions s l) test) (omega arith)
    (λ i lt. is_confirmed-drop-append s l m i (omega arith) ∙ least_below_before (positions s l) test i lt) in
    omega (arith, is, gap_of_is s (l ++ m), past)

-- an alignment delivers no fewer frames in a longer line
delivered_grows : (s : FrameShape) (l m : List Bool) → IsFrame s → is_found s l ≡ true → delivered s l ≤ delivered s (l ++ m)
delivered_grows s l m shape found =
    let a : List Bool = aligned s l in
    let test : ℕ → Bool = completes_loss s a in
    let is : delivered s l ≡ least_below (frames_in s a) test = delivered_is s l found in
    let le : least_below (frames_in s a) test ≤ frames_in s a = least_below-le (frames_in s a) test in
    let more : frames_in s a ≤ frames_in s (a ++ m) = frames_in-append s a m shape in
    let past : least_below (frames_in s a) test ≤ least_below (frames_in s (a ++ m)) (completes_loss s (a ++ m)) =
    least_below_past (frames_in s (a ++ m)) (completes_loss s (a ++ m)) (least_below (frames_in s a) test) (omega arith)
    (λ i lt. completes_loss-append s a m i shape (omega arith) ∙ least_below_before (frames_in s a) test i lt) in
    let longer : delivered s (l ++ m) ≡ least_below (frames_in s (a ++ m)) (completes_loss s (a ++ m)) =
    delivered_is s (l ++ m) (is_found-append s l m found) ∙ ap (λ x. least_below (frames_in s x) (completes_loss s x)) (aligned-append s l m found) in
    omega (arith, is, longer, past)

-- the frames of an alignment and those that come in a longer line
frames_grow : (s : FrameShape) (l m : List Bool) → IsFrame s → is_found s l ≡ true
    → (rest : List Piece) × (map (λ k. Delivered (frame_of s (aligned s (l ++ m)) k)) (range_with_len 0 (delivered s (l ++ m))) ≡ map (λ k. Delivered (frame_of s (aligned s l) k)) (range_with_len 0 (delivered s l)) ++ rest)
frames_grow s l m shape found =
    let d : ℕ = delivered s l in
    let e : ℕ = delivered s (l ++ m) - d in
    let f : ℕ → Piece = λ k. Delivered (frame_of s (aligned s l ++ m) k) in
    let all : delivered s (l ++ m) ≡ d + e = omega (arith, delivered_grows s l m shape found) in (
      map f (range_with_len (0 + d) e),
      ap (λ x. map (λ k. Delivered (frame_of s x k)) (range_with_len 0 (delivered s (l ++ m)))) (aligned-append s l m found)
          ∙ ap (λ n. map f (range_with_len 0 n)) all ∙ ap (map f) (range_append 0 d e)
          ∙ map-append f (range_with_len 0 d) (range_with_len (0 + d) e)
          ∙ ap (λ x. x ++ map f (range_with_len (0 + d) e)) (frames-append s (aligned s l) m d (delivered_within s l shape found)),
    )

-- the pieces of a search that isn't lost
search_grows : {X : Type 0} (f : Piece → List X) (s : FrameShape) (l m : List Bool) → GapsGrow f → IsFrame s → Begins (flat_map f (one_search s l)) (flat_map f (one_search s (l ++ m)))
search_grows f s l m gaps shape =
    elim (cases_Bool (is_found s l)) [
      | inl found ↦
          let frames = frames_grow s l m shape found in
          let before : List Piece = map (λ k. Delivered (frame_of s (aligned s l) k)) (range_with_len 0 (delivered s l)) in
          let same : one_search s (l ++ m) ≡ Gap (gap_of s l) ∷ (before ++ frames.0) =
          one_search_is s (l ++ m) ∙ ap (λ n. Gap n ∷ map (λ k. Delivered (frame_of s (aligned s (l ++ m)) k)) (range_with_len 0 (delivered s (l ++ m)))) (gap_of-append s l m found)
          ∙ ap (λ x. Gap (gap_of s l) ∷ x) frames.1 in (
            flat_map f frames.0,
            ap (flat_map f) same ∙ ap (λ x. f (Gap (gap_of s l)) ++ x) (flat_map-append f before frames.0)
                ∙ sym (append_assoc (f (Gap (gap_of s l))) (flat_map f before) (flat_map f frames.0))
                ∙ ap (λ x. flat_map f x ++ flat_map f frames.0) (sym (one_search_is s l)),
          )
      | inr none ↦
          let later : List Piece = map (λ k. Delivered (frame_of s (aligned s (l ++ m)) k)) (range_with_len 0 (delivered s (l ++ m))) in
          let more = gaps (gap_of s l) (gap_of s (l ++ m)) (gap_grows s l m) in
          let alone : flat_map f (one_search s l) ≡ f (Gap (gap_of s l)) =
          ap (flat_map f) (one_search_is s l) ∙ ap (λ n. f (Gap (gap_of s l)) ++ flat_map f (map (λ k. Delivered (frame_of s (aligned s l) k)) (range_with_len 0 n))) (delivered_none s l none) ∙ append-nil (f (Gap (gap_of s l))) in (
            more.0 ++ flat_map f later,
            ap (flat_map f) (one_search_is s (l ++ m)) ∙ ap (λ x. x ++ flat_map f later) more.1
                ∙ append_assoc (f (Gap (gap_of s l))) more.0 (flat_map f later)
                ∙ ap (λ x. x ++ (more.0 ++ flat_map f later)) (sym alone),
          )
    ]

-- the pieces of a line begin with those of its first search
track_begins : (s : FrameShape) (l : List Bool) → IsFrame s → (rest : List Piece) × (track s l ≡ one_search s l ++ rest)
track_begins s l shape =
    elim (cases_Bool (is_lost s l)) [
      | inl lost ↦ (track s (after_loss s l), track_lost s l shape lost)
      | inr kept ↦ ([], track_open s l kept ∙ sym (append-nil (one_search s l)))
    ]

grow_within : {X : Type 0} (f : Piece → List X) (s : FrameShape) (n : ℕ) (l m : List Bool) → GapsGrow f → IsFrame s → length l < n → Begins (flat_map f (track s l)) (flat_map f (track s (l ++ m)))
grow_within f s zero l m gaps shape h = absurd (omega arith)
grow_within f s (suc n) l m gaps shape h =
    elim (cases_Bool (is_lost s l)) [
      | inl lost ↦
          let first : List _ = flat_map f (one_search s l) in
          let shorter : length (after_loss s l) < length l = after_loss_shorter s l shape lost in
          let rest = grow_within f s n (after_loss s l) m gaps shape (omega arith) in (
            rest.0,
            ap (flat_map f) (track_lost-append s l m shape lost) ∙ flat_map-append f (one_search s l) (track s (after_loss s l ++ m))
                ∙ ap (λ x. first ++ x) rest.1 ∙ sym (append_assoc first (flat_map f (track s (after_loss s l))) rest.0)
                ∙ ap (λ x. x ++ rest.0) (sym (ap (flat_map f) (track_lost s l shape lost) ∙ flat_map-append f (one_search s l) (track s (after_loss s l)))),
          )
      | inr kept ↦
          let search = search_grows f s l m gaps shape in
          let begins = track_begins s (l ++ m) shape in (
            search.0 ++ flat_map f begins.0,
            ap (flat_map f) begins.1 ∙ flat_map-append f (one_search s (l ++ m)) begins.0 ∙ ap (λ x. x ++ flat_map f begins.0) search.1
                ∙ append_assoc (flat_map f (one_search s l)) search.0 (flat_map f begins.0)
                ∙ ap (λ x. flat_map f x ++ (search.0 ++ flat_map f begins.0)) (sym (track_open s l kept)),
          )
    ]

-- what pieces give grows with the line
pub pieces_grow : {X : Type 0} (f : Piece → List X) (s : FrameShape) (l m : List Bool) → GapsGrow f → IsFrame s → Begins (flat_map f (track s l)) (flat_map f (track s (l ++ m)))
pieces_grow f s l m gaps shape = grow_within f s (suc (length l)) l m gaps shape (omega arith)
