-- The steps of an alignment machine are the growth of the tracking.
use Rattle.std.proofs.Common.{◌≡◌, ℕ, zero, suc, ◌+◌, ◌-◌, ◌*◌, ◌/◌, ◌<◌, ◌≤◌, Bool, true, false, ltb, List, [], ◌∷◌, ◌++◌, length, map, take, drop, refl, sym, ap, ◌∙◌, subst, inl, inr, arith, append_assoc, add-zero, add-one, length-append, length-drop}
use Rattle.std.specs.List.{range_with_len}
use Rattle.std.proofs.lemmas.List.{drop-append-le, drop-drop, append-nil, take_all, drop_all, take-append-drop, length-take-le}
use Rattle.std.proofs.lemmas.List.Sums.{sum_by-cons, sum_by-append}
use Rattle.std.proofs.lemmas.List.FromFn.{map-range_with_len_more}
use Rattle.std.proofs.lemmas.Nat.{div-mul-add}
use Rattle.std.proofs.Math.Nat.{lt-div-mul-add}
use Rattle.std.proofs.lemmas.Bool.{ltb-true, ltb-false, lt-ltb, le-ltb, cases_Bool}
use Rattle.pdh_align.specs.declared.step.Step.{Step}
use Rattle.pdh_align.specs.declared.step.Step.TheVariants.{Nothing, Rejected, Aligned, Frame, Lost}
use Rattle.pdh_shape.specs.declared.role.Marks.{Marks}
use Rattle.pdh_shape.specs.Frame.{FrameShape, IsFrame, wrong, clean}
use Rattle.pdh_line.specs.Least.{least_below}
use Rattle.pdh_line.specs.Tracking.{Piece, frame_of, is_confirmed, positions, gap_of, is_found, aligned, completes_loss, frames_in, delivered, is_lost, after_loss, one_search, track}
use Rattle.pdh_line.specs.Tracking.Piece.{Gap, Delivered}
use Rattle.pdh_align.specs.OpenGap.{bits_covered, covered}
use Rattle.pdh_align.specs.Searching.{Sought, Searches}
use Rattle.pdh_align.specs.Aligning.{Phase, Describes, Follows, SearchesSince, StandsFor, Grows, Turn, turn, Held, SearchGoesOn, Turns, Tracks, frames_gained}
use Rattle.pdh_align.specs.Aligning.Phase.{Searching, Tracking}
use Rattle.pdh_line.proofs.LeastLaws.{least_below-le, least_below_same, least_below_yes, least_below_no}
use Rattle.pdh_line.proofs.FrameLaws.{wrong_of_right}
use Rattle.pdh_line.proofs.TrackingLaws.{judged}
use Rattle.pdh_line.proofs.TrackingLaws as laws

-- ---- a search

-- where nothing is confirmed, every position was passed over
pub gap_all : (s : FrameShape) (l : List Bool) → is_found s l ≡ false → gap_of s l ≡ positions s l
gap_all s l found =
    let le : gap_of s l ≤ positions s l = rw (laws.gap_of_is s l) (least_below-le (positions s l) (λ p. is_confirmed s (drop p l))) in
    let ge : positions s l ≤ gap_of s l = ltb-false _ _ found in
    omega arith

pub track_searching : (s : FrameShape) (l : List Bool) → is_found s l ≡ false → track s l ≡ Gap (positions s l) ∷ []
track_searching s l found =
    laws.track_open s l (laws.is_lost_none s l found) ∙ laws.one_search_is s l
    ∙ ap (λ n. Gap (gap_of s l) ∷ map (λ k. Delivered (frame_of s (aligned s l) k)) (range_with_len 0 n)) (laws.delivered_none s l found)
    ∙ ap (λ n. Gap n ∷ []) (gap_all s l found)

-- a line of less than three frames has no position
pub short_search : (s : FrameShape) (l : List Bool) → positions s l ≡ 0 → (is_found s l ≡ false) × (track s l ≡ Gap 0 ∷ [])
short_search s l none =
    let found : is_found s l ≡ false = le-ltb _ _ (omega arith) in
    (found, track_searching s l found ∙ ap (λ n. Gap n ∷ []) none)

length_push : (l : List Bool) (bit : Bool) → length (l ++ bit ∷ []) ≡ length l + 1
length_push l bit = length-append l (bit ∷ [])

-- a bit in a search that has too few bits for a position
pub search_short : (s : FrameShape) (l : List Bool) (bit : Bool) → IsFrame s → is_found s l ≡ false
    → length (drop (positions s l) l ++ bit ∷ []) < 3 * s.len
    → (is_found s (l ++ bit ∷ []) ≡ false) × (drop (positions s l) l ++ bit ∷ [] ≡ drop (positions s (l ++ bit ∷ [])) (l ++ bit ∷ [])) × (track s (l ++ bit ∷ []) ≡ track s l)
search_short s l bit shape found short =
    let some : 0 < s.len = shape.some_slots in
    let longer : length (l ++ bit ∷ []) ≡ length l + 1 = length_push l bit in
    let held : length (drop (positions s l) l ++ bit ∷ []) ≡ (length l - positions s l) + 1 = length_push (drop (positions s l) l) bit ∙ ap (λ n. n + 1) (length-drop (positions s l) l) in
    let before : positions s l ≡ 0 = omega arith in
    let after : positions s (l ++ bit ∷ []) ≡ 0 = omega arith in
    let now = short_search s (l ++ bit ∷ []) after in
    let was = short_search s l before in
    (now.0, rw (before, after) refl, now.1 ∙ sym was.1)

-- a bit in a search that makes one more position whole
pub search_long : (s : FrameShape) (l : List Bool) (bit : Bool) → IsFrame s → is_found s l ≡ false
    → 3 * s.len ≤ length (drop (positions s l) l ++ bit ∷ [])
    → (positions s (l ++ bit ∷ []) ≡ suc (positions s l)) × (drop (positions s l) (l ++ bit ∷ []) ≡ drop (positions s l) l ++ bit ∷ [])
    × (length (drop (positions s l) l ++ bit ∷ []) ≡ 3 * s.len)
search_long s l bit shape found long =
    let some : 0 < s.len = shape.some_slots in
    let longer : length (l ++ bit ∷ []) ≡ length l + 1 = length_push l bit in
    let held : length (drop (positions s l) l ++ bit ∷ []) ≡ (length l - positions s l) + 1 = length_push (drop (positions s l) l) bit ∙ ap (λ n. n + 1) (length-drop (positions s l) l) in
    let within : positions s l ≤ length l = omega arith in
    (omega arith, drop-append-le (positions s l) l (bit ∷ []) within, omega arith)

-- the positions that were judged before stay so
pub search_before : (s : FrameShape) (l : List Bool) (bit : Bool) → is_found s l ≡ false
    → least_below (positions s l) (λ p. is_confirmed s (drop p (l ++ bit ∷ []))) ≡ positions s l
search_before s l bit found =
    least_below_same (positions s l) _ _ (λ p h. laws.is_confirmed-drop-append s l (bit ∷ []) p h) ∙ sym (laws.gap_of_is s l) ∙ gap_all s l found

-- the position that became whole is confirmed
pub search_confirmed : (s : FrameShape) (l : List Bool) (bit : Bool) → IsFrame s → is_found s l ≡ false
    → 3 * s.len ≤ length (drop (positions s l) l ++ bit ∷ []) → is_confirmed s (drop (positions s l) l ++ bit ∷ []) ≡ true
    → (is_found s (l ++ bit ∷ []) ≡ true) × (gap_of s (l ++ bit ∷ []) ≡ positions s l) × (aligned s (l ++ bit ∷ []) ≡ drop (positions s l) l ++ bit ∷ [])
search_confirmed s l bit shape found long confirmed =
    let facts = search_long s l bit shape found long in
    let more : positions s (l ++ bit ∷ []) ≡ suc (positions s l) = facts.0 in
    let here : is_confirmed s (drop (positions s l) (l ++ bit ∷ [])) ≡ true = rw facts.1 confirmed in
    let gap : gap_of s (l ++ bit ∷ []) ≡ positions s l =
    laws.gap_of_is s (l ++ bit ∷ []) ∙ ap (λ n. least_below n (λ p. is_confirmed s (drop p (l ++ bit ∷ [])))) more
    ∙ least_below_yes (positions s l) (λ p. is_confirmed s (drop p (l ++ bit ∷ []))) (search_before s l bit found) here in
    (lt-ltb _ _ (omega arith), gap, ap (λ n. drop n (l ++ bit ∷ [])) gap ∙ facts.1)

-- the position that became whole isn't confirmed
pub search_rejected : (s : FrameShape) (l : List Bool) (bit : Bool) → IsFrame s → is_found s l ≡ false
    → 3 * s.len ≤ length (drop (positions s l) l ++ bit ∷ []) → is_confirmed s (drop (positions s l) l ++ bit ∷ []) ≡ false
    → (is_found s (l ++ bit ∷ []) ≡ false) × (drop 1 (drop (positions s l) l ++ bit ∷ []) ≡ drop (positions s (l ++ bit ∷ [])) (l ++ bit ∷ []))
    × (track s (l ++ bit ∷ []) ≡ Gap (suc (positions s l)) ∷ [])
search_rejected s l bit shape found long rejected =
    let facts = search_long s l bit shape found long in
    let more : positions s (l ++ bit ∷ []) ≡ suc (positions s l) = facts.0 in
    let here : is_confirmed s (drop (positions s l) (l ++ bit ∷ [])) ≡ false = rw facts.1 rejected in
    let gap : gap_of s (l ++ bit ∷ []) ≡ suc (positions s l) =
    laws.gap_of_is s (l ++ bit ∷ []) ∙ ap (λ n. least_below n (λ p. is_confirmed s (drop p (l ++ bit ∷ [])))) more
    ∙ least_below_no (positions s l) (λ p. is_confirmed s (drop p (l ++ bit ∷ []))) (search_before s l bit found) here in
    let still : is_found s (l ++ bit ∷ []) ≡ false = le-ltb _ _ (omega arith) in
    let held : drop 1 (drop (positions s l) l ++ bit ∷ []) ≡ drop (positions s (l ++ bit ∷ [])) (l ++ bit ∷ []) =
    ap (drop 1) (sym facts.1) ∙ drop-drop 1 (positions s l) (l ++ bit ∷ []) ∙ ap (λ n. drop n (l ++ bit ∷ [])) (omega arith) in
    (still, held, track_searching s (l ++ bit ∷ []) still ∙ ap (λ n. Gap n ∷ []) more)

-- an alignment begins with its three confirming frames
pub search_aligned : (s : FrameShape) (l : List Bool) → IsFrame s → is_found s l ≡ true → length (aligned s l) ≡ 3 * s.len
    → (delivered s l ≡ 3) × (is_lost s l ≡ false) × (after_loss s l ≡ []) × (track s l ≡ Gap (gap_of s l) ∷ map Delivered (map (frame_of s (aligned s l)) (0 ∷ 1 ∷ 2 ∷ [])))
search_aligned s l shape found exact =
    let some : 0 < s.len = shape.some_slots in
    let whole : frames_in s (aligned s l) ≡ 3 = ap (λ n. n / s.len) (exact ∙ sym (add-zero (3 * s.len))) ∙ div-mul-add 3 s.len 0 some in
    let most : delivered s l ≤ frames_in s (aligned s l) = rw (laws.delivered_is s l found) (least_below-le (frames_in s (aligned s l)) (completes_loss s (aligned s l))) in
    let three : delivered s l ≡ 3 = omega (arith, laws.delivered_three s l shape found) in
    let kept : is_lost s l ≡ false = laws.is_lost_is s l found ∙ le-ltb _ _ (omega arith) in
    let rest : after_loss s l ≡ [] = laws.after_loss_is s l ∙ ap (λ n. drop (n * s.len) (aligned s l)) three ∙ drop_all (3 * s.len) (aligned s l) (omega arith) in (
      three,
      kept,
      rest,
      laws.track_open s l kept ∙ laws.one_search_is s l
          ∙ ap (λ n. Gap (gap_of s l) ∷ map (λ k. Delivered (frame_of s (aligned s l) k)) (range_with_len 0 n)) three,
    )

-- ---- an alignment

-- in an alignment that isn't lost all whole frames are delivered
pub all_delivered : (s : FrameShape) (l : List Bool) → is_found s l ≡ true → is_lost s l ≡ false → delivered s l ≡ frames_in s (aligned s l)
all_delivered s l found kept =
    let most : delivered s l ≤ frames_in s (aligned s l) = rw (laws.delivered_is s l found) (least_below-le (frames_in s (aligned s l)) (completes_loss s (aligned s l))) in
    let least : frames_in s (aligned s l) ≤ delivered s l = ltb-false _ _ (sym (laws.is_lost_is s l found) ∙ kept) in
    omega arith

-- what is held of an alignment: less than a frame
pub part_length : (s : FrameShape) (l : List Bool) → IsFrame s → is_found s l ≡ true → is_lost s l ≡ false
    → (length (aligned s l) ≡ delivered s l * s.len + length (after_loss s l)) × (length (after_loss s l) < s.len)
part_length s l shape found kept =
    let some : 0 < s.len = shape.some_slots in
    let all : delivered s l ≡ frames_in s (aligned s l) = all_delivered s l found kept in
    let within : delivered s l * s.len ≤ length (aligned s l) = laws.delivered_within s l shape found in
    let part : length (after_loss s l) ≡ length (aligned s l) - delivered s l * s.len = ap length (laws.after_loss_is s l) ∙ length-drop (delivered s l * s.len) (aligned s l) in
    let rest : length (aligned s l) < frames_in s (aligned s l) * s.len + s.len = lt-div-mul-add some in
    let product : frames_in s (aligned s l) * s.len ≡ delivered s l * s.len = ap (λ n. n * s.len) (sym all) in
    (omega arith, omega arith)

-- what one more bit leaves of an alignment
pub part_push : (s : FrameShape) (l : List Bool) (bit : Bool) → IsFrame s → is_found s l ≡ true
    → drop (delivered s l * s.len) (aligned s (l ++ bit ∷ [])) ≡ after_loss s l ++ bit ∷ []
part_push s l bit shape found =
    ap (drop (delivered s l * s.len)) (laws.aligned-append s l (bit ∷ []) found)
    ∙ drop-append-le (delivered s l * s.len) (aligned s l) (bit ∷ []) (laws.delivered_within s l shape found)
    ∙ ap (λ x. x ++ bit ∷ []) (sym (laws.after_loss_is s l))

-- the frames that were judged before stay so
pub alignment_before : (s : FrameShape) (l : List Bool) (bit : Bool) → IsFrame s → is_found s l ≡ true → is_lost s l ≡ false
    → least_below (delivered s l) (completes_loss s (aligned s (l ++ bit ∷ []))) ≡ delivered s l
alignment_before s l bit shape found kept =
    let all : delivered s l ≡ frames_in s (aligned s l) = all_delivered s l found kept in
    ap (λ x. least_below (delivered s l) (completes_loss s x)) (laws.aligned-append s l (bit ∷ []) found)
    ∙ least_below_same (delivered s l) _ _ (λ k h. laws.completes_loss-append s (aligned s l) (bit ∷ []) k shape (omega arith))
    ∙ ap (λ n. least_below n (completes_loss s (aligned s l))) all ∙ sym (laws.delivered_is s l found)

-- what was wrong in the last three frames stays so
pub judged_push : (s : FrameShape) (l : List Bool) (bit : Bool) (k : ℕ) → IsFrame s → is_found s l ≡ true → is_lost s l ≡ false → k < delivered s l + 3
    → judged s (aligned s (l ++ bit ∷ [])) k ≡ judged s (aligned s l) k
judged_push s l bit k shape found kept h =
    let all : delivered s l ≡ frames_in s (aligned s l) = all_delivered s l found kept in
    ap (λ x. judged s x k) (laws.aligned-append s l (bit ∷ []) found) ∙ laws.judged-append s (aligned s l) (bit ∷ []) k shape (omega arith)

-- the pieces of an alignment that isn't lost
pub track_aligned : (s : FrameShape) (l : List Bool) → is_lost s l ≡ false → track s l ≡ Gap (gap_of s l) ∷ map (λ k. Delivered (frame_of s (aligned s l) k)) (range_with_len 0 (delivered s l))
track_aligned s l kept = laws.track_open s l kept ∙ laws.one_search_is s l

-- the frames delivered so far, in the longer line
pub frames_push : (s : FrameShape) (l : List Bool) (bit : Bool) → IsFrame s → is_found s l ≡ true
    → map (λ k. Delivered (frame_of s (aligned s (l ++ bit ∷ [])) k)) (range_with_len 0 (delivered s l)) ≡ map (λ k. Delivered (frame_of s (aligned s l) k)) (range_with_len 0 (delivered s l))
frames_push s l bit shape found =
    ap (λ x. map (λ k. Delivered (frame_of s x k)) (range_with_len 0 (delivered s l))) (laws.aligned-append s l (bit ∷ []) found)
    ∙ laws.frames-append s (aligned s l) (bit ∷ []) (delivered s l) (laws.delivered_within s l shape found)

-- how many whole frames one more bit makes
pub whole_push : (s : FrameShape) (l : List Bool) (bit : Bool) (n : ℕ) → IsFrame s → is_found s l ≡ true → is_lost s l ≡ false
    → (extra : ℕ) → n * s.len + extra ≡ length (aligned s l) + 1 → extra < s.len → frames_in s (aligned s (l ++ bit ∷ [])) ≡ n
whole_push s l bit n shape found kept extra e h =
    let longer : length (aligned s (l ++ bit ∷ [])) ≡ n * s.len + extra = ap length (laws.aligned-append s l (bit ∷ []) found) ∙ length_push (aligned s l) bit ∙ sym e in
    ap (λ x. x / s.len) longer ∙ div-mul-add n s.len extra h

-- a bit that makes no frame whole
pub alignment_part : (s : FrameShape) (l : List Bool) (bit : Bool) → IsFrame s → is_found s l ≡ true → is_lost s l ≡ false
    → length (after_loss s l ++ bit ∷ []) < s.len
    → (delivered s (l ++ bit ∷ []) ≡ delivered s l) × (is_lost s (l ++ bit ∷ []) ≡ false) × (after_loss s (l ++ bit ∷ []) ≡ after_loss s l ++ bit ∷ []) × (track s (l ++ bit ∷ []) ≡ track s l)
alignment_part s l bit shape found kept short =
    let found' : is_found s (l ++ bit ∷ []) ≡ true = laws.is_found-append s l (bit ∷ []) found in
    let lengths = part_length s l shape found kept in
    let part : length (after_loss s l ++ bit ∷ []) ≡ length (after_loss s l) + 1 = length_push (after_loss s l) bit in
    let whole : frames_in s (aligned s (l ++ bit ∷ [])) ≡ delivered s l = whole_push s l bit (delivered s l) shape found kept (length (after_loss s l) + 1) (omega (arith, lengths.0)) (omega arith) in
    let same : delivered s (l ++ bit ∷ []) ≡ delivered s l =
    laws.delivered_is s (l ++ bit ∷ []) found' ∙ ap (λ n. least_below n (completes_loss s (aligned s (l ++ bit ∷ [])))) whole ∙ alignment_before s l bit shape found kept in
    let kept' : is_lost s (l ++ bit ∷ []) ≡ false = laws.is_lost_is s (l ++ bit ∷ []) found' ∙ le-ltb _ _ (omega arith) in
    let rest : after_loss s (l ++ bit ∷ []) ≡ after_loss s l ++ bit ∷ [] =
    laws.after_loss_is s (l ++ bit ∷ []) ∙ ap (λ n. drop (n * s.len) (aligned s (l ++ bit ∷ []))) same ∙ part_push s l bit shape found in
    let gap : gap_of s (l ++ bit ∷ []) ≡ gap_of s l = laws.gap_of-append s l (bit ∷ []) found in (
      same,
      kept',
      rest,
      track_aligned s (l ++ bit ∷ []) kept' ∙ ap (λ n. Gap n ∷ map (λ k. Delivered (frame_of s (aligned s (l ++ bit ∷ [])) k)) (range_with_len 0 (delivered s (l ++ bit ∷ [])))) gap
          ∙ ap (λ n. Gap (gap_of s l) ∷ map (λ k. Delivered (frame_of s (aligned s (l ++ bit ∷ [])) k)) (range_with_len 0 n)) same
          ∙ ap (λ x. Gap (gap_of s l) ∷ x) (frames_push s l bit shape found) ∙ sym (track_aligned s l kept),
    )

-- the frame that a bit makes whole, and whether it completes a loss
pub alignment_whole : (s : FrameShape) (l : List Bool) (bit : Bool) → IsFrame s → is_found s l ≡ true → is_lost s l ≡ false
    → s.len ≤ length (after_loss s l ++ bit ∷ [])
    → (length (after_loss s l ++ bit ∷ []) ≡ s.len) × (frames_in s (aligned s (l ++ bit ∷ [])) ≡ suc (delivered s l))
    × (frame_of s (aligned s (l ++ bit ∷ [])) (delivered s l) ≡ after_loss s l ++ bit ∷ [])
    × (completes_loss s (aligned s (l ++ bit ∷ [])) (delivered s l) ≡ s.loses (judged s (aligned s l) (delivered s l)) (judged s (aligned s l) (suc (delivered s l))) (judged s (aligned s l) (suc (suc (delivered s l)))) (wrong s (after_loss s l ++ bit ∷ [])))
alignment_whole s l bit shape found kept long =
    let lengths = part_length s l shape found kept in
    let part : length (after_loss s l ++ bit ∷ []) ≡ length (after_loss s l) + 1 = length_push (after_loss s l) bit in
    let exact : length (after_loss s l ++ bit ∷ []) ≡ s.len = omega (arith, lengths.1) in
    let whole : frames_in s (aligned s (l ++ bit ∷ [])) ≡ suc (delivered s l) = whole_push s l bit (suc (delivered s l)) shape found kept 0 (omega (arith, lengths.0)) shape.some_slots in
    let frame : frame_of s (aligned s (l ++ bit ∷ [])) (delivered s l) ≡ after_loss s l ++ bit ∷ [] =
    ap (take s.len) (part_push s l bit shape found) ∙ take_all s.len (after_loss s l ++ bit ∷ []) (omega arith) in
    let a = judged_push s l bit (delivered s l) shape found kept (omega arith) in
    let b = judged_push s l bit (suc (delivered s l)) shape found kept (omega arith) in
    let c = judged_push s l bit (suc (suc (delivered s l))) shape found kept (omega arith) in
    let d : judged s (aligned s (l ++ bit ∷ [])) (suc (suc (suc (delivered s l)))) ≡ wrong s (after_loss s l ++ bit ∷ []) = ap (wrong s) frame in
    (exact, whole, frame, rw (laws.completes_loss_is s (aligned s (l ++ bit ∷ [])) (delivered s l), a, b, c, d) refl)

-- the frame completes a loss
pub alignment_lost : (s : FrameShape) (l : List Bool) (bit : Bool) → IsFrame s → is_found s l ≡ true → is_lost s l ≡ false
    → s.len ≤ length (after_loss s l ++ bit ∷ []) → completes_loss s (aligned s (l ++ bit ∷ [])) (delivered s l) ≡ true
    → (is_lost s (l ++ bit ∷ []) ≡ true) × (after_loss s (l ++ bit ∷ []) ≡ after_loss s l ++ bit ∷ []) × (one_search s (l ++ bit ∷ []) ≡ one_search s l)
alignment_lost s l bit shape found kept long loses =
    let found' : is_found s (l ++ bit ∷ []) ≡ true = laws.is_found-append s l (bit ∷ []) found in
    let facts = alignment_whole s l bit shape found kept long in
    let same : delivered s (l ++ bit ∷ []) ≡ delivered s l =
    laws.delivered_is s (l ++ bit ∷ []) found' ∙ ap (λ n. least_below n (completes_loss s (aligned s (l ++ bit ∷ [])))) facts.1
    ∙ least_below_yes (delivered s l) (completes_loss s (aligned s (l ++ bit ∷ []))) (alignment_before s l bit shape found kept) loses in
    let whole : frames_in s (aligned s (l ++ bit ∷ [])) ≡ suc (delivered s l) = facts.1 in
    let lost : is_lost s (l ++ bit ∷ []) ≡ true = laws.is_lost_is s (l ++ bit ∷ []) found' ∙ lt-ltb _ _ (omega arith) in
    let rest : after_loss s (l ++ bit ∷ []) ≡ after_loss s l ++ bit ∷ [] =
    laws.after_loss_is s (l ++ bit ∷ []) ∙ ap (λ n. drop (n * s.len) (aligned s (l ++ bit ∷ []))) same ∙ part_push s l bit shape found in
    let gap : gap_of s (l ++ bit ∷ []) ≡ gap_of s l = laws.gap_of-append s l (bit ∷ []) found in (
      lost,
      rest,
      laws.one_search_is s (l ++ bit ∷ []) ∙ ap (λ n. Gap n ∷ map (λ k. Delivered (frame_of s (aligned s (l ++ bit ∷ [])) k)) (range_with_len 0 (delivered s (l ++ bit ∷ [])))) gap
          ∙ ap (λ n. Gap (gap_of s l) ∷ map (λ k. Delivered (frame_of s (aligned s (l ++ bit ∷ [])) k)) (range_with_len 0 n)) same
          ∙ ap (λ x. Gap (gap_of s l) ∷ x) (frames_push s l bit shape found) ∙ sym (laws.one_search_is s l),
    )

-- the frame is delivered
pub alignment_frame : (s : FrameShape) (l : List Bool) (bit : Bool) → IsFrame s → is_found s l ≡ true → is_lost s l ≡ false
    → s.len ≤ length (after_loss s l ++ bit ∷ []) → completes_loss s (aligned s (l ++ bit ∷ [])) (delivered s l) ≡ false
    → (delivered s (l ++ bit ∷ []) ≡ suc (delivered s l)) × (is_lost s (l ++ bit ∷ []) ≡ false) × (after_loss s (l ++ bit ∷ []) ≡ [])
    × (track s (l ++ bit ∷ []) ≡ track s l ++ Delivered (after_loss s l ++ bit ∷ []) ∷ [])
alignment_frame s l bit shape found kept long fine =
    let found' : is_found s (l ++ bit ∷ []) ≡ true = laws.is_found-append s l (bit ∷ []) found in
    let facts = alignment_whole s l bit shape found kept long in
    let lengths = part_length s l shape found kept in
    let more : delivered s (l ++ bit ∷ []) ≡ suc (delivered s l) =
    laws.delivered_is s (l ++ bit ∷ []) found' ∙ ap (λ n. least_below n (completes_loss s (aligned s (l ++ bit ∷ [])))) facts.1
    ∙ least_below_no (delivered s l) (completes_loss s (aligned s (l ++ bit ∷ []))) (alignment_before s l bit shape found kept) fine in
    let whole : frames_in s (aligned s (l ++ bit ∷ [])) ≡ suc (delivered s l) = facts.1 in
    let kept' : is_lost s (l ++ bit ∷ []) ≡ false = laws.is_lost_is s (l ++ bit ∷ []) found' ∙ le-ltb _ _ (omega arith) in
    let longer : length (aligned s (l ++ bit ∷ [])) ≡ length (aligned s l) + 1 = ap length (laws.aligned-append s l (bit ∷ []) found) ∙ length_push (aligned s l) bit in
    let part : length (after_loss s l ++ bit ∷ []) ≡ length (after_loss s l) + 1 = length_push (after_loss s l) bit in
    let rest : after_loss s (l ++ bit ∷ []) ≡ [] =
    laws.after_loss_is s (l ++ bit ∷ []) ∙ ap (λ n. drop (n * s.len) (aligned s (l ++ bit ∷ []))) more
    ∙ drop_all (suc (delivered s l) * s.len) (aligned s (l ++ bit ∷ [])) (omega (arith, lengths.0, facts.0)) in
    let gap : gap_of s (l ++ bit ∷ []) ≡ gap_of s l = laws.gap_of-append s l (bit ∷ []) found in
    let frames : map (λ k. Delivered (frame_of s (aligned s (l ++ bit ∷ [])) k)) (range_with_len 0 (delivered s (l ++ bit ∷ [])))
    ≡ map (λ k. Delivered (frame_of s (aligned s l) k)) (range_with_len 0 (delivered s l)) ++ Delivered (after_loss s l ++ bit ∷ []) ∷ [] =
    ap (λ n. map (λ k. Delivered (frame_of s (aligned s (l ++ bit ∷ [])) k)) (range_with_len 0 n)) (more ∙ sym (add-one (delivered s l)))
    ∙ map-range_with_len_more (λ k. Delivered (frame_of s (aligned s (l ++ bit ∷ [])) k)) 0 (delivered s l) (delivered s l) (omega arith)
    ∙ ap (λ x. x ++ Delivered (frame_of s (aligned s (l ++ bit ∷ [])) (delivered s l)) ∷ []) (frames_push s l bit shape found)
    ∙ ap (λ x. map (λ k. Delivered (frame_of s (aligned s l) k)) (range_with_len 0 (delivered s l)) ++ Delivered x ∷ []) facts.2 in (
      more,
      kept',
      rest,
      track_aligned s (l ++ bit ∷ []) kept' ∙ ap (λ n. Gap n ∷ map (λ k. Delivered (frame_of s (aligned s (l ++ bit ∷ [])) k)) (range_with_len 0 (delivered s (l ++ bit ∷ [])))) gap
          ∙ ap (λ x. Gap (gap_of s l) ∷ x) frames ∙ ap (λ x. x ++ Delivered (after_loss s l ++ bit ∷ []) ∷ []) (sym (track_aligned s l kept)),
    )

-- ---- what pieces cover

pub covered-append : (s : FrameShape) (a b : List Piece) → covered s (a ++ b) ≡ covered s a + covered s b
covered-append s a b = sum_by-append (bits_covered s) a b

-- frames, one after another
covered_frames : (s : FrameShape) (f : ℕ → List Bool) (from n : ℕ) → covered s (map (λ k. Delivered (f k)) (range_with_len from n)) ≡ n * s.len
covered_frames s f from zero = omega arith
covered_frames s f from (suc n) =
    let rest : covered s (map (λ k. Delivered (f k)) (range_with_len (from + 1) n)) ≡ n * s.len = covered_frames s f (from + 1) n in
    sum_by-cons (bits_covered s) (Delivered (f from)) (map (λ k. Delivered (f k)) (range_with_len (from + 1) n)) ∙ omega (arith, rest)

-- the pieces of a search that ended in an alignment cover the bits before what follows them
pub search_covered : (s : FrameShape) (l : List Bool) → IsFrame s → is_found s l ≡ true → (front : List Bool) × (l ≡ front ++ after_loss s l) × (length front ≡ covered s (one_search s l))
search_covered s l shape found =
    let gap : ℕ = gap_of s l in
    let frames : ℕ = delivered s l * s.len in
    let lt : gap < positions s l = ltb-true _ _ found in
    let within : frames ≤ length (aligned s l) = laws.delivered_within s l shape found in
    let long : length (aligned s l) ≡ length l - gap = length-drop gap l in
    let pieces : List Piece = map (λ k. Delivered (frame_of s (aligned s l) k)) (range_with_len 0 (delivered s l)) in
    let sum : covered s (one_search s l) ≡ gap + frames =
    ap (covered s) (laws.one_search_is s l) ∙ sum_by-cons (bits_covered s) (Gap gap) pieces ∙ ap (λ n. gap + n) (covered_frames s (frame_of s (aligned s l)) 0 (delivered s l)) in
    let count : length (take (gap + frames) l) ≡ gap + frames = length-take-le (gap + frames) l (omega (arith, within, long, lt)) in
    let after : drop (gap + frames) l ≡ after_loss s l = sym (drop-drop frames gap l) ∙ sym (laws.after_loss_is s l) in
    (take (gap + frames) l, sym (take-append-drop (gap + frames) l) ∙ ap (λ x. take (gap + frames) l ++ x) after, count ∙ sym sum)

-- ---- a turn of the machine

-- the settled pieces and those since
pub stands_now : (s : FrameShape) (phase : Phase) (line : List Bool) (h : Follows s phase line) → track s line ≡ h.settled ++ track s h.since
stands_now s phase line h = ap (track s) (sym (append-nil line)) ∙ h.splits [] ∙ ap (λ x. h.settled ++ track s x) (append-nil h.since)

-- with one more bit
pub stands_push : (s : FrameShape) (phase : Phase) (line : List Bool) (h : Follows s phase line) (bit : Bool) (more : List Bool)
    → track s (line ++ bit ∷ [] ++ more) ≡ h.settled ++ track s (h.since ++ bit ∷ [] ++ more)
stands_push s phase line h bit more =
    ap (track s) (append_assoc line (bit ∷ []) more) ∙ h.splits (bit ∷ more) ∙ ap (λ x. h.settled ++ track s x) (sym (append_assoc h.since (bit ∷ []) more))

-- a search that holds these bits follows from the line, and these are the bits since it began
abbrev pub Began : FrameShape → List Bool → List Bool → List Bool → Type 0
Began s held since line = (next : Follows s (Searching held) line) × (next.since ≡ since)

-- a machine that has taken no bit
pub stands_empty : (s : FrameShape) (search : Sought) → IsFrame s → Searches s search [] [] → StandsFor s (record { phase = Searching []; search = search; ready = [] }) []
stands_empty s search shape begun =
    let some : 0 < s.len = shape.some_slots in
    let none : 0 ≡ positions s [] = omega (arith, some) in
    record {
      follows = record { settled = []; front = []; since = []; parts = refl; covers = refl; splits = λ more. refl; describes = ((short_search s [] (omega arith)).0, ap (λ n. drop n []) none) };
      searches = begun;
    }

-- the bits since a search began, one bit on; a loss begins another one
abbrev pub SinceGoes : Bool → Phase → List Bool → Phase → List Bool → Type 0
SinceGoes bit (Searching held) since (Searching now) after = after ≡ since ++ bit ∷ []
SinceGoes bit (Tracking a b c part) since (Searching now) after = after ≡ now
SinceGoes bit before since (Tracking a b c part) after = Unit {0}

-- what a turn keeps and tells
abbrev pub IsTurn : (s : FrameShape) (phase : Phase) (line : List Bool) → Follows s phase line → Bool → Turn → Type 0
IsTurn s phase line h bit t =
    (next : Follows s t.phase (line ++ bit ∷ [])) × Grows t.step t.ready (track s line) (track s (line ++ bit ∷ [])) × SinceGoes bit phase h.since t.phase next.since

-- the machine's bits since a settled place, one bit on
abbrev pub keeps : (s : FrameShape) (before after : Phase) (line : List Bool) (bit : Bool) (h : Follows s before line)
    → Describes s after (h.since ++ bit ∷ []) → Follows s after (line ++ bit ∷ [])
keeps s before after line bit h d = record {
  settled = h.settled;
  front = h.front;
  since = h.since ++ bit ∷ [];
  parts = ap (λ x. x ++ bit ∷ []) h.parts ∙ append_assoc h.front h.since (bit ∷ []);
  covers = h.covers;
  splits = stands_push s before line h bit;
  describes = d;
}

-- a search goes on with no position more
pub search_waits : (s : FrameShape) (held line : List Bool) (bit : Bool) → IsFrame s → (h : Follows s (Searching held) line) → length (held ++ bit ∷ []) < 3 * s.len
    → IsTurn s (Searching held) line h bit (record { phase = Searching (held ++ bit ∷ []); step = Nothing; ready = [] })
search_waits s held line bit shape h short =
    let is : held ≡ drop (positions s h.since) h.since = h.describes.1 in
    let short' : length (drop (positions s h.since) h.since ++ bit ∷ []) < 3 * s.len = rw (← is) short in
    let facts = search_short s h.since bit shape h.describes.0 short' in (
      keeps s (Searching held) (Searching (held ++ bit ∷ [])) line bit h (facts.0, ap (λ x. x ++ bit ∷ []) is ∙ facts.1),
      (refl, h.splits (bit ∷ []) ∙ ap (λ x. h.settled ++ x) facts.2 ∙ sym (stands_now s (Searching held) line h)),
      refl,
    )

-- a search gives up a position
search_gives_up : (s : FrameShape) (held line : List Bool) (bit : Bool) → IsFrame s → (h : Follows s (Searching held) line) → 3 * s.len ≤ length (held ++ bit ∷ [])
    → is_confirmed s (held ++ bit ∷ []) ≡ false
    → IsTurn s (Searching held) line h bit (record { phase = Searching (drop 1 (held ++ bit ∷ [])); step = Rejected; ready = [] })
search_gives_up s held line bit shape h long rejected =
    let is : held ≡ drop (positions s h.since) h.since = h.describes.1 in
    let long' : 3 * s.len ≤ length (drop (positions s h.since) h.since ++ bit ∷ []) = rw (← is) long in
    let rejected' : is_confirmed s (drop (positions s h.since) h.since ++ bit ∷ []) ≡ false = rw (← is) rejected in
    let facts = search_rejected s h.since bit shape h.describes.0 long' rejected' in (
      keeps s (Searching held) (Searching (drop 1 (held ++ bit ∷ []))) line bit h (facts.0, ap (λ x. drop 1 (x ++ bit ∷ [])) is ∙ facts.1),
      (
        h.settled,
        positions s h.since,
        refl,
        stands_now s (Searching held) line h ∙ ap (λ x. h.settled ++ x) (track_searching s h.since h.describes.0),
        h.splits (bit ∷ []) ∙ ap (λ x. h.settled ++ x) facts.2,
      ),
      refl,
    )

-- a search ends
search_ends : (s : FrameShape) (held line : List Bool) (bit : Bool) → IsFrame s → (h : Follows s (Searching held) line) → 3 * s.len ≤ length (held ++ bit ∷ [])
    → is_confirmed s (held ++ bit ∷ []) ≡ true
    → IsTurn s (Searching held) line h bit (record { phase = Tracking (clean) (clean) (clean) []; step = Aligned; ready = map (frame_of s (held ++ bit ∷ [])) (0 ∷ 1 ∷ 2 ∷ []) })
search_ends s held line bit shape h long confirmed =
    let is : held ≡ drop (positions s h.since) h.since = h.describes.1 in
    let long' : 3 * s.len ≤ length (drop (positions s h.since) h.since ++ bit ∷ []) = rw (← is) long in
    let confirmed' : is_confirmed s (drop (positions s h.since) h.since ++ bit ∷ []) ≡ true = rw (← is) confirmed in
    let facts = search_confirmed s h.since bit shape h.describes.0 long' confirmed' in
    let now : aligned s (h.since ++ bit ∷ []) ≡ held ++ bit ∷ [] = facts.2 ∙ ap (λ x. x ++ bit ∷ []) (sym is) in
    let exact : length (aligned s (h.since ++ bit ∷ [])) ≡ 3 * s.len = ap length facts.2 ∙ (search_long s h.since bit shape h.describes.0 long').2 in
    let start = search_aligned s (h.since ++ bit ∷ []) shape facts.0 exact in
    let rights = laws.confirmed_right s (held ++ bit ∷ []) confirmed in
    let at : (n : ℕ) (x : List Bool) → Type 0 = λ n x. (clean ≡ judged s x n) × (clean ≡ judged s x (suc n)) × (clean ≡ judged s x (suc (suc n))) in
    let here : at 3 (held ++ bit ∷ []) = (sym (wrong_of_right s _ rights.0), sym (wrong_of_right s _ rights.1), sym (wrong_of_right s _ rights.2)) in
    let now_is = laws.marks_back_is s (aligned s (h.since ++ bit ∷ [])) (delivered s (h.since ++ bit ∷ [])) in
    let there : at (delivered s (h.since ++ bit ∷ [])) (aligned s (h.since ++ bit ∷ [])) = rw (start.0, now) here in
    let frames : List (List Bool) → List Piece = λ fs. map Delivered fs in
    let was : track s line ≡ h.settled ++ Gap (positions s h.since) ∷ [] = stands_now s (Searching held) line h ∙ ap (λ x. h.settled ++ x) (track_searching s h.since h.describes.0) in
    let ready : List Piece = frames (map (frame_of s (held ++ bit ∷ [])) (0 ∷ 1 ∷ 2 ∷ [])) in (
      keeps s (Searching held) (Tracking (clean) (clean) (clean) []) line bit h (facts.0, start.1, there.0 ∙ sym (now_is.0), there.1 ∙ sym (now_is.1), there.2 ∙ sym (now_is.2), sym start.2),
      (
        h.settled,
        positions s h.since,
        refl,
        was,
        h.splits (bit ∷ []) ∙ ap (λ x. h.settled ++ x) start.3
            ∙ ap (λ n. h.settled ++ (Gap n ∷ frames (map (frame_of s (aligned s (h.since ++ bit ∷ []))) (0 ∷ 1 ∷ 2 ∷ [])))) facts.1
            ∙ ap (λ x. h.settled ++ (Gap (positions s h.since) ∷ frames (map (frame_of s x) (0 ∷ 1 ∷ 2 ∷ [])))) now
            ∙ sym (append_assoc h.settled (Gap (positions s h.since) ∷ []) ready) ∙ ap (λ x. x ++ ready) (sym was),
      ),
      tt,
    )

-- an alignment goes on within a frame
pub alignment_waits : (s : FrameShape) (a b c : Marks) (part line : List Bool) (bit : Bool) → IsFrame s → (h : Follows s (Tracking a b c part) line) → length (part ++ bit ∷ []) < s.len
    → IsTurn s (Tracking a b c part) line h bit (record { phase = Tracking a b c (part ++ bit ∷ []); step = Nothing; ready = [] })
alignment_waits s a b c part line bit shape h short =
    let is : part ≡ after_loss s h.since = h.describes.5 in
    let short' : length (after_loss s h.since ++ bit ∷ []) < s.len = rw (← is) short in
    let found : is_found s h.since ≡ true = h.describes.0 in
    let kept : is_lost s h.since ≡ false = h.describes.1 in
    let was = laws.marks_back_is s (aligned s h.since) (delivered s h.since) in
    let a_is : a ≡ judged s (aligned s h.since) (delivered s h.since) = h.describes.2 ∙ was.0 in
    let b_is : b ≡ judged s (aligned s h.since) (suc (delivered s h.since)) = h.describes.3 ∙ was.1 in
    let c_is : c ≡ judged s (aligned s h.since) (suc (suc (delivered s h.since))) = h.describes.4 ∙ was.2 in
    let facts = alignment_part s h.since bit shape found kept short' in
    let same : delivered s (h.since ++ bit ∷ []) ≡ delivered s h.since = facts.0 in
    let d : (k : ℕ) → k < delivered s h.since + 3 → judged s (aligned s (h.since ++ bit ∷ [])) k ≡ judged s (aligned s h.since) k = λ k lt. judged_push s h.since bit k shape found kept lt in
    let at : (n : ℕ) → Type 0 = λ n. (a ≡ judged s (aligned s (h.since ++ bit ∷ [])) n) × (b ≡ judged s (aligned s (h.since ++ bit ∷ [])) (suc n)) × (c ≡ judged s (aligned s (h.since ++ bit ∷ [])) (suc (suc n))) in
    let here : at (delivered s h.since) = (a_is ∙ sym (d (delivered s h.since) (omega arith)), b_is ∙ sym (d (suc (delivered s h.since)) (omega arith)), c_is ∙ sym (d (suc (suc (delivered s h.since))) (omega arith))) in
    let now_is = laws.marks_back_is s (aligned s (h.since ++ bit ∷ [])) (delivered s (h.since ++ bit ∷ [])) in
    let there : at (delivered s (h.since ++ bit ∷ [])) = subst at (sym same) here in (
      keeps s (Tracking a b c part) (Tracking a b c (part ++ bit ∷ [])) line bit h
          (laws.is_found-append s h.since (bit ∷ []) found, facts.1, there.0 ∙ sym (now_is.0), there.1 ∙ sym (now_is.1), there.2 ∙ sym (now_is.2), ap (λ x. x ++ bit ∷ []) is ∙ sym facts.2),
      (refl, h.splits (bit ∷ []) ∙ ap (λ x. h.settled ++ x) facts.3 ∙ sym (stands_now s (Tracking a b c part) line h)),
      tt,
    )

-- the pieces of an alignment end with a frame
ends_with_frame : (s : FrameShape) (l : List Bool) → IsFrame s → is_found s l ≡ true → is_lost s l ≡ false → (others : List Piece) × (last : List Bool) × (track s l ≡ others ++ Delivered last ∷ [])
ends_with_frame s l shape found kept =
    let f : ℕ → Piece = λ k. Delivered (frame_of s (aligned s l) k) in
    let before : ℕ = delivered s l - 1 in
    let count : delivered s l ≡ before + 1 = omega (arith, laws.delivered_three s l shape found) in (
      Gap (gap_of s l) ∷ map f (range_with_len 0 before),
      frame_of s (aligned s l) before,
      track_aligned s l kept ∙ ap (λ n. Gap (gap_of s l) ∷ map f (range_with_len 0 n)) count
          ∙ ap (λ x. Gap (gap_of s l) ∷ x) (map-range_with_len_more f 0 before before (omega arith)),
    )

-- so do the pieces of a line that is aligned
pub line_ends_with_frame : (s : FrameShape) (a b c : Marks) (part line : List Bool) → IsFrame s → Follows s (Tracking a b c part) line → (others : List Piece) × (last : List Bool) × (track s line ≡ others ++ Delivered last ∷ [])
line_ends_with_frame s a b c part line shape h =
    let ends = ends_with_frame s h.since shape h.describes.0 h.describes.1 in (
      h.settled ++ ends.0,
      ends.1,
      stands_now s (Tracking a b c part) line h ∙ ap (λ x. h.settled ++ x) ends.2 ∙ sym (append_assoc h.settled ends.0 (Delivered ends.1 ∷ [])),
    )

-- a frame ends and completes a loss
alignment_ends : (s : FrameShape) (a b c : Marks) (part line : List Bool) (bit : Bool) → IsFrame s → (h : Follows s (Tracking a b c part) line) → s.len ≤ length (part ++ bit ∷ [])
    → s.loses a b c (wrong s (part ++ bit ∷ [])) ≡ true
    → IsTurn s (Tracking a b c part) line h bit (record { phase = Searching (part ++ bit ∷ []); step = Lost; ready = [] })
alignment_ends s a b c part line bit shape h long loses =
    let some : 0 < s.len = shape.some_slots in
    let is : part ≡ after_loss s h.since = h.describes.5 in
    let long' : s.len ≤ length (after_loss s h.since ++ bit ∷ []) = rw (← is) long in
    let found : is_found s h.since ≡ true = h.describes.0 in
    let kept : is_lost s h.since ≡ false = h.describes.1 in
    let was = laws.marks_back_is s (aligned s h.since) (delivered s h.since) in
    let a_is : a ≡ judged s (aligned s h.since) (delivered s h.since) = h.describes.2 ∙ was.0 in
    let b_is : b ≡ judged s (aligned s h.since) (suc (delivered s h.since)) = h.describes.3 ∙ was.1 in
    let c_is : c ≡ judged s (aligned s h.since) (suc (suc (delivered s h.since))) = h.describes.4 ∙ was.2 in
    let whole = alignment_whole s h.since bit shape found kept long' in
    let loses' : completes_loss s (aligned s (h.since ++ bit ∷ [])) (delivered s h.since) ≡ true =
    rw (whole.3, ← a_is, ← b_is, ← c_is, ← is) loses in
    let facts = alignment_lost s h.since bit shape found kept long' loses' in
    let rest : after_loss s (h.since ++ bit ∷ []) ≡ part ++ bit ∷ [] = facts.1 ∙ ap (λ x. x ++ bit ∷ []) (sym is) in
    let exact : length (part ++ bit ∷ []) ≡ s.len = ap (λ x. length (x ++ bit ∷ [])) is ∙ whole.0 in
    let none : positions s (part ++ bit ∷ []) ≡ 0 = omega arith in
    let short = short_search s (part ++ bit ∷ []) none in
    let pieces : List Piece = one_search s (h.since ++ bit ∷ []) in
    let open_before : track s h.since ≡ pieces = laws.track_open s h.since kept ∙ sym facts.2 in
    let cut = search_covered s (h.since ++ bit ∷ []) shape (laws.is_lost_found s (h.since ++ bit ∷ []) facts.0) in
    let ends = line_ends_with_frame s a b c part line shape h in (
      record {
        settled = h.settled ++ pieces;
        front = h.front ++ cut.0;
        since = part ++ bit ∷ [];
        parts = ap (λ x. x ++ bit ∷ []) h.parts ∙ append_assoc h.front h.since (bit ∷ []) ∙ ap (λ x. h.front ++ x) (cut.1 ∙ ap (λ x. cut.0 ++ x) rest)
            ∙ sym (append_assoc h.front cut.0 (part ++ bit ∷ []));
        covers = length-append h.front cut.0 ∙ ap (λ n. n + length cut.0) h.covers ∙ ap (λ n. covered s h.settled + n) cut.2 ∙ sym (covered-append s h.settled pieces);
        splits = λ more. stands_push s (Tracking a b c part) line h bit more
            ∙ ap (λ x. h.settled ++ x) (laws.track_lost-append s (h.since ++ bit ∷ []) more shape facts.0)
            ∙ ap (λ x. h.settled ++ (pieces ++ track s (x ++ more))) rest
            ∙ sym (append_assoc h.settled pieces (track s (part ++ bit ∷ [] ++ more)));
        describes = (short.0, ap (λ n. drop n (part ++ bit ∷ [])) (sym none));
      },
      (
        ends.0,
        ends.1,
        refl,
        ends.2,
        h.splits (bit ∷ []) ∙ ap (λ x. h.settled ++ x) (laws.track_lost s (h.since ++ bit ∷ []) shape facts.0)
            ∙ ap (λ x. h.settled ++ (pieces ++ track s x)) rest ∙ ap (λ x. h.settled ++ (pieces ++ x)) short.1
            ∙ sym (append_assoc h.settled pieces (Gap 0 ∷ []))
            ∙ ap (λ x. h.settled ++ x ++ Gap 0 ∷ []) (sym open_before) ∙ ap (λ x. x ++ Gap 0 ∷ []) (sym (stands_now s (Tracking a b c part) line h)),
      ),
      refl,
    )

-- a frame ends and is delivered
alignment_delivers : (s : FrameShape) (a b c : Marks) (part line : List Bool) (bit : Bool) → IsFrame s → (h : Follows s (Tracking a b c part) line) → s.len ≤ length (part ++ bit ∷ [])
    → s.loses a b c (wrong s (part ++ bit ∷ [])) ≡ false
    → IsTurn s (Tracking a b c part) line h bit (record { phase = Tracking b c (wrong s (part ++ bit ∷ [])) []; step = Frame; ready = (part ++ bit ∷ []) ∷ [] })
alignment_delivers s a b c part line bit shape h long fine =
    let is : part ≡ after_loss s h.since = h.describes.5 in
    let long' : s.len ≤ length (after_loss s h.since ++ bit ∷ []) = rw (← is) long in
    let found : is_found s h.since ≡ true = h.describes.0 in
    let kept : is_lost s h.since ≡ false = h.describes.1 in
    let was = laws.marks_back_is s (aligned s h.since) (delivered s h.since) in
    let a_is : a ≡ judged s (aligned s h.since) (delivered s h.since) = h.describes.2 ∙ was.0 in
    let b_is : b ≡ judged s (aligned s h.since) (suc (delivered s h.since)) = h.describes.3 ∙ was.1 in
    let c_is : c ≡ judged s (aligned s h.since) (suc (suc (delivered s h.since))) = h.describes.4 ∙ was.2 in
    let whole = alignment_whole s h.since bit shape found kept long' in
    let fine' : completes_loss s (aligned s (h.since ++ bit ∷ [])) (delivered s h.since) ≡ false =
    rw (whole.3, ← a_is, ← b_is, ← c_is, ← is) fine in
    let facts = alignment_frame s h.since bit shape found kept long' fine' in
    let last : wrong s (part ++ bit ∷ []) ≡ judged s (aligned s (h.since ++ bit ∷ [])) (suc (suc (suc (delivered s h.since)))) = ap (wrong s) (ap (λ x. x ++ bit ∷ []) is ∙ sym whole.2) in
    let d : (k : ℕ) → k < delivered s h.since + 3 → judged s (aligned s (h.since ++ bit ∷ [])) k ≡ judged s (aligned s h.since) k = λ k lt. judged_push s h.since bit k shape found kept lt in
    let at : (n : ℕ) → Type 0 = λ n. (b ≡ judged s (aligned s (h.since ++ bit ∷ [])) n) × (c ≡ judged s (aligned s (h.since ++ bit ∷ [])) (suc n)) × (wrong s (part ++ bit ∷ []) ≡ judged s (aligned s (h.since ++ bit ∷ [])) (suc (suc n))) in
    let here : at (suc (delivered s h.since)) = (b_is ∙ sym (d (suc (delivered s h.since)) (omega arith)), c_is ∙ sym (d (suc (suc (delivered s h.since))) (omega arith)), last) in
    let now_is = laws.marks_back_is s (aligned s (h.since ++ bit ∷ [])) (delivered s (h.since ++ bit ∷ [])) in
    let there : at (delivered s (h.since ++ bit ∷ [])) = subst at (sym facts.0) here in
    let ends = line_ends_with_frame s a b c part line shape h in (
      keeps s (Tracking a b c part) (Tracking b c (wrong s (part ++ bit ∷ [])) []) line bit h
          (laws.is_found-append s h.since (bit ∷ []) found, facts.1, there.0 ∙ sym (now_is.0), there.1 ∙ sym (now_is.1), there.2 ∙ sym (now_is.2), sym facts.2),
      (
        ends.0,
        ends.1,
        refl,
        ends.2,
        h.splits (bit ∷ []) ∙ ap (λ x. h.settled ++ x) facts.3 ∙ sym (append_assoc h.settled (track s h.since) (Delivered (after_loss s h.since ++ bit ∷ []) ∷ []))
            ∙ ap (λ x. x ++ Delivered (after_loss s h.since ++ bit ∷ []) ∷ []) (sym (stands_now s (Tracking a b c part) line h))
            ∙ ap (λ x. track s line ++ Delivered (x ++ bit ∷ []) ∷ []) (sym is),
      ),
      tt,
    )

-- the steps of a machine are the growth of the tracking
pub turn_grows : (s : FrameShape) (phase : Phase) (line : List Bool) (bit : Bool) → IsFrame s → (h : Follows s phase line) → IsTurn s phase line h bit (turn s phase bit)
unfolding turn
turn_grows s (Searching held) line bit shape h =
    elim (cases_Bool (ltb (length (held ++ bit ∷ [])) (3 * s.len))) [
      | inl short ↦ rw short (search_waits s held line bit shape h (ltb-true _ _ short))
      | inr long ↦ elim (cases_Bool (is_confirmed s (held ++ bit ∷ []))) [
        | inl confirmed ↦ rw (long, confirmed) (search_ends s held line bit shape h (ltb-false _ _ long) confirmed)
        | inr rejected ↦ rw (long, rejected) (search_gives_up s held line bit shape h (ltb-false _ _ long) rejected)
      ]
    ]
turn_grows s (Tracking a b c part) line bit shape h =
    elim (cases_Bool (ltb (length (part ++ bit ∷ [])) s.len)) [
      | inl short ↦ rw short (alignment_waits s a b c part line bit shape h (ltb-true _ _ short))
      | inr long ↦ elim (cases_Bool (s.loses a b c (wrong s (part ++ bit ∷ [])))) [
        | inl loses ↦ rw (long, loses) (alignment_ends s a b c part line bit shape h (ltb-false _ _ long) loses)
        | inr fine ↦ rw (long, fine) (alignment_delivers s a b c part line bit shape h (ltb-false _ _ long) fine)
      ]
    ]

-- what the search keeps goes on with the bits since it began
goes_on : (s : FrameShape) (bit : Bool) (old new : Sought) (before after : Phase) (since now : List Bool)
    → SinceGoes bit before since after now → SearchGoesOn s bit old new before after → SearchesSince s old before since → SearchesSince s new after now
goes_on s bit old new (Searching held) (Searching next) since now e go h = subst (λ x. Searches s new next x) (sym e) (go since h)
goes_on s bit old new (Searching held) (Tracking a b c part) since now e go h = tt
goes_on s bit old new (Tracking a b c part) (Searching next) since now e go h = subst (λ x. Searches s new next x) (sym e) go
goes_on s bit old new (Tracking a b c part) (Tracking a' b' c' part') since now e go h = tt

-- a turn of the machine tracks the line
pub turns_tracks : (s : FrameShape) (before after : Held) (bit : Bool) (step : Step) (line : List Bool) → IsFrame s
    → Turns s before after bit step → StandsFor s before line → Tracks s before after bit step line
turns_tracks s before after bit step line shape t h =
    let facts = turn_grows s before.phase line bit shape h.follows in
    let next = subst (λ p. (f : Follows s p (line ++ bit ∷ [])) × SinceGoes bit before.phase h.follows.since p f.since) (sym t.phase) (facts.0, facts.2) in
    record {
      stands = record { follows = next.0; searches = goes_on s bit before.search after.search before.phase after.phase h.follows.since (next.0).since next.1 t.search h.searches };
      grows = rw (t.step_is, t.ready) facts.1;
    }

-- a turn makes as many frames ready as its step says
turn_ready : (s : FrameShape) (phase : Phase) (bit : Bool) → length (turn s phase bit).ready ≡ frames_gained (turn s phase bit).step
unfolding turn
turn_ready s (Searching held) bit =
    elim (cases_Bool (ltb (length (held ++ bit ∷ [])) (3 * s.len))) [
      | inl short ↦ rw short refl
      | inr long ↦ elim (cases_Bool (is_confirmed s (held ++ bit ∷ []))) [
        | inl confirmed ↦ rw (long, confirmed) refl
        | inr rejected ↦ rw (long, rejected) refl
      ]
    ]
turn_ready s (Tracking a b c part) bit =
    elim (cases_Bool (ltb (length (part ++ bit ∷ [])) s.len)) [
      | inl short ↦ rw short refl
      | inr long ↦ elim (cases_Bool (s.loses a b c (wrong s (part ++ bit ∷ [])))) [
        | inl loses ↦ rw (long, loses) refl
        | inr fine ↦ rw (long, fine) refl
      ]
    ]

pub turns_ready : (s : FrameShape) (before after : Held) (bit : Bool) (step : Step) → Turns s before after bit step → length after.ready ≡ frames_gained step
turns_ready s before after bit step t = ap length t.ready ∙ turn_ready s before.phase bit ∙ ap frames_gained (sym t.step_is)

-- ---- ready frames that are taken out

-- an aligner stands for the same line, whatever frames are ready
pub stands_on : (s : FrameShape) (held now : Held) (line : List Bool) → now ≡ record held { ready = now.ready } → StandsFor s held line → StandsFor s now line
stands_on s held now line is h = subst (λ (x : Held). StandsFor s x line) (sym is) (record { follows = h.follows; searches = h.searches })
