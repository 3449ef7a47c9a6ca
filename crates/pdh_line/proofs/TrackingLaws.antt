-- Laws of tracking: what a longer line keeps, and that enough searches are enough.
use Rattle.std.proofs.Common.{◌≡◌, ℕ, zero, suc, ◌+◌, ◌-◌, ◌*◌, ◌<◌, ◌≤◌, Bool, true, false, ◌&&◌, cond, ltb, List, ◌∷◌, ◌++◌, length, map, drop, refl, sym, ap, ◌∙◌, inl, inr, arith, length-append, length-drop}
use Rattle.std.specs.List.{range_with_len}
use Rattle.std.proofs.lemmas.List.{take-append-le, drop-append-le, append-nil}
use Rattle.std.proofs.lemmas.Bool.{ltb-true, lt-ltb, cases_Bool}
use Rattle.std.proofs.lemmas.Bool.Decides.{nat_tests}
use Rattle.std.proofs.lemmas.Nat.{le-div}
use Rattle.std.proofs.Math.Nat.{mul-le-mul_right, le-div_iff_mul-le, div-mul-le_self}
use Rattle.std.specs.Prelude.{nat_le}
use Rattle.pdh_shape.specs.Frame.{FrameShape, IsFrame, wrong, clean, is_right}
use Rattle.pdh_shape.specs.declared.role.Marks.{Marks}
use Rattle.pdh_line.specs.Least.{least_below}
use Rattle.pdh_line.specs.Tracking.{frame_of, is_confirmed, positions, gap_of, is_found, aligned, marks_back, completes_loss, frames_in, delivered, is_lost, after_loss, one_search, track_within, track}
use Rattle.pdh_line.specs.Tracking.Piece.{Gap, Delivered}
use Rattle.pdh_line.proofs.Ranges.{map-range_same_on}
use Rattle.pdh_line.proofs.FrameLaws.{wrong_of_right}
use Rattle.pdh_line.proofs.LeastLaws.{least_below-le, least_below_same, least_below_more, least_below_passes, least_below_past}

-- a frame that was whole is the same in a longer line
pub frame_of-append : (s : FrameShape) (l m : List Bool) (k : ℕ) → k * s.len + s.len ≤ length l → frame_of s (l ++ m) k ≡ frame_of s l k
frame_of-append s l m k h =
    let within : k * s.len ≤ length l = omega arith in
    let whole : s.len ≤ length (drop (k * s.len) l) = simp length-drop (omega arith) in
    rw (drop-append-le, take-append-le) refl

pub is_confirmed-append : (s : FrameShape) (l m : List Bool) → 3 * s.len ≤ length l → is_confirmed s (l ++ m) ≡ is_confirmed s l
is_confirmed-append s l m h =
    let a : frame_of s (l ++ m) 0 ≡ frame_of s l 0 = frame_of-append s l m 0 (omega arith) in
    let b : frame_of s (l ++ m) 1 ≡ frame_of s l 1 = frame_of-append s l m 1 (omega arith) in
    let c : frame_of s (l ++ m) 2 ≡ frame_of s l 2 = frame_of-append s l m 2 (omega arith) in
    let long : nat_le (3 * s.len) (length l) ≡ true = grind (arith, nat_tests) in
    let longer : nat_le (3 * s.len) (length (l ++ m)) ≡ true = grind (arith, nat_tests, length-append l m) in
    rw (a, b, c, long, longer) refl

-- a position that was judged is judged the same in a longer line
pub is_confirmed-drop-append : (s : FrameShape) (l m : List Bool) (p : ℕ) → p < positions s l → is_confirmed s (drop p (l ++ m)) ≡ is_confirmed s (drop p l)
is_confirmed-drop-append s l m p h =
    let within : p ≤ length l = omega arith in
    let whole : 3 * s.len ≤ length (drop p l) = simp length-drop (omega arith) in
    rw (drop-append-le p l m within) (is_confirmed-append s (drop p l) m whole)

pub gap_of_is : (s : FrameShape) (l : List Bool) → gap_of s l ≡ least_below (positions s l) (λ p. is_confirmed s (drop p l))
unfolding gap_of
gap_of_is s l = refl

-- a gap that has ended stays in a longer line
pub gap_of-append : (s : FrameShape) (l m : List Bool) → is_found s l ≡ true → gap_of s (l ++ m) ≡ gap_of s l
gap_of-append s l m found =
    let lt : gap_of s l < positions s l = ltb-true _ _ found in
    let longer : positions s (l ++ m) ≡ positions s l + length m = omega (arith, length-append l m) in
    let same : least_below (positions s l) (λ p. is_confirmed s (drop p (l ++ m))) ≡ gap_of s l =
    least_below_same (positions s l) _ _ (λ p h. is_confirmed-drop-append s l m p h) ∙ sym (gap_of_is s l) in
    let lt' : least_below (positions s l) (λ p. is_confirmed s (drop p (l ++ m))) < positions s l = omega arith in
    gap_of_is s (l ++ m) ∙ ap (λ n. least_below n (λ p. is_confirmed s (drop p (l ++ m)))) longer
    ∙ least_below_more (positions s l) (length m) (λ p. is_confirmed s (drop p (l ++ m))) lt' ∙ same

pub is_found-append : (s : FrameShape) (l m : List Bool) → is_found s l ≡ true → is_found s (l ++ m) ≡ true
is_found-append s l m found =
    let lt : gap_of s l < positions s l = ltb-true _ _ found in
    let e : gap_of s (l ++ m) ≡ gap_of s l = gap_of-append s l m found in
    lt-ltb _ _ (omega (arith, length-append l m))

pub aligned-append : (s : FrameShape) (l m : List Bool) → is_found s l ≡ true → aligned s (l ++ m) ≡ aligned s l ++ m
aligned-append s l m found =
    let lt : gap_of s l < positions s l = ltb-true _ _ found in
    let within : gap_of s l ≤ length l = omega arith in
    ap (λ p. drop p (l ++ m)) (gap_of-append s l m found) ∙ drop-append-le (gap_of s l) l m within

-- the bits of a whole frame
pub whole_frame : (s : FrameShape) (l : List Bool) (k : ℕ) → IsFrame s → k < frames_in s l → k * s.len + s.len ≤ length l
whole_frame s l k shape h =
    let below : suc k * s.len ≤ length l = (le-div_iff_mul-le shape.some_slots).0 h in
    omega arith

-- what is wrong in the frames of an alignment, after three frames that count as right
abbrev pub judged : FrameShape → List Bool → ℕ → Marks
judged s line (suc (suc (suc k))) = wrong s (frame_of s line k)
judged s line _ = clean

marks_of : (s : FrameShape) (l : List Bool) (n i k : ℕ) → i ≤ n → n - i ≡ k → marks_back s l n i ≡ wrong s (frame_of s l k)
marks_of s l n i k h e =
    let within : nat_le i n ≡ true = grind (arith, nat_tests) in
    ap (λ b. cond b (wrong s (frame_of s l (n - i))) clean) within ∙ ap (λ k. wrong s (frame_of s l k)) e

-- the marks of a frame and of the three before it, by their places in that order
pub marks_back_is : (s : FrameShape) (l : List Bool) (k : ℕ)
    → (marks_back s l k 3 ≡ judged s l k) × (marks_back s l k 2 ≡ judged s l (suc k)) × (marks_back s l k 1 ≡ judged s l (suc (suc k))) × (marks_back s l k 0 ≡ judged s l (suc (suc (suc k))))
marks_back_is s l zero = (refl, refl, refl, refl)
marks_back_is s l (suc zero) = (refl, refl, refl, refl)
marks_back_is s l (suc (suc zero)) = (refl, refl, refl, refl)
marks_back_is s l (suc (suc (suc k))) = (
  marks_of s l (suc (suc (suc k))) 3 k (omega arith) (omega arith),
  marks_of s l (suc (suc (suc k))) 2 (suc k) (omega arith) (omega arith),
  marks_of s l (suc (suc (suc k))) 1 (suc (suc k)) (omega arith) (omega arith),
  marks_of s l (suc (suc (suc k))) 0 (suc (suc (suc k))) (omega arith) (omega arith),
)

pub judged-append : (s : FrameShape) (l m : List Bool) (k : ℕ) → IsFrame s → k < frames_in s l + 3 → judged s (l ++ m) k ≡ judged s l k
judged-append s l m zero shape h = refl
judged-append s l m (suc zero) shape h = refl
judged-append s l m (suc (suc zero)) shape h = refl
judged-append s l m (suc (suc (suc k))) shape h =
    ap (wrong s) (frame_of-append s l m k (whole_frame s l k shape (omega arith)))

pub completes_loss_opens : (s : FrameShape) (l : List Bool) (k : ℕ) → completes_loss s l k ≡ s.loses (marks_back s l k 3) (marks_back s l k 2) (marks_back s l k 1) (marks_back s l k 0)
unfolding completes_loss
completes_loss_opens s l k = refl

pub completes_loss_is : (s : FrameShape) (l : List Bool) (k : ℕ) → completes_loss s l k ≡ s.loses (judged s l k) (judged s l (suc k)) (judged s l (suc (suc k))) (judged s l (suc (suc (suc k))))
completes_loss_is s l k =
    let is = marks_back_is s l k in
    completes_loss_opens s l k ∙ loses_same s _ _ _ _ _ _ _ _ is.0 is.1 is.2 is.3
  where
    loses_same : (s : FrameShape) (a b c d a' b' c' d' : Marks) → a ≡ a' → b ≡ b' → c ≡ c' → d ≡ d' → s.loses a b c d ≡ s.loses a' b' c' d'
    loses_same s a b c d a' b' c' d' e f g h = cc

pub completes_loss-append : (s : FrameShape) (l m : List Bool) (k : ℕ) → IsFrame s → k < frames_in s l → completes_loss s (l ++ m) k ≡ completes_loss s l k
completes_loss-append s l m k shape h =
    let a : judged s (l ++ m) k ≡ judged s l k = judged-append s l m k shape (omega arith) in
    let b : judged s (l ++ m) (suc k) ≡ judged s l (suc k) = judged-append s l m (suc k) shape (omega arith) in
    let c : judged s (l ++ m) (suc (suc k)) ≡ judged s l (suc (suc k)) = judged-append s l m (suc (suc k)) shape (omega arith) in
    let d : judged s (l ++ m) (suc (suc (suc k))) ≡ judged s l (suc (suc (suc k))) = judged-append s l m (suc (suc (suc k))) shape (omega arith) in
    rw (completes_loss_is s (l ++ m) k, completes_loss_is s l k, a, b, c, d) refl

-- a longer line has at least as many whole frames
pub frames_in-append : (s : FrameShape) (l m : List Bool) → IsFrame s → frames_in s l ≤ frames_in s (l ++ m)
frames_in-append s l m shape =
    le-div (frames_in s l) (length (l ++ m)) s.len shape.some_slots (omega (arith, div-mul-le_self (length l) s.len, length-append l m))

pub delivered_is : (s : FrameShape) (l : List Bool) → is_found s l ≡ true → delivered s l ≡ least_below (frames_in s (aligned s l)) (completes_loss s (aligned s l))
unfolding delivered
delivered_is s l found = rw found refl

pub delivered_none : (s : FrameShape) (l : List Bool) → is_found s l ≡ false → delivered s l ≡ 0
unfolding delivered
delivered_none s l found = rw found refl

both : (a b : Bool) → cond a b false ≡ true → (a ≡ true) × (b ≡ true)
both true b h = (refl, h)
both false b h = cc

pub is_lost_found : (s : FrameShape) (l : List Bool) → is_lost s l ≡ true → is_found s l ≡ true
unfolding is_lost
is_lost_found s l lost = (both _ _ lost).0

pub is_lost_below : (s : FrameShape) (l : List Bool) → is_lost s l ≡ true → delivered s l < frames_in s (aligned s l)
unfolding is_lost
is_lost_below s l lost = ltb-true _ _ (both _ _ lost).1

pub is_lost_is : (s : FrameShape) (l : List Bool) → is_found s l ≡ true → is_lost s l ≡ ltb (delivered s l) (frames_in s (aligned s l))
unfolding is_lost
is_lost_is s l found = rw found refl

pub is_lost_none : (s : FrameShape) (l : List Bool) → is_found s l ≡ false → is_lost s l ≡ false
unfolding is_lost
is_lost_none s l found = rw found refl

-- the frames of an alignment that is lost are the same in a longer line
pub delivered-append : (s : FrameShape) (l m : List Bool) → IsFrame s → is_lost s l ≡ true → delivered s (l ++ m) ≡ delivered s l
delivered-append s l m shape lost =
    let found : is_found s l ≡ true = is_lost_found s l lost in
    let below : delivered s l < frames_in s (aligned s l) = is_lost_below s l lost in
    let is : delivered s l ≡ least_below (frames_in s (aligned s l)) (completes_loss s (aligned s l)) = delivered_is s l found in
    let a : List Bool = aligned s l in
    let n : ℕ = frames_in s a in
    let more : ℕ = frames_in s (a ++ m) - n in
    let longer : frames_in s (a ++ m) ≡ n + more = omega (arith, frames_in-append s a m shape) in
    let same : least_below n (completes_loss s (a ++ m)) ≡ delivered s l =
    least_below_same n _ _ (λ k h. completes_loss-append s a m k shape h) ∙ sym is in
    let lt : least_below n (completes_loss s (a ++ m)) < n = omega arith in
    delivered_is s (l ++ m) (is_found-append s l m found)
    ∙ ap (λ x. least_below (frames_in s x) (completes_loss s x)) (aligned-append s l m found)
    ∙ ap (λ x. least_below x (completes_loss s (a ++ m))) longer
    ∙ least_below_more n more (completes_loss s (a ++ m)) lt ∙ same

pub is_lost-append : (s : FrameShape) (l m : List Bool) → IsFrame s → is_lost s l ≡ true → is_lost s (l ++ m) ≡ true
is_lost-append s l m shape lost =
    let found : is_found s l ≡ true = is_lost_found s l lost in
    let below : delivered s l < frames_in s (aligned s l) = is_lost_below s l lost in
    let same : delivered s (l ++ m) ≡ delivered s l = delivered-append s l m shape lost in
    let line : aligned s (l ++ m) ≡ aligned s l ++ m = aligned-append s l m found in
    let lt : delivered s (l ++ m) < frames_in s (aligned s (l ++ m)) =
    rw (same, line) (omega (arith, frames_in-append s (aligned s l) m shape)) in
    is_lost_is s (l ++ m) (is_found-append s l m found) ∙ lt-ltb _ _ lt

-- the delivered frames lie within the line
pub delivered_within : (s : FrameShape) (l : List Bool) → IsFrame s → is_found s l ≡ true → delivered s l * s.len ≤ length (aligned s l)
delivered_within s l shape found =
    let least : delivered s l ≤ frames_in s (aligned s l) =
    rw (delivered_is s l found) (least_below-le (frames_in s (aligned s l)) (completes_loss s (aligned s l))) in
    (le-div_iff_mul-le shape.some_slots).0 least

pub after_loss_is : (s : FrameShape) (l : List Bool) → after_loss s l ≡ drop (delivered s l * s.len) (aligned s l)
unfolding after_loss
after_loss_is s l = refl

pub after_loss-append : (s : FrameShape) (l m : List Bool) → IsFrame s → is_lost s l ≡ true → after_loss s (l ++ m) ≡ after_loss s l ++ m
after_loss-append s l m shape lost =
    let found : is_found s l ≡ true = is_lost_found s l lost in
    let same : delivered s (l ++ m) ≡ delivered s l = delivered-append s l m shape lost in
    let line : aligned s (l ++ m) ≡ aligned s l ++ m = aligned-append s l m found in
    let within : delivered s l * s.len ≤ length (aligned s l) = delivered_within s l shape found in
    after_loss_is s (l ++ m) ∙ ap (λ x. drop (delivered s (l ++ m) * s.len) x) line
    ∙ ap (λ n. drop (n * s.len) (aligned s l ++ m)) same ∙ drop-append-le (delivered s l * s.len) (aligned s l) m within
    ∙ ap (λ x. x ++ m) (sym (after_loss_is s l))

pub one_search_is : (s : FrameShape) (l : List Bool) → one_search s l ≡ Gap (gap_of s l) ∷ map (λ k. Delivered (frame_of s (aligned s l) k)) (range_with_len 0 (delivered s l))
unfolding one_search
one_search_is s l = refl

-- the delivered frames are those of a longer line
pub frames-append : (s : FrameShape) (l m : List Bool) (n : ℕ) → n * s.len ≤ length l → map (λ k. Delivered (frame_of s (l ++ m) k)) (range_with_len 0 n) ≡ map (λ k. Delivered (frame_of s l k)) (range_with_len 0 n)
frames-append s l m n h =
    map-range_same_on _ _ 0 n (λ k _from lt. ap Delivered (frame_of-append s l m k (omega (arith, mul-le-mul_right s.len (suc_le k n lt), h))))
  where
    suc_le : (k n : ℕ) → k < 0 + n → suc k ≤ n
    suc_le k n lt = omega arith

pub one_search-append : (s : FrameShape) (l m : List Bool) → IsFrame s → is_lost s l ≡ true → one_search s (l ++ m) ≡ one_search s l
one_search-append s l m shape lost =
    let found : is_found s l ≡ true = is_lost_found s l lost in
    let same : delivered s (l ++ m) ≡ delivered s l = delivered-append s l m shape lost in
    let line : aligned s (l ++ m) ≡ aligned s l ++ m = aligned-append s l m found in
    let gap : gap_of s (l ++ m) ≡ gap_of s l = gap_of-append s l m found in
    let frames : map (λ k. Delivered (frame_of s (aligned s l ++ m) k)) (range_with_len 0 (delivered s l)) ≡ map (λ k. Delivered (frame_of s (aligned s l) k)) (range_with_len 0 (delivered s l)) =
    frames-append s (aligned s l) m (delivered s l) (delivered_within s l shape found) in
    rw (one_search_is s (l ++ m), one_search_is s l, line, same, gap, frames) refl

-- ---- the frames of a confirmed position are right, so they complete no loss

and4 : (a b c d : Bool) → (a && b && c && d) ≡ true → (b ≡ true) × (c ≡ true) × (d ≡ true)
and4 true true true true h = (refl, refl, refl)
and4 true true true false h = cc
and4 true true false d h = cc
and4 true false c d h = cc
and4 false b c d h = cc

-- the three frames of a confirmed position are right
pub confirmed_right : (s : FrameShape) (l : List Bool) → is_confirmed s l ≡ true
    → (is_right s (frame_of s l 0) ≡ true) × (is_right s (frame_of s l 1) ≡ true) × (is_right s (frame_of s l 2) ≡ true)
confirmed_right s l h = and4 (nat_le (3 * s.len) (length l)) (is_right s (frame_of s l 0)) (is_right s (frame_of s l 1)) (is_right s (frame_of s l 2)) h

-- the three frames of a confirmed position complete no loss
pub confirmed_no_loss : (s : FrameShape) (l : List Bool) (k : ℕ) → IsFrame s → is_confirmed s l ≡ true → k < 3 → completes_loss s l k ≡ false
confirmed_no_loss s l zero shape h lt =
    let a : wrong s (frame_of s l 0) ≡ clean = wrong_of_right s _ (confirmed_right s l h).0 in
    rw (completes_loss_is s l 0, a) shape.no_loss
confirmed_no_loss s l (suc zero) shape h lt =
    let a : wrong s (frame_of s l 0) ≡ clean = wrong_of_right s _ (confirmed_right s l h).0 in
    let b : wrong s (frame_of s l 1) ≡ clean = wrong_of_right s _ (confirmed_right s l h).1 in
    rw (completes_loss_is s l 1, a, b) shape.no_loss
confirmed_no_loss s l (suc (suc zero)) shape h lt =
    let a : wrong s (frame_of s l 0) ≡ clean = wrong_of_right s _ (confirmed_right s l h).0 in
    let b : wrong s (frame_of s l 1) ≡ clean = wrong_of_right s _ (confirmed_right s l h).1 in
    let c : wrong s (frame_of s l 2) ≡ clean = wrong_of_right s _ (confirmed_right s l h).2 in
    rw (completes_loss_is s l 2, a, b, c) shape.no_loss
confirmed_no_loss s l (suc (suc (suc k))) shape h lt = absurd (omega arith)

-- the least confirmed position is confirmed
pub aligned_confirmed : (s : FrameShape) (l : List Bool) → is_found s l ≡ true → is_confirmed s (aligned s l) ≡ true
aligned_confirmed s l found =
    let lt : gap_of s l < positions s l = ltb-true _ _ found in
    let lt' : least_below (positions s l) (λ p. is_confirmed s (drop p l)) < positions s l = rw (← gap_of_is s l) lt in
    let here : is_confirmed s (drop (least_below (positions s l) (λ p. is_confirmed s (drop p l))) l) ≡ true = least_below_passes (positions s l) (λ p. is_confirmed s (drop p l)) lt' in
    rw (gap_of_is s l) here

-- three whole frames stand at the least confirmed position
pub aligned_long : (s : FrameShape) (l : List Bool) → is_found s l ≡ true → 3 * s.len ≤ length (aligned s l)
aligned_long s l found =
    let lt : gap_of s l < positions s l = ltb-true _ _ found in
    simp length-drop (omega arith)

-- at least three frames of an alignment are delivered
pub delivered_three : (s : FrameShape) (l : List Bool) → IsFrame s → is_found s l ≡ true → 3 ≤ delivered s l
delivered_three s l shape found =
    let long : 3 * s.len ≤ length (aligned s l) = aligned_long s l found in
    let whole : 3 ≤ frames_in s (aligned s l) = le-div 3 (length (aligned s l)) s.len shape.some_slots long in
    rw (delivered_is s l found) (least_below_past _ _ 3 whole (λ k lt. confirmed_no_loss s (aligned s l) k shape (aligned_confirmed s l found) lt))

-- each search but the first begins later
pub after_loss_shorter : (s : FrameShape) (l : List Bool) → IsFrame s → is_lost s l ≡ true → length (after_loss s l) < length l
after_loss_shorter s l shape lost =
    let found : is_found s l ≡ true = is_lost_found s l lost in
    let long : 3 * s.len ≤ length (aligned s l) = aligned_long s l found in
    let three : 3 ≤ delivered s l = delivered_three s l shape found in
    let some : 3 * s.len ≤ delivered s l * s.len = mul-le-mul_right s.len three in
    let fewer : length (aligned s l) ≤ length l = omega (arith, length-drop (gap_of s l) l) in
    let pos : 0 < s.len = shape.some_slots in
    rw (after_loss_is s l, length-drop) (omega arith)

-- ---- enough searches are enough

pub track_within_lost : (n : ℕ) (s : FrameShape) (l : List Bool) → is_lost s l ≡ true → track_within (suc n) s l ≡ one_search s l ++ track_within n s (after_loss s l)
unfolding track_within
track_within_lost n s l lost = rw lost refl

pub track_within_open : (n : ℕ) (s : FrameShape) (l : List Bool) → is_lost s l ≡ false → track_within (suc n) s l ≡ one_search s l
unfolding track_within
track_within_open n s l lost = rw lost (append-nil (one_search s l))

pub track_within_enough : (n m : ℕ) (s : FrameShape) (l : List Bool) → IsFrame s → length l < n → length l < m → track_within n s l ≡ track_within m s l
track_within_enough zero m s l shape h h' = absurd (omega arith)
track_within_enough (suc n) zero s l shape h h' = absurd (omega arith)
track_within_enough (suc n) (suc m) s l shape h h' =
    elim (cases_Bool (is_lost s l)) [
      | inl lost ↦
          let shorter : length (after_loss s l) < length l = after_loss_shorter s l shape lost in
          track_within_lost n s l lost
          ∙ ap (λ x. one_search s l ++ x) (track_within_enough n m s (after_loss s l) shape (omega arith) (omega arith))
          ∙ sym (track_within_lost m s l lost)
      | inr kept ↦ track_within_open n s l kept ∙ sym (track_within_open m s l kept)
    ]

pub track_is : (s : FrameShape) (l : List Bool) → track s l ≡ track_within (suc (length l)) s l
unfolding track
track_is s l = ap (λ n. track_within n s l) (omega arith)

pub track_lost : (s : FrameShape) (l : List Bool) → IsFrame s → is_lost s l ≡ true → track s l ≡ one_search s l ++ track s (after_loss s l)
track_lost s l shape lost =
    let shorter : length (after_loss s l) < length l = after_loss_shorter s l shape lost in
    track_is s l ∙ track_within_lost (length l) s l lost
    ∙ ap (λ x. one_search s l ++ x) (track_within_enough (length l) (suc (length (after_loss s l))) s (after_loss s l) shape (omega arith) (omega arith) ∙ sym (track_is s (after_loss s l)))

pub track_open : (s : FrameShape) (l : List Bool) → is_lost s l ≡ false → track s l ≡ one_search s l
track_open s l kept = track_is s l ∙ track_within_open (length l) s l kept

-- the pieces up to a loss are those of a longer line
pub track_lost-append : (s : FrameShape) (l m : List Bool) → IsFrame s → is_lost s l ≡ true → track s (l ++ m) ≡ one_search s l ++ track s (after_loss s l ++ m)
track_lost-append s l m shape lost =
    track_lost s (l ++ m) shape (is_lost-append s l m shape lost)
    ∙ ap (λ x. x ++ track s (after_loss s (l ++ m))) (one_search-append s l m shape lost)
    ∙ ap (λ x. one_search s l ++ track s x) (after_loss-append s l m shape lost)
