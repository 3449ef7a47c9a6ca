-- The tracking of a line whose whole frames, from its first bit on, are all right.
use Rattle.std.proofs.Common.{◌≡◌, ℕ, ◌-◌, ◌*◌, ◌/◌, ◌<◌, ◌≤◌, Bool, true, false, cond, List, [], ◌∷◌, ◌++◌, length, map, drop, refl, sym, ap, ◌∙◌, subst, inl, inr, arith}
use Rattle.std.specs.Prelude.{flat_map, replicate, nat_le}
use Rattle.std.specs.List.{range_with_len, list_all}
use Rattle.std.proofs.lemmas.Bool.{lt-ltb, le-ltb, cases_Bool, cases_lt}
use Rattle.std.proofs.lemmas.Bool.Decides.{nat_tests}
use Rattle.std.proofs.lemmas.Nat.{div-mul-add}
use Rattle.std.proofs.Math.Nat.{le-div_iff_mul-le}
use Rattle.pdh_shape.specs.Frame.{FrameShape, IsFrame, is_right, wrong, clean}
use Rattle.pdh_shape.specs.Tributary.{stripped}
use Rattle.pdh_line.specs.Least.{least_below}
use Rattle.pdh_line.specs.Tracking.{frame_of, frames_in, is_confirmed, positions, gap_of, is_found, aligned, marks_back, completes_loss, delivered, is_lost, track}
use Rattle.pdh_line.specs.Tracking.Piece.{Gap, Delivered}
use Rattle.pdh_line.specs.Receiving.{piece_bits, received}
use Rattle.pdh_line.proofs.Ranges.{list_all-at}
use Rattle.pdh_line.proofs.LeastLaws.{least_below_none, least_below_before, least_below-zero}
use Rattle.pdh_line.proofs.FrameLaws.{wrong_of_right}
use Rattle.pdh_line.proofs.TrackingLaws.{gap_of_is, completes_loss_opens, delivered_is, delivered_none, is_lost_is, is_lost_none, one_search_is, track_open}

-- ---- right frames

-- each whole frame of the line, from its first bit on, is right
unfoldable pub every_right : FrameShape → List Bool → Bool
every_right s line = list_all (λ k. is_right s (frame_of s line k)) (range_with_len 0 (frames_in s line))

pub every_right-at : (s : FrameShape) (l : List Bool) (k : ℕ) → every_right s l ≡ true → k < frames_in s l → is_right s (frame_of s l k) ≡ true
unfolding every_right
every_right-at s l k right h = list_all-at (λ k. is_right s (frame_of s l k)) 0 (frames_in s l) k right (omega arith) (omega arith)

-- a line has as many bits as its whole frames, at least
pub frames_within : (s : FrameShape) (l : List Bool) (n : ℕ) → IsFrame s → n ≤ frames_in s l → n * s.len ≤ length l
frames_within s l n frame h = (le-div_iff_mul-le frame.some_slots).0 h

confirmed-right : (s : FrameShape) (l : List Bool) → IsFrame s → 3 ≤ frames_in s l → every_right s l ≡ true → is_confirmed s l ≡ true
confirmed-right s l frame three right =
    let long : nat_le (3 * s.len) (length l) ≡ true = grind (arith, nat_tests, frames_within s l 3 frame three) in
    let a : is_right s (frame_of s l 0) ≡ true = every_right-at s l 0 right (omega arith) in
    let b : is_right s (frame_of s l 1) ≡ true = every_right-at s l 1 right (omega arith) in
    let c : is_right s (frame_of s l 2) ≡ true = every_right-at s l 2 right (omega arith) in
    rw (long, a, b, c) refl

least_below_at_zero : (n : ℕ) (test : ℕ → Bool) → 0 < n → test 0 ≡ true → least_below n test ≡ 0
least_below_at_zero n test h passes =
    elim (cases_lt 0 (least_below n test)) [
      | inl later ↦ absurd (let e : true ≡ false = sym passes ∙ least_below_before n test 0 later in cc)
      | inr now ↦ omega arith
    ]

gap-right : (s : FrameShape) (l : List Bool) → IsFrame s → 3 ≤ frames_in s l → every_right s l ≡ true → gap_of s l ≡ 0
gap-right s l frame three right =
    gap_of_is s l ∙ least_below_at_zero (positions s l) (λ p. is_confirmed s (drop p l)) (omega (arith, frames_within s l 3 frame three)) (confirmed-right s l frame three right)

marks_back-right : (s : FrameShape) (l : List Bool) (k i : ℕ) → every_right s l ≡ true → k < frames_in s l → marks_back s l k i ≡ clean
marks_back-right s l k i right h =
    elim (cases_Bool (nat_le i k)) [
      | inl within ↦ ap (λ b. cond b (wrong s (frame_of s l (k - i))) clean) within ∙ wrong_of_right s (frame_of s l (k - i)) (every_right-at s l (k - i) right (omega arith))
      | inr before ↦ ap (λ b. cond b (wrong s (frame_of s l (k - i))) clean) before
    ]

no_loss-right : (s : FrameShape) (l : List Bool) (k : ℕ) → IsFrame s → every_right s l ≡ true → k < frames_in s l → completes_loss s l k ≡ false
no_loss-right s l k frame right h =
    completes_loss_opens s l k
    ∙ rw (marks_back-right s l k 3 right h, marks_back-right s l k 2 right h, marks_back-right s l k 1 right h, marks_back-right s l k 0 right h) frame.no_loss

-- no gap, and all whole frames
pub track-right : (s : FrameShape) (l : List Bool) → IsFrame s → 3 ≤ frames_in s l → every_right s l ≡ true
    → track s l ≡ Gap 0 ∷ map (λ k. Delivered (frame_of s l k)) (range_with_len 0 (frames_in s l))
track-right s l frame three right =
    let gap : gap_of s l ≡ 0 = gap-right s l frame three right in
    let some : 0 < positions s l = omega (arith, frames_within s l 3 frame three) in
    let found : is_found s l ≡ true = lt-ltb _ _ (omega arith) in
    let same : aligned s l ≡ l = ap (λ n. drop n l) gap in
    let all : delivered s l ≡ frames_in s l =
    delivered_is s l found ∙ ap (λ a. least_below (frames_in s a) (completes_loss s a)) same
    ∙ least_below_none (frames_in s l) (completes_loss s l) (λ k h. no_loss-right s l k frame right h) in
    let kept : is_lost s l ≡ false = is_lost_is s l found ∙ le-ltb _ _ (subst (λ a. frames_in s a ≤ delivered s l) (sym same) (omega arith)) in
    track_open s l kept ∙ one_search_is s l ∙ ap (λ n. Gap n ∷ map (λ k. Delivered (frame_of s (aligned s l) k)) (range_with_len 0 (delivered s l))) gap
    ∙ ap (λ a. Gap 0 ∷ map (λ k. Delivered (frame_of s a k)) (range_with_len 0 (delivered s l))) same
    ∙ ap (λ n. Gap 0 ∷ map (λ k. Delivered (frame_of s l k)) (range_with_len 0 n)) all

-- ---- what the tributaries get

pub piece_bits_gap : (s : FrameShape) (j n : ℕ) → piece_bits s j (Gap n) ≡ replicate (n / s.len * s.low) true
unfolding piece_bits
piece_bits_gap s j n = refl

piece_bits_frame : (s : FrameShape) (j : ℕ) (frame : List Bool) → piece_bits s j (Delivered frame) ≡ stripped s j frame
unfolding piece_bits
piece_bits_frame s j frame = refl

no_gap : (s : FrameShape) (j : ℕ) → IsFrame s → piece_bits s j (Gap 0) ≡ []
no_gap s j frame =
    let none : 0 / s.len ≡ 0 = omega (arith, div-mul-add 0 s.len 0 frame.some_slots) in
    let nothing : 0 * s.low ≡ 0 = omega arith in
    piece_bits_gap s j 0 ∙ ap (λ n. replicate (n * s.low) true) none ∙ ap (λ n. replicate n true) nothing

frames_bits : (s : FrameShape) (j : ℕ) (l : List Bool) (xs : List ℕ)
    → flat_map (piece_bits s j) (map (λ k. Delivered (frame_of s l k)) xs) ≡ flat_map (λ k. stripped s j (frame_of s l k)) xs
frames_bits s j l [] = refl
frames_bits s j l (x ∷ xs) = rw (piece_bits_frame s j (frame_of s l x), frames_bits s j l xs) refl

-- each tributary gets its bits of all whole frames
pub received-right : (s : FrameShape) (j : ℕ) (l : List Bool) → IsFrame s → 3 ≤ frames_in s l → every_right s l ≡ true
    → received s j l ≡ flat_map (λ k. stripped s j (frame_of s l k)) (range_with_len 0 (frames_in s l))
unfolding received
received-right s j l frame three right =
    ap (flat_map (piece_bits s j)) (track-right s l frame three right)
    ∙ ap (λ x. x ++ flat_map (piece_bits s j) (map (λ k. Delivered (frame_of s l k)) (range_with_len 0 (frames_in s l)))) (no_gap s j frame)
    ∙ frames_bits s j l (range_with_len 0 (frames_in s l))

-- ---- a line that is shorter than three frames

pub track-short : (s : FrameShape) (l : List Bool) → length l < 3 * s.len → track s l ≡ Gap 0 ∷ []
track-short s l short =
    let none : positions s l ≡ 0 = omega arith in
    let gap : gap_of s l ≡ 0 = gap_of_is s l ∙ ap (λ n. least_below n (λ p. is_confirmed s (drop p l))) none ∙ least_below-zero (λ p. is_confirmed s (drop p l)) in
    let found : is_found s l ≡ false = le-ltb _ _ (omega arith) in
    track_open s l (is_lost_none s l found) ∙ one_search_is s l
    ∙ ap (λ n. Gap (gap_of s l) ∷ map (λ k. Delivered (frame_of s (aligned s l) k)) (range_with_len 0 n)) (delivered_none s l found)
    ∙ ap (λ n. Gap n ∷ []) gap

-- no tributary gets anything
pub received-short : (s : FrameShape) (j : ℕ) (l : List Bool) → IsFrame s → length l < 3 * s.len → received s j l ≡ []
unfolding received
received-short s j l frame short = ap (flat_map (piece_bits s j)) (track-short s l short) ∙ ap (λ x. x ++ []) (no_gap s j frame)
