-- A search that finds true places alone ends in an alignment that is never lost.
use Rattle.std.proofs.Common.{◌≡◌, ℕ, zero, suc, ◌+◌, ◌-◌, ◌*◌, ◌<◌, ◌≤◌, Bool, true, false, ◌&&◌, List, ◌++◌, length, take, drop, refl, sym, ap, ◌∙◌, subst, inl, inr, arith, length-drop}
use Rattle.std.proofs.lemmas.List.{take-append-drop, drop-append-le, drop-drop, length-take-le}
use Rattle.std.specs.Prelude.{nat_le}
use Rattle.std.proofs.lemmas.Bool.{lt-ltb, le-ltb, leb-true, cases_Bool, cases_lt}
use Rattle.std.proofs.lemmas.Bool.Decides.{nat_tests}
use Rattle.std.proofs.Math.Nat.{lt-div-mul-add, mul-le-mul_right}
use Rattle.pdh_shape.specs.declared.role.Marks.{Marks}
use Rattle.pdh_shape.specs.Frame.{FrameShape, IsFrame, clean, is_right}
use Rattle.pdh_line.specs.Least.{least_below}
use Rattle.pdh_line.specs.Tracking.{frame_of, is_confirmed, positions, gap_of, is_found, aligned, completes_loss, frames_in, delivered, is_lost}
use Rattle.pdh_line.proofs.LeastLaws.{least_below_none, least_below_before, least_below_passes}
use Rattle.pdh_line.proofs.FrameLaws.{wrong_of_right}
use Rattle.pdh_line.proofs.TrackingLaws.{judged}
use Rattle.pdh_line.proofs.TrackingLaws as laws
use Rattle.pdh_align.proofs.AligningLaws.{all_delivered}
use Rattle.pdh_recovery.specs.Losing.{KeepsRight}
use Rattle.pdh_recovery.specs.Recovering.{Rejoins, IsTruePosition, AllRight}
use Rattle.pdh_recovery.proofs.PlaceLaws.{true_step, next_true, right_at}

-- the frames of a line's rest
frame_at : (s : FrameShape) (line : List Bool) (p k : ℕ) → frame_of s (drop p line) k ≡ take s.len (drop (p + k * s.len) line)
frame_at s line p k = ap (take s.len) (drop-drop (k * s.len) p line)

-- right frames are judged clean
judged_right : (s : FrameShape) (line : List Bool) (i k : ℕ) → ((i : ℕ) → i ≤ k → is_right s (frame_of s line i) ≡ true) → i ≤ suc (suc (suc k)) → judged s line i ≡ clean
judged_right s line zero k right h = refl
judged_right s line (suc zero) k right h = refl
judged_right s line (suc (suc zero)) k right h = refl
judged_right s line (suc (suc (suc i))) k right h = wrong_of_right s (frame_of s line i) (right i (omega arith))

-- right frames complete no loss
pub right_no_loss : (s : FrameShape) (line : List Bool) (k : ℕ) → IsFrame s → ((i : ℕ) → i ≤ k → is_right s (frame_of s line i) ≡ true) → completes_loss s line k ≡ false
right_no_loss s line k shape right =
    let a : judged s line k ≡ clean = judged_right s line k k right (omega arith) in
    let b : judged s line (suc k) ≡ clean = judged_right s line (suc k) k right (omega arith) in
    let c : judged s line (suc (suc k)) ≡ clean = judged_right s line (suc (suc k)) k right (omega arith) in
    let d : judged s line (suc (suc (suc k))) ≡ clean = judged_right s line (suc (suc (suc k))) k right (omega arith) in
    rw (laws.completes_loss_is s line k, a, b, c, d) shape.no_loss

-- a right frame completes no loss unless the frame before it completed one
pub right_keeps : (s : FrameShape) (line : List Bool) (k : ℕ) → KeepsRight s → is_right s (frame_of s line (suc k)) ≡ true → completes_loss s line (suc k) ≡ true → completes_loss s line k ≡ true
right_keeps s line k keeps right h =
    let a : ℕ → Marks = judged s line in
    let none : a (suc (suc (suc (suc k)))) ≡ clean = wrong_of_right s (frame_of s line (suc k)) right in
    let now : s.loses (a (suc k)) (a (suc (suc k))) (a (suc (suc (suc k)))) clean ≡ true =
    ap (s.loses (a (suc k)) (a (suc (suc k))) (a (suc (suc (suc k))))) (sym none) ∙ sym (laws.completes_loss_is s line (suc k)) ∙ h in
    laws.completes_loss_is s line k ∙ keeps (a k) (a (suc k)) (a (suc (suc k))) (a (suc (suc (suc k)))) now

-- an alignment of whose whole frames none completes a loss
pub kept_of : (s : FrameShape) (line : List Bool) → is_found s line ≡ true → ((k : ℕ) → k < frames_in s (aligned s line) → completes_loss s (aligned s line) k ≡ false) → is_lost s line ≡ false
kept_of s line found fine =
    let all : delivered s line ≡ frames_in s (aligned s line) = laws.delivered_is s line found ∙ least_below_none (frames_in s (aligned s line)) (completes_loss s (aligned s line)) fine in
    laws.is_lost_is s line found ∙ le-ltb _ _ (omega arith)

pub least_below_at : (n : ℕ) (test : ℕ → Bool) (k : ℕ) → test k ≡ true → least_below n test ≤ k
least_below_at n test k passes =
    elim (cases_lt k (least_below n test)) [
      | inl later ↦ absurd (let e : true ≡ false = sym passes ∙ least_below_before n test k later in cc)
      | inr now ↦ now
    ]

-- three whole right frames
pub confirmed_of : (s : FrameShape) (line : List Bool) → 3 * s.len ≤ length line → ((k : ℕ) → k < 3 → is_right s (frame_of s line k) ≡ true) → is_confirmed s line ≡ true
confirmed_of s line long right =
    let whole : nat_le (3 * s.len) (length line) ≡ true = grind (arith, nat_tests) in
    let a : is_right s (frame_of s line 0) ≡ true = right 0 (omega arith) in
    let b : is_right s (frame_of s line 1) ≡ true = right 1 (omega arith) in
    let c : is_right s (frame_of s line 2) ≡ true = right 2 (omega arith) in
    rw (whole, a, b, c) refl

first_of : (a b c d : Bool) → (a && b && c && d) ≡ true → a ≡ true
first_of true b c d h = refl
first_of false b c d h = cc

-- they fit the line
pub confirmed_fits : (s : FrameShape) (line : List Bool) (p : ℕ) → 0 < s.len → is_confirmed s (drop p line) ≡ true → p + 3 * s.len ≤ length line
confirmed_fits s line p some h =
    let fits : 3 * s.len ≤ length (drop p line) = leb-true _ _ (first_of (nat_le (3 * s.len) (length (drop p line))) (is_right s (frame_of s (drop p line) 0)) (is_right s (frame_of s (drop p line) 1)) (is_right s (frame_of s (drop p line) 2)) h) in
    omega (arith, fits, length-drop p line)

three : (s : FrameShape) (line : List Bool) (t : ℕ) → t + 3 * s.len ≤ length line → ((k : ℕ) → k < 3 → is_right s (take s.len (drop (t + k * s.len) line)) ≡ true) → is_confirmed s (drop t line) ≡ true
three s line t long right = confirmed_of s (drop t line) (omega (arith, length-drop t line)) (λ k h. ap (is_right s) (frame_at s line t k) ∙ right k h)

scaled : (s : FrameShape) (k n : ℕ) → k ≤ n → k * s.len ≤ n * s.len
scaled s k n h = mul-le-mul_right s.len h

-- a search from place b on that finds true places alone, of which each true frame before e stands in the confirmation
pub settles : (s : FrameShape) (line : List Bool) (sent : ℕ → Bool) (e u b x : ℕ) → IsFrame s → Rejoins line sent e u → AllRight s sent (u + (length line - e))
    → ((p : ℕ) → b ≤ p → is_confirmed s (drop p line) ≡ true → IsTruePosition s e u p × (e < p + 3 * s.len))
    → b ≤ x → e ≤ x → x + 4 * s.len ≤ length line
    → (is_found s (drop b line) ≡ true) × (is_lost s (drop b line) ≡ false) × (b + gap_of s (drop b line) < x + s.len) × IsTruePosition s e u (b + gap_of s (drop b line))
settles s line sent e u b x shape same right only from after long =
    let some : 0 < s.len = shape.some_slots in
    let rest : List Bool = drop b line in
    let next = next_true s e u x some in
    let t : ℕ = next.0 in
    let t_from : x ≤ t = next.1 in
    let t_below : t < x + s.len = next.2 in
    let t' : ℕ = t - b in
    let at : b + t' ≡ t = omega arith in
    let length_rest : length rest ≡ length line - b = length-drop b line in
    let t_right : (k : ℕ) → k < 3 → is_right s (take s.len (drop (t + k * s.len) line)) ≡ true =
    λ k h. right_at s line sent e u (t + k * s.len) some same right (omega arith) (true_step s e u t k some next.3) (let m = scaled s k 2 (omega arith) in omega arith) in
    let t_confirmed : is_confirmed s (drop t' rest) ≡ true = ap (is_confirmed s) (drop-drop t' b line ∙ ap (λ n. drop n line) at) ∙ three s line t (omega arith) t_right in
    let gap_most : gap_of s rest ≤ t' = rw (laws.gap_of_is s rest) (least_below_at (positions s rest) (λ p. is_confirmed s (drop p rest)) t' t_confirmed) in
    let lt : gap_of s rest < positions s rest = omega arith in
    let found : is_found s rest ≡ true = lt-ltb _ _ lt in
    let p : ℕ = b + gap_of s rest in
    let p_line : aligned s rest ≡ drop p line = drop-drop (gap_of s rest) b line in
    let p_confirmed : is_confirmed s (drop p line) ≡ true = ap (is_confirmed s) (sym p_line) ∙ laws.aligned_confirmed s rest found in
    let p_only : IsTruePosition s e u p × (e < p + 3 * s.len) = only p (omega arith) p_confirmed in
    let p_late : e < p + 3 * s.len = p_only.1 in
    let length_p : length (drop p line) ≡ length line - p = length-drop p line in
    let parts = laws.confirmed_right s (drop p line) p_confirmed in
    let all_right : (k : ℕ) → k * s.len + s.len ≤ length (drop p line) → is_right s (frame_of s (drop p line) k) ≡ true =
    λ k h. elim (cases_lt k 3) [
      | inl early ↦ first (λ k. is_right s (frame_of s (drop p line) k)) parts.0 parts.1 parts.2 k early
      | inr late ↦ ap (is_right s) (frame_at s line p k)
          ∙ right_at s line sent e u (p + k * s.len) some same right (let m = scaled s 3 k late in omega arith) (true_step s e u p k some p_only.0) (omega arith)
    ] in
    let fine : (k : ℕ) → k < frames_in s (drop p line) → completes_loss s (drop p line) k ≡ false =
    λ k h. right_no_loss s (drop p line) k shape (λ i h'. all_right i (laws.whole_frame s (drop p line) i shape (omega arith))) in
    let kept : is_lost s rest ≡ false = kept_of s rest found (subst (λ l. (k : ℕ) → k < frames_in s l → completes_loss s l k ≡ false) (sym p_line) fine) in
    (found, kept, omega arith, p_only.0)
  where
    first : (test : ℕ → Bool) → test 0 ≡ true → test 1 ≡ true → test 2 ≡ true → (k : ℕ) → k < 3 → test k ≡ true
    first test a b c zero h = a
    first test a b c (suc zero) h = b
    first test a b c (suc (suc zero)) h = c
    first test a b c (suc (suc (suc k))) h = absurd (omega arith)

-- open frames at true places that are not lost within a frame after the rejoining place are never lost
pub kept_on : (s : FrameShape) (line : List Bool) (sent : ℕ → Bool) (e u b n : ℕ) → IsFrame s → KeepsRight s → Rejoins line sent e u → AllRight s sent (u + (length line - e))
    → b ≤ n → e + s.len ≤ n → n ≤ length line → is_found s (drop b (take n line)) ≡ true → is_lost s (drop b (take n line)) ≡ false
    → IsTruePosition s e u (b + gap_of s (drop b (take n line))) → is_lost s (drop b line) ≡ false
kept_on s line sent e u b n shape keeps same right b_within late within found kept true_place =
    let some : 0 < s.len = shape.some_slots in
    let x : List Bool = drop b (take n line) in
    let more : List Bool = drop n line in
    let length_front : length (take n line) ≡ n = length-take-le n line within in
    let split : drop b line ≡ x ++ more = ap (drop b) (sym (take-append-drop n line)) ∙ drop-append-le b (take n line) more (omega arith) in
    let found' : is_found s (x ++ more) ≡ true = laws.is_found-append s x more found in
    let p : ℕ = b + gap_of s x in
    let gap' : gap_of s (x ++ more) ≡ gap_of s x = laws.gap_of-append s x more found in
    let a : List Bool = aligned s x in
    let a' : aligned s (x ++ more) ≡ a ++ more = laws.aligned-append s x more found in
    let a_at : a ++ more ≡ drop p line = sym a' ∙ ap (λ y. drop (gap_of s (x ++ more)) y) (sym split) ∙ drop-drop (gap_of s (x ++ more)) b line ∙ ap (λ g. drop (b + g) line) gap' in
    let length_a : length a ≡ n - b - gap_of s x = length-drop (gap_of s x) x ∙ ap (λ m. m - gap_of s x) (length-drop b (take n line) ∙ ap (λ m. m - b) length_front) in
    let all : delivered s x ≡ frames_in s a = all_delivered s x found kept in
    let was : (k : ℕ) → k < frames_in s a → completes_loss s a k ≡ false =
    λ k h. least_below_before (frames_in s a) (completes_loss s a) k (rw (← laws.delivered_is s x found) (omega arith)) in
    elim (cases_Bool (is_lost s (x ++ more))) [
      | inl lost ↦
          let d : ℕ = delivered s (x ++ more) in
          let below : d < frames_in s (a ++ more) = subst (λ y. d < frames_in s y) a' (laws.is_lost_below s (x ++ more) lost) in
          let d_is : d ≡ least_below (frames_in s (a ++ more)) (completes_loss s (a ++ more)) = laws.delivered_is s (x ++ more) found' ∙ ap (λ y. least_below (frames_in s y) (completes_loss s y)) a' in
          let loses : completes_loss s (a ++ more) d ≡ true = ap (completes_loss s (a ++ more)) d_is ∙ least_below_passes (frames_in s (a ++ more)) (completes_loss s (a ++ more)) (omega arith) in
          let before : (k : ℕ) → k < d → completes_loss s (a ++ more) k ≡ false = λ k h. least_below_before (frames_in s (a ++ more)) (completes_loss s (a ++ more)) k (omega arith) in
          let three_more : 3 ≤ d = laws.delivered_three s (x ++ more) shape found' in
          let fits : d * s.len + s.len ≤ length (a ++ more) = laws.whole_frame s (a ++ more) d shape below in
          let length_all : length (a ++ more) ≡ length line - p = ap length a_at ∙ length-drop p line in
          elim (cases_lt d (frames_in s a)) [
            | inl early ↦ absurd (let e : true ≡ false = sym loses ∙ laws.completes_loss-append s a more d shape early ∙ was d early in cc)
            | inr later ↦
                let short : length a < frames_in s a * s.len + s.len = lt-div-mul-add some in
                let product : frames_in s a * s.len ≤ d * s.len = scaled s (frames_in s a) d later in
                let here : is_right s (frame_of s (a ++ more) d) ≡ true =
                ap (λ y. is_right s (frame_of s y d)) a_at ∙ ap (is_right s) (frame_at s line p d)
                ∙ right_at s line sent e u (p + d * s.len) some same right (omega arith) (true_step s e u p d some true_place) (omega arith) in
                let pred : suc (d - 1) ≡ d = omega arith in
                let one_before : completes_loss s (a ++ more) (d - 1) ≡ true =
                right_keeps s (a ++ more) (d - 1) keeps (ap (λ k. is_right s (frame_of s (a ++ more) k)) pred ∙ here) (ap (completes_loss s (a ++ more)) pred ∙ loses) in
                absurd (let e : true ≡ false = sym one_before ∙ before (d - 1) (omega arith) in cc)
          ]
      | inr kept' ↦ ap (is_lost s) split ∙ kept'
    ]
