-- What a worked line is computed for: each of many positions at which the signal stands is a true one, so that the line is quiet, and
-- comes back.
use Rattle.std.proofs.Common.{◌≡◌, ℕ, zero, suc, ◌+◌, ◌-◌, ◌*◌, ◌%◌, ◌<◌, ◌≤◌, Bool, true, false, ◌&&◌, ◌||◌, not, eqb, List, [], ◌∷◌, length, take, drop, refl, sym, ap, ◌∙◌, subst, inr, arith}
use Rattle.std.specs.List.{range_with_len, list_all}
use Rattle.std.proofs.lemmas.Bool.{eqb-true}
use Rattle.std.proofs.lemmas.List.{drop-drop, get_or-take}
use Rattle.pdh_shape.specs.Frame.{FrameShape, IsFrame, is_right, breaks, breaks_at}
use Rattle.pdh_line.specs.Tracking.{frame_of, is_confirmed}
use Rattle.pdh_line.proofs.Ranges.{and_true, list_all-at, list_all-range}
use Rattle.pdh_line.proofs.RightLines.{every_right, every_right-at}
use Rattle.pdh_line.proofs.TrackingLaws.{confirmed_right}
use Rattle.pdh_recovery.specs.Losing.{KeepsRight}
use Rattle.pdh_recovery.specs.Recovering.{EndsInFrames, LosesAt, RejoinsList, IsTruePosition, IsQuietFrom, RecoversAfter}
use Rattle.pdh_recovery.proofs.OnceLaws.{place_once, searches_once}
use Rattle.pdh_recovery.proofs.RecoverLaws.{recovers_list}
use Rattle.pdh_recovery.proofs.SettleLaws.{confirmed_fits}

drop_none : (line : List Bool) → drop 0 line ≡ line
drop_none [] = refl
drop_none (bit ∷ line) = refl

-- a line's first slots are right, so many
unfoldable pub begins_right : FrameShape → ℕ → List Bool → Bool
begins_right s slots line = list_all (λ t. not (breaks_at s line t)) (range_with_len 0 slots)

right_begins : (s : FrameShape) (slots : ℕ) (line : List Bool) → slots ≤ s.len → is_right s (take s.len line) ≡ true → begins_right s slots line ≡ true
unfolding begins_right is_right
right_begins s slots line few h =
    list_all-range (λ t. not (breaks_at s line t)) 0 slots (λ t l lt.
    ap (λ bit. not (breaks (s.role t) bit)) (sym (get_or-take s.len line t false (omega arith)))
    ∙ list_all-at (λ t. not (breaks_at s (take s.len line) t)) 0 s.len t h (omega arith) (omega arith))

-- of so many positions of a line from position p on, each that begins with the signal is a true one
unfoldable pub none_imitates : FrameShape → ℕ → ℕ → ℕ → ℕ → ℕ → List Bool → Bool
none_imitates s slots e u zero p line = true
none_imitates s slots e u (suc n) p line = (not (begins_right s slots line) || eqb ((p + u) % s.len) (e % s.len)) && none_imitates s slots e u n (suc p) (drop 1 line)

follows : (b c : Bool) → (not b || c) ≡ true → b ≡ true → c ≡ true
follows true c h e = h
follows false c h e = cc

true_at : (s : FrameShape) (slots e u n p i : ℕ) (line : List Bool) → none_imitates s slots e u n p line ≡ true → i < n → begins_right s slots (drop i line) ≡ true → IsTruePosition s e u (p + i)
unfolding none_imitates
true_at s slots e u zero p i line h lt right = absurd (omega arith)
true_at s slots e u (suc n) p zero line h lt right =
    let parts = and_true (not (begins_right s slots line) || eqb ((p + u) % s.len) (e % s.len)) (none_imitates s slots e u n (suc p) (drop 1 line)) h in
    let here : (p + u) % s.len ≡ e % s.len = eqb-true _ _ (follows (begins_right s slots line) (eqb ((p + u) % s.len) (e % s.len)) parts.0 (ap (begins_right s slots) (sym (drop_none line)) ∙ right)) in
    let at : p + 0 + u ≡ p + u = omega arith in
    ap (λ n. n % s.len) at ∙ here
true_at s slots e u (suc n) p (suc i) line h lt right =
    let parts = and_true (not (begins_right s slots line) || eqb ((p + u) % s.len) (e % s.len)) (none_imitates s slots e u n (suc p) (drop 1 line)) h in
    let step : 1 + i ≡ suc i = omega arith in
    let next : drop i (drop 1 line) ≡ drop (suc i) line = drop-drop i 1 line ∙ ap (λ n. drop n line) step in
    let at : p + suc i + u ≡ suc p + i + u = omega arith in
    ap (λ n. n % s.len) at ∙ true_at s slots e u n (suc p) i (drop 1 line) parts.1 (omega arith) (ap (begins_right s slots) next ∙ right)

-- so a position that is confirmed there is a true one
pub true_there : (s : FrameShape) (slots e u n first p : ℕ) (line : List Bool) → slots ≤ s.len → none_imitates s slots e u n first (drop first line) ≡ true → first ≤ p → p < first + n → is_confirmed s (drop p line) ≡ true
    → IsTruePosition s e u p
true_there s slots e u n first p line few none from to confirmed =
    let at : first + (p - first) ≡ p = omega arith in
    let there : drop (p - first) (drop first line) ≡ drop p line = drop-drop (p - first) first line ∙ ap (λ n. drop n line) at in
    let no_slots : 0 * s.len ≡ 0 = omega arith in
    let frame : frame_of s (drop p line) 0 ≡ take s.len (drop p line) = ap (λ n. take s.len (drop n (drop p line))) no_slots ∙ ap (take s.len) (drop_none (drop p line)) in
    let right : begins_right s slots (drop p line) ≡ true = right_begins s slots (drop p line) few (ap (is_right s) (sym frame) ∙ (confirmed_right s (drop p line) confirmed).0) in
    ap (λ n. (n + u) % s.len) (sym at) ∙ true_at s slots e u n first (p - first) (drop first line) none (omega arith) (ap (begins_right s slots) there ∙ right)

-- a false alignment is lost, and the search from there on goes to the line's end
pub quiet_once_lost : (s : FrameShape) (slots e u m n place lost_at : ℕ) (line : List Bool) → IsFrame s → 0 < m → slots ≤ s.len → EndsInFrames s (take e line) place → LosesAt s line place lost_at → LosesAt s (take (e + m * s.len) line) place lost_at
    → none_imitates s slots e u n lost_at (drop lost_at line) ≡ true → length line < lost_at + n + 3 * s.len → IsQuietFrom s line e u m
quiet_once_lost s slots e u m n place lost_at line shape some few frames lost in_time none long = record {
  some = some;
  no_other = λ q p searches from late confirmed.
      let fits : p + 3 * s.len ≤ length line = confirmed_fits s line p shape.some_slots confirmed in
      let q_is : q ≡ lost_at = searches_once s line e q lost_at shape.some_slots searches (inr (place, frames, lost)) in
      true_there s slots e u n lost_at p line few none (omega arith) (omega arith) confirmed;
  in_time = λ p open_frames not_true. (lost_at, subst (λ p. LosesAt s (take (e + m * s.len) line) p lost_at) (place_once s (take e line) place p frames open_frames) in_time);
}

-- from there on the line is right, and quiet
pub right_again : (s : FrameShape) (e u m n k : ℕ) (line sent : List Bool) → IsFrame s → KeepsRight s → length line ≡ n → length sent ≡ k → u + (n - e) ≤ k → drop e line ≡ take (n - e) (drop u sent) → every_right s sent ≡ true
    → IsQuietFrom s line e u m → e + (m + 3) * s.len ≤ n → RecoversAfter s line e u m
right_again s e u m n k line sent shape keeps count sent_count within same right quiet long =
    let bits : RejoinsList line sent e u = (omega arith, same ∙ ap (λ n. take (n - e) (drop u sent)) (sym count)) in
    recovers_list s line sent e u m shape keeps bits (λ k h. every_right-at s sent k right h) quiet (omega arith)
