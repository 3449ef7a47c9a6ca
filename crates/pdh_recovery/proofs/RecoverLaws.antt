-- One level comes back to the sent line after the last line error.
use Rattle.std.proofs.Common.{◌≡◌, ℕ, suc, ◌+◌, ◌-◌, ◌*◌, ◌%◌, ◌<◌, ◌≤◌, Bool, true, false, List, ◌++◌, length, map, take, drop, refl, sym, ap, ◌∙◌, subst, inl, inr, arith, length-drop}
use Rattle.std.specs.List.{range_with_len}
use Rattle.std.proofs.lemmas.List.{take-append-drop, drop-append-le, drop-drop, length-take-le, take-take, drop-take}
use Rattle.std.proofs.lemmas.List.FromFn.{take-map-range_with_len}
use Rattle.std.proofs.lemmas.Bool.{ltb-true, lt-ltb, cases_Bool, cases_lt}
use Rattle.std.proofs.lemmas.Nat.{le-div}
use Rattle.std.proofs.Math.Nat.{mul-le-mul_right}
use Rattle.pdh_shape.specs.Frame.{FrameShape, IsFrame}
use Rattle.pdh_line.specs.Least.{least_below}
use Rattle.pdh_line.specs.Tracking.{is_confirmed, positions, gap_of, is_found, aligned, completes_loss, frames_in, delivered, is_lost}
use Rattle.pdh_line.proofs.LeastLaws.{least_below_before, least_below_passes}
use Rattle.pdh_line.proofs.TrackingLaws as laws
use Rattle.pdh_align.proofs.AligningLaws.{all_delivered}
use Rattle.std.proofs.Common.{get_or}
use Rattle.std.proofs.lemmas.List.{ext_get_or, get_or-take, get_or-drop}
use Rattle.std.proofs.lemmas.List.FromFn.{length-map-range_with_len, get_or-map-range_with_len}
use Rattle.pdh_shape.specs.Frame.{is_right}
use Rattle.pdh_line.specs.Tracking.{frame_of}
use Rattle.pdh_line.specs.Sending.{front}
use Rattle.pdh_line.proofs.Ranges.{map-range_same_on}
use Rattle.pdh_recovery.specs.Losing.{KeepsRight}
use Rattle.pdh_recovery.specs.Recovering.{EndsInFrames, LosesAt, Rejoins, RejoinsList, IsTruePosition, IsQuietFrom, AllRight, Recovers, RecoversAfter}
use Rattle.pdh_recovery.proofs.PieceLaws.{next_search, SearchAt, search_append, search_next, last_search, ends_in_gap, ends_in_frames, loses_at}
use Rattle.pdh_recovery.proofs.OnceLaws.{open_or_lost}
use Rattle.pdh_recovery.proofs.SettleLaws.{confirmed_fits, least_below_at, settles, kept_on}

-- a front, and what a longer front adds
front_splits : (line : List Bool) (a n : ℕ) → a ≤ n → take n line ≡ take a line ++ drop a (take n line)
front_splits line a n h = sym (take-append-drop a (take n line)) ∙ ap (λ x. x ++ drop a (take n line)) (take-take a n line h)

drop_splits : (line : List Bool) (b a n : ℕ) → a ≤ n → b ≤ length (take a line) → drop b (take n line) ≡ drop b (take a line) ++ drop a (take n line)
drop_splits line b a n h within = ap (drop b) (front_splits line a n h) ∙ drop-append-le b (take a line) (drop a (take n line)) within

search_front : (s : FrameShape) (line : List Bool) (b a n : ℕ) → a ≤ n → SearchAt s (take a line) b → SearchAt s (take n line) b
search_front s line b a n h at = subst (λ l. SearchAt s l b) (sym (front_splits line a n h)) (search_append s (take a line) (drop a (take n line)) b at)

rejoins_front : (line : List Bool) (sent : ℕ → Bool) (e u n : ℕ) → Rejoins line sent e u → e ≤ n → n ≤ length line → Rejoins (take n line) sent e u
rejoins_front line sent e u n same from within =
    let d : ℕ = n - e in
    let at : e + d ≡ n = omega arith in
    let len : length (take n line) - e ≡ d = ap (λ k. k - e) (length-take-le n line within) in
    ap (λ k. drop e (take k line)) (sym at) ∙ drop-take e d line ∙ ap (take d) same ∙ take-map-range_with_len sent u (length line - e) d (omega arith)
    ∙ ap (λ k. map sent (range_with_len u k)) (sym len)

-- what is confirmed in a front is confirmed in the line
confirmed_longer : (s : FrameShape) (line : List Bool) (n p : ℕ) → 0 < s.len → is_confirmed s (drop p (take n line)) ≡ true → is_confirmed s (drop p line) ≡ true
confirmed_longer s line n p some h =
    let long : p + 3 * s.len ≤ length (take n line) = confirmed_fits s (take n line) p some h in
    let lt : p < positions s (take n line) = omega arith in
    let e : is_confirmed s (drop p (take n line ++ drop n line)) ≡ is_confirmed s (drop p (take n line)) = laws.is_confirmed-drop-append s (take n line) (drop n line) p lt in
    ap (λ l. is_confirmed s (drop p l)) (sym (take-append-drop n line)) ∙ e ∙ h

-- a position that is confirmed where a search has ended would have been found
found_at : (s : FrameShape) (line : List Bool) (b p : ℕ) → 0 < s.len → b ≤ p → is_confirmed s (drop p line) ≡ true → is_found s (drop b line) ≡ true
found_at s line b p some from h =
    let rest : List Bool = drop b line in
    let long : p + 3 * s.len ≤ length line = confirmed_fits s line p some h in
    let at : b + (p - b) ≡ p = omega arith in
    let here : is_confirmed s (drop (p - b) rest) ≡ true = ap (is_confirmed s) (drop-drop (p - b) b line ∙ ap (λ n. drop n line) at) ∙ h in
    let most : gap_of s rest ≤ p - b = rw (laws.gap_of_is s rest) (least_below_at (positions s rest) (λ p. is_confirmed s (drop p rest)) (p - b) here) in
    let len : length rest ≡ length line - b = length-drop b line in
    lt-ltb _ _ (omega arith)

-- an alignment that is lost only in a longer line has its losing frame end past the line
lost_late : (s : FrameShape) (x more : List Bool) → IsFrame s → is_found s x ≡ true → is_lost s x ≡ false → is_lost s (x ++ more) ≡ true
    → length (aligned s x) < delivered s (x ++ more) * s.len + s.len
lost_late s x more shape found kept lost =
    let found' : is_found s (x ++ more) ≡ true = laws.is_found-append s x more found in
    let a : List Bool = aligned s x in
    let d : ℕ = delivered s (x ++ more) in
    let a' : aligned s (x ++ more) ≡ a ++ more = laws.aligned-append s x more found in
    let below : d < frames_in s (a ++ more) = subst (λ y. d < frames_in s y) a' (laws.is_lost_below s (x ++ more) lost) in
    let d_is : d ≡ least_below (frames_in s (a ++ more)) (completes_loss s (a ++ more)) = laws.delivered_is s (x ++ more) found' ∙ ap (λ y. least_below (frames_in s y) (completes_loss s y)) a' in
    let loses : completes_loss s (a ++ more) d ≡ true = ap (completes_loss s (a ++ more)) d_is ∙ least_below_passes (frames_in s (a ++ more)) (completes_loss s (a ++ more)) (omega arith) in
    let all : delivered s x ≡ frames_in s a = all_delivered s x found kept in
    elim (cases_lt (length a) (d * s.len + s.len)) [
      | inl late ↦ late
      | inr early ↦
          let whole : suc d ≤ frames_in s a = le-div (suc d) (length a) s.len shape.some_slots (omega arith) in
          let was : completes_loss s a d ≡ false = least_below_before (frames_in s a) (completes_loss s a) d (rw (← laws.delivered_is s x found) (omega arith)) in
          absurd (let e : true ≡ false = sym loses ∙ laws.completes_loss-append s a more d shape (omega arith) ∙ was in cc)
    ]

-- the search that finds the alignment which stays, in every front from one on
pub record Stays (s : FrameShape) (line : List Bool) (e u from limit : ℕ) : Type 0 where
  pub c : ℕ
  pub within : c ≤ from
  pub search : (n : ℕ) → from ≤ n → n ≤ length line → SearchAt s (take n line) c
  pub good : (n : ℕ) → from ≤ n → n ≤ length line → (is_found s (drop c (take n line)) ≡ true) × (is_lost s (drop c (take n line)) ≡ false)
      × (c + gap_of s (drop c (take n line)) < limit) × IsTruePosition s e u (c + gap_of s (drop c (take n line)))

finish : (s : FrameShape) (line : List Bool) (e u from limit c : ℕ) → IsFrame s → from ≤ length line → c ≤ from
    → ((n : ℕ) → from ≤ n → n ≤ length line → SearchAt s (take n line) c)
    → ((n : ℕ) → from ≤ n → n ≤ length line → (is_found s (drop c (take n line)) ≡ true) × (is_lost s (drop c (take n line)) ≡ false)
    × (c + gap_of s (drop c (take n line)) < limit) × IsTruePosition s e u (c + gap_of s (drop c (take n line))))
    → Stays s line e u from limit
finish s line e u from limit c shape long within search good = record { c = c; within = within; search = search; good = good }

-- the same open frames in every front from one on
stays_recovers : (s : FrameShape) (line : List Bool) (e u from limit : ℕ) → IsFrame s → from ≤ length line → Stays s line e u from limit → Recovers s line e u from limit
stays_recovers s line e u from limit shape long h =
    let c : ℕ = h.c in
    let within : c ≤ from = h.within in
    let now = h.good from (omega arith) long in
    let first : List Bool = drop c (take from line) in
    let len : length (take from line) ≡ from = length-take-le from line long in
    record {
      place = c + gap_of s first;
      true_position = now.3;
      early = now.2;
      stays = λ n h1 h2.
          let here = h.good n h1 h2 in
          let split : drop c (take n line) ≡ first ++ drop from (take n line) = drop_splits line c from n h1 (omega arith) in
          let same : gap_of s (drop c (take n line)) ≡ gap_of s first = ap (gap_of s) split ∙ laws.gap_of-append s first (drop from (take n line)) now.0 in
          subst (λ g. EndsInFrames s (take n line) (c + g)) same (ends_in_frames s (take n line) c shape (h.search n h1 h2) here.0 here.1);
    }

frames_mono : (s : FrameShape) (k n : ℕ) → k ≤ n → k * s.len ≤ n * s.len
frames_mono s k n h = mul-le-mul_right s.len h

right_front : (s : FrameShape) (line : List Bool) (sent : ℕ → Bool) (e u n : ℕ) → AllRight s sent (u + (length line - e)) → n ≤ length line → AllRight s sent (u + (length (take n line) - e))
right_front s line sent e u n right within = λ k h. right k (omega (arith, length-take-le n line within))

pub recovers_by : (s : FrameShape) (line : List Bool) (sent : ℕ → Bool) (e u m : ℕ) → IsFrame s → KeepsRight s → Rejoins line sent e u → AllRight s sent (u + (length line - e))
    → IsQuietFrom s line e u m → e + (m + 3) * s.len ≤ length line → Stays s line e u (e + (m + 3) * s.len) (e + m * s.len)
recovers_by s line sent e u m shape keeps same right quiet long =
    let some : 0 < s.len = shape.some_slots in
    let some_m : 0 < m = quiet.some in
    let limit : ℕ = e + m * s.len in
    let from : ℕ = e + (m + 3) * s.len in
    let one_frame : 1 * s.len ≤ m * s.len = frames_mono s 1 m some_m in
    let last = last_search s (take e line) shape in
    let b : ℕ = last.0 in
    let len_e : length (take e line) ≡ e = length-take-le e line (omega arith) in
    let b_within : b ≤ length (take e line) = last.1.within in
    let x : List Bool = drop b (take e line) in
    let at : (n : ℕ) → e ≤ n → SearchAt s (take n line) b = λ n h. search_front s line b e n h last.1 in
    let splits : (n : ℕ) → e ≤ n → drop b (take n line) ≡ x ++ drop e (take n line) = λ n h. drop_splits line b e n h b_within in
    elim (cases_Bool (is_found s x)) [
      | inr open_gap ↦
          finish s line e u from limit b shape long (omega arith) (λ n h h'. at n (omega arith))
          (λ n h h'.
          let r = settles s (take n line) sent e u b e shape (rejoins_front line sent e u n same (omega arith) h') (right_front s line sent e u n right h')
          (λ p b_le confirmed.
          let in_line : is_confirmed s (drop p line) ≡ true = confirmed_longer s line n p some confirmed in
          let fits : p + 3 * s.len ≤ length (take n line) = confirmed_fits s (take n line) p some confirmed in
          let late : e < p + 3 * s.len = elim (cases_lt e (p + 3 * s.len)) [
            | inl lt ↦ lt
            | inr ge ↦
                let here : is_confirmed s (drop p (take e line)) ≡ true =
                sym (ap (λ l. is_confirmed s (drop p l)) (front_splits line e n (omega arith)) ∙ laws.is_confirmed-drop-append s (take e line) (drop e (take n line)) p (omega arith)) ∙ confirmed in
                absurd (let e : true ≡ false = sym (found_at s (take e line) b p some b_le here) ∙ open_gap in cc)
          ] in
          (quiet.no_other b p (inl (ends_in_gap s (take e line) b last.1 open_gap)) b_le late in_line, late))
          (omega arith) (omega arith) (omega (arith, length-take-le n line h')) in
          (r.0, r.1, omega (arith, r.2), r.3))
      | inl found ↦
          let p : ℕ = b + gap_of s x in
          let open_frames : EndsInFrames s (take e line) p = ends_in_frames s (take e line) b shape last.1 found last.2 in
          let x1 : List Bool = drop b (take limit line) in
          let len_1 : length (take limit line) ≡ limit = length-take-le limit line (omega arith) in
          let split_1 : x1 ≡ x ++ drop e (take limit line) = splits limit (omega arith) in
          let found_1 : is_found s x1 ≡ true = ap (is_found s) split_1 ∙ laws.is_found-append s x (drop e (take limit line)) found in
          let gap_1 : gap_of s x1 ≡ gap_of s x = ap (gap_of s) split_1 ∙ laws.gap_of-append s x (drop e (take limit line)) found in
          let lt : gap_of s x < positions s x = ltb-true _ _ found in
          let len_x : length x ≡ e - b = length-drop b (take e line) ∙ ap (λ n. n - b) len_e in
          elim (cases_Bool (is_lost s x1)) [
            | inl lost ↦
                let q : ℕ = b + next_search s x1 in
                let d : ℕ = delivered s x1 in
                let at_q : SearchAt s (take limit line) q = search_next s (take limit line) b shape (at limit (omega arith)) lost in
                let len_a1 : length (aligned s x1) ≡ limit - b - gap_of s x1 = length-drop (gap_of s x1) x1 ∙ ap (λ n. n - gap_of s x1) (length-drop b (take limit line) ∙ ap (λ n. n - b) len_1) in
                let whole : d * s.len + s.len ≤ length (aligned s x1) = laws.whole_frame s (aligned s x1) d shape (laws.is_lost_below s x1 lost) in
                let len_a : length (aligned s x) ≡ e - b - gap_of s x = length-drop (gap_of s x) x ∙ ap (λ n. n - gap_of s x) len_x in
                let late' : length (aligned s x) < delivered s (x ++ drop e (take limit line)) * s.len + s.len = lost_late s x (drop e (take limit line)) shape found last.2 (ap (is_lost s) (sym split_1) ∙ lost) in
                let late : length (aligned s x) < d * s.len + s.len = subst (λ y. length (aligned s x) < delivered s y * s.len + s.len) (sym split_1) late' in
                let loss' : LosesAt s (take limit line ++ drop limit line) (b + gap_of s x1) q = loses_at s (take limit line) (drop limit line) b shape (at limit (omega arith)) lost in
                let loss : LosesAt s line p q = subst (λ g. LosesAt s line (b + g) q) gap_1 (subst (λ l. LosesAt s l (b + gap_of s x1) q) (take-append-drop limit line) loss') in
                finish s line e u from limit q shape long (omega arith) (λ n h h'. search_front s line q limit n (omega arith) at_q)
                (λ n h h'.
                let r = settles s (take n line) sent e u q (limit - s.len) shape (rejoins_front line sent e u n same (omega arith) h') (right_front s line sent e u n right h')
                (λ p' q_le confirmed.
                let soon : e < p' + 3 * s.len = omega arith in
                (quiet.no_other q p' (inr (p, open_frames, loss)) q_le soon (confirmed_longer s line n p' some confirmed), soon))
                (omega arith) (omega arith) (omega (arith, length-take-le n line h')) in
                (r.0, r.1, omega (arith, r.2), r.3))
            | inr kept ↦
                let still : EndsInFrames s (take limit line) p = subst (λ g. EndsInFrames s (take limit line) (b + g)) gap_1 (ends_in_frames s (take limit line) b shape (at limit (omega arith)) found_1 kept) in
                let not_false : (IsTruePosition s e u p → ⊥) → ⊥ = λ false_position.
                let loss = quiet.in_time p open_frames false_position in
                open_or_lost s (take limit line) p loss.0 some still loss.1 in
                let true_place : IsTruePosition s e u p = decided ((p + u) % s.len) (e % s.len) not_false in
                finish s line e u from limit b shape long (omega arith) (λ n h h'. at n (omega arith))
                (λ n h h'.
                let same_front : take limit (take n line) ≡ take limit line = take-take limit n line (omega arith) in
                let split_n : drop b (take n line) ≡ x ++ drop e (take n line) = splits n (omega arith) in
                let found_n : is_found s (drop b (take n line)) ≡ true = ap (is_found s) split_n ∙ laws.is_found-append s x (drop e (take n line)) found in
                let gap_n : gap_of s (drop b (take n line)) ≡ gap_of s x = ap (gap_of s) split_n ∙ laws.gap_of-append s x (drop e (take n line)) found in
                let r = kept_on s (take n line) sent e u b limit shape keeps (rejoins_front line sent e u n same (omega arith) h') (right_front s line sent e u n right h')
                (omega arith) (omega arith) (omega (arith, length-take-le n line h'))
                (ap (λ l. is_found s (drop b l)) same_front ∙ found_1) (ap (λ l. is_lost s (drop b l)) same_front ∙ kept)
                (subst (λ g. IsTruePosition s e u (b + g)) (sym (ap (λ l. gap_of s (drop b l)) same_front ∙ gap_1)) true_place) in
                (found_n, r, omega arith, subst (λ g. IsTruePosition s e u (b + g)) (sym gap_n) true_place))
          ]
    ]
  where
    decided : (a c : ℕ) → ((a ≡ c → ⊥) → ⊥) → a ≡ c
    decided a c h =
        elim (cases_lt a c) [
          | inl less ↦ absurd (h (λ e. omega arith))
          | inr more ↦ elim (cases_lt c a) [
            | inl less ↦ absurd (h (λ e. omega arith))
            | inr more' ↦ omega arith
          ]
        ]

-- after the last error, and where no other position imitates the signal and a false alignment is lost in time, each
-- front of the received line ends in the same open frames at true positions
pub recovers : (s : FrameShape) (line : List Bool) (sent : ℕ → Bool) (e u m : ℕ) → IsFrame s → KeepsRight s → Rejoins line sent e u → AllRight s sent (u + (length line - e))
    → IsQuietFrom s line e u m → e + (m + 3) * s.len ≤ length line → RecoversAfter s line e u m
recovers s line sent e u m shape keeps same right quiet long =
    stays_recovers s line e u (e + (m + 3) * s.len) (e + m * s.len) shape long (recovers_by s line sent e u m shape keeps same right quiet long)

-- the bits of a list from a place on
pub bits_from : (sent : List Bool) (u n : ℕ) → u + n ≤ length sent → map (λ x. get_or sent x false) (range_with_len u n) ≡ take n (drop u sent)
bits_from sent u n within =
    let len : length (map (λ x. get_or sent x false) (range_with_len u n)) ≡ n = length-map-range_with_len (λ x. get_or sent x false) u n in
    let len' : length (take n (drop u sent)) ≡ n = length-take-le n (drop u sent) (omega (arith, length-drop u sent)) in
    ext_get_or false _ _ (len ∙ sym len') (λ i h.
    get_or-map-range_with_len (λ x. get_or sent x false) u n i (u + i) false (omega arith) refl
    ∙ sym (get_or-take n (drop u sent) i false (omega arith) ∙ get_or-drop u sent i false))

-- the same where the sent line is any list whose frames are all right
pub recovers_list : (s : FrameShape) (line sent : List Bool) (e u m : ℕ) → IsFrame s → KeepsRight s
    → RejoinsList line sent e u → ((k : ℕ) → k < frames_in s sent → is_right s (frame_of s sent k) ≡ true)
    → IsQuietFrom s line e u m → e + (m + 3) * s.len ≤ length line → RecoversAfter s line e u m
recovers_list s line sent e u m shape keeps same right quiet long =
    recovers s line (λ x. get_or sent x false) e u m shape keeps (same.1 ∙ sym (bits_from sent u (length line - e) same.0))
    (λ k h.
    let within : u + (length line - e) ≤ length sent = same.0 in
    let whole : suc k ≤ frames_in s sent = le-div (suc k) (length sent) s.len shape.some_slots (omega arith) in
    ap (is_right s) (bits_from sent (k * s.len) s.len (omega arith)) ∙ right k (omega arith)) quiet long

-- what rejoins the first bits of a sent line, as a list, rejoins the line
pub rejoins_line : (received : List Bool) (sent : ℕ → Bool) (n e u : ℕ) → RejoinsList received (front sent n) e u → Rejoins received sent e u
rejoins_line received sent n e u same =
    let k : ℕ = length received - e in
    let long : length (front sent n) ≡ n = length-map-range_with_len sent 0 n in
    let within : u + k ≤ length (front sent n) = same.0 in
    same.1 ∙ sym (bits_from (front sent n) u k within)
    ∙ map-range_same_on (λ x. get_or (front sent n) x false) sent u k (λ x l h. get_or-map-range_with_len sent 0 n x x false (omega arith) (omega arith))
