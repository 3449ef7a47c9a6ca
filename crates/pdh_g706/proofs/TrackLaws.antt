-- Laws of tracking: what a longer line keeps, and that enough searches are enough.
use Rattle.std.proofs.Common.{◌≡◌, ℕ, zero, suc, ◌+◌, ◌-◌, ◌*◌, ◌/◌, ◌<◌, ◌≤◌, Bool, true, false, cond, List, [], ◌∷◌, ◌++◌, length, drop, refl, sym, ap, ◌∙◌, inl, inr, arith, length-drop}
use Rattle.std.proofs.lemmas.List.{drop-append-le, length-take-le}
use Rattle.std.proofs.lemmas.Bool.{ltb-true, le-ltb, cases_Bool, cases_lt, false≢true}
use Rattle.pdh_g706.specs.Frames.{frames_of, is_found, aligned}
use Rattle.pdh_g706.specs.Alignment.{loses, end_of, is_ended, up_to_end, kept, resumes}
use Rattle.pdh_g706.specs.Tracking.{Share, share_of, found_frames, is_over, one_search, after_search, track_within, track}
use Rattle.pdh_g706.proofs.FrameLists.{length_frames, frames_grow}
use Rattle.pdh_g706.proofs.SearchLaws.{is_found-append, aligned-append, aligned_long, aligned_le}
use Rattle.pdh_g706.proofs.AlignmentLaws.{is_ended-append, up_to_end-append, kept-append, resumes-append, resumes_is, loses_short}

pub found_frames_is : (l : List Bool) → is_found l ≡ true → found_frames l ≡ frames_of (aligned l)
unfolding found_frames
found_frames_is l found = rw found refl

pub found_frames_none : (l : List Bool) → is_found l ≡ false → found_frames l ≡ []
unfolding found_frames
found_frames_none l found = rw found refl

pub one_search_is : (l : List Bool) → one_search l ≡ share_of (loses (up_to_end (found_frames l))) (kept (found_frames l))
unfolding one_search
one_search_is l = refl

pub after_search_is : (l : List Bool) → after_search l ≡ drop (resumes (found_frames l)) (aligned l)
unfolding after_search
after_search_is l = refl

-- a search that found nothing isn't over
pub not_over : (l : List Bool) → is_found l ≡ false → is_over l ≡ false
not_over l found = ap is_ended (found_frames_none l found) ∙ le-ltb (end_of []) 0 (omega arith)

pub over_found : (l : List Bool) → is_over l ≡ true → is_found l ≡ true
over_found l over = elim (cases_Bool (is_found l)) [
  | inl found ↦ found
  | inr none ↦ absurd (false≢true (sym (not_over l none) ∙ over))
]

pub found_frames-append : (l m : List Bool) → is_found l ≡ true → (rest : List (List Bool)) × (found_frames (l ++ m) ≡ found_frames l ++ rest)
found_frames-append l m found =
    let more = frames_grow (aligned l) m in (
      more.0,
      found_frames_is (l ++ m) (is_found-append l m found) ∙ ap frames_of (aligned-append l m found) ∙ more.1
          ∙ ap (λ (x : List (List Bool)). x ++ more.0) (sym (found_frames_is l found)),
    )

pub is_over-append : (l m : List Bool) → is_over l ≡ true → is_over (l ++ m) ≡ true
is_over-append l m over =
    let more = found_frames-append l m (over_found l over) in
    ap is_ended more.1 ∙ is_ended-append (found_frames l) more.0 over

pub one_search-append : (l m : List Bool) → is_over l ≡ true → one_search (l ++ m) ≡ one_search l
one_search-append l m over =
    let more = found_frames-append l m (over_found l over) in
    one_search_is (l ++ m) ∙ ap (λ (x : List (List Bool)). share_of (loses (up_to_end x)) (kept x)) more.1
    ∙ ap (λ (x : List (List Bool)). share_of (loses x) (kept (found_frames l ++ more.0))) (up_to_end-append (found_frames l) more.0 over)
    ∙ ap (share_of (loses (up_to_end (found_frames l)))) (kept-append (found_frames l) more.0 over) ∙ sym (one_search_is l)

-- where the next search begins
pub record Resumes (l : List Bool) : Type 0 where
  pub some : 1 ≤ resumes (found_frames l)
  pub within : resumes (found_frames l) ≤ length (aligned l)

pub resumes_of : (l : List Bool) → is_over l ≡ true → Resumes l
resumes_of l over =
    let fs : List (List Bool) = found_frames l in
    let lt : end_of fs < length fs = ltb-true _ _ over in
    let count : length fs ≡ length (aligned l) / 256 = ap length (found_frames_is l (over_found l over)) ∙ length_frames (aligned l) in
    let long : length (up_to_end fs) ≡ suc (end_of fs) = length-take-le (suc (end_of fs)) fs (omega arith) in
    elim (cases_Bool (loses (up_to_end fs))) [
      | inl lost ↦
          let is : resumes fs ≡ 256 * end_of fs = resumes_is fs ∙ ap (λ b. cond b (256 * end_of fs) (256 * end_of fs + 1)) lost in
          elim (cases_lt (length (up_to_end fs)) 5) [
            | inl short ↦ absurd (false≢true (sym (loses_short (up_to_end fs) short) ∙ lost))
            | inr enough ↦ record { some = omega arith; within = omega arith }
          ]
      | inr fine ↦
          let is : resumes fs ≡ 256 * end_of fs + 1 = resumes_is fs ∙ ap (λ b. cond b (256 * end_of fs) (256 * end_of fs + 1)) fine in
          record { some = omega arith; within = omega arith }
    ]

pub after_search-append : (l m : List Bool) → is_over l ≡ true → after_search (l ++ m) ≡ after_search l ++ m
after_search-append l m over =
    let found : is_found l ≡ true = over_found l over in
    let more = found_frames-append l m found in
    let r = resumes_of l over in
    after_search_is (l ++ m) ∙ ap (drop (resumes (found_frames (l ++ m)))) (aligned-append l m found)
    ∙ ap (λ (x : List (List Bool)). drop (resumes x) (aligned l ++ m)) more.1
    ∙ ap (λ n. drop n (aligned l ++ m)) (resumes-append (found_frames l) more.0 over)
    ∙ drop-append-le (resumes (found_frames l)) (aligned l) m r.within ∙ ap (λ (x : List Bool). x ++ m) (sym (after_search_is l))

-- each search but the first begins later
pub after_search_shorter : (l : List Bool) → is_over l ≡ true → length (after_search l) < length l
after_search_shorter l over =
    let r = resumes_of l over in
    let long : 768 ≤ length (aligned l) = aligned_long l (over_found l over) in
    let is : length (after_search l) ≡ length (aligned l) - resumes (found_frames l) = ap length (after_search_is l) ∙ length-drop (resumes (found_frames l)) (aligned l) in
    omega (arith, aligned_le l, r.some)

-- ---- enough searches are enough

pub track_within_over : (n : ℕ) (l : List Bool) → is_over l ≡ true → track_within (suc n) l ≡ one_search l ∷ track_within n (after_search l)
unfolding track_within
track_within_over n l over = rw over refl

pub track_within_open : (n : ℕ) (l : List Bool) → is_over l ≡ false → track_within (suc n) l ≡ one_search l ∷ []
unfolding track_within
track_within_open n l over = rw over refl

pub track_within_enough : (n m : ℕ) (l : List Bool) → length l < n → length l < m → track_within n l ≡ track_within m l
track_within_enough zero m l h h' = absurd (omega arith)
track_within_enough (suc n) zero l h h' = absurd (omega arith)
track_within_enough (suc n) (suc m) l h h' =
    elim (cases_Bool (is_over l)) [
      | inl over ↦
          let shorter : length (after_search l) < length l = after_search_shorter l over in
          track_within_over n l over
          ∙ ap (λ (x : List Share). one_search l ∷ x) (track_within_enough n m (after_search l) (omega arith) (omega arith))
          ∙ sym (track_within_over m l over)
      | inr kept_on ↦ track_within_open n l kept_on ∙ sym (track_within_open m l kept_on)
    ]

pub track_is : (l : List Bool) → track l ≡ track_within (suc (length l)) l
unfolding track
track_is l = refl

pub track_over : (l : List Bool) → is_over l ≡ true → track l ≡ one_search l ∷ track (after_search l)
track_over l over =
    let shorter : length (after_search l) < length l = after_search_shorter l over in
    track_is l ∙ track_within_over (length l) l over
    ∙ ap (λ (x : List Share). one_search l ∷ x) (track_within_enough (length l) (suc (length (after_search l))) (after_search l) (omega arith) (omega arith) ∙ sym (track_is (after_search l)))

pub track_open : (l : List Bool) → is_over l ≡ false → track l ≡ one_search l ∷ []
track_open l kept_on = track_is l ∙ track_within_open (length l) l kept_on

-- what came before a search that is over is settled
pub track_over-append : (l m : List Bool) → is_over l ≡ true → track (l ++ m) ≡ one_search l ∷ track (after_search l ++ m)
track_over-append l m over =
    track_over (l ++ m) (is_over-append l m over)
    ∙ ap (λ (x : Share). x ∷ track (after_search (l ++ m))) (one_search-append l m over)
    ∙ ap (λ (x : List Bool). one_search l ∷ track x) (after_search-append l m over)
