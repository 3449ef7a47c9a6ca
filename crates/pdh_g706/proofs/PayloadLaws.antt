-- A line gives no more than 496 of each 512 of its bits.
use Rattle.std.proofs.Common.{◌≡◌, ℕ, zero, suc, ◌+◌, ◌-◌, ◌*◌, ◌/◌, ◌%◌, ◌<◌, ◌≤◌, Bool, true, false, ◌&&◌, ◌||◌, not, cond, List, [], ◌∷◌, length, map, take, drop, refl, sym, ap, ◌∙◌, inl, inr, arith, length-append, length-drop}
use Rattle.std.specs.Prelude.{flat_map, ◌==◌}
use Rattle.std.specs.List.{range_with_len}
use Rattle.std.proofs.lemmas.List.{take-map, drop-map, length-take, length-take-le}
use Rattle.std.proofs.lemmas.List.Concat.{flat_map-cons}
use Rattle.std.proofs.lemmas.Bool.{cases_Bool, ltb-true, eqb-true, and_parts, false≢true}
use Rattle.pdh_g706.specs.Frames.{frame_of, is_found, aligned}
use Rattle.pdh_g706.specs.Alignment.{loses, is_reached, begin, framed, multiframes, payload, judged, is_false, ends, end_of, is_ended, up_to_end, kept, resumes}
use Rattle.pdh_g706.specs.Tracking.{Share, share_of, found_frames, is_over, one_search, after_search, track_within, e1_far}
use Rattle.pdh_g706.proofs.FrameLists.{frames_of_is, length_frames}
use Rattle.pdh_g706.proofs.FirstLaws.{first_passes}
use Rattle.pdh_g706.proofs.AlignmentLaws.{end_of_is, ends_is, kept_is, kept_open, resumes_is}
use Rattle.pdh_g706.proofs.GrowthLaws.{judged_is, multiframes_is, multiframes_none, is_false_is}
use Rattle.pdh_g706.proofs.SearchLaws.{aligned_le}
use Rattle.pdh_g706.proofs.TrackLaws.{found_frames_is, over_found, one_search_is, after_search_is, resumes_of, track_within_over, track_within_open, track_is}
use Rattle.pdh_g706.proofs.TurnLaws.{one_search_none}

-- ---- the payload of frames

-- each frame has at most 248 bits of it
frames_give : (line : List Bool) (places : List ℕ) → length (flat_map (drop 8) (map (frame_of line) places)) ≤ 248 * length places
frames_give line [] = omega arith
frames_give line (k ∷ places) =
    let rest : List Bool = flat_map (drop 8) (map (frame_of line) places) in
    let all : length (flat_map (drop 8) (map (frame_of line) (k ∷ places))) ≡ length (drop 8 (frame_of line k)) + length rest =
    ap length (flat_map-cons (drop 8) (frame_of line k) (map (frame_of line) places)) ∙ length-append (drop 8 (frame_of line k)) rest in
    omega (arith, all, length-drop 8 (frame_of line k), length-take 256 (drop (256 * k) line), frames_give line places)

payload_is : (fs : List (List Bool)) → payload fs ≡ flat_map (drop 8) (take (16 * multiframes fs) (drop (begin fs) fs))
unfolding payload
payload_is fs = refl

-- so do those of multiframes
multiframes_give : (line : List Bool) (places : List ℕ) (fs : List (List Bool)) → fs ≡ map (frame_of line) places → length (payload fs) ≤ 248 * (16 * multiframes fs)
multiframes_give line places fs is =
    let n : ℕ = 16 * multiframes fs in
    let part : List ℕ = take n (drop (begin fs) places) in
    let same : take n (drop (begin fs) fs) ≡ map (frame_of line) part =
    ap (λ (x : List (List Bool)). take n (drop (begin fs) x)) is ∙ ap (take n) (drop-map (frame_of line) (begin fs) places) ∙ take-map (frame_of line) n (drop (begin fs) places) in
    let all : length (payload fs) ≡ length (flat_map (drop 8) (map (frame_of line) part)) = ap length (payload_is fs) ∙ ap (λ (x : List (List Bool)). length (flat_map (drop 8) x)) same in
    omega (arith, all, frames_give line part, length-take n (drop (begin fs) places))

-- ---- the frames of multiframes

-- there are no more of them than frames
multiframes_within : (fs : List (List Bool)) → 16 * multiframes fs ≤ length fs
multiframes_within fs = elim (cases_Bool (is_reached fs)) [
  | inl reached ↦ omega (arith, multiframes_is fs reached)
  | inr none ↦ omega (arith, multiframes_none fs none)
]

-- where the alignment is false, there is a frame more
false_within : (fs : List (List Bool)) → is_reached fs ≡ true → is_false fs ≡ true → 16 * multiframes fs < length fs
false_within fs reached h =
    let p3 = and_parts _ _ (sym (is_false_is fs) ∙ h) in
    let p2 = and_parts _ _ p3.0 in
    let p1 = and_parts _ _ p2.0 in
    let whole : framed fs % 8 ≡ 0 = eqb-true _ _ p1.0 in
    let some : 0 < judged fs = ltb-true _ _ p1.1 in
    let group : judged fs % 1000 ≡ 0 = eqb-true _ _ p2.1 in
    omega (arith, whole, some, group, judged_is fs reached, multiframes_is fs reached)

-- so is there where the alignment ends with a frame that counts
end_within : (fs : List (List Bool)) → ends fs ≡ true → loses fs ≡ false → 0 < length fs → 16 * multiframes fs < length fs
end_within fs h fine some = elim (cases_Bool (is_reached fs)) [
  | inr none ↦ omega (arith, multiframes_none fs none)
  | inl reached ↦ false_within fs reached (only (loses fs) (length fs == 64) (is_reached fs) (is_false fs) (sym (ends_is fs) ∙ h) fine reached)
]
  where
    only : (a b c d : Bool) → ((a || (b && not c)) || d) ≡ true → a ≡ false → c ≡ true → d ≡ true
    only true b c d e h h' = absurd (false≢true (sym h))
    only false b false d e h h' = absurd (false≢true h')
    only false true true d e h h' = e
    only false false true d e h h' = e

-- ---- an alignment that ends

record Ended (fs : List (List Bool)) : Type 0 where
  n : ℕ
  kept_are : kept fs ≡ take n fs
  few : 16 * multiframes (kept fs) ≤ end_of fs

ended : (fs : List (List Bool)) → is_ended fs ≡ true → Ended fs
ended fs h =
    let lt : end_of fs < length fs = ltb-true _ _ h in
    elim (cases_Bool (loses (up_to_end fs))) [
      | inl lost ↦
          let is : kept fs ≡ take (end_of fs) fs = kept_is fs ∙ ap (λ b. cond b (take (end_of fs) fs) (up_to_end fs)) lost in
          record { n = end_of fs; kept_are = is; few = omega (arith, multiframes_within (kept fs), ap length is, length-take-le (end_of fs) fs (omega arith)) }
      | inr fine ↦
          let is : kept fs ≡ up_to_end fs = kept_is fs ∙ ap (λ b. cond b (take (end_of fs) fs) (up_to_end fs)) fine in
          let long : length (up_to_end fs) ≡ suc (end_of fs) = length-take-le (suc (end_of fs)) fs (omega arith) in
          let passes : ends (up_to_end fs) ≡ true = ap (λ k. ends (take (suc k) fs)) (end_of_is fs) ∙ first_passes ends fs (omega (arith, end_of_is fs)) in
          let less : 16 * multiframes (up_to_end fs) < length (up_to_end fs) = end_within (up_to_end fs) passes fine (omega arith) in
          record { n = suc (end_of fs); kept_are = is; few = omega (arith, ap multiframes is) }
    ]

-- ---- what searches give

share_payload : (lost : Bool) (fs : List (List Bool)) → (share_of lost fs).payload ≡ payload fs
unfolding share_of
share_payload lost fs = refl

search_payload : (l : List Bool) → (one_search l).payload ≡ payload (kept (found_frames l))
search_payload l = ap (λ (s : Share). s.payload) (one_search_is l) ∙ share_payload (loses (up_to_end (found_frames l))) (kept (found_frames l))

-- the frames of an alignment are cut from the line
cut : (l : List Bool) (n : ℕ) → is_found l ≡ true → take n (found_frames l) ≡ map (frame_of (aligned l)) (take n (range_with_len 0 (length (aligned l) / 256)))
cut l n found = ap (take n) (found_frames_is l found ∙ frames_of_is (aligned l)) ∙ take-map (frame_of (aligned l)) n (range_with_len 0 (length (aligned l) / 256))

-- a search that is over gives bits of the frames before the next one
over_gives : (l : List Bool) → is_over l ≡ true → 512 * length (one_search l).payload + 496 * length (after_search l) ≤ 496 * length l
over_gives l over =
    let fs : List (List Bool) = found_frames l in
    let e = ended fs over in
    let most : length (payload (kept fs)) ≤ 248 * (16 * multiframes (kept fs)) = multiframes_give (aligned l) _ (kept fs) (e.kept_are ∙ cut l e.n (over_found l over)) in
    let r = resumes_of l over in
    let later : 256 * end_of fs ≤ resumes fs = elim (cases_Bool (loses (up_to_end fs))) [
      | inl lost ↦ omega (arith, resumes_is fs ∙ ap (λ b. cond b (256 * end_of fs) (256 * end_of fs + 1)) lost)
      | inr fine ↦ omega (arith, resumes_is fs ∙ ap (λ b. cond b (256 * end_of fs) (256 * end_of fs + 1)) fine)
    ] in
    let rest : length (after_search l) ≡ length (aligned l) - resumes fs = ap length (after_search_is l) ∙ length-drop (resumes fs) (aligned l) in
    omega (arith, ap length (search_payload l), most, e.few, later, r.within, rest, aligned_le l)

-- one that goes on gives bits of all frames
open_gives : (l : List Bool) → is_over l ≡ false → 512 * length (one_search l).payload ≤ 496 * length l
open_gives l kept_on = elim (cases_Bool (is_found l)) [
  | inr none ↦ omega (arith, ap (λ (s : Share). length s.payload) (one_search_none l none))
  | inl found ↦
      let fs : List (List Bool) = found_frames l in
      let all : kept fs ≡ fs = kept_open fs kept_on in
      let is : fs ≡ map (frame_of (aligned l)) (range_with_len 0 (length (aligned l) / 256)) = found_frames_is l found ∙ frames_of_is (aligned l) in
      let most : length (payload fs) ≤ 248 * (16 * multiframes fs) = multiframes_give (aligned l) _ fs is in
      let count : length fs ≡ length (aligned l) / 256 = ap length (found_frames_is l found) ∙ length_frames (aligned l) in
      omega (arith, ap length (search_payload l), ap (λ (x : List (List Bool)). length (payload x)) all, most, multiframes_within fs, count, aligned_le l)
]

no_search : (l : List Bool) → track_within zero l ≡ []
unfolding track_within
no_search l = refl

track_gives : (n : ℕ) (l : List Bool) → 512 * length (flat_map (λ (s : Share). s.payload) (track_within n l)) ≤ 496 * length l
track_gives zero l = omega (arith, ap (λ (x : List Share). length (flat_map (λ (s : Share). s.payload) x)) (no_search l))
track_gives (suc n) l = elim (cases_Bool (is_over l)) [
  | inl over ↦
      let rest : List Bool = flat_map (λ (s : Share). s.payload) (track_within n (after_search l)) in
      let all : length (flat_map (λ (s : Share). s.payload) (track_within (suc n) l)) ≡ length (one_search l).payload + length rest =
      ap (λ (x : List Share). length (flat_map (λ (s : Share). s.payload) x)) (track_within_over n l over)
      ∙ ap length (flat_map-cons (λ (s : Share). s.payload) (one_search l) (track_within n (after_search l))) ∙ length-append (one_search l).payload rest in
      omega (arith, all, track_gives n (after_search l), over_gives l over)
  | inr kept_on ↦
      let all : length (flat_map (λ (s : Share). s.payload) (track_within (suc n) l)) ≡ length (one_search l).payload + 0 =
      ap (λ (x : List Share). length (flat_map (λ (s : Share). s.payload) x)) (track_within_open n l kept_on)
      ∙ ap length (flat_map-cons (λ (s : Share). s.payload) (one_search l) []) ∙ length-append (one_search l).payload [] in
      omega (arith, all, open_gives l kept_on)
]

-- a line's payload
pub payload_fits : (line : List Bool) → 512 * length (e1_far line) ≤ 496 * length line
unfolding e1_far
payload_fits line = omega (arith, ap (λ (x : List Share). length (flat_map (λ (s : Share). s.payload) x)) (track_is line), track_gives (suc (length line)) line)
