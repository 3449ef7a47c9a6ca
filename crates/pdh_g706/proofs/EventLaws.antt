-- The events of one more bit, by what the bit added.
use Rattle.std.proofs.Common.{◌≡◌, ℕ, zero, suc, ◌+◌, ◌-◌, ◌*◌, ◌/◌, ◌%◌, ◌≤◌, Bool, false, ◌&&◌, not, cond, List, [], ◌∷◌, ◌++◌, length, drop, get_or, refl, sym, ap, ◌∙◌, inl, inr, arith, length-append, length-drop}
use Rattle.std.specs.Prelude.{flat_map, nat_lt, nat_le, if◌then◌else◌}
use Rattle.std.specs.List.{range_with_len}
use Rattle.std.proofs.lemmas.List.{get_or_append_left, length-take-le, drop_at}
use Rattle.std.proofs.lemmas.Bool.{cases_Bool, ltb-true, ltb-false, lt-ltb, le-ltb}
use Rattle.pdh_watch.specs.declared.kind.Kind.{Kind}
use Rattle.pdh_watch.specs.declared.kind.TheConstants.Kind.{ALIGNED, LOST, ALARM_ON, ALARM_OFF, EBIT}
use Rattle.pdh_line.specs.Paths.{top}
use Rattle.pdh_events.specs.Telling.{next_bit, tell, changed, ais_kinds}
use Rattle.pdh_g706.specs.Frames.{bit_of}
use Rattle.pdh_g706.specs.Alignment.{begin, framed, multiframes, is_reached, kept, loses, up_to_end}
use Rattle.pdh_g706.specs.Tracking.{Signs, Share, found_frames, is_over, one_search, after_search, track_within, signs_in}
use Rattle.pdh_g706.specs.Events.{odd_frame, has_alarm, alarm_before, alarm_after, tells_error, odd_kinds, frames_kinds, rise, crc_kinds, new_kinds, ais_length, e1_bit_events}
use Rattle.pdh_g706.specs.Machine.{add_signs, added_kinds, Phase, Holds, turn}
use Rattle.pdh_g706.proofs.GrowthLaws.{delivered, signs_is, share_is, multiframes_is, multiframes_none}
use Rattle.pdh_g706.proofs.TrackLaws.{one_search_is, track_is, track_within_over, track_within_open}
use Rattle.pdh_g706.proofs.HoldsLaws.{holds_turn}

-- ---- delivered frames are whole multiframes

delivered_whole : (fs : List (List Bool)) → length (delivered fs) % 16 ≡ 0
delivered_whole fs =
    elim (cases_Bool (is_reached fs)) [
      | inl h ↦
          let m : multiframes fs ≡ framed fs / 16 = multiframes_is fs h in
          let inside : 16 * multiframes fs ≤ length (drop (begin fs) fs) = omega (arith, length-drop (begin fs) fs) in
          omega (arith, length-take-le (16 * multiframes fs) (drop (begin fs) fs) inside)
      | inr h ↦
          let m : multiframes fs ≡ 0 = multiframes_none fs h in
          let none : 16 * multiframes fs ≡ 0 = omega arith in
          omega (arith, length-take-le (16 * multiframes fs) (drop (begin fs) fs) (omega arith))
    ]

search_whole : (l : List Bool) → length (one_search l).signs.frames % 16 ≡ 0
search_whole l =
    let fs : List (List Bool) = kept (found_frames l) in
    let lost : Bool = loses (up_to_end (found_frames l)) in
    ap (λ (s : Share). length s.signs.frames % 16) (one_search_is l ∙ share_is lost fs) ∙ ap (λ (s : Signs). length s.frames % 16) (signs_is lost fs) ∙ delivered_whole fs

all_whole : (shares : List Share) (s : Share) → length s.signs.frames % 16 ≡ 0 → length (flat_map (λ (s : Share). s.signs.frames) shares) % 16 ≡ 0 → length (flat_map (λ (s : Share). s.signs.frames) (s ∷ shares)) % 16 ≡ 0
all_whole shares s h t = omega (arith, length-append s.signs.frames (flat_map (λ (s : Share). s.signs.frames) shares))

within_whole : (n : ℕ) (l : List Bool) → length (flat_map (λ (s : Share). s.signs.frames) (track_within n l)) % 16 ≡ 0
unfolding track_within
within_whole zero l = refl
within_whole (suc n) l =
    elim (cases_Bool (is_over l)) [
      | inl over ↦ ap (λ (x : List Share). length (flat_map (λ (s : Share). s.signs.frames) x) % 16) (track_within_over n l over) ∙ all_whole (track_within n (after_search l)) (one_search l) (search_whole l) (within_whole n (after_search l))
      | inr on ↦ ap (λ (x : List Share). length (flat_map (λ (s : Share). s.signs.frames) x) % 16) (track_within_open n l on) ∙ all_whole [] (one_search l) (search_whole l) refl
    ]

pub frames_whole : (line : List Bool) → length (signs_in line).frames % 16 ≡ 0
unfolding signs_in
frames_whole line = ap (λ (x : List Share). length (flat_map (λ (s : Share). s.signs.frames) x) % 16) (track_is line) ∙ within_whole (suc (length line)) line

-- ---- alarms

odd_frame_after : (fs gs : List (List Bool)) (n i : ℕ) → length fs ≡ 2 * n → odd_frame (fs ++ gs) (n + i) ≡ odd_frame gs i
odd_frame_after fs gs n i size =
    let place : 2 * (n + i) + 1 ≡ length fs + (2 * i + 1) = omega arith in
    ap (λ k. get_or (fs ++ gs) k []) place ∙ get_or_append_right fs gs (2 * i + 1)
  where
    get_or_append_right : (xs ys : List (List Bool)) (k : ℕ) → get_or (xs ++ ys) (length xs + k) [] ≡ get_or ys k []
    get_or_append_right [] ys k = let e : 0 + k ≡ k = omega arith in ap (λ n. get_or ys n []) e
    get_or_append_right (x ∷ xs) ys k =
        let e : length (x ∷ xs) + k ≡ suc (length xs + k) = omega arith in
        ap (λ n. get_or (x ∷ (xs ++ ys)) n []) e ∙ get_or_append_right xs ys k

-- the alarm before an odd frame of those before, and of those after
before_left : (fs gs : List (List Bool)) (alarm : Bool) (n i : ℕ) → length fs ≡ 2 * n → i ≤ n → alarm_before alarm (fs ++ gs) i ≡ alarm_before alarm fs i
before_left fs gs alarm n zero size le = refl
before_left fs gs alarm n (suc i) size le = ap has_alarm (get_or_append_left fs gs [] (2 * i + 1) (omega arith))

before_right : (fs gs : List (List Bool)) (alarm : Bool) (n i : ℕ) → length fs ≡ 2 * n → alarm_before alarm (fs ++ gs) (n + i) ≡ alarm_before (alarm_before alarm fs n) gs i
before_right fs gs alarm n zero size = ap (alarm_before alarm (fs ++ gs)) (omega arith) ∙ before_left fs gs alarm n n size (omega arith)
before_right fs gs alarm n (suc i) size =
    let next : n + suc i ≡ suc (n + i) = omega arith in
    ap (alarm_before alarm (fs ++ gs)) next ∙ ap has_alarm (odd_frame_after fs gs n i size)

pub alarm-append : (alarm : Bool) (fs gs : List (List Bool)) → length fs % 2 ≡ 0 → alarm_after alarm (fs ++ gs) ≡ alarm_after (alarm_after alarm fs) gs
alarm-append alarm fs gs even =
    let count : length (fs ++ gs) / 2 ≡ length fs / 2 + length gs / 2 = omega (arith, length-append fs gs) in
    ap (alarm_before alarm (fs ++ gs)) count ∙ before_right fs gs alarm (length fs / 2) (length gs / 2) (omega arith)

-- ---- what frames that come after others show

pub odd_kinds_is : (alarm : Bool) (fs : List (List Bool)) (i : ℕ)
    → odd_kinds alarm fs i ≡ changed ALARM_ON ALARM_OFF (alarm_before alarm fs i) (has_alarm (odd_frame fs i)) ++ (if tells_error fs i then EBIT ∷ [] else [])
unfolding odd_kinds
odd_kinds_is alarm fs i = refl

-- its parts
abbrev odd_from : Bool → List Bool → ℕ → List Kind
odd_from before odd place = changed ALARM_ON ALARM_OFF before (has_alarm odd) ++ cond (nat_le 6 place && not (bit_of odd 0)) (EBIT ∷ []) []

odd_kinds_after : (fs gs : List (List Bool)) (i : ℕ) → length fs % 16 ≡ 0 → odd_kinds false (fs ++ gs) (length fs / 2 + i) ≡ odd_kinds (alarm_after false fs) gs i
odd_kinds_after fs gs i whole =
    let n : ℕ = length fs / 2 in
    let size : length fs ≡ 2 * n = omega arith in
    let place : (n + i) % 8 ≡ i % 8 = omega arith in
    odd_kinds_is false (fs ++ gs) (n + i)
    ∙ ap (λ b. odd_from b (odd_frame (fs ++ gs) (n + i)) ((n + i) % 8)) (before_right fs gs false n i size)
    ∙ ap (λ (x : List Bool). odd_from (alarm_before (alarm_after false fs) gs i) x ((n + i) % 8)) (odd_frame_after fs gs n i size)
    ∙ ap (odd_from (alarm_before (alarm_after false fs) gs i) (odd_frame gs i)) place
    ∙ sym (odd_kinds_is (alarm_after false fs) gs i)

range_kinds : (f g : ℕ → List Kind) (a b n : ℕ) → ((i : ℕ) → f (a + i) ≡ g (b + i)) → flat_map f (range_with_len a n) ≡ flat_map g (range_with_len b n)
range_kinds f g a b zero same = refl
range_kinds f g a b (suc n) same =
    let here : f a ≡ g b = ap f (omega arith) ∙ same 0 ∙ ap g (omega arith) in
    let rest : flat_map f (range_with_len (a + 1) n) ≡ flat_map g (range_with_len (b + 1) n) =
    range_kinds f g (a + 1) (b + 1) n (λ i. ap f (omega arith) ∙ same (suc i) ∙ ap g (omega arith)) in
    ap (λ x. x ++ flat_map f (range_with_len (a + 1) n)) here ∙ ap (λ x. g b ++ x) rest

frames_kinds_after : (fs gs : List (List Bool)) → length fs % 16 ≡ 0
    → frames_kinds false (fs ++ gs) (length fs / 2) (length (fs ++ gs) / 2 - length fs / 2) ≡ frames_kinds (alarm_after false fs) gs 0 (length gs / 2)
frames_kinds_after fs gs whole =
    let count : length (fs ++ gs) / 2 - length fs / 2 ≡ length gs / 2 = omega (arith, length-append fs gs) in
    ap (frames_kinds false (fs ++ gs) (length fs / 2)) count
    ∙ range_kinds (odd_kinds false (fs ++ gs)) (odd_kinds (alarm_after false fs) gs) (length fs / 2) 0 (length gs / 2) (λ i. odd_kinds_after fs gs i whole ∙ ap (odd_kinds (alarm_after false fs) gs) (omega arith))

-- ---- what was added

rise_more : (kind : Kind) (n g : ℕ) → rise kind n (n + g) ≡ rise kind 0 g
rise_more kind n g =
    let same : nat_lt n (n + g) ≡ nat_lt 0 g = elim (cases_Bool (nat_lt 0 g)) [
      | inl some ↦ lt-ltb _ _ (omega (arith, ltb-true 0 g some)) ∙ sym some
      | inr none ↦ le-ltb _ _ (omega (arith, ltb-false 0 g none)) ∙ sym none
    ] in
    ap (λ b. cond b (kind ∷ []) []) same

pub new_is : (before after : Signs) → new_kinds before after ≡ rise LOST before.losses after.losses ++ rise ALIGNED before.alignments after.alignments ++ crc_kinds (drop (length before.verdicts) after.verdicts)
    ++ frames_kinds false after.frames (length before.frames / 2) (length after.frames / 2 - length before.frames / 2) ++ rise LOST before.false_alignments after.false_alignments
unfolding new_kinds
new_is before after = refl

pub added_is : (alarm : Bool) (g : Signs) → added_kinds alarm g ≡ rise LOST 0 g.losses ++ rise ALIGNED 0 g.alignments ++ crc_kinds g.verdicts ++ frames_kinds alarm g.frames 0 (length g.frames / 2) ++ rise LOST 0 g.false_alignments
unfolding added_kinds
added_is alarm g = refl

abbrev parts : List Kind → List Kind → List Bool → List Kind → List Kind → List Kind
parts a b v c d = a ++ b ++ crc_kinds v ++ c ++ d

new_kinds_added : (s g : Signs) → length s.frames % 16 ≡ 0 → new_kinds s (add_signs s g) ≡ added_kinds (alarm_after false s.frames) g
new_kinds_added s g whole =
    let frames : List Kind = frames_kinds false (s.frames ++ g.frames) (length s.frames / 2) (length (s.frames ++ g.frames) / 2 - length s.frames / 2) in
    let tail : List Kind = rise LOST s.false_alignments (s.false_alignments + g.false_alignments) in
    let aligned : List Kind = rise ALIGNED s.alignments (s.alignments + g.alignments) in
    let more : List Bool = drop (length s.verdicts) (s.verdicts ++ g.verdicts) in
    new_is s (add_signs s g)
    ∙ ap (λ x. parts x aligned more frames tail) (rise_more LOST s.losses g.losses)
    ∙ ap (λ x. parts (rise LOST 0 g.losses) x more frames tail) (rise_more ALIGNED s.alignments g.alignments)
    ∙ ap (λ x. parts (rise LOST 0 g.losses) (rise ALIGNED 0 g.alignments) x frames tail) (drop_at s.verdicts g.verdicts (length s.verdicts) refl)
    ∙ ap (λ x. parts (rise LOST 0 g.losses) (rise ALIGNED 0 g.alignments) g.verdicts x tail) (frames_kinds_after s.frames g.frames whole)
    ∙ ap (parts (rise LOST 0 g.losses) (rise ALIGNED 0 g.alignments) g.verdicts (frames_kinds (alarm_after false s.frames) g.frames 0 (length g.frames / 2))) (rise_more LOST s.false_alignments g.false_alignments)
    ∙ sym (added_is (alarm_after false s.frames) g)

pub bit_events_is : (line : List Bool) (bit : Bool) → e1_bit_events line bit ≡ tell top (next_bit line) (ais_kinds ais_length line bit ++ new_kinds (signs_in line) (signs_in (line ++ bit ∷ [])))
unfolding e1_bit_events
bit_events_is line bit = refl

-- the events of a bit are those of AIS and what the turn adds
pub events_turn : (phase : Phase) (line : List Bool) (bit : Bool) → Holds phase line
    → e1_bit_events line bit ≡ tell top (next_bit line) (ais_kinds ais_length line bit ++ added_kinds (alarm_after false (signs_in line).frames) (turn phase bit).gained.signs)
events_turn phase line bit h =
    let grows = (holds_turn phase line bit h).1 in
    bit_events_is line bit
    ∙ ap (λ (x : Signs). tell top (next_bit line) (ais_kinds ais_length line bit ++ new_kinds (signs_in line) x)) grows.signs_are
    ∙ ap (λ x. tell top (next_bit line) (ais_kinds ais_length line bit ++ x)) (new_kinds_added (signs_in line) (turn phase bit).gained.signs (frames_whole line))

-- and the alarm after it
pub alarm_turn : (phase : Phase) (line : List Bool) (bit : Bool) → Holds phase line
    → alarm_after (alarm_after false (signs_in line).frames) (turn phase bit).gained.signs.frames ≡ alarm_after false (signs_in (line ++ bit ∷ [])).frames
alarm_turn phase line bit h =
    let grows = (holds_turn phase line bit h).1 in
    let whole : length (signs_in line).frames % 16 ≡ 0 = frames_whole line in
    sym (ap (λ (x : Signs). alarm_after false x.frames) grows.signs_are ∙ alarm-append false (signs_in line).frames (turn phase bit).gained.signs.frames (omega arith))
