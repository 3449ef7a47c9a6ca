-- What one more bit does is the growth of the tracking of the bits since a search began.
use Rattle.std.proofs.Common.{◌≡◌, ◌≢◌, ℕ, suc, ◌+◌, ◌-◌, ◌*◌, ◌/◌, ◌%◌, ◌<◌, ◌≤◌, Bool, true, false, ◌&&◌, ◌||◌, not, cond, ltb, List, [], ◌∷◌, ◌++◌, length, take, drop, refl, sym, ap, ◌∙◌, subst, inl, inr, arith, length-drop}
use Rattle.std.specs.Prelude.{◌⊎◌, ◌==◌, nat_le, if◌then◌else◌}
use Rattle.std.proofs.lemmas.List.{append-nil, drop-append-le, drop-drop, length_push, length-take-le}
use Rattle.std.proofs.lemmas.Bool.{ltb-true, ltb-false, le-ltb, eqb-true, eqb-false, eq-eqb, ne_eqb, cases_Bool, and_left, and_right, and_from, not_from_false, or_left, or_right, or_from, not_from_true}
use Rattle.pdh_bits.specs.Bits.{bit_value}
use Rattle.pdh_line.specs.Least.{least_below}
use Rattle.std.specs.List.{range_with_len}
use Rattle.std.proofs.lemmas.List.Sums.{count_by-le-length}
use Rattle.pdh_line.proofs.Ranges.{length-range, count-range_same}
use Rattle.pdh_line.proofs.LeastLaws.{least_below_none}
use Rattle.pdh_g706.specs.Frames.{frame_of, frames_of, is_confirmed, positions, is_found, aligned}
use Rattle.pdh_g706.specs.Alignment.{loses, earlier, reaches, is_reached, begin, framed, multiframes, errs, is_errored, judged, errored_in, is_false, ends, is_ended, up_to_end, kept, resumes}
use Rattle.pdh_g706.specs.Tracking.{Share, share_of, found_frames, is_over, one_search, after_search}
use Rattle.pdh_g706.specs.Machine.{Phase, Fits, last_begin, IsSearching, IsAligned, InGroup, Describes, Turn, no_signs, nothing, loss_after, add_signs, still, last_bits, lost_turn, errs_in, is_false_group, search_turn, framing, framing_turn, aligned_turn, group_phase, block_turn, framed_turn, unless_lost, turn}
use Rattle.pdh_g706.specs.Machine.Phase.{Searching, Aligned, Framed}
use Rattle.pdh_g706.proofs.FrameLists.{length_frames, frames_part, frames_whole, frames-drop}
use Rattle.pdh_g706.proofs.SearchLaws.{is_found-append, aligned-append, short_search, search_short, search_long, search_confirmed, search_rejected}
use Rattle.pdh_g706.proofs.AlignmentLaws.{second_of, reach_is, reach_yes, reach_no, end_of_is, ends_is, loses_short, open_loses, open_true, end_by_loss, lost_ends, kept_open, end_no, end_lost, end_other}
use Rattle.pdh_g706.proofs.GrowthLaws.{add, share_same, share_lost, judged_is, multiframes_is, is_errored_is, last_begin_is, share_none, share_framing, window, share_part, block_gain, block_of, share_block, errored_in-append, is_false_part, is_false_none, group_next, loses-drop}
use Rattle.pdh_g706.proofs.SignLaws.{add_no_signs, no_signs_add}
use Rattle.pdh_g706.proofs.TrackLaws.{found_frames_is, found_frames_none, one_search_is, after_search_is, not_over}

-- the search goes on, and the machine describes it
abbrev pub GoesOn : List Bool → Bool → Turn → Type 0
GoesOn since bit t = (is_over (since ++ bit ∷ []) ≡ false) × Describes t.phase (since ++ bit ∷ [])

-- the search is over, and the machine describes the next one, which has no position yet
abbrev pub IsOver : List Bool → Bool → Turn → Type 0
IsOver since bit t = (is_over (since ++ bit ∷ []) ≡ true) × Describes t.phase (after_search (since ++ bit ∷ [])) × (length (after_search (since ++ bit ∷ [])) < 768)

-- what a bit does to a search
pub record Next (since : List Bool) (bit : Bool) (t : Turn) : Type 0 where
  pub fits : Fits t.phase
  pub way : GoesOn since bit t ⊎ IsOver since bit t
  pub grows : one_search (since ++ bit ∷ []) ≡ add (one_search since) t.gained

-- ---- few frames

few_unreached : (fs : List (List Bool)) → length fs < 12 → is_reached fs ≡ false
few_unreached fs h =
    let none : least_below (length fs) (λ k. reaches (take (suc k) fs)) ≡ length fs =
    least_below_none (length fs) (λ k. reaches (take (suc k) fs)) (λ k lt. few (take (suc k) fs) (omega (arith, length-take-le (suc k) fs (omega arith)))) in
    le-ltb _ _ (omega (arith, reach_is fs))
  where
    few : (xs : List (List Bool)) → length xs < 12 → reaches xs ≡ false
    few xs lt = elim (cases_Bool (reaches xs)) [
      | inl passes ↦ absurd (omega (arith, (second_of xs passes).least))
      | inr fails ↦ fails
    ]

-- less than five frames don't end an alignment
few_open : (fs : List (List Bool)) → length fs < 5 → is_ended fs ≡ false
few_open fs h =
    let none : least_below (length fs) (λ k. ends (take (suc k) fs)) ≡ length fs =
    least_below_none (length fs) (λ k. ends (take (suc k) fs)) (λ k lt. few (take (suc k) fs) (omega (arith, length-take-le (suc k) fs (omega arith)))) in
    le-ltb _ _ (omega (arith, end_of_is fs))
  where
    few : (xs : List (List Bool)) → length xs < 5 → ends xs ≡ false
    few xs lt =
        let unreached : is_reached xs ≡ false = few_unreached xs (omega arith) in
        let short : (length xs == 64) ≡ false = ne_eqb _ _ (λ e. absurd (omega arith)) in
        ends_is xs ∙ or_from _ _ (or_from _ _ (loses_short xs lt) (and_left _ _ short)) (is_false_none xs unreached)

-- ---- shares of searches

-- a search that found nothing gives nothing
pub one_search_none : (l : List Bool) → is_found l ≡ false → one_search l ≡ nothing
one_search_none l found =
    one_search_is l ∙ ap (λ (x : List (List Bool)). share_of (loses (up_to_end x)) (kept x)) (found_frames_none l found)
    ∙ ap (share_of (loses (up_to_end []))) (kept_open [] (few_open [] (omega arith))) ∙ share_none (loses (up_to_end [])) [] (few_unreached [] (omega arith))

-- one that goes on gives the share of all its frames
one_search_open : (l : List Bool) → is_over l ≡ false → one_search l ≡ share_of false (found_frames l)
one_search_open l h = one_search_is l ∙ ap (λ b. share_of b (kept (found_frames l))) (open_loses (found_frames l) h) ∙ ap (share_of false) (kept_open (found_frames l) h)

-- bits that are too few for a position
pub describes_short : (l : List Bool) → length l < 768 → IsSearching l l
describes_short l short =
    let none : positions l ≡ 0 = omega arith in
    record { found = short_search l short; held_is = ap (λ n. drop n l) (sym none) }

-- ---- a search

waits : (since held : List Bool) (bit : Bool) → IsSearching held since → length (held ++ bit ∷ []) < 768 → Next since bit (still (Searching (held ++ bit ∷ [])))
waits since held bit h short =
    let short' : length (drop (positions since) since ++ bit ∷ []) < 768 = rw (← h.held_is) short in
    let facts = search_short since bit short' in
    record {
      fits = short;
      way = inl (not_over (since ++ bit ∷ []) facts.0, record { found = facts.0; held_is = ap (λ (x : List Bool). x ++ bit ∷ []) h.held_is ∙ facts.1 });
      grows = one_search_none (since ++ bit ∷ []) facts.0 ∙ sym (ap (λ (x : Share). add x nothing) (one_search_none since h.found));
    }

rejects : (since held : List Bool) (bit : Bool) → IsSearching held since → 768 ≤ length (held ++ bit ∷ []) → is_confirmed (held ++ bit ∷ []) ≡ false → Next since bit (still (Searching (drop 1 (held ++ bit ∷ []))))
rejects since held bit h long wrong =
    let long' : 768 ≤ length (drop (positions since) since ++ bit ∷ []) = rw (← h.held_is) long in
    let wrong' : is_confirmed (drop (positions since) since ++ bit ∷ []) ≡ false = rw (← h.held_is) wrong in
    let facts = search_rejected since bit h.found long' wrong' in
    let exact : length (held ++ bit ∷ []) ≡ 768 = ap (λ (x : List Bool). length (x ++ bit ∷ [])) h.held_is ∙ (search_long since bit long').2 in
    record {
      fits = omega (arith, length-drop 1 (held ++ bit ∷ []));
      way = inl (not_over (since ++ bit ∷ []) facts.0, record { found = facts.0; held_is = ap (λ (x : List Bool). drop 1 (x ++ bit ∷ [])) h.held_is ∙ facts.1 });
      grows = one_search_none (since ++ bit ∷ []) facts.0 ∙ sym (ap (λ (x : Share). add x nothing) (one_search_none since h.found));
    }

confirms : (since held : List Bool) (bit : Bool) → IsSearching held since → 768 ≤ length (held ++ bit ∷ []) → is_confirmed (held ++ bit ∷ []) ≡ true → Next since bit (still (Aligned (held ++ bit ∷ [])))
confirms since held bit h long right =
    let long' : 768 ≤ length (drop (positions since) since ++ bit ∷ []) = rw (← h.held_is) long in
    let right' : is_confirmed (drop (positions since) since ++ bit ∷ []) ≡ true = rw (← h.held_is) right in
    let facts = search_confirmed since bit h.found long' right' in
    let now : aligned (since ++ bit ∷ []) ≡ held ++ bit ∷ [] = facts.1 ∙ ap (λ (x : List Bool). x ++ bit ∷ []) (sym h.held_is) in
    let exact : length (held ++ bit ∷ []) ≡ 768 = ap (λ (x : List Bool). length (x ++ bit ∷ [])) h.held_is ∙ (search_long since bit long').2 in
    let count : length (found_frames (since ++ bit ∷ [])) ≡ 3 = ap length (found_frames_is (since ++ bit ∷ []) facts.0) ∙ length_frames (aligned (since ++ bit ∷ [])) ∙ ap (λ (x : List Bool). length x / 256) now ∙ ap (λ n. n / 256) exact in
    let on : is_over (since ++ bit ∷ []) ≡ false = few_open (found_frames (since ++ bit ∷ [])) (omega arith) in
    let unreached : is_reached (found_frames (since ++ bit ∷ [])) ≡ false = few_unreached (found_frames (since ++ bit ∷ [])) (omega arith) in
    record {
      fits = omega arith;
      way = inl (on, (record { found = facts.0; kept_on = on; reached_is = unreached }, sym now));
      grows = one_search_open (since ++ bit ∷ []) on ∙ share_none false (found_frames (since ++ bit ∷ [])) unreached ∙ sym (ap (λ (x : Share). add x nothing) (one_search_none since h.found));
    }

search_next : (since held : List Bool) (bit : Bool) → IsSearching held since → Next since bit (search_turn (held ++ bit ∷ []))
unfolding search_turn
search_next since held bit h =
    elim (cases_Bool (ltb (length (held ++ bit ∷ [])) 768)) [
      | inl short ↦ rw short (waits since held bit h (ltb-true _ _ short))
      | inr long ↦ elim (cases_Bool (is_confirmed (held ++ bit ∷ []))) [
        | inl right ↦ rw (long, right) (confirms since held bit h (ltb-false _ _ long) right)
        | inr wrong ↦ rw (long, wrong) (rejects since held bit h (ltb-false _ _ long) wrong)
      ]
    ]

-- ---- the frames of an alignment, and one more bit

-- a bit that ends no frame
pub part_push : (since : List Bool) (bit : Bool) → is_found since ≡ true → length (aligned since ++ bit ∷ []) % 256 ≢ 0 → found_frames (since ++ bit ∷ []) ≡ found_frames since
part_push since bit found part =
    found_frames_is (since ++ bit ∷ []) (is_found-append since (bit ∷ []) found) ∙ ap frames_of (aligned-append since (bit ∷ []) found)
    ∙ frames_part (aligned since) bit (length (aligned since ++ bit ∷ [])) refl (omega arith) ∙ sym (found_frames_is since found)

-- the frame that a bit ends
pub record Whole (since : List Bool) (bit : Bool) : Type 0 where
  pub newest : List Bool
  pub now : aligned (since ++ bit ∷ []) ≡ aligned since ++ bit ∷ []
  pub found : is_found (since ++ bit ∷ []) ≡ true
  pub frames : found_frames (since ++ bit ∷ []) ≡ found_frames since ++ newest ∷ []
  pub long : length (aligned since ++ bit ∷ []) ≡ 256 * length (found_frames since) + 256

pub whole_push : (since : List Bool) (bit : Bool) → is_found since ≡ true → length (aligned since ++ bit ∷ []) % 256 ≡ 0 → Whole since bit
whole_push since bit found whole =
    let bits : List Bool = aligned since ++ bit ∷ [] in
    let more : length bits ≡ length (aligned since) + 1 = length_push (aligned since) bit in
    let count : length (found_frames since) ≡ length (aligned since) / 256 = ap length (found_frames_is since found) ∙ length_frames (aligned since) in
    record {
      newest = frame_of bits (0 + length (aligned since) / 256);
      now = aligned-append since (bit ∷ []) found;
      found = is_found-append since (bit ∷ []) found;
      frames = found_frames_is (since ++ bit ∷ []) (is_found-append since (bit ∷ []) found) ∙ ap frames_of (aligned-append since (bit ∷ []) found)
          ∙ frames_whole (aligned since) bit (length (aligned since) / 256) (omega arith)
          ∙ ap (λ (x : List (List Bool)). x ++ frame_of bits (0 + length (aligned since) / 256) ∷ []) (sym (found_frames_is since found));
      long = omega arith;
    }

-- ---- shares that gain nothing, or all

pub add_nothing : (s : Share) → add s nothing ≡ s
add_nothing s =
    share_same (s.payload ++ []) s.payload (s.multiframes + 0) s.multiframes (s.blocks + 0) s.blocks (s.errored + 0) s.errored (add_signs s.signs no_signs) s.signs
    (append-nil s.payload) (omega arith) (omega arith) (omega arith) (add_no_signs s.signs)

nothing_add : (s : Share) → add nothing s ≡ s
nothing_add s =
    share_same s.payload s.payload (0 + s.multiframes) s.multiframes (0 + s.blocks) s.blocks (0 + s.errored) s.errored (add_signs no_signs s.signs) s.signs
    refl (omega arith) (omega arith) (omega arith) (no_signs_add s.signs)

-- ---- the ways of a frame that ends

-- the last bits of what is held are the last of the alignment
last_held : (bits now : List Bool) (o n m : ℕ) → now ≡ drop o bits → o + n ≤ length bits → length bits ≡ m + n → last_bits n now ≡ drop m bits
last_held bits now o n m is room long =
    let count : length now ≡ length bits - o = ap length is ∙ length-drop o bits in
    let place : o + (length now - n) ≡ m = omega arith in
    ap (drop (length now - n)) is ∙ drop-drop (length now - n) o bits ∙ ap (λ k. drop k bits) place

-- the next search begins with so many of the last bits
next_search : (since now : List Bool) (bit : Bool) (o n : ℕ) → (w : Whole since bit) → is_over (since ++ bit ∷ []) ≡ true → resumes (found_frames (since ++ bit ∷ [])) + n ≡ length (aligned since ++ bit ∷ [])
    → n < 768 → now ≡ drop o (aligned since ++ bit ∷ []) → o + n ≤ length (aligned since ++ bit ∷ [])
    → (gained : Share) → IsOver since bit (record { phase = Searching (last_bits n now); gained = gained }) × (length (last_bits n now) < 768)
next_search since now bit o n w over place few is room gained =
    let bits : List Bool = aligned since ++ bit ∷ [] in
    let fs' : List (List Bool) = found_frames (since ++ bit ∷ []) in
    let after : after_search (since ++ bit ∷ []) ≡ drop (resumes fs') bits = after_search_is (since ++ bit ∷ []) ∙ ap (drop (resumes fs')) w.now in
    let held : last_bits n now ≡ after_search (since ++ bit ∷ []) = last_held bits now o n (resumes fs') is room (omega arith) ∙ sym after in
    let short : length (after_search (since ++ bit ∷ [])) < 768 = omega (arith, ap length after, length-drop (resumes fs') bits) in
    let d = describes_short (after_search (since ++ bit ∷ [])) short in
    ((over, record { found = d.found; held_is = held ∙ d.held_is }, short), omega (arith, ap length held))

-- basic alignment is lost
lost_next : (since now : List Bool) (bit : Bool) (o : ℕ) (reached : Bool) → IsAligned reached since → (w : Whole since bit) → loses (found_frames (since ++ bit ∷ [])) ≡ true
    → now ≡ drop o (aligned since ++ bit ∷ []) → o + 256 ≤ length (aligned since ++ bit ∷ []) → Next since bit (lost_turn reached now)
lost_next since now bit o reached h w lost is room =
    let fs : List (List Bool) = found_frames since in
    let g : List (List Bool) = fs ++ w.newest ∷ [] in
    let lost' : loses g ≡ true = ap loses (sym w.frames) ∙ lost in
    let facts = end_lost fs w.newest h.kept_on lost' in
    let by_loss : loses (up_to_end g) ≡ true = end_by_loss fs w.newest true h.kept_on (lost_ends g lost') lost' in
    let over : is_over (since ++ bit ∷ []) ≡ true = ap is_ended w.frames ∙ facts.0 in
    let place : resumes (found_frames (since ++ bit ∷ [])) ≡ 256 * length fs = ap resumes w.frames ∙ facts.2 in
    let next = next_search since now bit o 256 w over (omega (arith, w.long)) (omega arith) is room (loss_after reached) in
    record {
      fits = next.1;
      way = inr next.0;
      grows = one_search_is (since ++ bit ∷ []) ∙ ap (λ (x : List (List Bool)). share_of (loses (up_to_end x)) (kept x)) w.frames ∙ ap (λ b. share_of b (kept g)) by_loss
          ∙ ap (share_of true) facts.1 ∙ share_lost fs reached h.reached_is ∙ ap (λ (x : Share). add x (loss_after reached)) (sym (one_search_open since h.kept_on));
    }

-- the alignment ends otherwise
other_next : (since now : List Bool) (bit : Bool) (o : ℕ) (reached : Bool) (gained : Share) → IsAligned reached since → (w : Whole since bit)
    → loses (found_frames (since ++ bit ∷ [])) ≡ false → ends (found_frames (since ++ bit ∷ [])) ≡ true → share_of false (found_frames (since ++ bit ∷ [])) ≡ add (share_of false (found_frames since)) gained
    → now ≡ drop o (aligned since ++ bit ∷ []) → o + 255 ≤ length (aligned since ++ bit ∷ []) → Next since bit (record { phase = Searching (last_bits 255 now); gained = gained })
other_next since now bit o reached gained h w fine passes grown is room =
    let fs : List (List Bool) = found_frames since in
    let g : List (List Bool) = fs ++ w.newest ∷ [] in
    let fine' : loses g ≡ false = ap loses (sym w.frames) ∙ fine in
    let passes' : ends g ≡ true = ap ends (sym w.frames) ∙ passes in
    let facts = end_other fs w.newest h.kept_on fine' passes' in
    let no_loss : loses (up_to_end g) ≡ false = end_by_loss fs w.newest false h.kept_on passes' fine' in
    let over : is_over (since ++ bit ∷ []) ≡ true = ap is_ended w.frames ∙ facts.0 in
    let place : resumes (found_frames (since ++ bit ∷ [])) ≡ 256 * length fs + 1 = ap resumes w.frames ∙ facts.2 in
    let next = next_search since now bit o 255 w over (omega (arith, w.long)) (omega arith) is room gained in
    record {
      fits = next.1;
      way = inr next.0;
      grows = one_search_is (since ++ bit ∷ []) ∙ ap (λ (x : List (List Bool)). share_of (loses (up_to_end x)) (kept x)) w.frames ∙ ap (λ b. share_of b (kept g)) no_loss
          ∙ ap (share_of false) (facts.1 ∙ sym w.frames) ∙ grown
          ∙ ap (λ (x : Share). add x gained) (sym (one_search_open since h.kept_on));
    }

-- the alignment goes on
goes_next : (since : List Bool) (bit : Bool) (reached : Bool) (t : Turn) → IsAligned reached since → (w : Whole since bit) → ends (found_frames (since ++ bit ∷ [])) ≡ false
    → share_of false (found_frames (since ++ bit ∷ [])) ≡ add (share_of false (found_frames since)) t.gained → Fits t.phase → (is_over (since ++ bit ∷ []) ≡ false → Describes t.phase (since ++ bit ∷ [])) → Next since bit t
goes_next since bit reached t h w fails grown fits describes =
    let fs : List (List Bool) = found_frames since in
    let on : is_over (since ++ bit ∷ []) ≡ false = ap is_ended w.frames ∙ end_no fs w.newest h.kept_on (ap ends (sym w.frames) ∙ fails) in
    record {
      fits = fits;
      way = inl (on, describes on);
      grows = one_search_open (since ++ bit ∷ []) on ∙ grown ∙ ap (λ (x : Share). add x t.gained) (sym (one_search_open since h.kept_on));
    }

-- ---- multiframe alignment

frames_bits : (since : List Bool) (bit : Bool) → is_found since ≡ true → frames_of (aligned since ++ bit ∷ []) ≡ found_frames (since ++ bit ∷ [])
frames_bits since bit found = ap frames_of (sym (aligned-append since (bit ∷ []) found)) ∙ sym (found_frames_is (since ++ bit ∷ []) (is_found-append since (bit ∷ []) found))

pub framing_turn_is : (bits : List Bool) (fs : List (List Bool)) (k : ℕ) → frames_of bits ≡ fs → framing_turn bits k ≡ framing bits fs k
unfolding framing_turn
framing_turn_is bits fs k e = ap (λ (x : List (List Bool)). framing bits x k) e

-- sizes where the multiframes are found from frame k on, with the last of n frames
record Sizes (n k : ℕ) : Type 0 where
  pub few : (n - k) / 8 - 1 < 1000
  pub held : k + 16 * ((n - k) / 16 - 1) + 28 ≡ n
  pub part : (n - k) % 8 ≢ 0
  pub small : ((n - k) / 8 - 1) % 1000 ≡ (n - k) / 8 - 1
  pub none : (n - k) / 8 - 1 - ((n - k) / 8 - 1) ≡ 0

sizes_of : (n k : ℕ) → n ≤ 64 → k < n - 12 → (n - 12 - k) % 16 ≡ 0 → Sizes n k
sizes_of n k most before multiple = record { few = omega arith; held = omega arith; part = λ e. absurd (omega arith); small = omega arith; none = omega arith }

-- no more blocks are errored than are judged
pub errs_in-le : (fs : List (List Bool)) (k count : ℕ) → errs_in fs k count ≤ count
errs_in-le fs k count = omega (arith, count_by-le-length (λ b. errs fs (k + 8 * b)) (range_with_len 0 count), length-range 0 count)

frames_next : (since : List Bool) (bit : Bool) → IsAligned false since → (w : Whole since bit) → loses (found_frames (since ++ bit ∷ [])) ≡ false → reaches (found_frames (since ++ bit ∷ [])) ≡ true
    → Next since bit (framing (aligned since ++ bit ∷ []) (found_frames (since ++ bit ∷ [])) (earlier (found_frames (since ++ bit ∷ [])) (length (found_frames (since ++ bit ∷ [])) - 12)))
frames_next since bit h w fine right =
    let bits : List Bool = aligned since ++ bit ∷ [] in
    let fs : List (List Bool) = found_frames since in
    let fs' : List (List Bool) = found_frames (since ++ bit ∷ []) in
    let k : ℕ = earlier fs' (length fs' - 12) in
    let second = second_of fs' right in
    let yes = reach_yes fs w.newest h.reached_is (ap reaches (sym w.frames) ∙ right) in
    let reached : is_reached fs' ≡ true = ap is_reached w.frames ∙ yes.0 in
    let b : begin fs' ≡ k = ap begin w.frames ∙ yes.1 ∙ ap (λ (x : List (List Bool)). earlier x (length x - 12)) (sym w.frames) in
    let n : ℕ = length fs' in
    let size = sizes_of n k second.most second.before second.multiple in
    let whole : ℕ = (n - k) / 16 in
    let blocks : ℕ = (n - k) / 8 - 1 in
    let judged_all : judged fs' ≡ blocks = judged_is fs' reached ∙ ap (λ i. (n - i) / 8 - 1) b in
    let wholes : multiframes fs' ≡ whole = multiframes_is fs' reached ∙ ap (λ i. (n - i) / 16) b in
    let part : framed fs' % 8 ≢ 0 = λ e. size.part (ap (λ i. (n - i) % 8) (sym b) ∙ e) in
    let fails : ends fs' ≡ false = ends_is fs' ∙ or_from _ _ (or_from _ _ fine (and_right _ _ (not_from_true _ reached))) (is_false_part fs' part) in
    let grown : share_of false fs' ≡ add (share_of false fs) (framing bits fs' k).gained =
    share_framing fs' k whole blocks reached (is_false_part fs' part) b refl refl
    ∙ sym (nothing_add (framing bits fs' k).gained) ∙ ap (λ (x : Share). add x (framing bits fs' k).gained) (sym (share_none false fs h.reached_is)) in
    let long : length bits ≡ 256 * n = omega (arith, w.long, ap length w.frames, length_push fs w.newest) in
    let held : length (drop (256 * (k + 16 * (whole - 1))) bits) ≡ 7168 = omega (arith, length-drop (256 * (k + 16 * (whole - 1))) bits, size.held) in
    let start : last_begin fs' ≡ k + 16 * (whole - 1) = last_begin_is fs' ∙ ap (λ i. i + 16 * (multiframes fs' - 1)) b ∙ ap (λ i. k + 16 * (i - 1)) wholes in
    goes_next since bit false (framing bits fs' k) h w fails grown
    (omega arith, omega arith, size.few, errs_in-le fs' k blocks)
    (λ on. (
      record { found = w.found; kept_on = on; reached_is = reached },
      ap (λ i. drop (256 * i) bits) (sym start) ∙ ap (drop (256 * last_begin fs')) (sym w.now),
      record {
        group_is = sym (ap (λ i. i % 1000) judged_all ∙ size.small);
        wrong_is = count-range_same (λ i. errs fs' (k + 8 * i)) (is_errored fs') 0 blocks (λ i _from lt. sym (is_errored_is fs' i ∙ ap (λ j. errs fs' (j + 8 * i)) b))
            ∙ ap (λ i. errored_in fs' i blocks) (sym (ap (λ i. i - blocks) judged_all ∙ size.none));
      },
    ))

-- the 64th frame ends without
gives_up : (since : List Bool) (bit : Bool) → IsAligned false since → (w : Whole since bit) → loses (found_frames (since ++ bit ∷ [])) ≡ false → reaches (found_frames (since ++ bit ∷ [])) ≡ false
    → length (found_frames (since ++ bit ∷ [])) ≡ 64 → Next since bit (still (Searching (last_bits 255 (aligned since ++ bit ∷ []))))
gives_up since bit h w fine wrong last =
    let fs : List (List Bool) = found_frames since in
    let fs' : List (List Bool) = found_frames (since ++ bit ∷ []) in
    let unreached : is_reached fs' ≡ false = ap is_reached w.frames ∙ reach_no fs w.newest h.reached_is (ap reaches (sym w.frames) ∙ wrong) in
    let passes : ends fs' ≡ true = ends_is fs' ∙ or_left _ _ (or_right _ _ (and_from _ _ (eq-eqb _ _ last) (not_from_false _ unreached))) in
    let grown : share_of false fs' ≡ add (share_of false fs) nothing = share_none false fs' unreached ∙ sym (share_none false fs h.reached_is) ∙ sym (add_nothing (share_of false fs)) in
    other_next since (aligned since ++ bit ∷ []) bit 0 false nothing h w fine passes grown refl (omega (arith, w.long))

-- or another frame does
goes_on : (since : List Bool) (bit : Bool) → IsAligned false since → (w : Whole since bit) → loses (found_frames (since ++ bit ∷ [])) ≡ false → reaches (found_frames (since ++ bit ∷ [])) ≡ false
    → length (found_frames (since ++ bit ∷ [])) ≢ 64 → length (aligned since) < 16384 → Next since bit (still (Aligned (aligned since ++ bit ∷ [])))
goes_on since bit h w fine wrong more short =
    let bits : List Bool = aligned since ++ bit ∷ [] in
    let fs : List (List Bool) = found_frames since in
    let fs' : List (List Bool) = found_frames (since ++ bit ∷ []) in
    let unreached : is_reached fs' ≡ false = ap is_reached w.frames ∙ reach_no fs w.newest h.reached_is (ap reaches (sym w.frames) ∙ wrong) in
    let fails : ends fs' ≡ false = ends_is fs' ∙ or_from _ _ (or_from _ _ fine (and_left _ _ (ne_eqb _ _ more))) (is_false_none fs' unreached) in
    let grown : share_of false fs' ≡ add (share_of false fs) nothing = share_none false fs' unreached ∙ sym (share_none false fs h.reached_is) ∙ sym (add_nothing (share_of false fs)) in
    let count : length fs' ≡ length fs + 1 = ap length w.frames ∙ length_push fs w.newest in
    let other : length bits ≢ 16384 = λ e. more (omega (arith, w.long)) in
    let longer : length bits ≡ length (aligned since) + 1 = length_push (aligned since) bit in
    goes_next since bit false (still (Aligned bits)) h w fails grown (lt_of (length bits) 16384 (omega arith) other) (λ on. (record { found = w.found; kept_on = on; reached_is = unreached }, sym w.now))
  where
    lt_of : (a b : ℕ) → a ≤ b → a ≢ b → a < b
    lt_of a b le ne = omega arith

abbrev pub aligned_way : List Bool → List (List Bool) → Turn
aligned_way bits frames =
    (if reaches frames then framing_turn bits (earlier frames (length frames - 12))
    else (if length frames == 64 then still (Searching (last_bits 255 bits)) else still (Aligned bits)))

pub aligned_turn_is : (bits : List Bool) (fs : List (List Bool)) → frames_of bits ≡ fs → aligned_turn bits ≡ aligned_way bits fs
unfolding aligned_turn
aligned_turn_is bits fs e = ap (aligned_way bits) e

aligned_frame : (since : List Bool) (bit : Bool) → IsAligned false since → (w : Whole since bit) → loses (found_frames (since ++ bit ∷ [])) ≡ false → length (aligned since) < 16384
    → Next since bit (aligned_way (aligned since ++ bit ∷ []) (found_frames (since ++ bit ∷ [])))
aligned_frame since bit h w fine short =
    let bits : List Bool = aligned since ++ bit ∷ [] in
    let fs' : List (List Bool) = found_frames (since ++ bit ∷ []) in
    elim (cases_Bool (reaches fs')) [
      | inl right ↦ rw right (subst (Next since bit) (sym (framing_turn_is bits fs' (earlier fs' (length fs' - 12)) (frames_bits since bit h.found))) (frames_next since bit h w fine right))
      | inr wrong ↦ elim (cases_Bool (length fs' == 64)) [
        | inl last ↦ rw (wrong, last) (gives_up since bit h w fine wrong (eqb-true _ _ last))
        | inr more ↦ rw (wrong, more) (goes_on since bit h w fine wrong (eqb-false _ _ more) short)
      ]
    ]

-- a bit that ends no frame
aligned_part : (since : List Bool) (bit : Bool) → IsAligned false since → length (aligned since) < 16384 → length (aligned since ++ bit ∷ []) % 256 ≢ 0 → Next since bit (still (Aligned (aligned since ++ bit ∷ [])))
aligned_part since bit h short part =
    let fs : List (List Bool) = found_frames since in
    let same : found_frames (since ++ bit ∷ []) ≡ fs = part_push since bit h.found part in
    let on : is_over (since ++ bit ∷ []) ≡ false = ap is_ended same ∙ h.kept_on in
    let longer : length (aligned since ++ bit ∷ []) ≡ length (aligned since) + 1 = length_push (aligned since) bit in
    record {
      fits = omega arith;
      way = inl (on, (record { found = is_found-append since (bit ∷ []) h.found; kept_on = on; reached_is = ap is_reached same ∙ h.reached_is }, sym (aligned-append since (bit ∷ []) h.found)));
      grows = one_search_open (since ++ bit ∷ []) on ∙ ap (share_of false) same ∙ sym (one_search_open since h.kept_on) ∙ sym (add_nothing (one_search since));
    }

aligned_next : (since held : List Bool) (bit : Bool) → Describes (Aligned held) since → Fits (Aligned held) → Next since bit (turn (Aligned held) bit)
unfolding turn
aligned_next since held bit d fits =
    subst (λ (x : List Bool). Next since bit (way (x ++ bit ∷ []))) (sym d.1) (elim (cases_Bool (length bits % 256 == 0)) [
      | inl whole ↦
          let w = whole_push since bit h.found (eqb-true _ _ whole) in
          elim (cases_Bool (loses (frames_of bits))) [
            | inl lost ↦
                let lost' : loses fs' ≡ true = ap loses (sym frames_are) ∙ lost in
                rw (whole, lost) (lost_next since bits bit 0 false h w lost' refl (omega (arith, w.long)))
            | inr fine ↦
                let fine' : loses fs' ≡ false = ap loses (sym frames_are) ∙ fine in
                rw (whole, fine) (subst (Next since bit) (sym (aligned_turn_is bits fs' frames_are)) (aligned_frame since bit h w fine' short))
          ]
      | inr part ↦ rw part (aligned_part since bit h short (eqb-false _ _ part))
    ])
  where
    h : IsAligned false since
    h = d.0

    bits : List Bool
    bits = aligned since ++ bit ∷ []

    fs' : List (List Bool)
    fs' = found_frames (since ++ bit ∷ [])

    frames_are : frames_of bits ≡ fs'
    frames_are = frames_bits since bit h.found

    short : length (aligned since) < 16384
    short = subst (λ (x : List Bool). length x < 16384) d.1 fits

    way : List Bool → Turn
    way x = cond (length x % 256 == 0) (unless_lost false x (aligned_turn x)) (still (Aligned x))

-- ---- an alignment whose multiframes are found

framed_describes : (since : List Bool) (bit : Bool) (held : List Bool) (group wrong : ℕ) → (w : Whole since bit) → is_over (since ++ bit ∷ []) ≡ false → is_reached (found_frames since ++ w.newest ∷ []) ≡ true
    → held ≡ drop (256 * last_begin (found_frames since ++ w.newest ∷ [])) (aligned since ++ bit ∷ []) → InGroup group wrong (found_frames since ++ w.newest ∷ []) → Describes (Framed held group wrong) (since ++ bit ∷ [])
framed_describes since bit held group wrong w on reached held_is in_group = (
  record { found = w.found; kept_on = on; reached_is = ap is_reached w.frames ∙ reached },
  held_is ∙ ap (λ (x : List (List Bool)). drop (256 * last_begin x) (aligned since ++ bit ∷ [])) (sym w.frames) ∙ ap (drop (256 * last_begin (found_frames (since ++ bit ∷ [])))) (sym w.now),
  subst (InGroup group wrong) (sym w.frames) in_group,
)

-- a frame that ends no sub-multiframe
frame_only : (since : List Bool) (bit : Bool) (bits : List Bool) (group wrong : ℕ) → IsAligned true since → (w : Whole since bit) → loses (found_frames (since ++ bit ∷ [])) ≡ false
    → bits ≡ drop (256 * last_begin (found_frames since)) (aligned since ++ bit ∷ []) → InGroup group wrong (found_frames since) → group < 1000 → wrong ≤ group
    → (length (found_frames since) + 1 - last_begin (found_frames since)) % 8 ≢ 0 → Next since bit (still (Framed bits group wrong))
frame_only since bit bits group wrong h w fine is in_group few no_more part =
    let fs : List (List Bool) = found_frames since in
    let g : List (List Bool) = fs ++ w.newest ∷ [] in
    let facts = window fs w.newest h.reached_is in
    let start : last_begin fs ≡ begin fs + 16 * (multiframes fs - 1) = facts.start in
    let whole : multiframes fs ≡ (length fs - begin fs) / 16 = facts.whole in
    let whole' : multiframes g ≡ (length fs + 1 - begin fs) / 16 = facts.whole_next in
    let blocks : judged fs ≡ (length fs - begin fs) / 8 - 1 = facts.blocks in
    let blocks' : judged g ≡ (length fs + 1 - begin fs) / 8 - 1 = facts.blocks_next in
    let least : begin fs + 28 ≤ length fs = facts.least in
    let odd : framed g % 8 ≢ 0 = λ e. part (let e' : (length g - begin fs) % 8 ≡ 0 = ap (λ b. (length g - b) % 8) (sym facts.begin_same) ∙ e in omega (arith, facts.long)) in
    let odd' : (length fs + 1 - begin fs) % 8 ≢ 0 = λ e. part (omega arith) in
    let m : multiframes g ≡ multiframes fs = omega arith in
    let j : judged g ≡ judged fs = omega arith in
    let fails : ends (found_frames (since ++ bit ∷ [])) ≡ false =
    ends_is (found_frames (since ++ bit ∷ [])) ∙ or_from _ _ (or_from _ _ fine (and_right _ _ (not_from_true _ (ap is_reached w.frames ∙ facts.reached)))) (ap is_false w.frames ∙ is_false_part g odd) in
    let grown : share_of false (found_frames (since ++ bit ∷ [])) ≡ add (share_of false fs) nothing =
    ap (share_of false) w.frames ∙ share_part fs w.newest h.reached_is (open_true fs h.kept_on (omega arith)) part ∙ sym (add_nothing (share_of false fs)) in
    let start' : last_begin g ≡ last_begin fs = last_begin_is g ∙ ap (λ b. b + 16 * (multiframes g - 1)) facts.begin_same ∙ ap (λ n. begin fs + 16 * (n - 1)) m ∙ sym (last_begin_is fs) in
    let group_is : group ≡ judged fs % 1000 = in_group.group_is in
    let held : length bits ≡ length (aligned since ++ bit ∷ []) - 256 * last_begin fs = ap length is ∙ length-drop (256 * last_begin fs) (aligned since ++ bit ∷ []) in
    goes_next since bit true (still (Framed bits group wrong)) h w fails grown (omega (arith, w.long), omega (arith, w.long), few, no_more)
    (λ on. framed_describes since bit bits group wrong w on facts.reached (is ∙ ap (λ n. drop (256 * n) (aligned since ++ bit ∷ [])) (sym start'))
    (record {
      group_is = group_is ∙ ap (λ n. n % 1000) (sym j);
      wrong_is = in_group.wrong_is ∙ sym (errored_in-append fs (w.newest ∷ []) (judged fs - group) group h.reached_is (omega arith)) ∙ ap (λ n. errored_in g (n - group) group) (sym j);
    }))

-- what is held where a sub-multiframe ends
record Rest (since bits rest : List Bool) (bit : Bool) (g : List (List Bool)) : Type 0 where
  pub rest_is : rest ≡ drop (256 * last_begin g) (aligned since ++ bit ∷ [])
  pub least : 4096 ≤ length rest
  pub most : length rest < 8192

rest_of : (since : List Bool) (bit : Bool) (bits : List Bool) → IsAligned true since → (w : Whole since bit) → bits ≡ drop (256 * last_begin (found_frames since)) (aligned since ++ bit ∷ [])
    → (length (found_frames since) + 1 - last_begin (found_frames since)) % 8 ≡ 0
    → Rest since bits (cond (length (drop (last_begin (found_frames since)) (found_frames since ++ w.newest ∷ [])) == 32) (drop 4096 bits) bits) bit (found_frames since ++ w.newest ∷ [])
rest_of since bit bits h w is ended =
    let fs : List (List Bool) = found_frames since in
    let g : List (List Bool) = fs ++ w.newest ∷ [] in
    let n : ℕ = length (drop (last_begin fs) g) in
    let all : List Bool = aligned since ++ bit ∷ [] in
    let facts = window fs w.newest h.reached_is in
    let block = block_of fs w.newest h.reached_is ended in
    let start : last_begin fs ≡ begin fs + 16 * (multiframes fs - 1) = facts.start in
    let whole : multiframes fs ≡ (length fs - begin fs) / 16 = facts.whole in
    let least : begin fs + 28 ≤ length fs = facts.least in
    let start' : last_begin g ≡ begin fs + 16 * (multiframes g - 1) = last_begin_is g ∙ ap (λ b. b + 16 * (multiframes g - 1)) facts.begin_same in
    let size : n ≡ suc (length fs) - last_begin fs = block.length_is in
    let held : length bits ≡ length all - 256 * last_begin fs = ap length is ∙ length-drop (256 * last_begin fs) all in
    let some : last_begin fs ≤ length fs = omega arith in
    let held' : length bits ≡ 256 * n = omega (arith, w.long) in
    elim block.long [
      | inl part ↦
          let small : (n == 32) ≡ false = ne_eqb _ _ (λ e. absurd (omega (arith, part.0))) in
          let same : last_begin fs ≡ last_begin g = omega (arith, part.1) in
          rw small (record { rest_is = is ∙ ap (λ k. drop (256 * k) all) same; least = omega (arith, part.0); most = omega (arith, part.0) })
      | inr full ↦
          let large : (n == 32) ≡ true = eq-eqb _ _ full.0 in
          let next : 256 * last_begin fs + 4096 ≡ 256 * last_begin g = omega (arith, full.1) in
          let count : length (drop 4096 bits) ≡ 4096 = omega (arith, length-drop 4096 bits, full.0) in
          rw large (record { rest_is = ap (drop 4096) is ∙ drop-drop 4096 (256 * last_begin fs) all ∙ ap (λ k. drop k all) next; least = omega arith; most = omega arith })
    ]

-- a frame that ends a sub-multiframe
abbrev pub block_way : List Bool → List (List Bool) → ℕ → ℕ → Turn
block_way bits w group wrong = record {
  phase = group_phase bits (cond (length w == 32) (drop 4096 bits) bits) (group + 1) (wrong + bit_value (errs w (length w - 16)));
  gained = block_gain w (is_false_group (group + 1) (wrong + bit_value (errs w (length w - 16))));
}

block_next : (since : List Bool) (bit : Bool) (bits : List Bool) (group wrong : ℕ) → IsAligned true since → (w : Whole since bit) → loses (found_frames (since ++ bit ∷ [])) ≡ false
    → bits ≡ drop (256 * last_begin (found_frames since)) (aligned since ++ bit ∷ []) → InGroup group wrong (found_frames since) → group < 1000 → wrong ≤ group
    → (length (found_frames since) + 1 - last_begin (found_frames since)) % 8 ≡ 0
    → Next since bit (block_way bits (drop (last_begin (found_frames since)) (found_frames since ++ w.newest ∷ [])) group wrong)
block_next since bit bits group wrong h w fine is in_group few no_more ended =
    let fs : List (List Bool) = found_frames since in
    let g : List (List Bool) = fs ++ w.newest ∷ [] in
    let v : List (List Bool) = drop (last_begin fs) g in
    let facts = window fs w.newest h.reached_is in
    let rest = rest_of since bit bits h w is ended in
    let kept_bits : List Bool = cond (length v == 32) (drop 4096 bits) bits in
    let errors : ℕ = wrong + bit_value (errs v (length v - 16)) in
    let next = group_next fs w.newest group wrong h.reached_is ended in_group in
    let is_false' : is_false (found_frames (since ++ bit ∷ [])) ≡ ((group + 1 == 1000) && nat_le 915 errors) = ap is_false w.frames ∙ next.false_is in
    let least : begin fs + 28 ≤ length fs = facts.least in
    let grown : (over : Bool) → is_false (found_frames (since ++ bit ∷ [])) ≡ over → share_of false (found_frames (since ++ bit ∷ [])) ≡ add (share_of false fs) (block_gain v over) = λ over now.
    ap (share_of false) w.frames ∙ share_block fs w.newest over h.reached_is (open_true fs h.kept_on (omega arith)) (sym (ap is_false w.frames) ∙ now) ended in
    let reached' : not (is_reached (found_frames (since ++ bit ∷ []))) ≡ false = not_from_true _ (ap is_reached w.frames ∙ facts.reached) in
    let ends' : ends (found_frames (since ++ bit ∷ [])) ≡ is_false (found_frames (since ++ bit ∷ [])) =
    ends_is (found_frames (since ++ bit ∷ [])) ∙ ap (λ b. b || is_false (found_frames (since ++ bit ∷ []))) (or_from _ _ fine (and_right _ _ reached')) in
    let one : errors ≤ wrong + 1 = omega (arith, bit_le (errs v (length v - 16))) in
    elim (cases_Bool (group + 1 == 1000)) [
      | inl full ↦ elim (cases_Bool (nat_le 915 errors)) [
        | inl bad ↦
            let start : last_begin fs ≡ begin fs + 16 * (multiframes fs - 1) = facts.start in
            let whole : multiframes fs ≡ (length fs - begin fs) / 16 = facts.whole in
            let t : Turn = record { phase = Searching (last_bits 255 bits); gained = block_gain v true } in
            let it : Next since bit t = other_next since bits bit (256 * last_begin fs) true (block_gain v true) h w fine (ends' ∙ is_false' ∙ and_from _ _ full bad) (grown true (is_false' ∙ and_from _ _ full bad)) is (omega (arith, w.long)) in
            rw (full, bad) it
        | inr good ↦
            let fails : ends (found_frames (since ++ bit ∷ [])) ≡ false = ends' ∙ is_false' ∙ and_right _ _ good in
            let t : Turn = record { phase = Framed kept_bits 0 0; gained = block_gain v false } in
            let it : Next since bit t = goes_next since bit true t h w fails (grown false (is_false' ∙ and_right _ _ good)) (rest.least, rest.most, omega arith, omega arith)
            (λ on. framed_describes since bit kept_bits 0 0 w on facts.reached rest.rest_is (next.begins (eqb-true _ _ full))) in
            rw (full, good) it
      ]
      | inr part ↦
          let fails : ends (found_frames (since ++ bit ∷ [])) ≡ false = ends' ∙ is_false' ∙ and_left _ _ part in
          let other : group + 1 ≢ 1000 = eqb-false _ _ part in
          let t : Turn = record { phase = Framed kept_bits (group + 1) errors; gained = block_gain v false } in
          let it : Next since bit t = goes_next since bit true t h w fails (grown false (is_false' ∙ and_left _ _ part)) (rest.least, rest.most, omega arith, omega arith)
          (λ on. framed_describes since bit kept_bits (group + 1) errors w on facts.reached rest.rest_is (next.goes_on other)) in
          rw part it
    ]
  where
    bit_le : (b : Bool) → bit_value b ≤ 1
    bit_le true = omega arith
    bit_le false = omega arith

pub framed_turn_is : (bits : List Bool) (fs : List (List Bool)) (group wrong : ℕ) → frames_of bits ≡ fs
    → framed_turn bits group wrong ≡ cond (length fs % 8 == 0) (block_way bits fs group wrong) (still (Framed bits group wrong))
unfolding framed_turn block_turn
framed_turn_is bits fs group wrong e = ap (λ (x : List (List Bool)). cond (length x % 8 == 0) (block_way bits x group wrong) (still (Framed bits group wrong))) e

framed_frame : (since : List Bool) (bit : Bool) (bits : List Bool) (group wrong : ℕ) → IsAligned true since → (w : Whole since bit) → loses (found_frames (since ++ bit ∷ [])) ≡ false
    → bits ≡ drop (256 * last_begin (found_frames since)) (aligned since ++ bit ∷ []) → InGroup group wrong (found_frames since) → group < 1000 → wrong ≤ group
    → frames_of bits ≡ drop (last_begin (found_frames since)) (found_frames since ++ w.newest ∷ [])
    → Next since bit (framed_turn bits group wrong)
framed_frame since bit bits group wrong h w fine is in_group few no_more frames_are =
    let fs : List (List Bool) = found_frames since in
    let v : List (List Bool) = drop (last_begin fs) (fs ++ w.newest ∷ []) in
    let facts = window fs w.newest h.reached_is in
    let start : last_begin fs ≡ begin fs + 16 * (multiframes fs - 1) = facts.start in
    let whole : multiframes fs ≡ (length fs - begin fs) / 16 = facts.whole in
    let least : begin fs + 28 ≤ length fs = facts.least in
    let count : length v ≡ length fs + 1 - last_begin fs = omega (arith, length-drop (last_begin fs) (fs ++ w.newest ∷ []), facts.long) in
    elim (cases_Bool (length v % 8 == 0)) [
      | inl ended ↦
          let it = block_next since bit bits group wrong h w fine is in_group few no_more (sym (ap (λ n. n % 8) count) ∙ eqb-true _ _ ended) in
          subst (Next since bit) (sym (framed_turn_is bits v group wrong frames_are ∙ ap (λ b. cond b (block_way bits v group wrong) (still (Framed bits group wrong))) ended)) it
      | inr part ↦
          let it = frame_only since bit bits group wrong h w fine is in_group few no_more (λ e. eqb-false _ _ part (ap (λ n. n % 8) count ∙ e)) in
          subst (Next since bit) (sym (framed_turn_is bits v group wrong frames_are ∙ ap (λ b. cond b (block_way bits v group wrong) (still (Framed bits group wrong))) part)) it
    ]

-- a bit that ends no frame
framed_part : (since : List Bool) (bit : Bool) (bits : List Bool) (group wrong : ℕ) → IsAligned true since → bits ≡ drop (256 * last_begin (found_frames since)) (aligned since ++ bit ∷ [])
    → InGroup group wrong (found_frames since) → Fits (Framed bits group wrong) → length (aligned since ++ bit ∷ []) % 256 ≢ 0 → Next since bit (still (Framed bits group wrong))
framed_part since bit bits group wrong h is in_group fits part =
    let fs : List (List Bool) = found_frames since in
    let same : found_frames (since ++ bit ∷ []) ≡ fs = part_push since bit h.found part in
    let on : is_over (since ++ bit ∷ []) ≡ false = ap is_ended same ∙ h.kept_on in
    record {
      fits = fits;
      way = inl (
        on,
        (
          record { found = is_found-append since (bit ∷ []) h.found; kept_on = on; reached_is = ap is_reached same ∙ h.reached_is },
          is ∙ ap (λ (x : List (List Bool)). drop (256 * last_begin x) (aligned since ++ bit ∷ [])) (sym same) ∙ ap (drop (256 * last_begin (found_frames (since ++ bit ∷ [])))) (sym (aligned-append since (bit ∷ []) h.found)),
          subst (InGroup group wrong) (sym same) in_group,
        ),
      );
      grows = one_search_open (since ++ bit ∷ []) on ∙ ap (share_of false) same ∙ sym (one_search_open since h.kept_on) ∙ sym (add_nothing (one_search since));
    }

framed_next : (since held : List Bool) (bit : Bool) (group wrong : ℕ) → Describes (Framed held group wrong) since → Fits (Framed held group wrong) → Next since bit (turn (Framed held group wrong) bit)
unfolding turn
framed_next since held bit group wrong d fits =
    let h : IsAligned true since = d.0 in
    let fs : List (List Bool) = found_frames since in
    let o : ℕ = last_begin fs in
    let all : List Bool = aligned since ++ bit ∷ [] in
    let bits : List Bool = held ++ bit ∷ [] in
    let facts = window fs [] h.reached_is in
    let start : o ≡ begin fs + 16 * (multiframes fs - 1) = facts.start in
    let whole : multiframes fs ≡ (length fs - begin fs) / 16 = facts.whole in
    let least : begin fs + 28 ≤ length fs = facts.least in
    let even : begin fs % 2 ≡ 0 = facts.even in
    let count : length fs ≡ length (aligned since) / 256 = ap length (found_frames_is since h.found) ∙ length_frames (aligned since) in
    let longer : length all ≡ length (aligned since) + 1 = length_push (aligned since) bit in
    let inside : 256 * o ≤ length (aligned since) = omega arith in
    let is : bits ≡ drop (256 * o) all = ap (λ (x : List Bool). x ++ bit ∷ []) d.1 ∙ sym (drop-append-le (256 * o) (aligned since) (bit ∷ []) inside) in
    let size : length bits ≡ length all - 256 * o = ap length is ∙ length-drop (256 * o) all in
    let held_size : length bits ≡ length held + 1 = length_push held bit in
    let held_least : 4096 ≤ length held = fits.0 in
    let held_most : length held < 8192 = fits.1 in
    elim (cases_Bool (length bits % 256 == 0)) [
      | inl ended ↦
          let ended' : length bits % 256 ≡ 0 = eqb-true _ _ ended in
          let w = whole_push since bit h.found (omega arith) in
          let g : List (List Bool) = fs ++ w.newest ∷ [] in
          let frames_are : frames_of bits ≡ drop o g = ap frames_of is ∙ frames-drop all o (omega arith) ∙ ap (drop o) (frames_bits since bit h.found ∙ w.frames) in
          let same : loses (frames_of bits) ≡ loses (found_frames (since ++ bit ∷ [])) = ap loses frames_are ∙ loses-drop g o (omega arith) (omega (arith, length_push fs w.newest)) ∙ ap loses (sym w.frames) in
          elim (cases_Bool (loses (frames_of bits))) [
            | inl lost ↦ rw (ended, lost) (lost_next since bits bit (256 * o) true h w (sym same ∙ lost) is (omega arith))
            | inr fine ↦ rw (ended, fine) (framed_frame since bit bits group wrong h w (sym same ∙ fine) is d.2 fits.2 fits.3 frames_are)
          ]
      | inr part ↦
          let part' : length bits % 256 ≢ 0 = eqb-false _ _ part in
          let under : length bits < 8192 = lt_of (length bits) (omega arith) (λ e. part' (ap (λ n. n % 256) e)) in
          let shorter : 4096 ≤ length bits = omega arith in
          rw part (framed_part since bit bits group wrong h is d.2 (shorter, under, fits.2, fits.3) (λ e. part' (omega arith)))
    ]
  where
    lt_of : (a : ℕ) → a ≤ 8192 → a ≢ 8192 → a < 8192
    lt_of a le ne = omega arith

-- ---- all phases

-- what one more bit does is the growth of the search
pub turn_next : (phase : Phase) (since : List Bool) (bit : Bool) → Describes phase since → Fits phase → Next since bit (turn phase bit)
unfolding turn
turn_next (Searching held) since bit d fits = search_next since held bit d
turn_next (Aligned held) since bit d fits = aligned_next since held bit d fits
turn_next (Framed held group wrong) since bit d fits = framed_next since held bit group wrong d fits
