-- How the share of an alignment grows by one more frame.
use Rattle.std.proofs.Common.{◌≡◌, ◌≢◌, ℕ, suc, ◌+◌, ◌-◌, ◌*◌, ◌/◌, ◌%◌, ◌<◌, ◌≤◌, Bool, true, false, ◌&&◌, not, cond, leb, List, [], ◌∷◌, ◌++◌, length, map, take, drop, refl, sym, ap, ◌∙◌, inl, inr, arith, length-drop}
use Rattle.std.proofs.lemmas.List.{append-nil, map-append, get_or-drop, take-append-le, drop-append-le, drop-drop, length_push}
use Rattle.std.proofs.lemmas.Bool.{lt-ltb, le-ltb, ne_eqb, eq-eqb, cases_eq, and_left, and_right}
use Rattle.std.proofs.lemmas.Bool.Decides.{nat_tests}
use Rattle.std.proofs.Math.Seq.{take-add}
use Rattle.std.proofs.lemmas.Grind.{flat_map-append}
use Rattle.std.specs.Prelude.{flat_map, nat_lt, nat_le, count_by, ◌==◌, ◌⊎◌}
use Rattle.std.specs.List.{range_with_len}
use Rattle.pdh_line.proofs.Ranges.{count-range_same, map-range_same_on, range_push}
use Rattle.std.proofs.lemmas.List.Sums.{sum_by_push}
use Rattle.pdh_bits.specs.Bits.{bit_value}
use Rattle.pdh_e1.specs.Crc4.{crc4, cleared}
use Rattle.pdh_g706.specs.Frames.{has_signal}
use Rattle.pdh_g706.specs.Alignment.{frame, loses, reach, is_reached, begin, framed, multiframes, payload, eight, sent_check, errs, is_errored, judged, errored_in, is_false}
use Rattle.pdh_g706.specs.Tracking.{Signs, signs_of, Share, share_of}
use Rattle.pdh_g706.specs.Machine.{no_signs, nothing, loss_after, add_signs, payload_from, frames_from, errs_in, each_errs, last_begin, InGroup}
use Rattle.pdh_g706.proofs.SignLaws.{signs, signs_same}
use Rattle.pdh_g706.proofs.AlignmentLaws.{places_of, is_reached-append, begin-append}

-- a share with what was gained
abbrev pub add : Share → Share → Share
add s g = record { payload = s.payload ++ g.payload; multiframes = s.multiframes + g.multiframes; blocks = s.blocks + g.blocks; errored = s.errored + g.errored; signs = add_signs s.signs g.signs }

-- ---- blocks

eight-append : (fs gs : List (List Bool)) (k : ℕ) → k + 8 ≤ length fs → eight (fs ++ gs) k ≡ eight fs k
eight-append fs gs k le =
    let inside : 8 ≤ length (drop k fs) = omega (arith, length-drop k fs) in
    ap (λ (x : List (List Bool)). flat_map (λ (bits : List Bool). bits) (take 8 x)) (drop-append-le k fs gs (omega arith))
    ∙ ap (flat_map (λ (bits : List Bool). bits)) (take-append-le 8 (drop k fs) gs inside)

pub errs_is : (fs : List (List Bool)) (k : ℕ) → errs fs k ≡ not (sent_check (eight fs (k + 8)) == crc4 (cleared (eight fs k)))
unfolding errs
errs_is fs k = refl

same_errs : (a b c d : List Bool) → a ≡ b → c ≡ d → not (sent_check a == crc4 (cleared c)) ≡ not (sent_check b == crc4 (cleared d))
same_errs a b c d e f = ap (λ (x : List Bool). not (sent_check x == crc4 (cleared c))) e ∙ ap (λ (x : List Bool). not (sent_check b == crc4 (cleared x))) f

pub errs-append : (fs gs : List (List Bool)) (k : ℕ) → k + 16 ≤ length fs → errs (fs ++ gs) k ≡ errs fs k
errs-append fs gs k le =
    errs_is (fs ++ gs) k
    ∙ same_errs (eight (fs ++ gs) (k + 8)) (eight fs (k + 8)) (eight (fs ++ gs) k) (eight fs k) (eight-append fs gs (k + 8) (omega arith)) (eight-append fs gs k (omega arith))
    ∙ sym (errs_is fs k)

eight-drop : (fs : List (List Bool)) (o k i : ℕ) → o + k ≡ i → eight (drop o fs) k ≡ eight fs i
eight-drop fs o k i e = ap (λ (x : List (List Bool)). flat_map (λ (bits : List Bool). bits) (take 8 x)) (drop-drop k o fs ∙ ap (λ n. drop n fs) e)

-- a block of a window of the frames
pub errs-drop : (fs : List (List Bool)) (o k i : ℕ) → o + k ≡ i → errs (drop o fs) k ≡ errs fs i
errs-drop fs o k i e =
    errs_is (drop o fs) k
    ∙ same_errs (eight (drop o fs) (k + 8)) (eight fs (i + 8)) (eight (drop o fs) k) (eight fs i) (eight-drop fs o (k + 8) (i + 8) (omega arith)) (eight-drop fs o k i e)
    ∙ sym (errs_is fs i)

pub is_errored_is : (fs : List (List Bool)) (b : ℕ) → is_errored fs b ≡ errs fs (begin fs + 8 * b)
unfolding is_errored
is_errored_is fs b = refl

pub is_errored-append : (fs gs : List (List Bool)) (b : ℕ) → is_reached fs ≡ true → begin fs + 8 * b + 16 ≤ length fs → is_errored (fs ++ gs) b ≡ is_errored fs b
is_errored-append fs gs b h le =
    is_errored_is (fs ++ gs) b ∙ ap (λ n. errs (fs ++ gs) (n + 8 * b)) (begin-append fs gs h) ∙ errs-append fs gs (begin fs + 8 * b) le ∙ sym (is_errored_is fs b)

pub judged_is : (fs : List (List Bool)) → is_reached fs ≡ true → judged fs ≡ framed fs / 8 - 1
unfolding judged
judged_is fs h = rw h refl

pub judged_none : (fs : List (List Bool)) → is_reached fs ≡ false → judged fs ≡ 0
unfolding judged
judged_none fs h = rw h refl

pub multiframes_is : (fs : List (List Bool)) → is_reached fs ≡ true → multiframes fs ≡ framed fs / 16
unfolding multiframes
multiframes_is fs h = rw h refl

pub multiframes_none : (fs : List (List Bool)) → is_reached fs ≡ false → multiframes fs ≡ 0
unfolding multiframes
multiframes_none fs h = rw h refl

pub payload_is : (fs : List (List Bool)) → payload fs ≡ payload_from fs (begin fs) (16 * multiframes fs)
unfolding payload
payload_is fs = refl

-- the judged blocks that were counted before stay so
pub errored_in-append : (fs gs : List (List Bool)) (from count : ℕ) → is_reached fs ≡ true → from + count ≤ judged fs → errored_in (fs ++ gs) from count ≡ errored_in fs from count
errored_in-append fs gs from count h le =
    let p = places_of fs h in
    let is : judged fs ≡ framed fs / 8 - 1 = judged_is fs h in
    let long : begin fs + 27 ≤ reach fs = p.apart in
    let within : reach fs < length fs = p.within in
    count-range_same (is_errored (fs ++ gs)) (is_errored fs) from count (λ b _from lt. is_errored-append fs gs b h (omega arith))

-- one more block
errored_in_push : (fs : List (List Bool)) (from count : ℕ) → errored_in fs from (suc count) ≡ errored_in fs from count + bit_value (is_errored fs (from + count))
errored_in_push fs from count =
    ap (count_by (is_errored fs)) (range_push from count) ∙ sum_by_push (λ b. bit_value (is_errored fs b)) (range_with_len from count) (from + count)

-- each of the judged blocks
abbrev pub each : List (List Bool) → ℕ → List Bool
each fs n = map (is_errored fs) (range_with_len 0 n)

each-append : (fs gs : List (List Bool)) (n : ℕ) → is_reached fs ≡ true → n ≤ judged fs → each (fs ++ gs) n ≡ each fs n
each-append fs gs n h le =
    let p = places_of fs h in
    let is : judged fs ≡ framed fs / 8 - 1 = judged_is fs h in
    let long : begin fs + 27 ≤ reach fs = p.apart in
    let within : reach fs < length fs = p.within in
    map-range_same_on (is_errored (fs ++ gs)) (is_errored fs) 0 n (λ b _from lt. is_errored-append fs gs b h (omega arith))

each_push : (fs : List (List Bool)) (n : ℕ) → each fs (suc n) ≡ each fs n ++ is_errored fs (0 + n) ∷ []
each_push fs n = ap (map (is_errored fs)) (range_push 0 n) ∙ map-append (is_errored fs) (range_with_len 0 n) ((0 + n) ∷ [])

-- ---- false alignments

pub is_false_is : (fs : List (List Bool)) → is_false fs ≡ ((framed fs % 8 == 0) && nat_lt 0 (judged fs) && (judged fs % 1000 == 0) && nat_le 915 (errored_in fs (judged fs - 1000) 1000))
unfolding is_false
is_false_is fs = refl

-- no group ends where no sub-multiframe does
pub is_false_part : (fs : List (List Bool)) → framed fs % 8 ≢ 0 → is_false fs ≡ false
is_false_part fs part = is_false_is fs ∙ and_left _ _ (and_left _ _ (and_left _ _ (ne_eqb _ _ part)))

-- none ends before the multiframes are found
pub is_false_none : (fs : List (List Bool)) → is_reached fs ≡ false → is_false fs ≡ false
is_false_none fs h =
    let none : nat_lt 0 (judged fs) ≡ false = le-ltb _ _ (omega (arith, judged_none fs h)) in
    is_false_is fs ∙ and_left _ _ (and_left _ _ (and_right _ _ none))

-- ---- signs

-- the frames of the delivered multiframes
abbrev pub delivered : List (List Bool) → List (List Bool)
delivered fs = frames_from fs (begin fs) (16 * multiframes fs)

pub signs_is : (lost : Bool) (fs : List (List Bool)) → signs_of lost fs ≡ signs (bit_value (is_reached fs)) (bit_value (lost && is_reached fs)) (bit_value (is_false fs)) (each fs (judged fs)) (delivered fs)
unfolding signs_of
signs_is lost fs = refl

signs_none : (lost : Bool) (fs : List (List Bool)) → is_reached fs ≡ false → signs_of lost fs ≡ no_signs
signs_none lost fs h =
    let m : multiframes fs ≡ 0 = multiframes_none fs h in
    let n : 16 * multiframes fs ≡ 0 = omega arith in
    signs_is lost fs
    ∙ signs_same (bit_value (is_reached fs)) 0 (bit_value (lost && is_reached fs)) 0 (bit_value (is_false fs)) 0 (each fs (judged fs)) [] (delivered fs) []
    (ap bit_value h) (ap bit_value (and_right _ _ h)) (ap bit_value (is_false_none fs h)) (ap (each fs) (judged_none fs h)) (ap (frames_from fs (begin fs)) n)

-- ---- shares

abbrev made : List Bool → ℕ → ℕ → ℕ → Signs → Share
made p a b c s = record { payload = p; multiframes = a; blocks = b; errored = c; signs = s }

pub share_is : (lost : Bool) (fs : List (List Bool)) → share_of lost fs ≡ made (payload fs) (multiframes fs) (judged fs) (errored_in fs 0 (judged fs)) (signs_of lost fs)
unfolding share_of
share_is lost fs = refl

pub share_same : (p q : List Bool) (a b c d e f : ℕ) (s t : Signs) → p ≡ q → a ≡ b → c ≡ d → e ≡ f → s ≡ t → made p a c e s ≡ made q b d f t
share_same p q a b c d e f s t g h i j k =
    ap (λ (x : List Bool). made x a c e s) g ∙ ap (λ n. made q n c e s) h ∙ ap (λ n. made q b n e s) i ∙ ap (λ n. made q b d n s) j ∙ ap (made q b d f) k

-- where no multiframe is found
pub share_none : (lost : Bool) (fs : List (List Bool)) → is_reached fs ≡ false → share_of lost fs ≡ nothing
share_none lost fs h =
    let m : multiframes fs ≡ 0 = multiframes_none fs h in
    let j : judged fs ≡ 0 = judged_none fs h in
    let n : 16 * multiframes fs ≡ 0 = omega arith in
    share_is lost fs
    ∙ share_same (payload fs) [] (multiframes fs) 0 (judged fs) 0 (errored_in fs 0 (judged fs)) 0 (signs_of lost fs) no_signs (payload_is fs ∙ ap (payload_from fs (begin fs)) n) m j (ap (errored_in fs 0) j)
    (signs_none lost fs h)

-- where basic alignment is lost with the next frame
pub share_lost : (fs : List (List Bool)) (reached : Bool) → is_reached fs ≡ reached → share_of true fs ≡ add (share_of false fs) (loss_after reached)
share_lost fs reached is =
    let more : signs_of true fs ≡ add_signs (signs_of false fs) (loss_after reached).signs =
    signs_is true fs
    ∙ signs_same (bit_value (is_reached fs)) (bit_value (is_reached fs) + 0) (bit_value (is_reached fs)) (0 + bit_value reached) (bit_value (is_false fs)) (bit_value (is_false fs) + 0)
    (each fs (judged fs)) (each fs (judged fs) ++ []) (delivered fs) (delivered fs ++ [])
    (omega arith) (ap bit_value is ∙ omega arith) (omega arith) (sym (append-nil (each fs (judged fs)))) (sym (append-nil (delivered fs)))
    ∙ sym (ap (λ (x : Signs). add_signs x (loss_after reached).signs) (signs_is false fs)) in
    share_is true fs
    ∙ share_same (payload fs) (payload fs ++ []) (multiframes fs) (multiframes fs + 0) (judged fs) (judged fs + 0) (errored_in fs 0 (judged fs)) (errored_in fs 0 (judged fs) + 0)
    (signs_of true fs) (add_signs (signs_of false fs) (loss_after reached).signs)
    (sym (append-nil (payload fs))) (omega arith) (omega arith) (omega arith) more
    ∙ sym (ap (λ (x : Share). add x (loss_after reached)) (share_is false fs))

-- where the multiframes are found with the last frame
pub share_framing : (fs : List (List Bool)) (b whole blocks : ℕ) → is_reached fs ≡ true → is_false fs ≡ false → begin fs ≡ b → (length fs - b) / 16 ≡ whole → (length fs - b) / 8 - 1 ≡ blocks
    → share_of false fs ≡ made (payload_from fs b (16 * whole)) whole blocks (errs_in fs b blocks) (signs 1 0 0 (each_errs fs b blocks) (frames_from fs b (16 * whole)))
share_framing fs b whole blocks h fine b_is w_is k_is =
    let m : multiframes fs ≡ whole = multiframes_is fs h ∙ ap (λ n. (length fs - n) / 16) b_is ∙ w_is in
    let j : judged fs ≡ blocks = judged_is fs h ∙ ap (λ n. (length fs - n) / 8 - 1) b_is ∙ k_is in
    let shown : signs_of false fs ≡ signs 1 0 0 (each_errs fs b blocks) (frames_from fs b (16 * whole)) =
    signs_is false fs
    ∙ signs_same (bit_value (is_reached fs)) 1 0 0 (bit_value (is_false fs)) 0 (each fs (judged fs)) (each_errs fs b blocks) (delivered fs) (frames_from fs b (16 * whole))
    (ap bit_value h) refl (ap bit_value fine)
    (ap (each fs) j ∙ map-range_same_on (is_errored fs) (λ k. errs fs (b + 8 * k)) 0 blocks (λ k _from lt. is_errored_is fs k ∙ ap (λ n. errs fs (n + 8 * k)) b_is))
    (ap (λ n. frames_from fs n (16 * multiframes fs)) b_is ∙ ap (λ n. frames_from fs b (16 * n)) m) in
    share_is false fs
    ∙ share_same (payload fs) (payload_from fs b (16 * whole)) (multiframes fs) whole (judged fs) blocks (errored_in fs 0 (judged fs)) (errs_in fs b blocks) (signs_of false fs) (signs 1 0 0 (each_errs fs b blocks) (frames_from fs b (16 * whole)))
    (payload_is fs ∙ ap (λ n. payload_from fs n (16 * multiframes fs)) b_is ∙ ap (λ n. payload_from fs b (16 * n)) m)
    m j
    (ap (errored_in fs 0) j ∙ count-range_same (is_errored fs) (λ k. errs fs (b + 8 * k)) 0 blocks (λ k _from lt. is_errored_is fs k ∙ ap (λ n. errs fs (n + 8 * k)) b_is))
    shown

-- ---- a frame more in an alignment whose multiframes are found

-- where the frames of such an alignment stand
pub record Window (fs : List (List Bool)) (f : List Bool) : Type 0 where
  -- the frames and one more
  pub long : length (fs ++ f ∷ []) ≡ suc (length fs)
  pub reached : is_reached (fs ++ f ∷ []) ≡ true
  pub begin_same : begin (fs ++ f ∷ []) ≡ begin fs
  pub least : begin fs + 28 ≤ length fs
  pub even : begin fs % 2 ≡ 0
  pub whole : multiframes fs ≡ (length fs - begin fs) / 16
  pub whole_next : multiframes (fs ++ f ∷ []) ≡ (length fs + 1 - begin fs) / 16
  pub blocks : judged fs ≡ (length fs - begin fs) / 8 - 1
  pub blocks_next : judged (fs ++ f ∷ []) ≡ (length fs + 1 - begin fs) / 8 - 1
  pub start : last_begin fs ≡ begin fs + 16 * (multiframes fs - 1)

pub last_begin_is : (fs : List (List Bool)) → last_begin fs ≡ begin fs + 16 * (multiframes fs - 1)
unfolding last_begin
last_begin_is fs = refl

pub window : (fs : List (List Bool)) (f : List Bool) → is_reached fs ≡ true → Window fs f
window fs f h =
    let p = places_of fs h in
    let after : is_reached (fs ++ f ∷ []) ≡ true = is_reached-append fs (f ∷ []) h in
    let long : length (fs ++ f ∷ []) ≡ length fs + 1 = length_push fs f in
    let b : begin (fs ++ f ∷ []) ≡ begin fs = begin-append fs (f ∷ []) h in
    let n : framed (fs ++ f ∷ []) ≡ length fs + 1 - begin fs = ap (λ k. k - begin (fs ++ f ∷ [])) long ∙ ap (λ k. length fs + 1 - k) b in
    record {
      long = omega arith;
      reached = after;
      begin_same = b;
      least = omega (arith, p.within, p.apart);
      even = p.even;
      whole = multiframes_is fs h;
      whole_next = multiframes_is (fs ++ f ∷ []) after ∙ ap (λ k. k / 16) n;
      blocks = judged_is fs h;
      blocks_next = judged_is (fs ++ f ∷ []) after ∙ ap (λ k. k / 8 - 1) n;
      start = last_begin_is fs;
    }

-- its share where no sub-multiframe ends with it
pub share_part : (fs : List (List Bool)) (f : List Bool) → is_reached fs ≡ true → is_false fs ≡ false → (length fs + 1 - last_begin fs) % 8 ≢ 0 → share_of false (fs ++ f ∷ []) ≡ share_of false fs
share_part fs f h fine part =
    let fs' : List (List Bool) = fs ++ f ∷ [] in
    let w = window fs f h in
    let start : last_begin fs ≡ begin fs + 16 * (multiframes fs - 1) = w.start in
    let whole : multiframes fs ≡ (length fs - begin fs) / 16 = w.whole in
    let whole' : multiframes fs' ≡ (length fs + 1 - begin fs) / 16 = w.whole_next in
    let blocks : judged fs ≡ (length fs - begin fs) / 8 - 1 = w.blocks in
    let blocks' : judged fs' ≡ (length fs + 1 - begin fs) / 8 - 1 = w.blocks_next in
    let least : begin fs + 28 ≤ length fs = w.least in
    let odd : (length fs + 1 - begin fs) % 8 ≢ 0 = λ e. part (omega arith) in
    let odd' : framed fs' % 8 ≢ 0 = λ e. odd (sym (ap (λ n. n % 8) (ap (λ n. length fs' - n) w.begin_same ∙ omega (arith, w.long))) ∙ e) in
    let m : multiframes fs' ≡ multiframes fs = omega arith in
    let j : judged fs' ≡ judged fs = omega arith in
    let inside : 16 * multiframes fs ≤ length (drop (begin fs) fs) = omega (arith, length-drop (begin fs) fs) in
    let d : delivered fs' ≡ delivered fs =
    ap (λ n. frames_from fs' n (16 * multiframes fs')) w.begin_same ∙ ap (λ n. frames_from fs' (begin fs) (16 * n)) m
    ∙ ap (take (16 * multiframes fs)) (drop-append-le (begin fs) fs (f ∷ []) (omega arith)) ∙ take-append-le (16 * multiframes fs) (drop (begin fs) fs) (f ∷ []) inside in
    let shown : signs_of false fs' ≡ signs_of false fs =
    signs_is false fs'
    ∙ signs_same (bit_value (is_reached fs')) (bit_value (is_reached fs)) 0 0 (bit_value (is_false fs')) (bit_value (is_false fs)) (each fs' (judged fs')) (each fs (judged fs)) (delivered fs') (delivered fs)
    (ap bit_value (w.reached ∙ sym h)) refl (ap bit_value (is_false_part fs' odd' ∙ sym fine)) (ap (each fs') j ∙ each-append fs (f ∷ []) (judged fs) h (omega arith)) d
    ∙ sym (signs_is false fs) in
    share_is false fs'
    ∙ share_same (payload fs') (payload fs) (multiframes fs') (multiframes fs) (judged fs') (judged fs) (errored_in fs' 0 (judged fs')) (errored_in fs 0 (judged fs)) (signs_of false fs') (signs_of false fs)
    (payload_is fs' ∙ ap (flat_map (drop 8)) d ∙ sym (payload_is fs)) m j (ap (errored_in fs' 0) j ∙ errored_in-append fs (f ∷ []) 0 (judged fs) h (omega arith)) shown
    ∙ sym (share_is false fs)

-- what a sub-multiframe that ends with it adds, with which the alignment is false or not
abbrev pub block_gain : List (List Bool) → Bool → Share
block_gain w over =
    let whole = length w == 32 in
    let bad = errs w (length w - 16) in
    let one = bit_value bad in
    record {
      payload = cond whole (payload_from w 16 16) [];
      multiframes = bit_value whole;
      blocks = 1;
      errored = one;
      signs = record { alignments = 0; losses = 0; false_alignments = bit_value over; verdicts = bad ∷ []; frames = cond whole (frames_from w 16 16) [] };
    }

-- where a sub-multiframe ends, one more is judged
pub record Block (fs : List (List Bool)) (f : List Bool) : Type 0 where
  pub length_is : length (drop (last_begin fs) (fs ++ f ∷ [])) ≡ suc (length fs) - last_begin fs
  pub long : (length (drop (last_begin fs) (fs ++ f ∷ [])) ≡ 24) × (multiframes (fs ++ f ∷ []) ≡ multiframes fs) ⊎ (length (drop (last_begin fs) (fs ++ f ∷ [])) ≡ 32) × (multiframes (fs ++ f ∷ []) ≡ suc (multiframes fs))
  pub judged_next : judged (fs ++ f ∷ []) ≡ suc (judged fs)
  pub error_is : errs (drop (last_begin fs) (fs ++ f ∷ [])) (length (drop (last_begin fs) (fs ++ f ∷ [])) - 16) ≡ is_errored (fs ++ f ∷ []) (judged fs)

window_length : (fs : List (List Bool)) (f : List Bool) → length (drop (last_begin fs) (fs ++ f ∷ [])) ≡ suc (length fs) - last_begin fs
window_length fs f = omega (arith, length-drop (last_begin fs) (fs ++ f ∷ []), length_push fs f)

pub block_of : (fs : List (List Bool)) (f : List Bool) → is_reached fs ≡ true → (length fs + 1 - last_begin fs) % 8 ≡ 0 → Block fs f
block_of fs f h ended =
    let w = window fs f h in
    let start : last_begin fs ≡ begin fs + 16 * (multiframes fs - 1) = w.start in
    let whole : multiframes fs ≡ (length fs - begin fs) / 16 = w.whole in
    let whole' : multiframes (fs ++ f ∷ []) ≡ (length fs + 1 - begin fs) / 16 = w.whole_next in
    let blocks : judged fs ≡ (length fs - begin fs) / 8 - 1 = w.blocks in
    let blocks' : judged (fs ++ f ∷ []) ≡ (length fs + 1 - begin fs) / 8 - 1 = w.blocks_next in
    let least : begin fs + 28 ≤ length fs = w.least in
    let b : begin (fs ++ f ∷ []) ≡ begin fs = w.begin_same in
    let count = window_length fs f in
    let place : last_begin fs + (length (drop (last_begin fs) (fs ++ f ∷ [])) - 16) ≡ begin (fs ++ f ∷ []) + 8 * judged fs = omega arith in
    record {
      length_is = count;
      long = sizes (length fs) (begin fs) (multiframes fs) (multiframes (fs ++ f ∷ [])) (last_begin fs) (length (drop (last_begin fs) (fs ++ f ∷ []))) start whole whole' least count ended;
      judged_next = omega arith;
      error_is = errs-drop (fs ++ f ∷ []) (last_begin fs) (length (drop (last_begin fs) (fs ++ f ∷ [])) - 16) (begin (fs ++ f ∷ []) + 8 * judged fs) place ∙ sym (is_errored_is (fs ++ f ∷ []) (judged fs));
    }
  where
    sizes : (n b m m' o r : ℕ) → o ≡ b + 16 * (m - 1) → m ≡ (n - b) / 16 → m' ≡ (n + 1 - b) / 16 → b + 28 ≤ n → r ≡ suc n - o → (n + 1 - o) % 8 ≡ 0 → (r ≡ 24) × (m' ≡ m) ⊎ (r ≡ 32) × (m' ≡ suc m)
    sizes n b m m' o r p q q' least c e = elim (cases_eq ((n + 1 - b) % 16) 0) [
      | inl none ↦ inr (omega arith, omega arith)
      | inr other ↦ inl (omega arith, omega arith)
    ]

-- its share where a sub-multiframe ends with it
pub share_block : (fs : List (List Bool)) (f : List Bool) (over : Bool) → is_reached fs ≡ true → is_false fs ≡ false → is_false (fs ++ f ∷ []) ≡ over → (length fs + 1 - last_begin fs) % 8 ≡ 0
    → share_of false (fs ++ f ∷ []) ≡ add (share_of false fs) (block_gain (drop (last_begin fs) (fs ++ f ∷ [])) over)
share_block fs f over h fine now ended =
    let fs' : List (List Bool) = fs ++ f ∷ [] in
    let w : List (List Bool) = drop (last_begin fs) fs' in
    let bad : Bool = errs w (length w - 16) in
    let facts = window fs f h in
    let block = block_of fs f h ended in
    let start : last_begin fs ≡ begin fs + 16 * (multiframes fs - 1) = facts.start in
    let whole : multiframes fs ≡ (length fs - begin fs) / 16 = facts.whole in
    let blocks : judged fs ≡ (length fs - begin fs) / 8 - 1 = facts.blocks in
    let least : begin fs + 28 ≤ length fs = facts.least in
    let inside : 16 * multiframes fs ≤ length (drop (begin fs) fs) = omega (arith, length-drop (begin fs) fs) in
    let before : frames_from fs' (begin fs) (16 * multiframes fs) ≡ delivered fs =
    ap (take (16 * multiframes fs)) (drop-append-le (begin fs) fs (f ∷ []) (omega arith)) ∙ take-append-le (16 * multiframes fs) (drop (begin fs) fs) (f ∷ []) inside in
    let j : judged fs' ≡ judged fs + 1 = omega (arith, block.judged_next) in
    let errors : errored_in fs' 0 (judged fs') ≡ errored_in fs 0 (judged fs) + bit_value bad =
    ap (errored_in fs' 0) block.judged_next ∙ errored_in_push fs' 0 (judged fs)
    ∙ ap (λ n. n + bit_value (is_errored fs' (0 + judged fs))) (errored_in-append fs (f ∷ []) 0 (judged fs) h (omega arith))
    ∙ ap (λ b. errored_in fs 0 (judged fs) + bit_value b) (ap (is_errored fs') (omega arith) ∙ sym block.error_is) in
    let verdicts : each fs' (judged fs') ≡ each fs (judged fs) ++ bad ∷ [] =
    ap (each fs') block.judged_next ∙ each_push fs' (judged fs) ∙ ap (λ (x : List Bool). x ++ is_errored fs' (0 + judged fs) ∷ []) (each-append fs (f ∷ []) (judged fs) h (omega arith))
    ∙ ap (λ b. each fs (judged fs) ++ b ∷ []) (ap (is_errored fs') (omega arith) ∙ sym block.error_is) in
    elim block.long [
      | inl part ↦
          let small : (length w == 32) ≡ false = ne_eqb _ _ (λ e. absurd (omega (arith, part.0))) in
          let m : multiframes fs' ≡ multiframes fs + bit_value (length w == 32) = omega (arith, part.1, ap bit_value small) in
          let d : delivered fs' ≡ delivered fs ++ cond (length w == 32) (frames_from w 16 16) [] =
          ap (λ n. frames_from fs' n (16 * multiframes fs')) facts.begin_same ∙ ap (λ n. frames_from fs' (begin fs) (16 * n)) part.1 ∙ before
          ∙ sym (ap (λ b. delivered fs ++ cond b (frames_from w 16 16) []) small ∙ append-nil (delivered fs)) in
          grown fs fs' w over d m j errors verdicts (facts.reached ∙ sym h) fine now
      | inr full ↦
          let large : (length w == 32) ≡ true = eq-eqb _ _ full.0 in
          let m : multiframes fs' ≡ multiframes fs + bit_value (length w == 32) = omega (arith, full.1, ap bit_value large) in
          let more : 16 * multiframes fs' ≡ 16 * multiframes fs + 16 = omega (arith, full.1) in
          let place : last_begin fs + 16 ≡ begin fs + 16 * multiframes fs = omega arith in
          let tail : take 16 (drop (16 * multiframes fs) (drop (begin fs) fs')) ≡ take 16 (drop 16 w) =
          ap (take 16) (drop-drop (16 * multiframes fs) (begin fs) fs' ∙ ap (λ n. drop n fs') (sym place) ∙ sym (drop-drop 16 (last_begin fs) fs')) in
          let d : delivered fs' ≡ delivered fs ++ cond (length w == 32) (frames_from w 16 16) [] =
          ap (λ n. frames_from fs' n (16 * multiframes fs')) facts.begin_same ∙ ap (frames_from fs' (begin fs)) more
          ∙ take-add (16 * multiframes fs) 16 (drop (begin fs) fs')
          ∙ ap (λ (x : List (List Bool)). x ++ take 16 (drop (16 * multiframes fs) (drop (begin fs) fs'))) before
          ∙ ap (λ (x : List (List Bool)). delivered fs ++ x) tail
          ∙ sym (ap (λ b. delivered fs ++ cond b (frames_from w 16 16) []) large) in
          grown fs fs' w over d m j errors verdicts (facts.reached ∙ sym h) fine now
    ]
  where
    after_none : (n : ℕ) → n ≡ 0 + n
    after_none n = omega arith

    chosen : (b : Bool) (x : List (List Bool)) → flat_map (drop 8) (cond b x []) ≡ cond b (flat_map (drop 8) x) []
    chosen true x = refl
    chosen false x = refl

    grown : (fs fs' w : List (List Bool)) (over : Bool) → delivered fs' ≡ delivered fs ++ cond (length w == 32) (frames_from w 16 16) [] → multiframes fs' ≡ multiframes fs + bit_value (length w == 32)
        → judged fs' ≡ judged fs + 1 → errored_in fs' 0 (judged fs') ≡ errored_in fs 0 (judged fs) + bit_value (errs w (length w - 16)) → each fs' (judged fs') ≡ each fs (judged fs) ++ errs w (length w - 16) ∷ []
        → is_reached fs' ≡ is_reached fs → is_false fs ≡ false → is_false fs' ≡ over → share_of false fs' ≡ add (share_of false fs) (block_gain w over)
    grown fs fs' w over d m j e v r fine now =
        let p : payload fs' ≡ payload fs ++ cond (length w == 32) (payload_from w 16 16) [] =
        payload_is fs' ∙ ap (flat_map (drop 8)) d ∙ flat_map-append (drop 8) (delivered fs) (cond (length w == 32) (frames_from w 16 16) [])
        ∙ ap (λ (x : List Bool). x ++ flat_map (drop 8) (cond (length w == 32) (frames_from w 16 16) [])) (sym (payload_is fs)) ∙ ap (λ (x : List Bool). payload fs ++ x) (chosen (length w == 32) (frames_from w 16 16)) in
        let none : bit_value (is_false fs) ≡ 0 = ap bit_value fine in
        let shown : signs_of false fs' ≡ add_signs (signs_of false fs) (block_gain w over).signs =
        signs_is false fs'
        ∙ signs_same (bit_value (is_reached fs')) (bit_value (is_reached fs) + 0) 0 (0 + 0) (bit_value (is_false fs')) (bit_value (is_false fs) + bit_value over) (each fs' (judged fs')) (each fs (judged fs) ++ errs w (length w - 16) ∷ [])
        (delivered fs') (delivered fs ++ cond (length w == 32) (frames_from w 16 16) [])
        (ap bit_value r ∙ omega arith) refl (ap bit_value now ∙ after_none (bit_value over) ∙ ap (λ n. n + bit_value over) (sym none)) v d
        ∙ sym (ap (λ (x : Signs). add_signs x (block_gain w over).signs) (signs_is false fs)) in
        share_is false fs'
        ∙ share_same (payload fs') (payload fs ++ cond (length w == 32) (payload_from w 16 16) []) (multiframes fs') (multiframes fs + bit_value (length w == 32)) (judged fs') (judged fs + 1)
        (errored_in fs' 0 (judged fs')) (errored_in fs 0 (judged fs) + bit_value (errs w (length w - 16))) (signs_of false fs') (add_signs (signs_of false fs) (block_gain w over).signs) p m j e shown
        ∙ sym (ap (λ (x : Share). add x (block_gain w over)) (share_is false fs))

-- ---- groups

-- the group that a block ends, or goes on with
pub record GroupNext (fs : List (List Bool)) (f : List Bool) (group wrong : ℕ) : Type 0 where
  pub false_is : is_false (fs ++ f ∷ []) ≡ ((group == 1000) && nat_le 915 wrong)
  pub goes_on : group ≢ 1000 → InGroup group wrong (fs ++ f ∷ [])
  pub begins : group ≡ 1000 → InGroup 0 0 (fs ++ f ∷ [])

pub group_next : (fs : List (List Bool)) (f : List Bool) (group wrong : ℕ) → is_reached fs ≡ true → (length fs + 1 - last_begin fs) % 8 ≡ 0 → InGroup group wrong fs
    → GroupNext fs f (group + 1) (wrong + bit_value (errs (drop (last_begin fs) (fs ++ f ∷ [])) (length (drop (last_begin fs) (fs ++ f ∷ [])) - 16)))
group_next fs f group wrong h ended in_group =
    let fs' : List (List Bool) = fs ++ f ∷ [] in
    let w : List (List Bool) = drop (last_begin fs) fs' in
    let one : ℕ = bit_value (errs w (length w - 16)) in
    let facts = window fs f h in
    let block = block_of fs f h ended in
    let start : last_begin fs ≡ begin fs + 16 * (multiframes fs - 1) = facts.start in
    let blocks : judged fs ≡ (length fs - begin fs) / 8 - 1 = facts.blocks in
    let least : begin fs + 28 ≤ length fs = facts.least in
    let group_is : group ≡ judged fs % 1000 = in_group.group_is in
    let next : judged fs' ≡ suc (judged fs) = block.judged_next in
    let eight : framed fs' % 8 ≡ 0 = ap (λ n. n % 8) (ap (λ n. length fs' - n) facts.begin_same) ∙ omega (arith, facts.long) in
    let from : ℕ = judged fs - group in
    let last : from + group ≡ judged fs = omega arith in
    let count : errored_in fs' from (suc group) ≡ wrong + one =
    errored_in_push fs' from group
    ∙ ap (λ n. n + bit_value (is_errored fs' (from + group))) (errored_in-append fs (f ∷ []) from group h (omega arith) ∙ sym in_group.wrong_is)
    ∙ ap (λ b. wrong + bit_value b) (ap (is_errored fs') last ∙ sym block.error_is) in
    let tests : is_false fs' ≡ ((judged fs' % 1000 == 0) && nat_le 915 (errored_in fs' (judged fs' - 1000) 1000)) =
    is_false_is fs' ∙ ap (λ b. b && nat_lt 0 (judged fs') && (judged fs' % 1000 == 0) && nat_le 915 (errored_in fs' (judged fs' - 1000) 1000)) (eq-eqb _ _ eight)
    ∙ ap (λ b. b && (judged fs' % 1000 == 0) && nat_le 915 (errored_in fs' (judged fs' - 1000) 1000)) (lt-ltb _ _ (omega arith)) in
    record {
      false_is = elim (cases_eq (group + 1) 1000) [
        | inl full ↦
            let begins : judged fs' % 1000 ≡ 0 = omega arith in
            let place : judged fs' - 1000 ≡ from = omega arith in
            let size : 1000 ≡ suc group = omega arith in
            let is : errored_in fs' (judged fs' - 1000) 1000 ≡ wrong + one = ap (λ n. errored_in fs' n 1000) place ∙ ap (errored_in fs' from) size ∙ count in
            tests ∙ ap (λ b. b && nat_le 915 (errored_in fs' (judged fs' - 1000) 1000)) (eq-eqb _ _ begins) ∙ ap (nat_le 915) is
            ∙ sym (ap (λ b. b && nat_le 915 (wrong + one)) (eq-eqb _ _ full))
        | inr part ↦
            let goes : judged fs' % 1000 ≢ 0 = λ e. part (omega arith) in
            tests ∙ and_left _ _ (ne_eqb _ _ goes) ∙ sym (and_left _ _ (ne_eqb _ _ part))
      ];
      goes_on = λ part.
          let place : from ≡ judged fs' - (group + 1) = omega arith in
          let size : suc group ≡ group + 1 = omega arith in
          record {
            group_is = omega arith;
            wrong_is = sym count ∙ ap (λ n. errored_in fs' n (suc group)) place ∙ ap (errored_in fs' (judged fs' - (group + 1))) size;
          };
      begins = λ full. record { group_is = omega arith; wrong_is = refl };
    }

-- ---- the loss in a window of the frames

pub loses_is : (fs : List (List Bool)) → loses fs ≡ (nat_le 5 (length fs) && (length fs % 2 == 1) && not (has_signal (frame fs (length fs - 5))) && not (has_signal (frame fs (length fs - 3))) && not (has_signal (frame fs (length fs - 1))))
unfolding loses
loses_is fs = refl

pub loses-drop : (fs : List (List Bool)) (o : ℕ) → o % 2 ≡ 0 → o + 5 ≤ length fs → loses (drop o fs) ≡ loses fs
loses-drop fs o even room =
    let n : ℕ = length fs in
    let r : length (drop o fs) ≡ n - o = length-drop o fs in
    let a : frame (drop o fs) (length (drop o fs) - 5) ≡ frame fs (n - 5) = get_or-drop o fs (length (drop o fs) - 5) [] ∙ ap (frame fs) (omega arith) in
    let b : frame (drop o fs) (length (drop o fs) - 3) ≡ frame fs (n - 3) = get_or-drop o fs (length (drop o fs) - 3) [] ∙ ap (frame fs) (omega arith) in
    let c : frame (drop o fs) (length (drop o fs) - 1) ≡ frame fs (n - 1) = get_or-drop o fs (length (drop o fs) - 1) [] ∙ ap (frame fs) (omega arith) in
    let long : nat_le 5 (length (drop o fs)) ≡ nat_le 5 n = leb_yes _ _ (omega arith) ∙ sym (leb_yes _ _ (omega arith)) in
    let parity : length (drop o fs) % 2 ≡ n % 2 = omega arith in
    loses_is (drop o fs)
    ∙ same (nat_le 5 (length (drop o fs))) (nat_le 5 n) (length (drop o fs) % 2) (n % 2) (frame (drop o fs) (length (drop o fs) - 5)) (frame fs (n - 5)) (frame (drop o fs) (length (drop o fs) - 3)) (frame fs (n - 3))
    (frame (drop o fs) (length (drop o fs) - 1)) (frame fs (n - 1)) long parity a b c
    ∙ sym (loses_is fs)
  where
    leb_yes : (a b : ℕ) → a ≤ b → leb a b ≡ true
    leb_yes a b h = grind (arith, nat_tests)

    same : (x x' : Bool) (y y' : ℕ) (p p' q q' r r' : List Bool) → x ≡ x' → y ≡ y' → p ≡ p' → q ≡ q' → r ≡ r'
        → (x && (y == 1) && not (has_signal p) && not (has_signal q) && not (has_signal r)) ≡ (x' && (y' == 1) && not (has_signal p') && not (has_signal q') && not (has_signal r'))
    same x x' y y' p p' q q' r r' d e f g h = cc
