-- Laws of an alignment: what more frames leave of it, and how one more frame makes it grow.
use Rattle.std.proofs.Common.{◌≡◌, ℕ, zero, suc, ◌+◌, ◌-◌, ◌*◌, ◌%◌, ◌<◌, ◌≤◌, Bool, true, false, ◌&&◌, ◌||◌, not, cond, leb, List, [], ◌∷◌, ◌++◌, length, take, drop, refl, sym, ap, ◌∙◌, arith, length-append}
use Rattle.std.proofs.lemmas.List.{get_or_append_left, take-append-le, take_all, take_at, take-append-drop, length_push, length-take-le}
use Rattle.std.proofs.lemmas.Bool.{ltb-true, ltb-false, lt-ltb, le-ltb, leb-true, eqb-true, and_parts, or_parts, or_left}
use Rattle.std.proofs.lemmas.Bool.Decides.{nat_tests}
use Rattle.std.specs.Prelude.{nat_lt, nat_le, ◌==◌}
use Rattle.std.specs.Bool.{beq}
use Rattle.std.specs.List.{range_with_len, list_all}
use Rattle.pdh_line.specs.Least.{least_below}
use Rattle.pdh_line.proofs.LeastLaws.{least_below_same, least_below_passes, least_below-le}
use Rattle.pdh_g706.specs.Frames.{bit_of}
use Rattle.pdh_g706.specs.Alignment.{frame, loses, multiframe_signal, has_multi, earlier, reaches, reach, is_reached, begin, is_false, ends, end_of, is_ended, up_to_end, kept, resumes}
use Rattle.pdh_g706.proofs.FirstLaws.{first-append, first_yes, first_no, first_passes, first_fails}

-- ---- what a frame more leaves

-- tests that agree on a range
list_all_same : (p q : ℕ → Bool) (a n : ℕ) → ((i : ℕ) → a ≤ i → i < a + n → p i ≡ q i) → list_all p (range_with_len a n) ≡ list_all q (range_with_len a n)
list_all_same p q a zero same = refl
list_all_same p q a (suc n) same =
    let here : p a ≡ q a = same a (omega arith) (omega arith) in
    let rest : list_all p (range_with_len (a + 1) n) ≡ list_all q (range_with_len (a + 1) n) = list_all_same p q (a + 1) n (λ i h h'. same i (omega arith) (omega arith)) in
    ap (λ b. b && list_all p (range_with_len (a + 1) n)) here ∙ ap (λ b. q a && b) rest

frame-append : (fs gs : List (List Bool)) (k : ℕ) → k < length fs → frame (fs ++ gs) k ≡ frame fs k
frame-append fs gs k lt = get_or_append_left fs gs [] k lt

pub has_multi-append : (fs gs : List (List Bool)) (k : ℕ) → k + 11 < length fs → has_multi (fs ++ gs) k ≡ has_multi fs k
unfolding has_multi
has_multi-append fs gs k lt =
    list_all_same (λ i. beq (bit_of (frame (fs ++ gs) (k + 2 * i + 1)) 0) (bit_of multiframe_signal i)) (λ i. beq (bit_of (frame fs (k + 2 * i + 1)) 0) (bit_of multiframe_signal i)) 0 6
    (λ i _from less. ap (λ (x : List Bool). beq (bit_of x 0) (bit_of multiframe_signal i)) (frame-append fs gs (k + 2 * i + 1) (omega arith)))

pub earlier_is : (fs : List (List Bool)) (k : ℕ) → earlier fs k ≡ least_below k (λ j. ((k - j) % 16 == 0) && has_multi fs j)
unfolding earlier
earlier_is fs k = refl

pub earlier-append : (fs gs : List (List Bool)) (k : ℕ) → k + 11 ≤ length fs → earlier (fs ++ gs) k ≡ earlier fs k
earlier-append fs gs k le =
    earlier_is (fs ++ gs) k
    ∙ least_below_same k (λ j. ((k - j) % 16 == 0) && has_multi (fs ++ gs) j) (λ j. ((k - j) % 16 == 0) && has_multi fs j)
    (λ j lt. ap (λ b. ((k - j) % 16 == 0) && b) (has_multi-append fs gs j (omega arith)))
    ∙ sym (earlier_is fs k)

-- ---- multiframe alignment

pub reach_is : (fs : List (List Bool)) → reach fs ≡ least_below (length fs) (λ k. reaches (take (suc k) fs))
unfolding reach
reach_is fs = refl

pub begin_is : (fs : List (List Bool)) → begin fs ≡ earlier fs (reach fs - 11)
unfolding begin
begin_is fs = refl

-- the places of multiframe alignment
pub record Places (fs : List (List Bool)) : Type 0 where
  pub within : reach fs < length fs
  pub soon : reach fs < 64
  pub apart : begin fs + 27 ≤ reach fs
  pub even : begin fs % 2 ≡ 0
  pub multiple : (reach fs - 11 - begin fs) % 16 ≡ 0

-- what it says of frames that with the last one a second signal ends
pub record Second (fs : List (List Bool)) : Type 0 where
  pub least : 12 ≤ length fs
  pub most : length fs ≤ 64
  pub parity : (length fs - 12) % 2 ≡ 0
  pub before : earlier fs (length fs - 12) < length fs - 12
  pub multiple : (length fs - 12 - earlier fs (length fs - 12)) % 16 ≡ 0

pub second_of : (fs : List (List Bool)) → reaches fs ≡ true → Second fs
unfolding reaches
second_of fs h =
    let k : ℕ = length fs - 12 in
    let p4 = and_parts (nat_le 12 (length fs) && nat_le (length fs) 64 && (k % 2 == 0) && has_multi fs k) (nat_lt (earlier fs k) k) h in
    let p3 = and_parts (nat_le 12 (length fs) && nat_le (length fs) 64 && (k % 2 == 0)) (has_multi fs k) p4.0 in
    let p2 = and_parts (nat_le 12 (length fs) && nat_le (length fs) 64) (k % 2 == 0) p3.0 in
    let p1 = and_parts (nat_le 12 (length fs)) (nat_le (length fs) 64) p2.0 in
    let lt : earlier fs k < k = ltb-true _ _ p4.1 in
    let lt' : least_below k (λ j. ((k - j) % 16 == 0) && has_multi fs j) < k = omega (arith, earlier_is fs k) in
    let passes = and_parts _ _ (least_below_passes k (λ j. ((k - j) % 16 == 0) && has_multi fs j) lt') in
    let multiple : (k - least_below k (λ j. ((k - j) % 16 == 0) && has_multi fs j)) % 16 ≡ 0 = eqb-true _ _ passes.0 in
    record {
      least = leb-true _ _ p1.0;
      most = leb-true _ _ p1.1;
      parity = eqb-true _ _ p2.1;
      before = lt;
      multiple = ap (λ j. (k - j) % 16) (earlier_is fs k) ∙ multiple;
    }

-- the frames up to the one with which multiframe alignment is reached
pub places_of : (fs : List (List Bool)) → is_reached fs ≡ true → Places fs
places_of fs h =
    let r : ℕ = reach fs in
    let lt : r < length fs = ltb-true _ _ h in
    let lt' : least_below (length fs) (λ k. reaches (take (suc k) fs)) < length fs = omega (arith, reach_is fs) in
    let up : List (List Bool) = take (suc r) fs in
    let long : length up ≡ suc r = length-take-le (suc r) fs (omega arith) in
    let passes : reaches up ≡ true = ap (λ k. reaches (take (suc k) fs)) (reach_is fs) ∙ first_passes reaches fs lt' in
    let second = second_of up passes in
    let k_is : length up - 12 ≡ r - 11 = omega arith in
    let same : earlier fs (r - 11) ≡ earlier up (length up - 12) =
    ap (λ (x : List (List Bool)). earlier x (r - 11)) (sym (take-append-drop (suc r) fs)) ∙ earlier-append up (drop (suc r) fs) (r - 11) (omega (arith, second.least))
    ∙ ap (earlier up) (sym k_is) in
    let b_is : begin fs ≡ earlier up (length up - 12) = begin_is fs ∙ same in
    let before : earlier up (length up - 12) < length up - 12 = second.before in
    let least : 12 ≤ length up = second.least in
    let most : length up ≤ 64 = second.most in
    let parity : (length up - 12) % 2 ≡ 0 = second.parity in
    let multiple : (length up - 12 - earlier up (length up - 12)) % 16 ≡ 0 = second.multiple in
    record {
      within = lt;
      soon = omega arith;
      apart = omega arith;
      even = omega arith;
      multiple = ap (λ b. (r - 11 - b) % 16) b_is ∙ ap (λ k. (k - earlier up (length up - 12)) % 16) (sym k_is) ∙ multiple;
    }

pub reach-append : (fs gs : List (List Bool)) → is_reached fs ≡ true → reach (fs ++ gs) ≡ reach fs
reach-append fs gs h =
    let lt : reach fs < length fs = ltb-true _ _ h in
    let lt' : least_below (length fs) (λ k. reaches (take (suc k) fs)) < length fs = omega (arith, reach_is fs) in
    reach_is (fs ++ gs) ∙ first-append reaches fs gs lt' ∙ sym (reach_is fs)

pub is_reached-append : (fs gs : List (List Bool)) → is_reached fs ≡ true → is_reached (fs ++ gs) ≡ true
is_reached-append fs gs h =
    let lt : reach fs < length fs = ltb-true _ _ h in
    lt-ltb _ _ (omega (arith, reach-append fs gs h, length-append fs gs))

pub begin-append : (fs gs : List (List Bool)) → is_reached fs ≡ true → begin (fs ++ gs) ≡ begin fs
begin-append fs gs h =
    let p = places_of fs h in
    begin_is (fs ++ gs) ∙ ap (λ r. earlier (fs ++ gs) (r - 11)) (reach-append fs gs h) ∙ earlier-append fs gs (reach fs - 11) (omega (arith, p.within, p.apart)) ∙ sym (begin_is fs)

unreached : (fs : List (List Bool)) → is_reached fs ≡ false → least_below (length fs) (λ k. reaches (take (suc k) fs)) ≡ length fs
unreached fs h = omega (arith, reach_is fs, ltb-false _ _ h, least_below-le (length fs) (λ k. reaches (take (suc k) fs)))

-- one more frame, with which it is reached
pub reach_yes : (fs : List (List Bool)) (f : List Bool) → is_reached fs ≡ false → reaches (fs ++ f ∷ []) ≡ true → (is_reached (fs ++ f ∷ []) ≡ true) × (begin (fs ++ f ∷ []) ≡ earlier (fs ++ f ∷ []) (length (fs ++ f ∷ []) - 12))
reach_yes fs f h passes =
    let r : reach (fs ++ f ∷ []) ≡ length fs = reach_is (fs ++ f ∷ []) ∙ first_yes reaches fs f (unreached fs h) passes in
    let more : length (fs ++ f ∷ []) ≡ length fs + 1 = length_push fs f in
    (lt-ltb _ _ (omega arith), begin_is (fs ++ f ∷ []) ∙ ap (earlier (fs ++ f ∷ [])) (omega arith))

-- or not
pub reach_no : (fs : List (List Bool)) (f : List Bool) → is_reached fs ≡ false → reaches (fs ++ f ∷ []) ≡ false → is_reached (fs ++ f ∷ []) ≡ false
reach_no fs f h fails =
    let r : reach (fs ++ f ∷ []) ≡ suc (length fs) = reach_is (fs ++ f ∷ []) ∙ first_no reaches fs f (unreached fs h) fails in
    le-ltb _ _ (omega (arith, length_push fs f))

-- ---- the end

pub end_of_is : (fs : List (List Bool)) → end_of fs ≡ least_below (length fs) (λ k. ends (take (suc k) fs))
unfolding end_of
end_of_is fs = refl

pub end-append : (fs gs : List (List Bool)) → is_ended fs ≡ true → end_of (fs ++ gs) ≡ end_of fs
end-append fs gs h =
    let lt : end_of fs < length fs = ltb-true _ _ h in
    let lt' : least_below (length fs) (λ k. ends (take (suc k) fs)) < length fs = omega (arith, end_of_is fs) in
    end_of_is (fs ++ gs) ∙ first-append ends fs gs lt' ∙ sym (end_of_is fs)

pub is_ended-append : (fs gs : List (List Bool)) → is_ended fs ≡ true → is_ended (fs ++ gs) ≡ true
is_ended-append fs gs h =
    let lt : end_of fs < length fs = ltb-true _ _ h in
    lt-ltb _ _ (omega (arith, end-append fs gs h, length-append fs gs))

pub up_to_end-append : (fs gs : List (List Bool)) → is_ended fs ≡ true → up_to_end (fs ++ gs) ≡ up_to_end fs
up_to_end-append fs gs h =
    let lt : end_of fs < length fs = ltb-true _ _ h in
    ap (λ n. take (suc n) (fs ++ gs)) (end-append fs gs h) ∙ take-append-le (suc (end_of fs)) fs gs (omega arith)

pub kept_is : (fs : List (List Bool)) → kept fs ≡ cond (loses (up_to_end fs)) (take (end_of fs) fs) (up_to_end fs)
unfolding kept
kept_is fs = refl

pub resumes_is : (fs : List (List Bool)) → resumes fs ≡ cond (loses (up_to_end fs)) (256 * end_of fs) (256 * end_of fs + 1)
unfolding resumes
resumes_is fs = refl

pub kept-append : (fs gs : List (List Bool)) → is_ended fs ≡ true → kept (fs ++ gs) ≡ kept fs
kept-append fs gs h =
    let lt : end_of fs < length fs = ltb-true _ _ h in
    let up : up_to_end (fs ++ gs) ≡ up_to_end fs = up_to_end-append fs gs h in
    let part : take (end_of (fs ++ gs)) (fs ++ gs) ≡ take (end_of fs) fs = ap (λ n. take n (fs ++ gs)) (end-append fs gs h) ∙ take-append-le (end_of fs) fs gs (omega arith) in
    kept_is (fs ++ gs) ∙ ap (λ (x : List (List Bool)). cond (loses x) (take (end_of (fs ++ gs)) (fs ++ gs)) x) up
    ∙ ap (λ (x : List (List Bool)). cond (loses (up_to_end fs)) x (up_to_end fs)) part ∙ sym (kept_is fs)

pub resumes-append : (fs gs : List (List Bool)) → is_ended fs ≡ true → resumes (fs ++ gs) ≡ resumes fs
resumes-append fs gs h =
    resumes_is (fs ++ gs) ∙ ap (λ (x : List (List Bool)). cond (loses x) (256 * end_of (fs ++ gs)) (256 * end_of (fs ++ gs) + 1)) (up_to_end-append fs gs h)
    ∙ ap (λ n. cond (loses (up_to_end fs)) (256 * n) (256 * n + 1)) (end-append fs gs h) ∙ sym (resumes_is fs)

open_end : (fs : List (List Bool)) → is_ended fs ≡ false → least_below (length fs) (λ k. ends (take (suc k) fs)) ≡ length fs
open_end fs h = omega (arith, end_of_is fs, ltb-false _ _ h, least_below-le (length fs) (λ k. ends (take (suc k) fs)))

pub ends_is : (fs : List (List Bool)) → ends fs ≡ (loses fs || ((length fs == 64) && not (is_reached fs)) || is_false fs)
unfolding ends
ends_is fs = refl

pub loses_short : (fs : List (List Bool)) → length fs < 5 → loses fs ≡ false
unfolding loses
loses_short fs h = let short : nat_le 5 (length fs) ≡ false = leb_lt _ _ h in rw short refl
  where
    leb_lt : (a b : ℕ) → b < a → leb a b ≡ false
    leb_lt a b h = grind (arith, nat_tests)

-- the frames of an alignment that goes on all count
pub kept_open : (fs : List (List Bool)) → is_ended fs ≡ false → kept fs ≡ fs
kept_open [] h = kept_is [] ∙ ap (λ b. cond b (take (end_of []) []) (up_to_end [])) (loses_short (up_to_end []) (omega arith))
kept_open (f ∷ fs) h =
    let all : end_of (f ∷ fs) ≡ length (f ∷ fs) = end_of_is (f ∷ fs) ∙ open_end (f ∷ fs) h in
    let up : up_to_end (f ∷ fs) ≡ f ∷ fs = take_all (suc (end_of (f ∷ fs))) (f ∷ fs) (omega arith) in
    let fails : ends (f ∷ fs) ≡ false = first_fails ends (f ∷ fs) (open_end (f ∷ fs) h) (omega arith) in
    let kept_on : loses (f ∷ fs) ≡ false = (or_parts _ _ (or_parts _ _ (sym (ends_is (f ∷ fs)) ∙ fails)).0).0 in
    kept_is (f ∷ fs) ∙ ap (λ b. cond b (take (end_of (f ∷ fs)) (f ∷ fs)) (up_to_end (f ∷ fs))) (ap loses up ∙ kept_on) ∙ up

-- nor does it end with a loss, or is false
pub open_loses : (fs : List (List Bool)) → is_ended fs ≡ false → loses (up_to_end fs) ≡ false
open_loses [] h = loses_short (up_to_end []) (omega arith)
open_loses (f ∷ fs) h =
    let all : end_of (f ∷ fs) ≡ length (f ∷ fs) = end_of_is (f ∷ fs) ∙ open_end (f ∷ fs) h in
    let up : up_to_end (f ∷ fs) ≡ f ∷ fs = take_all (suc (end_of (f ∷ fs))) (f ∷ fs) (omega arith) in
    let fails : ends (f ∷ fs) ≡ false = first_fails ends (f ∷ fs) (open_end (f ∷ fs) h) (omega arith) in
    ap loses up ∙ (or_parts _ _ (or_parts _ _ (sym (ends_is (f ∷ fs)) ∙ fails)).0).0

pub open_true : (fs : List (List Bool)) → is_ended fs ≡ false → 0 < length fs → is_false fs ≡ false
open_true fs h some = (or_parts _ _ (sym (ends_is fs) ∙ first_fails ends fs (open_end fs h) some)).1

-- one more frame, with which the alignment ends
pub end_yes : (fs : List (List Bool)) (f : List Bool) → is_ended fs ≡ false → ends (fs ++ f ∷ []) ≡ true
    → (is_ended (fs ++ f ∷ []) ≡ true) × (end_of (fs ++ f ∷ []) ≡ length fs) × (up_to_end (fs ++ f ∷ []) ≡ fs ++ f ∷ [])
end_yes fs f h passes =
    let e : end_of (fs ++ f ∷ []) ≡ length fs = end_of_is (fs ++ f ∷ []) ∙ first_yes ends fs f (open_end fs h) passes in
    let more : length (fs ++ f ∷ []) ≡ length fs + 1 = length_push fs f in
    (lt-ltb _ _ (omega arith), e, take_all (suc (end_of (fs ++ f ∷ []))) (fs ++ f ∷ []) (omega arith))

-- or not
pub end_no : (fs : List (List Bool)) (f : List Bool) → is_ended fs ≡ false → ends (fs ++ f ∷ []) ≡ false → is_ended (fs ++ f ∷ []) ≡ false
end_no fs f h fails =
    let e : end_of (fs ++ f ∷ []) ≡ suc (length fs) = end_of_is (fs ++ f ∷ []) ∙ first_no ends fs f (open_end fs h) fails in
    le-ltb _ _ (omega (arith, length_push fs f))

-- basic alignment is lost with the last frame, which doesn't count
pub end_lost : (fs : List (List Bool)) (f : List Bool) → is_ended fs ≡ false → loses (fs ++ f ∷ []) ≡ true
    → (is_ended (fs ++ f ∷ []) ≡ true) × (kept (fs ++ f ∷ []) ≡ fs) × (resumes (fs ++ f ∷ []) ≡ 256 * length fs)
end_lost fs f h lost =
    let passes : ends (fs ++ f ∷ []) ≡ true = ends_is (fs ++ f ∷ []) ∙ or_left _ _ (or_left _ _ lost) in
    let e = end_yes fs f h passes in
    let lost' : loses (up_to_end (fs ++ f ∷ [])) ≡ true = ap loses e.2 ∙ lost in (
      e.0,
      kept_is (fs ++ f ∷ []) ∙ ap (λ b. cond b (take (end_of (fs ++ f ∷ [])) (fs ++ f ∷ [])) (up_to_end (fs ++ f ∷ []))) lost'
          ∙ ap (λ n. take n (fs ++ f ∷ [])) e.1 ∙ take_at fs (f ∷ []) (length fs) refl,
      resumes_is (fs ++ f ∷ []) ∙ ap (λ b. cond b (256 * end_of (fs ++ f ∷ [])) (256 * end_of (fs ++ f ∷ []) + 1)) lost' ∙ ap (λ n. 256 * n) e.1,
    )

-- the alignment ends otherwise with the last frame, which counts
pub end_other : (fs : List (List Bool)) (f : List Bool) → is_ended fs ≡ false → loses (fs ++ f ∷ []) ≡ false → ends (fs ++ f ∷ []) ≡ true
    → (is_ended (fs ++ f ∷ []) ≡ true) × (kept (fs ++ f ∷ []) ≡ fs ++ f ∷ []) × (resumes (fs ++ f ∷ []) ≡ 256 * length fs + 1)
end_other fs f h fine passes =
    let e = end_yes fs f h passes in
    let fine' : loses (up_to_end (fs ++ f ∷ [])) ≡ false = ap loses e.2 ∙ fine in (
      e.0,
      kept_is (fs ++ f ∷ []) ∙ ap (λ b. cond b (take (end_of (fs ++ f ∷ [])) (fs ++ f ∷ [])) (up_to_end (fs ++ f ∷ []))) fine' ∙ e.2,
      resumes_is (fs ++ f ∷ []) ∙ ap (λ b. cond b (256 * end_of (fs ++ f ∷ [])) (256 * end_of (fs ++ f ∷ []) + 1)) fine' ∙ ap (λ n. 256 * n + 1) e.1,
    )

-- whether an alignment that ends is lost
pub end_by_loss : (fs : List (List Bool)) (f : List Bool) (lost : Bool) → is_ended fs ≡ false → ends (fs ++ f ∷ []) ≡ true → loses (fs ++ f ∷ []) ≡ lost → loses (up_to_end (fs ++ f ∷ [])) ≡ lost
end_by_loss fs f lost h passes is = ap loses (end_yes fs f h passes).2 ∙ is

pub lost_ends : (fs : List (List Bool)) → loses fs ≡ true → ends fs ≡ true
lost_ends fs lost = ends_is fs ∙ or_left _ _ (or_left _ _ lost)
