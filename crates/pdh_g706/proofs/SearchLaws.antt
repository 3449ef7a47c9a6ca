-- Laws of a search: what a longer line keeps, and what one more bit does.
use Rattle.std.proofs.Common.{◌≡◌, ℕ, suc, ◌+◌, ◌-◌, ◌<◌, ◌≤◌, Bool, true, false, ◌&&◌, List, [], ◌∷◌, ◌++◌, length, drop, refl, sym, ap, ◌∙◌, arith, length-append, length-drop}
use Rattle.std.proofs.lemmas.List.{drop-append-le, drop-drop, length_push}
use Rattle.std.proofs.lemmas.Bool.{ltb-true, ltb-false, lt-ltb, le-ltb}
use Rattle.std.proofs.lemmas.Bool.Decides.{nat_tests}
use Rattle.std.specs.Prelude.{nat_le}
use Rattle.pdh_line.specs.Least.{least_below}
use Rattle.pdh_line.proofs.LeastLaws.{least_below-le, least_below_same, least_below_more, least_below_yes, least_below_no}
use Rattle.pdh_g706.specs.Frames.{bit_of, frame_of, has_signal, is_confirmed, positions, gap_of, is_found, aligned}
use Rattle.pdh_g706.proofs.FrameLists.{frame_of-append}

pub is_confirmed-append : (l m : List Bool) → 768 ≤ length l → is_confirmed (l ++ m) ≡ is_confirmed l
unfolding is_confirmed
is_confirmed-append l m h =
    let a : frame_of (l ++ m) 0 ≡ frame_of l 0 = frame_of-append l m 0 (omega arith) in
    let b : frame_of (l ++ m) 1 ≡ frame_of l 1 = frame_of-append l m 1 (omega arith) in
    let c : frame_of (l ++ m) 2 ≡ frame_of l 2 = frame_of-append l m 2 (omega arith) in
    let long : nat_le 768 (length l) ≡ true = grind (arith, nat_tests) in
    let longer : nat_le 768 (length (l ++ m)) ≡ true = grind (arith, nat_tests, length-append l m) in
    same (nat_le 768 (length (l ++ m))) (nat_le 768 (length l)) (frame_of (l ++ m) 0) (frame_of l 0) (frame_of (l ++ m) 1) (frame_of l 1) (frame_of (l ++ m) 2) (frame_of l 2) (longer ∙ sym long) a b c
  where
    same : (x x' : Bool) (p p' q q' r r' : List Bool) → x ≡ x' → p ≡ p' → q ≡ q' → r ≡ r' → (x && has_signal p && bit_of q 1 && has_signal r) ≡ (x' && has_signal p' && bit_of q' 1 && has_signal r')
    same x x' p p' q q' r r' d e f g = cc

-- a position that was judged is judged the same in a longer line
pub is_confirmed-drop-append : (l m : List Bool) (p : ℕ) → p < positions l → is_confirmed (drop p (l ++ m)) ≡ is_confirmed (drop p l)
is_confirmed-drop-append l m p h =
    let within : p ≤ length l = omega arith in
    let whole : 768 ≤ length (drop p l) = simp length-drop (omega arith) in
    rw (drop-append-le p l m within) (is_confirmed-append (drop p l) m whole)

pub gap_of_is : (l : List Bool) → gap_of l ≡ least_below (positions l) (λ p. is_confirmed (drop p l))
unfolding gap_of
gap_of_is l = refl

-- the positions that were judged before stay so
search_same : (l m : List Bool) → least_below (positions l) (λ p. is_confirmed (drop p (l ++ m))) ≡ gap_of l
search_same l m = least_below_same (positions l) (λ p. is_confirmed (drop p (l ++ m))) (λ p. is_confirmed (drop p l)) (λ p h. is_confirmed-drop-append l m p h) ∙ sym (gap_of_is l)

-- a gap that has ended stays in a longer line
pub gap_of-append : (l m : List Bool) → is_found l ≡ true → gap_of (l ++ m) ≡ gap_of l
gap_of-append l m found =
    let lt : gap_of l < positions l = ltb-true _ _ found in
    let longer : positions (l ++ m) ≡ positions l + length m = omega (arith, length-append l m) in
    let same : least_below (positions l) (λ p. is_confirmed (drop p (l ++ m))) ≡ gap_of l = search_same l m in
    let lt' : least_below (positions l) (λ p. is_confirmed (drop p (l ++ m))) < positions l = omega arith in
    gap_of_is (l ++ m) ∙ ap (λ n. least_below n (λ p. is_confirmed (drop p (l ++ m)))) longer
    ∙ least_below_more (positions l) (length m) (λ p. is_confirmed (drop p (l ++ m))) lt' ∙ same

pub is_found-append : (l m : List Bool) → is_found l ≡ true → is_found (l ++ m) ≡ true
is_found-append l m found =
    let lt : gap_of l < positions l = ltb-true _ _ found in
    let e : gap_of (l ++ m) ≡ gap_of l = gap_of-append l m found in
    lt-ltb _ _ (omega (arith, length-append l m))

pub aligned-append : (l m : List Bool) → is_found l ≡ true → aligned (l ++ m) ≡ aligned l ++ m
aligned-append l m found =
    let lt : gap_of l < positions l = ltb-true _ _ found in
    let within : gap_of l ≤ length l = omega arith in
    ap (λ p. drop p (l ++ m)) (gap_of-append l m found) ∙ drop-append-le (gap_of l) l m within

-- three whole frames stand at the position that was found
pub aligned_long : (l : List Bool) → is_found l ≡ true → 768 ≤ length (aligned l)
aligned_long l found =
    let lt : gap_of l < positions l = ltb-true _ _ found in
    simp length-drop (omega arith)

-- what is found is no longer than the line
pub aligned_le : (l : List Bool) → length (aligned l) ≤ length l
aligned_le l = omega (arith, length-drop (gap_of l) l)

-- ---- one more bit

-- where nothing is confirmed, every position was passed over
pub gap_all : (l : List Bool) → is_found l ≡ false → gap_of l ≡ positions l
gap_all l found =
    let le : gap_of l ≤ positions l = rw (gap_of_is l) (least_below-le (positions l) (λ p. is_confirmed (drop p l))) in
    let ge : positions l ≤ gap_of l = ltb-false _ _ found in
    omega arith

-- a line of less than three frames has no position
pub short_search : (l : List Bool) → length l < 768 → is_found l ≡ false
short_search l short = le-ltb _ _ (omega arith)

-- the bits from the oldest position on that isn't rejected yet
pub held_length : (l : List Bool) → length (drop (positions l) l) ≡ length l - positions l
held_length l = length-drop (positions l) l

-- a bit in a search that has too few bits for a position
pub search_short : (l : List Bool) (bit : Bool) → length (drop (positions l) l ++ bit ∷ []) < 768
    → (is_found (l ++ bit ∷ []) ≡ false) × (drop (positions l) l ++ bit ∷ [] ≡ drop (positions (l ++ bit ∷ [])) (l ++ bit ∷ []))
search_short l bit short =
    let longer : length (l ++ bit ∷ []) ≡ length l + 1 = length_push l bit in
    let held : length (drop (positions l) l ++ bit ∷ []) ≡ (length l - positions l) + 1 = length_push (drop (positions l) l) bit ∙ ap (λ n. n + 1) (held_length l) in
    let before : positions l ≡ 0 = omega arith in
    let after : positions (l ++ bit ∷ []) ≡ 0 = omega arith in
    (short_search (l ++ bit ∷ []) (omega arith), ap (λ n. drop n l ++ bit ∷ []) before ∙ sym (ap (λ n. drop n (l ++ bit ∷ [])) after))

-- a bit in a search that makes one more position whole
pub search_long : (l : List Bool) (bit : Bool) → 768 ≤ length (drop (positions l) l ++ bit ∷ [])
    → (positions (l ++ bit ∷ []) ≡ suc (positions l)) × (drop (positions l) (l ++ bit ∷ []) ≡ drop (positions l) l ++ bit ∷ [])
    × (length (drop (positions l) l ++ bit ∷ []) ≡ 768)
search_long l bit long =
    let longer : length (l ++ bit ∷ []) ≡ length l + 1 = length_push l bit in
    let held : length (drop (positions l) l ++ bit ∷ []) ≡ (length l - positions l) + 1 = length_push (drop (positions l) l) bit ∙ ap (λ n. n + 1) (held_length l) in
    let within : positions l ≤ length l = omega arith in
    (omega arith, drop-append-le (positions l) l (bit ∷ []) within, omega arith)

-- the position that became whole is confirmed
pub search_confirmed : (l : List Bool) (bit : Bool) → is_found l ≡ false
    → 768 ≤ length (drop (positions l) l ++ bit ∷ []) → is_confirmed (drop (positions l) l ++ bit ∷ []) ≡ true
    → (is_found (l ++ bit ∷ []) ≡ true) × (aligned (l ++ bit ∷ []) ≡ drop (positions l) l ++ bit ∷ [])
search_confirmed l bit found long confirmed =
    let facts = search_long l bit long in
    let more : positions (l ++ bit ∷ []) ≡ suc (positions l) = facts.0 in
    let here : is_confirmed (drop (positions l) (l ++ bit ∷ [])) ≡ true = rw facts.1 confirmed in
    let gap : gap_of (l ++ bit ∷ []) ≡ positions l =
    gap_of_is (l ++ bit ∷ []) ∙ ap (λ n. least_below n (λ p. is_confirmed (drop p (l ++ bit ∷ [])))) more
    ∙ least_below_yes (positions l) (λ p. is_confirmed (drop p (l ++ bit ∷ []))) (search_same l (bit ∷ []) ∙ gap_all l found) here in
    (lt-ltb _ _ (omega arith), ap (λ n. drop n (l ++ bit ∷ [])) gap ∙ facts.1)

-- the position that became whole isn't confirmed
pub search_rejected : (l : List Bool) (bit : Bool) → is_found l ≡ false
    → 768 ≤ length (drop (positions l) l ++ bit ∷ []) → is_confirmed (drop (positions l) l ++ bit ∷ []) ≡ false
    → (is_found (l ++ bit ∷ []) ≡ false) × (drop 1 (drop (positions l) l ++ bit ∷ []) ≡ drop (positions (l ++ bit ∷ [])) (l ++ bit ∷ []))
search_rejected l bit found long rejected =
    let facts = search_long l bit long in
    let more : positions (l ++ bit ∷ []) ≡ suc (positions l) = facts.0 in
    let here : is_confirmed (drop (positions l) (l ++ bit ∷ [])) ≡ false = rw facts.1 rejected in
    let gap : gap_of (l ++ bit ∷ []) ≡ suc (positions l) =
    gap_of_is (l ++ bit ∷ []) ∙ ap (λ n. least_below n (λ p. is_confirmed (drop p (l ++ bit ∷ [])))) more
    ∙ least_below_no (positions l) (λ p. is_confirmed (drop p (l ++ bit ∷ []))) (search_same l (bit ∷ []) ∙ gap_all l found) here in
    let still : is_found (l ++ bit ∷ []) ≡ false = le-ltb _ _ (omega arith) in
    (still, ap (drop 1) (sym facts.1) ∙ drop-drop 1 (positions l) (l ++ bit ∷ []) ∙ ap (λ n. drop n (l ++ bit ∷ [])) (omega arith))
