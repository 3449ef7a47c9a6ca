-- Digits in threes.
use Rattle.std.proofs.Common.{◌≡◌, ◌<◌, ◌≤◌, refl, ℕ, ◌+◌, ◌-◌, suc, List, [], ◌∷◌, ◌++◌, ◌∙◌, length, get_or, drop, ap, sym, append_assoc, append-nil, add-one, arith, length-drop, drop-cons}
use Rattle.std.proofs.lemmas.List.{drop_all}
use Rattle.pdh_report_text.specs.Numbers.{comma_before, in_threes}

-- the digits from one on: that one, what stands before those behind it, and these
in_threes-drop : (digits : List ℕ) (i : ℕ) → i < length digits
    → in_threes (drop i digits) ≡ get_or digits i 0 ∷ (comma_before (length digits - i - 1) ++ in_threes (drop (i + 1) digits))
unfolding in_threes
in_threes-drop digits i h =
    let left : length (drop (suc i) digits) ≡ length digits - i - 1 = rw length-drop (omega arith) in
    rw (add-one, drop-cons digits i 0 h) (ap (λ n. get_or digits i 0 ∷ (comma_before n ++ in_threes (drop (suc i) digits))) left)

-- what is shown of digits, after one more and what stands behind it
pub one_more : (digits shown now next : List ℕ) (i : ℕ) → i < length digits
    → shown ++ in_threes (drop i digits) ≡ in_threes digits
    → now ≡ shown ++ get_or digits i 0 ∷ []
    → next ≡ now ++ comma_before (length digits - i - 1)
    → next ++ in_threes (drop (i + 1) digits) ≡ in_threes digits
one_more digits shown now next i h so_far e f =
    rw (f, e) (simp append_assoc (ap (λ s. shown ++ s) (sym (in_threes-drop digits i h)) ∙ so_far))

-- what is shown when no digit is left
pub all_shown : (digits shown : List ℕ) (i : ℕ) → length digits ≤ i → shown ++ in_threes (drop i digits) ≡ in_threes digits
    → shown ≡ in_threes digits
unfolding in_threes
all_shown digits shown i h e =
    let none : in_threes (drop i digits) ≡ [] = rw (drop_all i digits h) refl in
    sym (append-nil shown) ∙ ap (λ rest. shown ++ rest) (sym none) ∙ e
