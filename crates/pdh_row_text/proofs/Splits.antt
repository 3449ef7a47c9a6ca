-- A text and its first line, a line and its first word.
use Rattle.std.proofs.Common.{◌≡◌, ◌≢◌, ◌==◌, ◌+◌, ◌<◌, ◌≤◌, ℕ, suc, Bool, false, not, cond, List, [], ◌∷◌, length, take, drop, position, Option, Some, None, option_map, unwrap_or, refl, ap, sym, ◌∙◌, arith, Bor, inl, inr}
use Rattle.std.specs.List.{before_first, after_first, position_or_len, onto_first, All}
use Rattle.std.proofs.lemmas.Bool.{cases_lt, lt-ltb, le-ltb, cases_Bool}
use Rattle.std.proofs.lemmas.List.{take_all, drop_all}
use Rattle.std.proofs.lemmas.List.Splits.{slice_split_first, slice_split_none}
use Rattle.std.proofs.lemmas.List.Sums.{fails_before_first}
use Rattle.std.proofs.lemmas.List.Elements.{All-from_get_or}
use Rattle.std.specs.Option.{option_copied}
use Rattle.pdh_row_text.specs.Text.{lines_of, words_of}
use Rattle.pdh_row_text.specs.Parsed.{words_left}

-- what follows the first byte that passes, where there is one
abbrev pub after_mark : (ℕ → Bool) → List ℕ → Option (List ℕ)
after_mark p xs = option_map (λ end. drop (end + 1) xs) (position p xs)

-- where one passes, and where none does
after_mark_some : (p : ℕ → Bool) (xs : List ℕ) → position_or_len p xs < length xs → after_mark p xs ≡ Some (after_first p xs)
after_mark_some p xs h = ap (λ b. option_map (λ end. drop (end + 1) xs) (cond b (Some (position_or_len p xs)) None)) (lt-ltb _ _ h)

after_mark_none : (p : ℕ → Bool) (xs : List ℕ) → length xs ≤ position_or_len p xs → after_mark p xs ≡ None
after_mark_none p xs h = ap (λ b. option_map (λ end. drop (end + 1) xs) (cond b (Some (position_or_len p xs)) None)) (le-ltb _ _ h)

none_passes : (p : ℕ → Bool) (xs : List ℕ) → length xs ≤ position_or_len p xs → All (λ x. p x ≡ false) xs
none_passes p xs h = All-from_get_or (λ x. p x ≡ false) xs 0 (λ i l. fails_before_first p xs i 0 (omega arith))

pub words_of_first : (xs : List ℕ)
    → words_of xs ≡ before_first (λ byte. byte == 32) xs ∷ words_left (after_mark (λ byte. byte == 32) xs)
words_of_first xs =
    let p : ℕ → Bool = λ byte. byte == 32 in
    elim (cases_lt (position_or_len p xs) (length xs)) [
      | inl h ↦ slice_split_first p xs 0 h ∙ ap (λ o. before_first p xs ∷ words_left o) (sym (after_mark_some p xs h))
      | inr h ↦ slice_split_none p xs (none_passes p xs h) ∙ ap (λ l. l ∷ []) (sym (take_all (position_or_len p xs) xs h))
          ∙ ap (λ o. before_first p xs ∷ words_left o) (sym (after_mark_none p xs h))
    ]

-- the line before the first line feed, and the lines after it
abbrev pub lines_cut : List ℕ → Type 0
lines_cut xs = lines_of xs ≡ before_first (λ byte. byte == 10) xs ∷ lines_of (after_first (λ byte. byte == 10) xs)

position_more : (p : ℕ → Bool) (x : ℕ) (xs : List ℕ) → p x ≡ false → position_or_len p (x ∷ xs) ≡ suc (position_or_len p xs)
position_more p x xs h = ap (λ b. cond (not b) (1 + position_or_len p xs) 0) h ∙ omega arith

before_first_more : (p : ℕ → Bool) (x : ℕ) (xs : List ℕ) → p x ≡ false → before_first p (x ∷ xs) ≡ x ∷ before_first p xs
before_first_more p x xs h = ap (λ n. take n (x ∷ xs)) (position_more p x xs h)

after_first_more : (p : ℕ → Bool) (x : ℕ) (xs : List ℕ) → p x ≡ false → after_first p (x ∷ xs) ≡ after_first p xs
after_first_more p x xs h =
    let e : position_or_len p (x ∷ xs) + 1 ≡ suc (position_or_len p xs + 1) = omega (arith, position_more p x xs h) in
    ap (λ n. drop n (x ∷ xs)) e

lines_cut_step : (x y : ℕ) (xs : List ℕ) → lines_cut (y ∷ xs) → lines_cut (x ∷ y ∷ xs)
lines_cut_step x y xs h =
    let p : ℕ → Bool = λ byte. byte == 10 in
    elim (cases_Bool (x == 10)) [
      | inl is ↦ rw is refl
      | inr isnt ↦
          ap (λ b. cond b ([] ∷ lines_of (y ∷ xs)) (onto_first x (lines_of (y ∷ xs)))) isnt ∙ ap (onto_first x) h
          ∙ sym (ap (λ l. l ∷ lines_of (after_first p (x ∷ y ∷ xs))) (before_first_more p x (y ∷ xs) isnt)
          ∙ ap (λ l. (x ∷ before_first p (y ∷ xs)) ∷ lines_of l) (after_first_more p x (y ∷ xs) isnt))
    ]

pub lines_of_cut : (x : ℕ) (xs : List ℕ) → lines_cut (x ∷ xs)
lines_of_cut x [] = elim (cases_Bool (x == 10)) [ inl is ↦ rw is refl | inr isnt ↦ rw isnt refl ]
lines_of_cut x (y ∷ xs) = lines_cut_step x y xs (lines_of_cut y xs)

-- what follows the first line, or nothing
after_mark_or : (p : ℕ → Bool) (xs : List ℕ) → unwrap_or (after_mark p xs) [] ≡ after_first p xs
after_mark_or p xs =
    elim (cases_lt (position_or_len p xs) (length xs)) [
      | inl h ↦ ap (λ o. unwrap_or o []) (after_mark_some p xs h)
      | inr h ↦ ap (λ o. unwrap_or o []) (after_mark_none p xs h) ∙ sym (drop_all (position_or_len p xs + 1) xs (omega arith))
    ]

pub lines_of_first : (xs : List ℕ) → xs ≢ []
    → lines_of xs ≡ before_first (λ byte. byte == 10) xs ∷ lines_of (unwrap_or (after_mark (λ byte. byte == 10) xs) [])
lines_of_first [] some = absurd (some refl)
lines_of_first (x ∷ xs) some =
    lines_of_cut x xs ∙ ap (λ l. before_first (λ byte. byte == 10) (x ∷ xs) ∷ lines_of l)
    (sym (after_mark_or (λ byte. byte == 10) (x ∷ xs)))

-- what the default of an option of a reference holds
pub now-unwrap_or : (o : Option (Bor (List ℕ))) (d : Bor (List ℕ)) → (unwrap_or o d).now ≡ unwrap_or (option_copied o) d.now
now-unwrap_or None d = refl
now-unwrap_or (Some x) d = refl
