-- How many of the numbers below a bound pass a test, and those that do.
use Rattle.std.proofs.Common.{◌≡◌, ℕ, zero, suc, ◌+◌, ◌<◌, ◌≤◌, Bool, true, false, cond, List, [], ◌∷◌, ◌++◌, length, map, filter, sym, ap, ◌∙◌, arith, add-one}
use Rattle.std.specs.Prelude.{count_by}
use Rattle.std.specs.List.{range_with_len}
use Rattle.std.proofs.lemmas.List.{map-append, append-nil}
use Rattle.std.proofs.lemmas.List.Elements.{filter-append}
use Rattle.std.proofs.lemmas.List.Sums.{length-filter}
use Rattle.pdh_line.proofs.Ranges.{range_push, count_push}
use Rattle.pdh_shape.specs.laws.Ranges.{count-range_grows}

module _ (p : ℕ → Bool) where
  -- how many pass below a number
  abbrev pub before : ℕ → ℕ
  before n = count_by p (range_with_len 0 n)

  abbrev pub picked : ℕ → List ℕ
  picked n = filter p (range_with_len 0 n)

  pub before_next : (n : ℕ) → before (n + 1) ≡ before n + cond (p n) 1 0
  before_next n = count_push p n

  pub before_pass : (n : ℕ) → p n ≡ true → before (n + 1) ≡ before n + 1
  before_pass n h = count_push p n ∙ ap (λ b. before n + cond b 1 0) h

  pub before_fail : (n : ℕ) → p n ≡ false → before (n + 1) ≡ before n
  before_fail n h = count_push p n ∙ ap (λ b. before n + cond b 1 0) h ∙ omega arith

  pub before_grows : (a b : ℕ) → a ≤ b → before a ≤ before b
  before_grows a b h = count-range_grows p a b h

  one_or_none : (b : Bool) → cond b 1 0 ≤ 1
  one_or_none true = omega arith
  one_or_none false = omega arith

  pub before_most : (n : ℕ) → before n ≤ n
  before_most zero = omega arith
  before_most (suc n) = omega (arith, before_most n, ap before (sym (add-one n)) ∙ before_next n, one_or_none (p n))

  -- past one that passes there is one more
  pub before_less : (a b : ℕ) → p a ≡ true → a < b → before a < before b
  before_less a b pass h = omega (arith, before_pass a pass, before_grows (a + 1) b (omega (arith, h)))

  pub length-picked : (n : ℕ) → length (picked n) ≡ before n
  length-picked n = length-filter p (range_with_len 0 n)

  pub picked_next : (n : ℕ) → picked (n + 1) ≡ picked n ++ cond (p n) (n ∷ []) []
  picked_next n =
      let last : 0 + n ≡ n = omega arith in
      ap picked (add-one n) ∙ ap (filter p) (range_push 0 n) ∙ filter-append p (range_with_len 0 n) ((0 + n) ∷ []) ∙ ap (λ k. picked n ++ filter p (k ∷ [])) last

  -- what is made of them
  pub made_pass : {X : Type 0} (f : ℕ → X) (n : ℕ) → p n ≡ true → map f (picked (n + 1)) ≡ map f (picked n) ++ f n ∷ []
  made_pass f n h = ap (map f) (picked_next n ∙ ap (λ b. picked n ++ cond b (n ∷ []) []) h) ∙ map-append f (picked n) (n ∷ [])

  pub made_fail : {X : Type 0} (f : ℕ → X) (n : ℕ) → p n ≡ false → map f (picked (n + 1)) ≡ map f (picked n)
  made_fail f n h = ap (map f) (picked_next n ∙ ap (λ b. picked n ++ cond b (n ∷ []) []) h ∙ append-nil (picked n))

-- what is made of all numbers below a bound
pub made_next : {X : Type 0} (f : ℕ → X) (n : ℕ) → map f (range_with_len 0 (n + 1)) ≡ map f (range_with_len 0 n) ++ f n ∷ []
made_next f n =
    let last : 0 + n ≡ n = omega arith in
    ap (λ k. map f (range_with_len 0 k)) (add-one n) ∙ ap (map f) (range_push 0 n) ∙ map-append f (range_with_len 0 n) ((0 + n) ∷ []) ∙ ap (λ k. map f (range_with_len 0 n) ++ f k ∷ []) last

-- one more passes, or none
pub counted : (p : ℕ → Bool) (n count now : ℕ) (b : Bool) → count ≡ before p n → p n ≡ b → now ≡ count + cond b 1 0 → now ≡ before p (n + 1)
counted p n count now b is class next = next ∙ ap (λ k. k + cond b 1 0) is ∙ ap (λ b. before p n + cond b 1 0) (sym class) ∙ sym (before_next p n)
