-- Tests and counts over the numbers of a range.
use Rattle.std.proofs.Common.{◌≡◌, ℕ, zero, suc, ◌+◌, ◌<◌, ◌≤◌, Bool, true, false, ◌&&◌, cond, List, [], ◌∷◌, map, refl, ap, ◌∙◌, subst, inl, inr, arith, sym, add-one}
use Rattle.std.specs.Prelude.{count_by}
use Rattle.std.specs.List.{range_with_len, list_all}
use Rattle.std.proofs.lemmas.List.Sums.{sum_by-cons}
use Rattle.std.proofs.lemmas.Bool.{cases_lt, cases_eq}

pub and_true : (a b : Bool) → (a && b) ≡ true → (a ≡ true) × (b ≡ true)
and_true true b h = (refl, h)
and_true false b h = cc

-- a test of each number of a range
pub list_all-at : (p : ℕ → Bool) (a n k : ℕ) → list_all p (range_with_len a n) ≡ true → a ≤ k → k < a + n → p k ≡ true
list_all-at p a zero k all h h' = absurd (omega arith)
list_all-at p a (suc n) k all h h' =
    let parts = and_true (p a) (list_all p (range_with_len (a + 1) n)) all in
    elim (cases_eq k a) [
      | inl same ↦ ap p same ∙ parts.0
      | inr other ↦ list_all-at p (a + 1) n k parts.1 (omega arith) (omega arith)
    ]

-- how many pass of the first numbers, with one more
pub count_push : (p : ℕ → Bool) (n : ℕ) → count_by p (range_with_len 0 (n + 1)) ≡ count_by p (range_with_len 0 n) + cond (p n) 1 0
count_push p n = ap (λ k. count_by p (range_with_len 0 k)) (add-one n) ∙ from 0 n (omega arith)
  where
    from : (a m : ℕ) → a + m ≡ n → count_by p (range_with_len a (suc m)) ≡ count_by p (range_with_len a m) + cond (p n) 1 0
    from a zero e =
        let here : a ≡ n = omega arith in
        sum_by-cons (λ x. cond (p x) 1 0) a [] ∙ ap (λ k. cond (p k) 1 0 + 0) here ∙ omega arith
    from a (suc m) e =
        let rest : count_by p (range_with_len (a + 1) (suc m)) ≡ count_by p (range_with_len (a + 1) m) + cond (p n) 1 0 = from (a + 1) m (omega arith) in
        omega (arith, sum_by-cons (λ x. cond (p x) 1 0) a (range_with_len (a + 1) (suc m)), sum_by-cons (λ x. cond (p x) 1 0) a (range_with_len (a + 1) m), rest)

-- it never falls
pub count-range_grows : (p : ℕ → Bool) (n m : ℕ) → n ≤ m → count_by p (range_with_len 0 n) ≤ count_by p (range_with_len 0 m)
count-range_grows p n zero h =
    let e : 0 ≡ n = omega arith in
    subst (λ k. count_by p (range_with_len 0 k) ≤ count_by p (range_with_len 0 0)) e (omega arith)
count-range_grows p n (suc m) h =
    let more : count_by p (range_with_len 0 (suc m)) ≡ count_by p (range_with_len 0 m) + cond (p m) 1 0 = ap (λ k. count_by p (range_with_len 0 k)) (sym (add-one m)) ∙ count_push p m in
    elim (cases_lt m n) [
      | inl all ↦
          let e : suc m ≡ n = omega arith in
          subst (λ k. count_by p (range_with_len 0 k) ≤ count_by p (range_with_len 0 (suc m))) e (omega arith)
      | inr some ↦ omega (arith, count-range_grows p n m some, more)
    ]

-- how many elements of a list pass, by the numbers that they are made of
pub count-made : {X : Type 0} (p : X → Bool) (f : ℕ → X) (xs : List ℕ) → count_by p (map f xs) ≡ count_by (λ k. p (f k)) xs
count-made p f [] = refl
count-made p f (x ∷ xs) =
    sum_by-cons (λ y. cond (p y) 1 0) (f x) (map f xs) ∙ ap (λ n. cond (p (f x)) 1 0 + n) (count-made p f xs) ∙ sym (sum_by-cons (λ k. cond (p (f k)) 1 0) x xs)
