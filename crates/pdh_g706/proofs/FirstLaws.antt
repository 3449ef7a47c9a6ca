-- The first place of a list with which what has come so far passes a test.
use Rattle.std.proofs.Common.{◌≡◌, ℕ, suc, ◌-◌, ◌<◌, Bool, true, false, List, [], ◌∷◌, ◌++◌, length, take, sym, ap, ◌∙◌, arith, length-append}
use Rattle.std.proofs.lemmas.List.{take-append-le, take_all, length_push}
use Rattle.pdh_line.specs.Least.{least_below}
use Rattle.pdh_line.proofs.LeastLaws.{least_below_same, least_below_more, least_below_yes, least_below_no, least_below_passes, least_below_before}

module _ {X : Type 0} (test : List X → Bool) where
  -- the first place with which the test passes, or the length where it never does
  abbrev pub first_with : List X → ℕ
  first_with xs = least_below (length xs) (λ k. test (take (suc k) xs))

  same : (xs ys : List X) → least_below (length xs) (λ k. test (take (suc k) (xs ++ ys))) ≡ first_with xs
  same xs ys =
      least_below_same (length xs) (λ k. test (take (suc k) (xs ++ ys))) (λ k. test (take (suc k) xs))
      (λ k lt. ap test (take-append-le (suc k) xs ys (omega arith)))

  -- it stays once it has come
  pub first-append : (xs ys : List X) → first_with xs < length xs → first_with (xs ++ ys) ≡ first_with xs
  first-append xs ys lt =
      let is : least_below (length xs) (λ k. test (take (suc k) (xs ++ ys))) ≡ first_with xs = same xs ys in
      let lt' : least_below (length xs) (λ k. test (take (suc k) (xs ++ ys))) < length xs = omega arith in
      ap (λ n. least_below n (λ k. test (take (suc k) (xs ++ ys)))) (length-append xs ys)
      ∙ least_below_more (length xs) (length ys) (λ k. test (take (suc k) (xs ++ ys))) lt' ∙ is

  whole : (xs : List X) (x : X) → take (suc (length xs)) (xs ++ x ∷ []) ≡ xs ++ x ∷ []
  whole xs x = take_all (suc (length xs)) (xs ++ x ∷ []) (omega (arith, length_push xs x))

  count : (xs : List X) (x : X) → length (xs ++ x ∷ []) ≡ suc (length xs)
  count xs x = length_push xs x ∙ omega arith

  -- one more, with which it passes
  pub first_yes : (xs : List X) (x : X) → first_with xs ≡ length xs → test (xs ++ x ∷ []) ≡ true → first_with (xs ++ x ∷ []) ≡ length xs
  first_yes xs x none passes =
      ap (λ n. least_below n (λ k. test (take (suc k) (xs ++ x ∷ [])))) (count xs x)
      ∙ least_below_yes (length xs) (λ k. test (take (suc k) (xs ++ x ∷ []))) (same xs (x ∷ []) ∙ none) (ap test (whole xs x) ∙ passes)

  -- one more, with which it fails
  pub first_no : (xs : List X) (x : X) → first_with xs ≡ length xs → test (xs ++ x ∷ []) ≡ false → first_with (xs ++ x ∷ []) ≡ suc (length xs)
  first_no xs x none fails =
      ap (λ n. least_below n (λ k. test (take (suc k) (xs ++ x ∷ [])))) (count xs x)
      ∙ least_below_no (length xs) (λ k. test (take (suc k) (xs ++ x ∷ []))) (same xs (x ∷ []) ∙ none) (ap test (whole xs x) ∙ fails)

  -- what has come by then passes
  pub first_passes : (xs : List X) → first_with xs < length xs → test (take (suc (first_with xs)) xs) ≡ true
  first_passes xs lt = least_below_passes (length xs) (λ k. test (take (suc k) xs)) lt

  -- all fails where it hasn't come
  pub first_fails : (xs : List X) → first_with xs ≡ length xs → 0 < length xs → test xs ≡ false
  first_fails xs none some =
      let all : take (suc (length xs - 1)) xs ≡ xs = take_all (suc (length xs - 1)) xs (omega arith) in
      sym (ap test all) ∙ least_below_before (length xs) (λ k. test (take (suc k) xs)) (length xs - 1) (omega arith)
