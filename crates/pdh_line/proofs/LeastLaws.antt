-- Laws of the least number that passes a test.
use Rattle.std.proofs.Common.{◌≡◌, ℕ, zero, suc, ◌+◌, ◌<◌, ◌≤◌, Bool, true, false, cond, eqb, length, refl, sym, ap, ◌∙◌, inl, inr, arith}
use Rattle.std.specs.List.{range_with_len, position_or_len}
use Rattle.std.proofs.lemmas.Bool.{cases_lt, cases_Bool, false≢true}
use Rattle.std.proofs.lemmas.Bool.Decides.{nat_tests}
use Rattle.std.proofs.lemmas.List.Folds.{position_or_len_push}
use Rattle.pdh_line.specs.Least.{least_below}
use Rattle.pdh_line.proofs.Ranges.{range_push, length-range}

-- one more number
pub least_below-suc : (n : ℕ) (test : ℕ → Bool) → least_below (suc n) test ≡ cond (eqb (least_below n test) n) (n + cond (test n) 0 1) (least_below n test)
unfolding least_below
least_below-suc n test =
    let e : 0 + n ≡ n = omega arith in
    let long : length (range_with_len 0 n) ≡ n = length-range 0 n in
    ap (position_or_len test) (range_push 0 n) ∙ position_or_len_push test (range_with_len 0 n) (0 + n) ∙ rw (long, e) refl

pub least_below-zero : (test : ℕ → Bool) → least_below 0 test ≡ 0
unfolding least_below
least_below-zero test = refl

pub least_below-le : (n : ℕ) (test : ℕ → Bool) → least_below n test ≤ n
least_below-le zero test = omega (arith, least_below-zero test)
least_below-le (suc n) test =
    let before : least_below n test ≤ n = least_below-le n test in
    rw least_below-suc (grind (arith, nat_tests))

-- found already
pub least_below_found : (n : ℕ) (test : ℕ → Bool) → least_below n test < n → least_below (suc n) test ≡ least_below n test
least_below_found n test h = rw least_below-suc (grind (arith, nat_tests))

-- not found, and the next number passes
pub least_below_yes : (n : ℕ) (test : ℕ → Bool) → least_below n test ≡ n → test n ≡ true → least_below (suc n) test ≡ n
least_below_yes n test h t = rw least_below-suc (grind (arith, nat_tests))

-- not found, and the next number fails
pub least_below_no : (n : ℕ) (test : ℕ → Bool) → least_below n test ≡ n → test n ≡ false → least_below (suc n) test ≡ suc n
least_below_no n test h t = rw least_below-suc (grind (arith, nat_tests))

-- only the tests below n matter
pub least_below_same : (n : ℕ) (p q : ℕ → Bool) → ((k : ℕ) → k < n → p k ≡ q k) → least_below n p ≡ least_below n q
least_below_same zero p q same = least_below-zero p ∙ sym (least_below-zero q)
least_below_same (suc n) p q same =
    let before : least_below n p ≡ least_below n q = least_below_same n p q (λ k h. same k (omega arith)) in
    let here : p n ≡ q n = same n (omega arith) in
    rw (least_below-suc n p, least_below-suc n q, before, here) refl

-- what was found stays the least
pub least_below_more : (n more : ℕ) (test : ℕ → Bool) → least_below n test < n → least_below (n + more) test ≡ least_below n test
least_below_more n zero test h = ap (λ k. least_below k test) (omega arith)
least_below_more n (suc more) test h =
    let before : least_below (n + more) test ≡ least_below n test = least_below_more n more test h in
    let e : n + suc more ≡ suc (n + more) = omega arith in
    rw e (least_below_found (n + more) test (omega arith) ∙ before)

-- what is found passes
pub least_below_passes : (n : ℕ) (test : ℕ → Bool) → least_below n test < n → test (least_below n test) ≡ true
least_below_passes zero test h = absurd (omega arith)
least_below_passes (suc n) test h =
    elim (cases_lt (least_below n test) n) [
      | inl lt ↦ rw (least_below_found n test lt) (least_below_passes n test lt)
      | inr ge ↦
          let last : least_below n test ≡ n = omega (arith, least_below-le n test) in
          elim (cases_Bool (test n)) [
            | inl passes ↦ rw (least_below_yes n test last passes) passes
            | inr fails ↦ absurd (omega (arith, least_below_no n test last fails))
          ]
    ]

-- what comes before it fails
pub least_below_before : (n : ℕ) (test : ℕ → Bool) (k : ℕ) → k < least_below n test → test k ≡ false
least_below_before zero test k h = absurd (omega (arith, least_below-zero test))
least_below_before (suc n) test k h =
    elim (cases_lt (least_below n test) n) [
      | inl lt ↦ least_below_before n test k (omega (arith, least_below_found n test lt))
      | inr ge ↦
          let last : least_below n test ≡ n = omega (arith, least_below-le n test) in
          elim (cases_Bool (test n)) [
            | inl passes ↦ least_below_before n test k (omega (arith, least_below_yes n test last passes))
            | inr fails ↦ elim (cases_lt k n) [
              | inl lt ↦ least_below_before n test k (omega arith)
              | inr ge' ↦
                  let here : k ≡ n = omega (arith, least_below_no n test last fails) in
                  rw here fails
            ]
          ]
    ]

-- it is as far as no test passes
pub least_below_none : (n : ℕ) (test : ℕ → Bool) → ((k : ℕ) → k < n → test k ≡ false) → least_below n test ≡ n
least_below_none zero test none = least_below-zero test
least_below_none (suc n) test none =
    least_below_no n test (least_below_none n test (λ k h. none k (omega arith))) (none n (omega arith))

-- it is at least as far as no test passes
pub least_below_past : (n : ℕ) (test : ℕ → Bool) (k : ℕ) → k ≤ n → ((i : ℕ) → i < k → test i ≡ false) → k ≤ least_below n test
least_below_past n test k h none =
    elim (cases_lt (least_below n test) k) [
      | inl lt ↦ absurd (false≢true (sym (none (least_below n test) lt) ∙ least_below_passes n test (omega arith)))
      | inr ge ↦ ge
    ]
