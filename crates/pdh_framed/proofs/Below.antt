-- A test of every number below a bound, computed.
use Rattle.std.proofs.Common.{◌≡◌, ℕ, zero, suc, ◌<◌, Bool, true, false, inl, inr, refl, ap, ◌∙◌, arith}
use Rattle.std.specs.Prelude.{◌&&◌}
use Rattle.std.proofs.lemmas.Bool.{false≢true, cases_lt}

-- each number below n passes
abbrev pub all_below : (ℕ → Bool) → ℕ → Bool
all_below test zero = true
all_below test (suc n) = test n && all_below test n

both_true : (a b : Bool) → (a && b) ≡ true → (a ≡ true) × (b ≡ true)
both_true true b both = (refl, both)
both_true false b both = absurd (false≢true both)

-- so one that is below n passes
pub at_below : (test : ℕ → Bool) (n k : ℕ) → all_below test n ≡ true → k < n → test k ≡ true
at_below test zero k all below = absurd (omega arith)
at_below test (suc n) k all below =
    let both = both_true (test n) (all_below test n) all in
    elim (cases_lt k n) [
      | inl less ↦ at_below test n k both.1 less
      | inr least ↦ let same : k ≡ n = omega arith in ap test same ∙ both.0
    ]
