-- What a rate is.
use Rattle.std.proofs.Common.{◌≡◌, ℕ, ◌+◌, ◌-◌, ◌≤◌, ◌==◌, ◌&&◌, nat_le, inl, inr, All, subst, arith, List, [], ◌∷◌, Option, Some, None, option_and_then, refl}
use Rattle.std.proofs.lemmas.Bool.{cases_Bool}
use Rattle.std.proofs.lemmas.Bool.Decides.{nat_tests}
use Rattle.std.proofs.lemmas.List.Elements.{All-nil, All-cons}
use Rattle.pdh_row_text.specs.Text.{number_of, each_of}
use Rattle.pdh_row_text.specs.RateWords.{ahead_of, behind_of, rate_of}

abbrev pub IsRate : ℕ → Type 0
IsRate rate = (999000 ≤ rate) × (rate ≤ 1001000)

ahead_is : (ppm rate : ℕ) → ahead_of ppm ≡ Some rate → IsRate rate
ahead_is ppm rate h = elim (cases_Bool (nat_le ppm 1000)) [
  | inl few ↦
      let is : ◌≡◌ {A = Option ℕ} (Some (1000000 + ppm)) (Some rate) = rw few at h in
      let same : 1000000 + ppm ≡ rate = cc in
      let small : ppm ≤ 1000 = grind (arith, nat_tests) in
      (omega arith, omega arith)
  | inr many ↦ absurd (let wrong : ◌≡◌ {A = Option ℕ} None (Some rate) = rw many at h in cc)
]

behind_is : (ppm rate : ℕ) → behind_of ppm ≡ Some rate → IsRate rate
behind_is ppm rate h = elim (cases_Bool (nat_le 1 ppm && nat_le ppm 1000)) [
  | inl few ↦
      let is : ◌≡◌ {A = Option ℕ} (Some (1000000 - ppm)) (Some rate) = rw few at h in
      let same : 1000000 - ppm ≡ rate = cc in
      let small : ppm ≤ 1000 = grind (arith, nat_tests) in
      (omega arith, omega arith)
  | inr many ↦ absurd (let wrong : ◌≡◌ {A = Option ℕ} None (Some rate) = rw many at h in cc)
]

then_is : (f : ℕ → Option ℕ) → ((ppm rate : ℕ) → f ppm ≡ Some rate → IsRate rate) → (o : Option ℕ) (rate : ℕ) → option_and_then f o ≡ Some rate → IsRate rate
then_is f each None rate h = absurd (let wrong : ◌≡◌ {A = Option ℕ} None (Some rate) = h in cc)
then_is f each (Some ppm) rate h = each ppm rate h

pub rate_is : (word : List ℕ) (rate : ℕ) → rate_of word ≡ Some rate → IsRate rate
rate_is [] rate h = absurd (let wrong : ◌≡◌ {A = Option ℕ} None (Some rate) = h in cc)
rate_is (byte ∷ word) rate h = elim (cases_Bool (byte == 45)) [
  | inl minus ↦ then_is behind_of behind_is (number_of word) rate (rw minus at h)
  | inr plus ↦ then_is ahead_of ahead_is (number_of (byte ∷ word)) rate (rw plus at h)
]

pub rates_are : (words : List (List ℕ)) (rates : List ℕ) → each_of rate_of words ≡ Some rates → All IsRate rates
rates_are [] rates h = let same : [] ≡ rates = cc in subst (All IsRate) same (All-nil IsRate)
rates_are (word ∷ words) rates h = go (λ more e. rates_are words more e) (rate_of word) refl (each_of rate_of words) refl h
  where
    go : ((more : List ℕ) → each_of rate_of words ≡ Some more → All IsRate more) → (one : Option ℕ) → rate_of word ≡ one → (more : Option (List ℕ)) → each_of rate_of words ≡ more
        → option_and_then (λ rate. option_and_then (λ rates. Some (rate ∷ rates)) more) one ≡ Some rates → All IsRate rates
    go rest None e more e' h = absurd (let wrong : ◌≡◌ {A = Option (List ℕ)} None (Some rates) = h in cc)
    go rest (Some rate) e None e' h = absurd (let wrong : ◌≡◌ {A = Option (List ℕ)} None (Some rates) = h in cc)
    go rest (Some rate) e (Some more) e' h =
        let same : rate ∷ more ≡ rates = cc in
        subst (All IsRate) same (All-cons IsRate rate more (rate_is word rate e) (rest more e'))
