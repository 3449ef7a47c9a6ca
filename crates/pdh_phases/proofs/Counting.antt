-- A run in the words of positions that stand a frame apart.
use Rattle.std.proofs.Common.{◌≡◌, ◌↔◌, ℕ, zero, suc, ◌+◌, ◌-◌, ◌*◌, ◌%◌, ◌<◌, ◌≤◌, Bool, true, false, not, cond, eqb, List, [], ◌∷◌, length, refl, sym, ◌∙◌, ap, subst, inl, inr, arith}
use Rattle.std.specs.Prelude.{min}
use Rattle.std.specs.List.{position_or_len}
use Rattle.std.proofs.lemmas.Bool.{cases_lt, cases_Bool, ne_eqb, false≢true}
use Rattle.std.proofs.Math.Nat.{mod-eq_of_lt, add-mod_right}
use Rattle.pdh_shape.specs.Frame.{FrameShape}
use Rattle.pdh_phases.specs.Runs.{signal_at, places, phase_below, run_of, IsNewest, StandsBack}
use Rattle.pdh_phases.proofs.RunLaws.{run_of_is}
use Rattle.pdh_phases.proofs.Confirming.{newest}

-- no position of a phase is below it
none_below : (s : FrameShape) (phase n : ℕ) → n ≤ phase → phase < s.len → phase_below s phase n ≡ []
none_below s phase zero h h' = refl
none_below s phase (suc n) h h' =
    let less : n < s.len = omega arith in
    let no : eqb (n % s.len) phase ≡ false = ne_eqb (n % s.len) phase (λ same. omega (arith, same, mod-eq_of_lt less)) in
    ap (λ b. cond b (n ∷ phase_below s phase n) (phase_below s phase n)) no ∙ none_below s phase n (omega arith) h'

-- a test passes at q and at the numbers before it that are a frame apart, so many in all
abbrev Back : ℕ → (ℕ → Bool) → ℕ → ℕ → Type 0
Back len test q count = (k : ℕ) → k < count → (k * len ≤ q) × (test (q - k * len) ≡ true)

-- the first of them
at_first : (len : ℕ) (test : ℕ → Bool) (q : ℕ) → test q ≡ true → (0 * len ≤ q) × (test (q - 0 * len) ≡ true)
at_first len test q h =
    let none : 0 * len ≡ 0 = omega arith in
    let same : q - 0 * len ≡ q = omega (arith, none) in
    (omega (arith, none), ap test same ∙ h)

-- one more of them
back-more : (len : ℕ) (test : ℕ → Bool) (q before count : ℕ) → q ≡ before + len → test q ≡ true → Back len test before count → Back len test q (suc count)
back-more len test q before count e h back zero lt = at_first len test q h
back-more len test q before count e h back (suc k) lt =
    let (within, passes) = back k (omega arith) in
    let next : suc k * len ≡ k * len + len = omega arith in
    let same : q - suc k * len ≡ before - k * len = omega (arith, e, next) in
    (omega (arith, e, next, within), ap test same ∙ passes)

-- one fewer of them
back-fewer : (len : ℕ) (test : ℕ → Bool) (q before count : ℕ) → q ≡ before + len → Back len test q (suc count) → Back len test before count
back-fewer len test q before count e back k lt =
    let (within, passes) = back (suc k) (omega arith) in
    let next : suc k * len ≡ k * len + len = omega arith in
    let same : before - k * len ≡ q - suc k * len = omega (arith, e, next) in
    (omega (arith, e, next, within), ap test same ∙ passes)

back-none : (len : ℕ) (test : ℕ → Bool) (q : ℕ) → Back len test q 0
back-none len test q k lt = absurd (omega arith)

-- how far the positions of a phase pass a test, from q on
passes_back : (s : FrameShape) (test : ℕ → Bool) (phase q count : ℕ) → q % s.len ≡ phase → 0 < s.len
    → (count ≤ position_or_len (λ p. not (test p)) (q ∷ phase_below s phase q)) ↔ Back s.len test q count
passes_back s test phase q zero e some = (λ h. back-none s.len test q, λ h. omega arith)
passes_back s test phase q (suc count) e some =
    elim (cases_Bool (test q)) [
      | inr fails ↦
          let stops : position_or_len (λ p. not (test p)) (q ∷ phase_below s phase q) ≡ 0 = ap (λ b. cond (not (not b)) (1 + found) 0) fails in (
            λ h. absurd (omega (arith, h, stops)),
            λ back. let none : 0 * s.len ≡ 0 = omega arith in
                let same : q - 0 * s.len ≡ q = omega (arith, none) in
                absurd (false≢true (sym fails ∙ sym (ap test same) ∙ (back 0 (omega arith)).1)),
          )
      | inl passes ↦
          let goes : position_or_len (λ p. not (test p)) (q ∷ phase_below s phase q) ≡ 1 + found = ap (λ b. cond (not (not b)) (1 + found) 0) passes in
          elim (cases_lt q s.len) [
            | inl first ↦
                let here : phase ≡ q = sym e ∙ mod-eq_of_lt first in
                let none : found ≡ 0 = ap (position_or_len (λ p. not (test p))) (none_below s phase q (omega (arith, here)) (omega (arith, here, first))) in (
                  λ h. λ k lt.
                      let zero : k ≡ 0 = omega (arith, h, lt, goes, none) in
                      subst (λ k. (k * s.len ≤ q) × (test (q - k * s.len) ≡ true)) (sym zero) (at_first s.len test q passes),
                  λ back. elim (cases_lt 0 count) [
                    | inl more ↦ let one : 1 * s.len ≡ s.len = omega arith in absurd (omega (arith, one, first, (back 1 (omega (arith, more))).0))
                    | inr last ↦ omega (arith, last, goes)
                  ],
                )
            | inr later ↦
                let before : ℕ = q - s.len in
                let apart : q ≡ before + s.len = omega (arith, later) in
                let phase_is : before % s.len ≡ phase = sym (add-mod_right before s.len) ∙ ap (λ n. n % s.len) (sym apart) ∙ e in
                let next : phase_below s phase q ≡ before ∷ phase_below s phase before = newest s phase before q phase_is (omega (arith, apart, some)) (omega (arith, apart)) in
                let on : found ≡ position_or_len (λ p. not (test p)) (before ∷ phase_below s phase before) = ap (position_or_len (λ p. not (test p))) next in
                let rest = passes_back s test phase before count phase_is some in (
                  λ h. back-more s.len test q before count apart passes (rest.0 (omega (arith, h, goes, on))),
                  λ back. omega (arith, rest.1 (back-fewer s.len test q before count apart back), goes, on),
                )
          ]
    ]
  where
    found : ℕ
    found = position_or_len (λ p. not (test p)) (phase_below s phase q)

pub run_of-most : (s : FrameShape) (bits : List Bool) (phase : ℕ) → run_of s bits phase ≤ 3
run_of-most s bits phase = omega (arith, run_of_is s bits phase)

pub run_of-counts : (s : FrameShape) (bits : List Bool) (p count : ℕ) → 0 < s.len → IsNewest s bits p → count ≤ 3 → (count ≤ run_of s bits (p % s.len)) ↔ StandsBack s bits p count
run_of-counts s bits p count some (h, h') few =
    let list : phase_below s (p % s.len) (places s bits) ≡ p ∷ phase_below s (p % s.len) p = newest s (p % s.len) p (places s bits) refl (omega (arith, h)) (omega (arith, h')) in
    let is : run_of s bits (p % s.len) ≡ min 3 (position_or_len (λ p. not (signal_at s bits p)) (p ∷ phase_below s (p % s.len) p)) =
    run_of_is s bits (p % s.len) ∙ ap (λ x. min 3 (position_or_len (λ p. not (signal_at s bits p)) x)) list in
    let both = passes_back s (signal_at s bits) (p % s.len) p count refl some in
    (λ le. both.0 (omega (arith, le, is)), λ back. omega (arith, both.1 back, is, few))

pub run_of-before : (s : FrameShape) (bits : List Bool) (phase : ℕ) → phase < s.len → length bits < phase + s.signal → run_of s bits phase ≡ 0
run_of-before s bits phase known short =
    run_of_is s bits phase ∙ ap (λ x. min 3 (position_or_len (λ p. not (signal_at s bits p)) x)) (none_below s phase (places s bits) (omega (arith, short)) known)
