-- How a run is found, and how it grows with a position.
use Rattle.std.proofs.Common.{◌≡◌, ℕ, zero, suc, ◌+◌, ◌%◌, ◌<◌, Bool, true, false, not, cond, eqb, List, ◌∷◌, refl, sym, ◌∙◌, ap, arith}
use Rattle.std.specs.Prelude.{min}
use Rattle.std.specs.List.{position_or_len}
use Rattle.pdh_shape.specs.Frame.{FrameShape}
use Rattle.pdh_phases.specs.Runs.{signal_at, places, phase_below, run_of}
use Rattle.pdh_phases.specs.Keeping.{longer}

pub run_of_is : (s : FrameShape) (bits : List Bool) (phase : ℕ) → run_of s bits phase ≡ min 3 (position_or_len (λ p. not (signal_at s bits p)) (phase_below s phase (places s bits)))
unfolding run_of
run_of_is s bits phase = refl

-- no position has all bits of its signal
pub run_of-none : (s : FrameShape) (bits : List Bool) (phase : ℕ) → places s bits ≡ 0 → run_of s bits phase ≡ 0
run_of-none s bits phase none =
    run_of_is s bits phase ∙ ap (λ n. min 3 (position_or_len (λ p. not (signal_at s bits p)) (phase_below s phase n))) none

-- tests that agree below n find the same
pub found_same : (s : FrameShape) (phase n : ℕ) (f g : ℕ → Bool) → ((p : ℕ) → p < n → f p ≡ g p) → position_or_len f (phase_below s phase n) ≡ position_or_len g (phase_below s phase n)
found_same s phase zero f g same = refl
found_same s phase (suc n) f g same =
    let rest : position_or_len f (phase_below s phase n) ≡ position_or_len g (phase_below s phase n) = found_same s phase n f g (λ p h. same p (omega arith)) in
    let here : f n ≡ g n = same n (omega arith) in
    elim (eqb (n % s.len) phase) as (λ b. position_or_len f (cond b (n ∷ phase_below s phase n) (phase_below s phase n)) ≡ position_or_len g (cond b (n ∷ phase_below s phase n) (phase_below s phase n))) [
      | true ↦ ap (λ b. cond (not b) (1 + position_or_len f (phase_below s phase n)) 0) here ∙ ap (λ k. cond (not (g n)) (1 + k) 0) rest
      | false ↦ rest
    ]

grown : (stands : Bool) (k : ℕ) → min 3 (cond (not (not stands)) (1 + k) 0) ≡ longer (min 3 k) stands
grown true k = omega arith
grown false k = refl

-- with one more position
pub run_of-one_more : (s : FrameShape) (bits more : List Bool) (phase q n : ℕ) → phase_below s phase (places s more) ≡ q ∷ phase_below s phase n
    → n ≡ places s bits → ((p : ℕ) → p < n → signal_at s more p ≡ signal_at s bits p) → run_of s more phase ≡ longer (run_of s bits phase) (signal_at s more q)
run_of-one_more s bits more phase q n list e same =
    let now : ℕ → Bool = λ p. not (signal_at s more p) in
    let was : ℕ → Bool = λ p. not (signal_at s bits p) in
    run_of_is s more phase ∙ ap (λ x. min 3 (position_or_len now x)) list
    ∙ ap (λ k. min 3 (cond (not (now q)) (1 + k) 0)) (found_same s phase n now was (λ p lt. ap not (same p lt)) ∙ ap (λ k. position_or_len was (phase_below s phase k)) e)
    ∙ grown (signal_at s more q) (position_or_len was (phase_below s phase (places s bits))) ∙ ap (λ r. longer r (signal_at s more q)) (sym (run_of_is s bits phase))

-- with no more
pub run_of-no_more : (s : FrameShape) (bits more : List Bool) (phase n : ℕ) → phase_below s phase (places s more) ≡ phase_below s phase n
    → n ≡ places s bits → ((p : ℕ) → p < n → signal_at s more p ≡ signal_at s bits p) → run_of s more phase ≡ run_of s bits phase
run_of-no_more s bits more phase n list e same =
    let now : ℕ → Bool = λ p. not (signal_at s more p) in
    let was : ℕ → Bool = λ p. not (signal_at s bits p) in
    run_of_is s more phase ∙ ap (λ x. min 3 (position_or_len now x)) list ∙ ap (min 3) (found_same s phase n now was (λ p lt. ap not (same p lt)) ∙ ap (λ k. position_or_len was (phase_below s phase k)) e)
    ∙ sym (run_of_is s bits phase)
