-- A position is confirmed where the run of its phase is 3 two frames later.
use Rattle.std.proofs.Common.{◌≡◌, ℕ, zero, suc, ◌+◌, ◌*◌, ◌/◌, ◌%◌, ◌<◌, ◌≤◌, Bool, true, false, ◌&&◌, not, cond, eqb, List, ◌∷◌, length, take, drop, refl, sym, ◌∙◌, ap, inl, inr, arith, length-drop}
use Rattle.std.specs.Prelude.{min, nat_le}
use Rattle.std.specs.List.{position_or_len}
use Rattle.std.proofs.lemmas.Bool.{cases_lt, eq-eqb, ne_eqb, le-leb, lt-leb}
use Rattle.std.proofs.lemmas.List.{drop-drop}
use Rattle.std.proofs.Math.Nat.{mod-add-div', mul-le-mul_right, add-mod_right}
use Rattle.pdh_shape.specs.Frame.{FrameShape, IsFrame, HasSignal, is_right}
use Rattle.pdh_line.specs.Tracking.{frame_of, is_confirmed}
use Rattle.pdh_phases.specs.Runs.{signal_at, places, phase_below, run_of, IsNewest, stands_thrice}
use Rattle.pdh_phases.proofs.Signals.{right-signal}
use Rattle.pdh_phases.proofs.RunLaws.{run_of_is}

-- two numbers with one remainder don't stand less than the divisor apart
between : (len q m a b r : ℕ) → r + a * len ≡ m → r + b * len ≡ q → q < m → m < q + len → ⊥
between len q m a b r e f h h' =
    elim (cases_lt b a) [
      | inl up ↦ let far : suc b * len ≤ a * len = mul-le-mul_right len up in absurd (omega (arith, e, f, h, h', far))
      | inr down ↦ let near : a * len ≤ b * len = mul-le-mul_right len down in absurd (omega (arith, e, f, h, h', near))
    ]

apart : (len q m : ℕ) → q < m → m < q + len → m % len ≡ q % len → ⊥
apart len q m h h' same = between len q m (m / len) (q / len) (q % len) (ap (λ r. r + m / len * len) (sym same) ∙ mod-add-div' m len) (mod-add-div' q len) h h'

-- the greatest position of a phase, and those below it
pub newest : (s : FrameShape) (phase q n : ℕ) → q % s.len ≡ phase → q < n → n ≤ q + s.len → phase_below s phase n ≡ q ∷ phase_below s phase q
newest s phase q zero e h h' = absurd (omega arith)
newest s phase q (suc n) e h h' =
    elim (cases_lt q n) [
      | inl past ↦
          let no : eqb (n % s.len) phase ≡ false = ne_eqb (n % s.len) phase (λ same. apart s.len q n past (omega arith) (same ∙ sym e)) in
          ap (λ b. cond b (n ∷ phase_below s phase n) (phase_below s phase n)) no ∙ newest s phase q n e past (omega arith)
      | inr here ↦
          let same : n ≡ q = omega arith in
          let yes : eqb (n % s.len) phase ≡ true = eq-eqb (n % s.len) phase (ap (λ k. k % s.len) same ∙ e) in
          ap (λ b. cond b (n ∷ phase_below s phase n) (phase_below s phase n)) yes ∙ ap (λ k. k ∷ phase_below s phase k) same
    ]

-- the greatest three of them
three_newest : (s : FrameShape) (p n : ℕ) → 0 < s.len → p + 2 * s.len < n → n ≤ p + 3 * s.len
    → phase_below s (p % s.len) n ≡ (p + 2 * s.len) ∷ (p + s.len) ∷ p ∷ phase_below s (p % s.len) p
three_newest s p n some h h' =
    let one : (p + s.len) % s.len ≡ p % s.len = add-mod_right p s.len in
    let twice : p + 2 * s.len ≡ (p + s.len) + s.len = omega arith in
    let two : (p + 2 * s.len) % s.len ≡ p % s.len = ap (λ k. k % s.len) twice ∙ add-mod_right (p + s.len) s.len ∙ one in
    newest s (p % s.len) (p + 2 * s.len) n two h (omega (arith, h'))
    ∙ ap (λ x. (p + 2 * s.len) ∷ x) (newest s (p % s.len) (p + s.len) (p + 2 * s.len) one (omega (arith, some)) (omega arith)
    ∙ ap (λ x. (p + s.len) ∷ x) (newest s (p % s.len) p (p + s.len) refl (omega (arith, some)) (omega arith)))

counted : (a b c : Bool) (k : ℕ) → eqb (min 3 (cond (not (not c)) (1 + cond (not (not b)) (1 + cond (not (not a)) (1 + k) 0) 0) 0)) 3 ≡ (a && b && c)
counted true true true k = eq-eqb (min 3 (1 + (1 + (1 + k)))) 3 (omega arith)
counted false true true k = refl
counted true false true k = refl
counted false false true k = refl
counted true true false k = refl
counted false true false k = refl
counted true false false k = refl
counted false false false k = refl

-- the run is 3 exactly where the signal stands at the greatest three
pub three-run : (s : FrameShape) (bits : List Bool) (p : ℕ) → 0 < s.len → IsNewest s bits (p + 2 * s.len) → eqb (run_of s bits (p % s.len)) 3 ≡ stands_thrice s bits p
three-run s bits p some (h, h') =
    let test : ℕ → Bool = λ p. not (signal_at s bits p) in
    ap (λ r. eqb r 3) (run_of_is s bits (p % s.len) ∙ ap (λ x. min 3 (position_or_len test x)) (three_newest s p (places s bits) some (omega (arith, h)) (omega (arith, h'))))
    ∙ counted (signal_at s bits p) (signal_at s bits (p + s.len)) (signal_at s bits (p + 2 * s.len)) (position_or_len test (phase_below s (p % s.len) p))

frame-signal : (s : FrameShape) (bits : List Bool) (p k q : ℕ) → HasSignal s → 0 < s.signal → p + k * s.len ≡ q → is_right s (frame_of s (drop p bits) k) ≡ signal_at s bits q
frame-signal s bits p k q has some e = ap (λ x. is_right s (take s.len x)) (drop-drop (k * s.len) p bits ∙ ap (λ n. drop n bits) e) ∙ right-signal s bits q has some

-- a position is confirmed where three whole frames stand and the signal begins each
pub confirmed-signals : (s : FrameShape) (bits : List Bool) (p : ℕ) → HasSignal s → 0 < s.signal → p + 3 * s.len ≤ length bits
    → is_confirmed s (drop p bits) ≡ stands_thrice s bits p
confirmed-signals s bits p has some long =
    let whole : nat_le (3 * s.len) (length (drop p bits)) ≡ true = le-leb (3 * s.len) (length (drop p bits)) (omega (arith, long, length-drop p bits)) in
    rw (whole, frame-signal s bits p 0 p has some (omega arith), frame-signal s bits p 1 (p + s.len) has some (omega arith), frame-signal s bits p 2 (p + 2 * s.len) has some refl) refl

-- it isn't before they do
pub confirmed-part : (s : FrameShape) (bits : List Bool) (p : ℕ) → 0 < s.len → length bits < p + 3 * s.len → is_confirmed s (drop p bits) ≡ false
confirmed-part s bits p some short =
    let part : nat_le (3 * s.len) (length (drop p bits)) ≡ false = lt-leb (3 * s.len) (length (drop p bits)) (omega (arith, short, some, length-drop p bits)) in
    rw part refl

-- from the end of the third frame on, until the next position of the phase has come
pub confirmed-run : (s : FrameShape) (bits : List Bool) (p : ℕ) → IsFrame s → HasSignal s → 0 < s.signal → p + 3 * s.len ≤ length bits → length bits < p + 3 * s.len + s.signal
    → is_confirmed s (drop p bits) ≡ eqb (run_of s bits (p % s.len)) 3
confirmed-run s bits p frame has some long short =
    confirmed-signals s bits p has some long ∙ sym (three-run s bits p frame.some_slots (omega (arith, long, has.within), omega (arith, short)))
