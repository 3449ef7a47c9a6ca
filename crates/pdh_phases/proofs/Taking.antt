-- Phases that took more bits.
use Rattle.std.proofs.Common.{◌≡◌, ℕ, zero, suc, ◌+◌, ◌-◌, ◌*◌, ◌/◌, ◌%◌, ◌<◌, ◌≤◌, ◌⊎◌, Bool, false, cond, eqb, refl, List, [], ◌∷◌, ◌++◌, length, drop, get_or, sym, ◌∙◌, ap, subst, inl, inr, arith, length-append, length-drop}
use Rattle.std.proofs.lemmas.Bool.{cases_lt, cases_eq, eq-eqb, ne_eqb}
use Rattle.std.proofs.lemmas.List.{drop-drop, drop-append-le}
use Rattle.std.proofs.Math.Nat.{zero-mod, mod-eq_of_lt, mod-add-div', add-mul-mod_self_right}
use Rattle.pdh_shape.specs.Frame.{FrameShape}
use Rattle.pdh_phases.specs.declared.planes.Planes.{Planes}
use Rattle.pdh_phases.specs.Runs.{signal_at, places, phase_below, run_of}
use Rattle.pdh_phases.specs.Keeping.{Kept, kept_of, StandsFor, Shows, longer, signals_in}
use Rattle.pdh_phases.proofs.Signals.{signal_at-append, signal_at-drop}
use Rattle.pdh_phases.proofs.RunLaws.{run_of-none, run_of-one_more, run_of-no_more}
use Rattle.pdh_phases.proofs.Confirming.{newest}
use Rattle.pdh_phases.proofs.Searching.{length-signals, signals-at}

-- no bit
pub stands_empty : (s : FrameShape) (planes : Planes) → 0 < s.signal → ((phase : ℕ) → Shows planes phase 0) → StandsFor s (kept_of [] 0 planes) []
stands_empty s planes some none =
    let nowhere : places s [] ≡ 0 = omega (arith, some) in
    record {
      last = sym (ap (λ n. drop n []) nowhere);
      phase = sym (ap (λ n. n % s.len) nowhere ∙ zero-mod s.len);
      runs = λ k h. subst (Shows planes k) (sym (run_of-none s [] k nowhere)) (none k);
    }

-- what more bits change, as the planes and the code tell it
pub record Taken (s : FrameShape) (kept : Kept) (word stands last : List Bool) (phase : ℕ) (planes : Planes) : Type 0 where
  pub stands_is : stands ≡ signals_in s (kept.last ++ word)
  pub last_is : last ≡ drop (length stands) (kept.last ++ word)
  pub within : kept.phase + length stands ≤ s.len
  pub phase_is : phase ≡ cond (eqb (kept.phase + length stands) s.len) 0 (kept.phase + length stands)
  pub inside : (i run : ℕ) → i < length stands → Shows kept.planes (kept.phase + i) run → Shows planes (kept.phase + i) (longer run (get_or stands i false))
  pub outside : (k run : ℕ) → (k < kept.phase) ⊎ (kept.phase + length stands ≤ k) → Shows kept.planes k run → Shows planes k run

-- a phase that comes so many after another, in this frame or as the first of the next
phase_on : (n m len : ℕ) → 0 < len → n % len + m ≤ len → cond (eqb (n % len + m) len) 0 (n % len + m) ≡ (n + m) % len
phase_on n m len some within =
    let parts : n % len + n / len * len ≡ n = mod-add-div' n len in
    elim (cases_eq (n % len + m) len) [
      | inl last ↦
          let whole : n + m ≡ 0 + (n / len + 1) * len = omega (arith, parts, last) in
          ap (λ b. cond b 0 (n % len + m)) (eq-eqb (n % len + m) len last) ∙ sym (ap (λ k. k % len) whole ∙ add-mul-mod_self_right 0 (n / len + 1) len ∙ zero-mod len)
      | inr other ↦
          let less : n % len + m < len = omega (arith, within, other) in
          let whole : n + m ≡ (n % len + m) + n / len * len = omega (arith, parts) in
          ap (λ b. cond b 0 (n % len + m)) (ne_eqb (n % len + m) len other) ∙ sym (ap (λ k. k % len) whole ∙ add-mul-mod_self_right (n % len + m) (n / len) len ∙ mod-eq_of_lt less)
    ]

-- the phase of a position that comes so many after another in one frame
phase_in : (n i len : ℕ) → n % len + i < len → (n + i) % len ≡ n % len + i
phase_in n i len h =
    let parts : n + i ≡ (n % len + i) + n / len * len = omega (arith, mod-add-div' n len) in
    ap (λ k. k % len) parts ∙ add-mul-mod_self_right (n % len + i) (n / len) len ∙ mod-eq_of_lt h

-- positions of which none has this phase
none_between : (s : FrameShape) (phase n m : ℕ) → ((i : ℕ) → i < m → (n + i) % s.len ≡ phase → ⊥) → phase_below s phase (n + m) ≡ phase_below s phase n
none_between s phase n zero none = ap (phase_below s phase) (omega arith)
none_between s phase n (suc m) none =
    let next : n + suc m ≡ suc (n + m) = omega arith in
    let no : eqb ((n + m) % s.len) phase ≡ false = ne_eqb ((n + m) % s.len) phase (none m (omega arith)) in
    ap (phase_below s phase) next ∙ ap (λ b. cond b ((n + m) ∷ phase_below s phase (n + m)) (phase_below s phase (n + m))) no ∙ none_between s phase n m (λ i h. none i (omega arith))

-- a phase that isn't among these
outside_is : (place m k i : ℕ) → (k < place) ⊎ (place + m ≤ k) → i < m → place + i ≡ k → ⊥
outside_is place m k i (inl before) h e = omega (arith, before, e)
outside_is place m k i (inr behind) h e = omega (arith, behind, e, h)

-- phases that took a word stand for it too
pub taken : (s : FrameShape) (kept : Kept) (word stands last : List Bool) (phase : ℕ) (planes : Planes) → 0 < s.len → 0 < s.signal
    → Taken s kept word stands last phase planes → (bits : List Bool) → StandsFor s kept bits → StandsFor s (kept_of last phase planes) (bits ++ word)
taken s kept word stands last phase planes slots some t bits h = record {
  last = t.last_is ∙ ap (drop m) window_is ∙ drop-drop m n more ∙ ap (λ k. drop k more) (sym count);
  phase = t.phase_is ∙ ap (λ k. cond (eqb (k + m) s.len) 0 (k + m)) h.phase ∙ phase_on n m s.len slots within ∙ ap (λ k. k % s.len) (sym count);
  runs = λ k lt. elim (cases_lt k (n % s.len)) [
    | inl before ↦ away k lt (inl before)
    | inr from ↦ elim (cases_lt k (n % s.len + m)) [ inl inside ↦ here k lt from inside | inr behind ↦ away k lt (inr behind) ]
  ];
}
  where
    n : ℕ
    n = places s bits

    m : ℕ
    m = length stands

    more : List Bool
    more = bits ++ word

    window_is : kept.last ++ word ≡ drop n more
    window_is = ap (λ x. x ++ word) h.last ∙ sym (drop-append-le n bits word (omega (arith, some)))

    found : m ≡ places s (drop n more)
    found = ap length t.stands_is ∙ length-signals s (kept.last ++ word) ∙ ap (places s) window_is

    count : places s more ≡ n + m
    count = omega (arith, found, length-drop n more, length-append bits word, some)

    within : n % s.len + m ≤ s.len
    within = subst (λ k. k + m ≤ s.len) h.phase t.within

    -- the signal stands where it stood
    same : (p : ℕ) → p < n → signal_at s more p ≡ signal_at s bits p
    same p lt = signal_at-append s bits word p (omega (arith, lt))

    -- and at the new positions where the word shows it
    new : (i : ℕ) → i < m → get_or stands i false ≡ signal_at s more (n + i)
    new i lt =
        ap (λ x. get_or x i false) (t.stands_is ∙ ap (signals_in s) window_is) ∙ signals-at s (drop n more) i (omega (arith, lt, found))
        ∙ signal_at-drop s more n i

    away : (k : ℕ) → k < s.len → (k < n % s.len) ⊎ (n % s.len + m ≤ k) → Shows planes k (run_of s more k)
    away k lt apart_is =
        let none : (i : ℕ) → i < m → (n + i) % s.len ≡ k → ⊥ = λ i h' e. outside_is (n % s.len) m k i apart_is h' (sym (phase_in n i s.len (omega (arith, h', within))) ∙ e) in
        let list : phase_below s k (places s more) ≡ phase_below s k n = ap (phase_below s k) count ∙ none_between s k n m none in
        let run : run_of s more k ≡ run_of s bits k = run_of-no_more s bits more k n list refl same in
        subst (Shows planes k) (sym run) (t.outside k (run_of s bits k) (subst (λ p. (k < p) ⊎ (p + m ≤ k)) (sym h.phase) apart_is) (h.runs k lt))

    here : (k : ℕ) → k < s.len → n % s.len ≤ k → k < n % s.len + m → Shows planes k (run_of s more k)
    here k lt from inside =
        let i : ℕ = k - n % s.len in
        let q : ℕ = n + i in
        let is_k : n % s.len + i ≡ k = omega (arith, from) in
        let few : i < m = omega (arith, from, inside) in
        let phase_is : q % s.len ≡ k = phase_in n i s.len (omega (arith, is_k, lt)) ∙ is_k in
        let none : (j : ℕ) → j < i → (n + j) % s.len ≡ k → ⊥ = λ j h' e. omega (arith, e, phase_in n j s.len (omega (arith, h', is_k, lt)), h', is_k) in
        let list : phase_below s k (places s more) ≡ q ∷ phase_below s k n =
        ap (phase_below s k) count ∙ newest s k q (n + m) phase_is (omega (arith, few)) (omega (arith, within)) ∙ ap (λ x. q ∷ x) (none_between s k n i none) in
        let run : run_of s more k ≡ longer (run_of s bits k) (signal_at s more q) = run_of-one_more s bits more k q n list refl same in
        let shown : Shows planes (kept.phase + i) (longer (run_of s bits k) (get_or stands i false)) =
        t.inside i (run_of s bits k) few (subst (λ p. Shows kept.planes p (run_of s bits k)) (sym (ap (λ p. p + i) h.phase ∙ is_k)) (h.runs k lt)) in
        subst (Shows planes k) (ap (longer (run_of s bits k)) (new i few) ∙ sym run)
        (subst (λ p. Shows planes p (longer (run_of s bits k) (get_or stands i false))) (ap (λ p. p + i) h.phase ∙ is_k) shown)

-- no position is passed
pub phase_stays : (phase len : ℕ) → phase < len → phase ≡ cond (eqb (phase + 0) len) 0 (phase + 0)
phase_stays phase len within =
    let other : eqb (phase + 0) len ≡ false = ne_eqb (phase + 0) len (λ e. omega (arith, e, within)) in
    let same : phase ≡ phase + 0 = omega arith in
    same ∙ sym (ap (λ b. cond b 0 (phase + 0)) other)
