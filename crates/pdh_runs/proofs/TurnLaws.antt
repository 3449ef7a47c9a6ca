-- The turns of a frame's payload: in which each slot of a tributary stands, and how many its slots have had before a slot.
use Rattle.std.proofs.Common.{◌≡◌, ℕ, zero, suc, ◌+◌, ◌-◌, ◌*◌, ◌/◌, ◌%◌, ◌<◌, ◌≤◌, Bool, true, false, ◌&&◌, ◌==◌, cond, refl, sym, ap, ◌∙◌, inl, inr, arith, add-one, eq-eqb}
use Rattle.std.proofs.lemmas.Bool.{cases_lt, cases_eq, cases_Bool, eqb-true}
use Rattle.std.proofs.lemmas.Nat.{div-mul-add, div-add-mod', mod_below, le-div}
use Rattle.pdh_shape.specs.Frame.{FrameShape}
use Rattle.pdh_shape.specs.Tributary.{reads_from, reads_below}
use Rattle.pdh_shape.specs.Payload.{PayloadInTurn, is_payload, payload_before}
use Rattle.pdh_runs.specs.Pieces.{turn}
use Rattle.pdh_runs.proofs.ColumnLaws.{turn_tested}
use Rattle.pdh_runs.proofs.Counts.{before_next}

-- ---- numbers that are dealt to n in turn

-- as many of the numbers below p leave j as this
abbrev pub dealt_below : ℕ → ℕ → ℕ → ℕ
dealt_below n j p = (p + (n - 1 - j)) / n

quotient : (n p q r : ℕ) → p ≡ q * n + r → r < n → p / n ≡ q
quotient n p q r is less = ap (λ k. k / n) is ∙ div-mul-add q n r less

pub dealt_next : (n j p : ℕ) → j < n → dealt_below n j (p + 1) ≡ dealt_below n j p + cond (p % n == j) 1 0
dealt_next n j p known =
    let q : ℕ = p / n in
    let r : ℕ = p % n in
    let parts : q * n + r ≡ p = div-add-mod' p n in
    let less : r < n = mod_below p n (omega (arith, known)) in
    elim (cases_eq r j) [
      | inl same ↦
          let here : (r == j) ≡ true = eq-eqb r j same in
          let now : p + (n - 1 - j) ≡ q * n + (n - 1) = omega (arith, parts, same, known) in
          let next : p + 1 + (n - 1 - j) ≡ suc q * n + 0 = omega (arith, parts, same, known) in
          quotient n (p + 1 + (n - 1 - j)) (suc q) 0 next (omega (arith, known)) ∙ omega (arith, quotient n (p + (n - 1 - j)) q (n - 1) now (omega (arith, known)), ap (λ b. q + cond b 1 0) here)
      | inr other ↦
          let here : (r == j) ≡ false = false_from (r == j) (λ so. other (eqb-true r j so)) in
          elim (cases_lt r j) [
            | inl before ↦
                let now : p + (n - 1 - j) ≡ q * n + (r + (n - 1 - j)) = omega (arith, parts) in
                let next : p + 1 + (n - 1 - j) ≡ q * n + (r + 1 + (n - 1 - j)) = omega (arith, parts) in
                quotient n (p + 1 + (n - 1 - j)) q (r + 1 + (n - 1 - j)) next (omega (arith, before, known))
                ∙ omega (arith, quotient n (p + (n - 1 - j)) q (r + (n - 1 - j)) now (omega (arith, before, known)), ap (λ b. q + cond b 1 0) here)
            | inr after ↦
                let now : p + (n - 1 - j) ≡ suc q * n + (r - 1 - j) = omega (arith, parts, after, other, known) in
                let next : p + 1 + (n - 1 - j) ≡ suc q * n + (r - j) = omega (arith, parts, after, other, known) in
                quotient n (p + 1 + (n - 1 - j)) (suc q) (r - j) next (omega (arith, less))
                ∙ omega (arith, quotient n (p + (n - 1 - j)) (suc q) (r - 1 - j) now (omega (arith, less)), ap (λ b. q + cond b 1 0) here)
          ]
    ]
  where
    false_from : (b : Bool) → (b ≡ true → ⊥) → b ≡ false
    false_from true never = absurd (never refl)
    false_from false never = refl

-- at a number that leaves j it is the number's turn
pub dealt_here : (n j p : ℕ) → j < n → p % n ≡ j → dealt_below n j p ≡ p / n
dealt_here n j p known leaves =
    let parts : p / n * n + p % n ≡ p = div-add-mod' p n in
    let now : p + (n - 1 - j) ≡ p / n * n + (n - 1) = omega (arith, parts, leaves, known) in
    quotient n (p + (n - 1 - j)) (p / n) (n - 1) now (omega (arith, known))

-- it is the turn or one more
pub dealt_bounds : (n j p : ℕ) → j < n → (p / n ≤ dealt_below n j p) × (dealt_below n j p ≤ p / n + 1)
dealt_bounds n j p known =
    let q : ℕ = p / n in
    let r : ℕ = p % n in
    let parts : q * n + r ≡ p = div-add-mod' p n in
    let less : r < n = mod_below p n (omega (arith, known)) in
    elim (cases_lt j r) [
      | inl past ↦
          let now : p + (n - 1 - j) ≡ suc q * n + (r - 1 - j) = omega (arith, parts, past, known) in
          let is : dealt_below n j p ≡ suc q = quotient n (p + (n - 1 - j)) (suc q) (r - 1 - j) now (omega (arith, less)) in
          (omega (arith, is), omega (arith, is))
      | inr yet ↦
          let now : p + (n - 1 - j) ≡ q * n + (r + (n - 1 - j)) = omega (arith, parts) in
          let is : dealt_below n j p ≡ q = quotient n (p + (n - 1 - j)) q (r + (n - 1 - j)) now (omega (arith, yet, known)) in
          (omega (arith, is), omega (arith, is))
    ]

-- the turns begun before p, of which each number has had its own or will have it next
pub dealt_begun : (n j p : ℕ) → j < n → (dealt_below n j p ≤ (p + n - 1) / n) × ((p + n - 1) / n ≤ dealt_below n j p + 1)
dealt_begun n j p known =
    let m : ℕ = p + (n - 1 - j) in
    let q : ℕ = m / n in
    let r : ℕ = m % n in
    let parts : q * n + r ≡ m = div-add-mod' m n in
    let less : r < n = mod_below m n (omega (arith, known)) in
    elim (cases_lt (r + j) n) [
      | inl yet ↦
          let now : p + n - 1 ≡ q * n + (r + j) = omega (arith, parts, known) in
          let is : (p + n - 1) / n ≡ q = quotient n (p + n - 1) q (r + j) now yet in
          (omega (arith, is), omega (arith, is))
      | inr past ↦
          let now : p + n - 1 ≡ suc q * n + (r + j - n) = omega (arith, parts, known, past) in
          let is : (p + n - 1) / n ≡ suc q = quotient n (p + n - 1) (suc q) (r + j - n) now (omega (arith, less, known)) in
          (omega (arith, is), omega (arith, is))
    ]

pub turn_grows : (n p p' : ℕ) → 0 < n → p ≤ p' → p / n ≤ p' / n
turn_grows n p p' some h = le-div (p / n) p' n some (omega (arith, div-add-mod' p n, h))

-- ---- the payload of a frame

module _ (s : FrameShape) (turns : PayloadInTurn s) (j : ℕ) (known : j < s.tribs) where
  -- the payload slots before slot t that are those of tributary j
  pub reads_are : (t : ℕ) → t ≤ s.len → reads_below s j true t ≡ dealt_below s.tribs j (payload_before s t)
  reads_are zero within = sym (quotient s.tribs (0 + (s.tribs - 1 - j)) 0 (s.tribs - 1 - j) (omega arith) (omega (arith, known)))
  reads_are (suc t) within =
      let p : ℕ = payload_before s t in
      let before : reads_below s j true t ≡ dealt_below s.tribs j p = reads_are t (omega (arith, within)) in
      let reads : reads_below s j true (suc t) ≡ reads_below s j true t + cond (reads_from j true (s.role t)) 1 0 = ap (reads_below s j true) (sym (add-one t)) ∙ before_next (λ slot. reads_from j true (s.role slot)) t in
      let payload : payload_before s (suc t) ≡ p + cond (is_payload (s.role t)) 1 0 = ap (payload_before s) (sym (add-one t)) ∙ before_next (λ slot. is_payload (s.role slot)) t in
      let test : reads_from j true (s.role t) ≡ (is_payload (s.role t) && (p % s.tribs == j)) = turn_tested s t j turns (omega (arith, within)) in
      elim (cases_Bool (is_payload (s.role t))) [
        | inl pass ↦
            reads ∙ ap (λ n. n + cond (reads_from j true (s.role t)) 1 0) before ∙ ap (λ b. dealt_below s.tribs j p + cond b 1 0) (test ∙ ap (λ b. b && (p % s.tribs == j)) pass)
            ∙ sym (dealt_next s.tribs j p known) ∙ ap (dealt_below s.tribs j) (sym (payload ∙ ap (λ b. p + cond b 1 0) pass))
        | inr fail ↦
            let none : payload_before s (suc t) ≡ p = payload ∙ ap (λ b. p + cond b 1 0) fail ∙ omega arith in
            reads ∙ ap (λ b. reads_below s j true t + cond b 1 0) (test ∙ ap (λ b. b && (p % s.tribs == j)) fail) ∙ omega (arith, before, ap (dealt_below s.tribs j) none)
      ]

  -- a slot of the tributary stands in the turn that it has next
  pub turn_is : (t : ℕ) → t < s.len → reads_from j true (s.role t) ≡ true → turn s t ≡ reads_below s j true t
  turn_is t within reads =
      sym (reads_are t (omega (arith, within)) ∙ dealt_here s.tribs j (payload_before s t) known (sym (turns.turn t j within reads)))
