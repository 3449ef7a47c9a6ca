-- A search in a range, and the count of wrong slots, step by step.
use Rattle.std.proofs.Common.{◌≡◌, ℕ, zero, suc, ◌+◌, ◌<◌, ◌≤◌, Bool, true, false, ◌||◌, cond, refl, sym, ap, ◌∙◌, inl, inr, arith, add-one}
use Rattle.std.specs.List.{range_with_len, list_any}
use Rattle.std.proofs.lemmas.Bool.{cases_eq}
use Rattle.pdh_shape.specs.declared.role.Marks.{Marks}
use Rattle.pdh_shape.specs.laws.Ranges.{count_push}
use Rattle.pdh_ds.specs.declared.loss.LossRule.{LossRule}
use Rattle.pdh_ds.specs.Loss.{wrong_of_two, wrong_in}

or_left : (a b : Bool) → a ≡ true → (a || b) ≡ true
or_left true b h = refl
or_left false b h = cc

or_right : (a b : Bool) → b ≡ true → (a || b) ≡ true
or_right true b h = refl
or_right false b h = h

or_none : (a b : Bool) → (a || b) ≡ false → (a ≡ false) × (b ≡ false)
or_none true b h = cc
or_none false b h = (refl, h)

none_or : (a b : Bool) → a ≡ false → b ≡ false → (a || b) ≡ false
none_or true b h h' = cc
none_or false b h h' = h'

-- a number of a range that passes
pub any_at : (p : ℕ → Bool) (a n k : ℕ) → a ≤ k → k < a + n → p k ≡ true → list_any p (range_with_len a n) ≡ true
any_at p a zero k h h' is = absurd (omega arith)
any_at p a (suc n) k h h' is =
    elim (cases_eq k a) [
      | inl same ↦ or_left (p a) (list_any p (range_with_len (a + 1) n)) (ap p (sym same) ∙ is)
      | inr other ↦ or_right (p a) (list_any p (range_with_len (a + 1) n)) (any_at p (a + 1) n k (omega arith) (omega arith) is)
    ]

-- none of the first numbers passes, nor does the next
pub none_push : (p : ℕ → Bool) (n : ℕ) → list_any p (range_with_len 0 n) ≡ false → p n ≡ false → list_any p (range_with_len 0 (n + 1)) ≡ false
none_push p n none next = ap (λ k. list_any p (range_with_len 0 k)) (add-one n) ∙ from 0 n (omega arith) none
  where
    from : (a m : ℕ) → a + m ≡ n → list_any p (range_with_len a m) ≡ false → list_any p (range_with_len a (suc m)) ≡ false
    from a zero e none =
        let here : a ≡ n = omega arith in
        none_or (p a) false (ap p here ∙ next) refl
    from a (suc m) e none =
        let parts = or_none (p a) (list_any p (range_with_len (a + 1) m)) none in
        none_or (p a) (list_any p (range_with_len (a + 1) (suc m))) parts.0 (from (a + 1) m (omega arith) parts.1)

one_at_most : (b : Bool) → cond b 1 0 ≤ 1
one_at_most true = omega arith
one_at_most false = omega arith

-- the wrong slots so far are counted
abbrev pub Counted : LossRule → Marks → Marks → ℕ → ℕ → ℕ → Type 0
Counted rule before here first k wrong = (wrong ≡ wrong_in rule before here first k) × (wrong ≤ k)

-- with the next one
pub counted_push : (rule : LossRule) (before here : Marks) (first k wrong one : ℕ) (so : Bool) → Counted rule before here first k wrong
    → so ≡ wrong_of_two rule.framing before here (first + k) → one ≡ cond so 1 0 → Counted rule before here first (k + 1) (wrong + one)
counted_push rule before here first k wrong one so counted is one_is =
    let one_more : one ≡ cond (wrong_of_two rule.framing before here (first + k)) 1 0 = one_is ∙ ap (λ b. cond b 1 0) is in
    let more : wrong_in rule before here first (k + 1) ≡ wrong_in rule before here first k + cond (wrong_of_two rule.framing before here (first + k)) 1 0 =
    count_push (λ k. wrong_of_two rule.framing before here (first + k)) k in
    (omega (arith, counted.0, one_more, more), omega (arith, counted.1, one_is, one_at_most so))
