-- The place of a byte, as a search finds it.
use Rattle.std.proofs.Common.{◌≡◌, ◌==◌, ℕ, Bool, true, false, cond, List, length, position, Option, Some, None, ap, sym, ◌∙◌, arith, inl, inr}
use Rattle.std.specs.List.{position_or_len}
use Rattle.std.proofs.lemmas.Bool.{cases_Bool, lt-ltb, le-ltb}
use Rattle.std.proofs.lemmas.List.Sums.{position_or_len_is}
use Rattle.memchr.specs.Find.{IsFirstByte, is_byte}

not_true : (b : Bool) → ¬ (b ≡ true) → b ≡ false
not_true b isnt_true = elim (cases_Bool b) [ inl is ↦ absurd (isnt_true is) | inr isnt ↦ isnt ]

-- the first byte that is the mark, as a search gives it
pub first_byte : (mark : ℕ) (xs : List ℕ) (r : Option ℕ) → IsFirstByte (is_byte mark) xs r → r ≡ position (λ byte. byte == mark) xs
first_byte mark xs None h =
    let p : ℕ → Bool = λ byte. byte == mark in
    let end : position_or_len p xs ≡ length xs = position_or_len_is p xs (length xs) 0 (omega arith)
    (λ k l. not_true _ (h k (omega arith) l)) (λ l. absurd (omega (arith, l))) in
    sym (ap (λ b. cond b (Some (position_or_len p xs)) None) (le-ltb (position_or_len p xs) (length xs) (omega (arith, end))))
first_byte mark xs (Some k) h =
    let p : ℕ → Bool = λ byte. byte == mark in
    let end : position_or_len p xs ≡ k = position_or_len_is p xs k 0 (omega (arith, h.0.high))
    (λ j l. not_true _ (h.0.before j (omega arith) l)) (λ _. h.1) in
    sym (ap (λ b. cond b (Some (position_or_len p xs)) None) (lt-ltb (position_or_len p xs) (length xs) (omega (arith, end, h.0.high))) ∙ ap Some end)
