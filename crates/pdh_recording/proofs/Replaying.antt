-- What was read ahead, given again.
use Rattle.std.proofs.Common.{◌≡◌, ℕ, ◌+◌, ◌-◌, ◌≤◌, ◌⊎◌, inl, inr, List, ◌++◌, get_or, take, drop, replicate, sym, ap, ◌∙◌, arith, append_assoc, take-append-drop}
use Rattle.std.proofs.lemmas.List.{replicate-append-replicate, drop-drop}
use Rattle.pdh_recording.specs.Parts.{passed_over}
use Rattle.pdh_recording.proofs.Passing.{passed_copies}

-- some of equal bytes in front of others are given
pub run_given : (run n value : ℕ) (front rest : List ℕ) → n ≤ run → front ≡ replicate n value → replicate run value ++ rest ≡ front ++ (replicate (run - n) value ++ rest)
run_given run n value front rest within same =
    let whole : n + (run - n) ≡ run = omega (arith, within) in
    ap (λ (l : List ℕ). l ++ rest) (ap (λ (m : ℕ). replicate m value) (sym whole) ∙ sym (replicate-append-replicate n (run - n) value))
    ∙ append_assoc (replicate n value) (replicate (run - n) value) rest ∙ ap (λ (l : List ℕ). l ++ (replicate (run - n) value ++ rest)) (sym same)

-- some of the bytes from a place on are given, in front of which no equal bytes are left
pub kept_given : (run value given n : ℕ) (bytes front : List ℕ) → run ≡ 0 → front ≡ take n (drop given bytes)
    → replicate run value ++ drop given bytes ≡ front ++ (replicate run value ++ drop (given + n) bytes)
kept_given run value given n bytes front none same =
    ap (λ (m : ℕ). replicate m value ++ drop given bytes) none ∙ sym (take-append-drop n (drop given bytes))
    ∙ ap (λ (l : List ℕ). take n (drop given bytes) ++ l) (drop-drop n given bytes) ∙ ap (λ (l : List ℕ). l ++ drop (given + n) bytes) (sym same)
    ∙ ap (λ (m : ℕ). front ++ (replicate m value ++ drop (given + n) bytes)) (sym none)

-- equal bytes of which the number alone is kept
pub passed_same : (run over value first : ℕ) (bytes : List ℕ) → (run ≡ 0) ⊎ (value ≡ first) → take over bytes ≡ replicate over first
    → replicate (run + over) first ++ drop over bytes ≡ replicate run value ++ bytes
passed_same run over value first bytes which copies =
    let rest = drop over bytes in
    let same : replicate run first ≡ replicate run value = elim which [
      | inl none ↦ ap (λ (m : ℕ). replicate m first) none ∙ sym (ap (λ (m : ℕ). replicate m value) none)
      | inr is ↦ ap (replicate run) (sym is)
    ] in
    ap (λ (l : List ℕ). l ++ rest) (sym (replicate-append-replicate run over first))
    ∙ append_assoc (replicate run first) (replicate over first) rest
    ∙ ap (λ (l : List ℕ). l ++ (replicate over first ++ rest)) same
    ∙ ap (λ (l : List ℕ). replicate run value ++ l) (ap (λ (l : List ℕ). l ++ rest) (sym copies) ∙ take-append-drop over bytes)

-- and so nothing is changed of what was read ahead
pub kept_passed : (run all over value first given : ℕ) (bytes rest : List ℕ) → (run ≡ 0) ⊎ (value ≡ first) → given ≡ 0 → all ≡ run + over → over ≡ passed_over bytes → first ≡ get_or bytes 0 0
    → rest ≡ drop over bytes → replicate all first ++ drop given rest ≡ replicate run value ++ drop given bytes
kept_passed run all over value first given bytes rest which none more many front left =
    let copies : take over bytes ≡ replicate over first = ap (λ (n : ℕ). take n bytes) many ∙ passed_copies bytes ∙ ap (λ (n : ℕ). replicate n (get_or bytes 0 0)) (sym many) ∙ ap (replicate over) (sym front) in
    ap (λ (n : ℕ). replicate all first ++ drop n rest) none ∙ ap (λ (n : ℕ). replicate n first ++ rest) more ∙ ap (λ (l : List ℕ). replicate (run + over) first ++ l) left
    ∙ passed_same run over value first bytes which copies ∙ ap (λ (n : ℕ). replicate run value ++ drop n bytes) (sym none)
