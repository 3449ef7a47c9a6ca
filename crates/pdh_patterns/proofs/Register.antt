-- The bits that a register gives, in parts.
use Rattle.std.proofs.Common.{◌≡◌, ℕ, zero, suc, ◌+◌, Bool, List, [], ◌∷◌, ◌++◌, map, refl, ap, ◌∙◌, arith}
use Rattle.std.specs.List.{range_with_len}
use Rattle.std.proofs.lemmas.List.{map-append}
use Rattle.pdh_bits.specs.Bits.{bit}
use Rattle.pdh_line.proofs.Ranges.{range_append, map-range_shift, map-range_same_on}
use Rattle.pdh_patterns.specs.Pattern.{next_state, state_after, bits_from}

-- steps and then steps
pub state-then : (state n m : ℕ) → state_after state (n + m) ≡ state_after (state_after state n) m
unfolding state_after
state-then state n zero = ap (state_after state) (omega arith)
state-then state n (suc m) =
    let next : n + suc m ≡ suc (n + m) = omega arith in
    ap (state_after state) next ∙ ap next_state (state-then state n m)

-- the first bits, and those that the state then gives
pub bits-then : (state n m : ℕ) → bits_from state (n + m) ≡ bits_from state n ++ bits_from (state_after state n) m
bits-then state n m =
    let given : ℕ → ℕ → Bool = λ state i. bit (state_after state i) 14 in
    let none : 0 + n ≡ n + 0 = omega arith in
    ap (map (given state)) (range_append 0 n m) ∙ map-append (given state) (range_with_len 0 n) (range_with_len (0 + n) m)
    ∙ ap (λ k. bits_from state n ++ map (given state) (range_with_len k m)) none
    ∙ ap (λ (rest : List Bool). bits_from state n ++ rest)
    (map-range_shift (given state) n 0 m ∙ map-range_same_on (λ i. given state (n + i)) (given (state_after state n)) 0 m (λ i from to. ap (λ s. bit s 14) (state-then state n i)))

-- one bit
pub bits-one : (state : ℕ) → bits_from state 1 ≡ bit state 14 ∷ []
unfolding state_after
bits-one state = refl

pub state-one : (state : ℕ) → state_after state 1 ≡ next_state state
unfolding state_after
state-one state = refl

-- one more bit
pub bits-more : (state n : ℕ) → bits_from state (n + 1) ≡ bits_from state n ++ bit (state_after state n) 14 ∷ []
bits-more state n = bits-then state n 1 ∙ ap (λ (rest : List Bool). bits_from state n ++ rest) (bits-one (state_after state n))

pub state-more : (state n : ℕ) → state_after state (n + 1) ≡ next_state (state_after state n)
state-more state n = state-then state n 1 ∙ state-one (state_after state n)
