-- The test pattern of a leaf: the bits of a shift register of 15 bits, which is that of ITU-T O.150's pattern of 32,767 bits,
-- x^15 + x^14 + 1. How a leaf's pattern begins is this project's own.
use Rattle.std.specs.Prelude.{◌≡◌, ℕ, zero, suc, ◌+◌, ◌*◌, ◌%◌, Bool, not, List, [], ◌∷◌, refl}
use Rattle.std.specs.Bool.{beq}
use Rattle.pdh_bits.specs.Bits.{bit, bit_value, bits_of}
use Rattle.pdh_line.specs.Sending.{front}

-- the state that a leaf's pattern begins with: never 0, which a register wouldn't leave
abbrev pub first_state : ℕ → ℕ → ℕ
first_state seed leaf = (64 * seed + leaf) % 32767 + 1

-- one of two bits is 1
abbrev pub differ : Bool → Bool → Bool
differ a b = not (beq a b)

-- a step shifts the register up by one bit; its new least bit is the sum of bit 14, the most significant, and bit 13
abbrev pub next_state : ℕ → ℕ
next_state state = 2 * state % 32768 + bit_value (differ (bit state 14) (bit state 13))

-- the state n steps later
unfoldable pub state_after : ℕ → ℕ → ℕ
state_after state zero = state
state_after state (suc n) = next_state (state_after state n)

-- the next n bits of a register in this state: of each state the most significant bit
abbrev pub bits_from : ℕ → ℕ → List Bool
bits_from state n = front (λ i. bit (state_after state i) 14) n

-- the state from which bit n of a leaf's pattern is given
abbrev pub pattern_state : ℕ → ℕ → ℕ → ℕ
pattern_state seed leaf n = state_after (first_state seed leaf) n

-- bit n of the pattern of a leaf, counted from 0: the most significant bit of the state
abbrev pub pattern_bit : ℕ → ℕ → ℕ → Bool
pattern_bit seed leaf n = bit (pattern_state seed leaf n) 14

-- its first n bits
abbrev pub pattern : ℕ → ℕ → ℕ → List Bool
pattern seed leaf n = front (pattern_bit seed leaf) n

-- a pattern with this state has given its first n bits
abbrev pub HasGiven : ℕ → ℕ → ℕ → ℕ → Type 0
HasGiven seed leaf n state = state ≡ pattern_state seed leaf n

-- worked by the checker: the pattern of seed 1 and leaf 0 begins with the bytes 00 82 03 0C
pub pattern-00_82_03_0C : pattern 1 0 32 ≡ bits_of (0x00 ∷ 0x82 ∷ 0x03 ∷ 0x0C ∷ [])
unfolding state_after
pattern-00_82_03_0C = refl
