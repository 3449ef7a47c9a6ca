-- The far end alarm and control channel of C-bit parity (ANSI T1.107): one bit in each frame, and words of sixteen.
use Rattle.std.specs.Prelude.{◌≡◌, ◌≢◌, ℕ, ◌+◌, ◌-◌, ◌%◌, ◌<◌, Bool, true, false, not, ◌&&◌, Option, List, [], ◌∷◌, ◌++◌, length, take, replicate, find}
use Rattle.std.specs.Bool.{beq}
use Rattle.std.specs.List.{range_with_len, repeat, ends_with, slice_index_or}
use Rattle.pdh_cbit.specs.Bits.{bits_of}

-- the word of a code: eight ones, a zero, the six bits of the code, a zero
unfoldable pub word_of : ℕ → List Bool
word_of code = replicate 8 true ++ false ∷ (bits_of 6 code ++ false ∷ [])

-- a sender's bits, from its first on: those of the code's word again and again
unfoldable pub feac_bit : ℕ → ℕ → Bool
feac_bit code n = slice_index_or (word_of code) (n % 16) false

-- a code is told by ten of its words
unfoldable pub ten_words : ℕ → List Bool
ten_words code = repeat 10 (word_of code)

-- all bits but the last sixteen: those that had come by one word earlier
abbrev pub word_earlier : List Bool → List Bool
word_earlier bits = take (length bits - 16) bits

-- the code is answered at the last of these bits: they end in ten of its words, and one word earlier they didn't
unfoldable pub answers : List Bool → ℕ → Bool
answers bits code = ends_with beq bits (ten_words code) && not (ends_with beq (word_earlier bits) (ten_words code))

-- the code that is answered at the last of these bits
unfoldable pub answer_of : List Bool → Option ℕ
answer_of bits = find (answers bits) (range_with_len 0 64)

-- the bits end in ten words of the code
abbrev pub EndsInTen : List Bool → ℕ → Type 0
EndsInTen bits code = (earlier : List Bool) × (bits ≡ earlier ++ ten_words code)

-- what it is that a code is answered at the last of these bits
pub record AnswersCode (bits : List Bool) (code : ℕ) : Type 0 where
  pub fits : code < 64
  pub ten : EndsInTen bits code
  pub anew : ¬ EndsInTen (word_earlier bits) code
