-- The bits of bytes, and the whole bytes of bits.
use Rattle.std.specs.Prelude.{◌≡◌, ℕ, ◌+◌, ◌*◌, ◌/◌, ◌%◌, ◌^◌, Bool, true, false, ◌==◌, if◌then◌else◌, List, [], ◌∷◌, ◌++◌, map, fold, refl}
use Rattle.std.specs.List.{flat_map}

-- bit k of a number: bit 0 is the least significant
abbrev pub bit : ℕ → ℕ → Bool
bit n k = (n / 2 ^ k) % 2 == 1

-- the eight bits of a byte, the most significant first
abbrev pub bits_of_byte : ℕ → List Bool
bits_of_byte byte = map (bit byte) (7 ∷ 6 ∷ 5 ∷ 4 ∷ 3 ∷ 2 ∷ 1 ∷ 0 ∷ [])

-- the bits of bytes: those of the first byte, then those of the second, and so on
abbrev pub bits_of : List ℕ → List Bool
bits_of bytes = flat_map bits_of_byte bytes

-- what a bit is worth: 1 or 0
abbrev pub bit_value : Bool → ℕ
bit_value b = if b then 1 else 0

-- a number with one more bit written after its own
abbrev pub with_bit : ℕ → Bool → ℕ
with_bit n b = 2 * n + bit_value b

-- the number that bits write, the most significant first
abbrev pub number_of : List Bool → ℕ
number_of bits = fold with_bit 0 bits

-- the whole bytes of bits, eight bits to a byte: up to seven last bits that fill no byte are left off
abbrev pub bytes_of : List Bool → List ℕ
bytes_of (b7 ∷ b6 ∷ b5 ∷ b4 ∷ b3 ∷ b2 ∷ b1 ∷ b0 ∷ rest) =
    number_of (b7 ∷ b6 ∷ b5 ∷ b4 ∷ b3 ∷ b2 ∷ b1 ∷ b0 ∷ []) ∷ bytes_of rest
bytes_of _ = []

-- worked by the checker: the bytes F4 10 are these sixteen bits, and these bits are the bytes F4 10
abbrev pub sixteen_bits : List Bool
sixteen_bits =
    true ∷ true ∷ true ∷ true ∷ false ∷ true ∷ false ∷ false
    ∷ false ∷ false ∷ false ∷ true ∷ false ∷ false ∷ false ∷ false ∷ []

pub bits_of-F4_10 : bits_of (0xF4 ∷ 0x10 ∷ []) ≡ sixteen_bits
bits_of-F4_10 = refl

pub bytes_of-sixteen_bits : bytes_of sixteen_bits ≡ 0xF4 ∷ 0x10 ∷ []
bytes_of-sixteen_bits = refl

-- three more bits fill no byte
pub bytes_of-nineteen_bits : bytes_of (sixteen_bits ++ true ∷ true ∷ true ∷ []) ≡ 0xF4 ∷ 0x10 ∷ []
bytes_of-nineteen_bits = refl
