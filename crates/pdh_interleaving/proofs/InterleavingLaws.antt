-- Numbers whose bits are those of tributaries in turn.
use Rattle.std.proofs.Common.{◌≡◌, ℕ, ◌+◌, ◌*◌, Bool, List, [], ◌∷◌, map, refl, sym, ◌∙◌, ap, arith}
use Rattle.std.specs.List.{fold, flat_map}
use Rattle.pdh_bits.specs.Bits.{bit, bits_of_byte, bit_value, with_bit, number_of}
use Rattle.pdh_packed.specs.Words.{low_bits}
use Rattle.pdh_packed.specs.WordLaws.{low_bits-fold}
use Rattle.pdh_interleaving.specs.Interleaving.{interleaved, with_bit_apart, spread}

-- one bit of each of seven tributaries
pub record Row7 : Type 0 where
  pub a : Bool
  pub b : Bool
  pub c : Bool
  pub d : Bool
  pub e : Bool
  pub f : Bool
  pub g : Bool

abbrev pub bits_of_row7 : Row7 → List Bool
bits_of_row7 row = row.a ∷ row.b ∷ row.c ∷ row.d ∷ row.e ∷ row.f ∷ row.g ∷ []

abbrev pub spread_rows7 : (Row7 → Bool) → ℕ → List Row7 → ℕ
spread_rows7 column n rows = fold (with_bit_apart 7) n (map column rows)

-- a row more after the rows before it
row_sum7 : (p q r s t u v a b c d e f g : ℕ) → 2 * (2 * (2 * (2 * (2 * (2 * (2 * (64 * p + 32 * q + 16 * r + 8 * s + 4 * t + 2 * u + v) + a) + b) + c) + d) + e) + f) + g ≡ 64 * (128 * p + a) + 32 * (128 * q + b) + 16 * (128 * r + c) + 8 * (128 * s + d) + 4 * (128 * t + e) + 2 * (128 * u + f) + (128 * v + g)
row_sum7 p q r s t u v a b c d e f g = omega arith

pub rows_written7 : (rows : List Row7) (p q r s t u v : ℕ) → fold with_bit (64 * p + 32 * q + 16 * r + 8 * s + 4 * t + 2 * u + v) (flat_map bits_of_row7 rows) ≡ 64 * spread_rows7 (λ row. row.a) p rows + 32 * spread_rows7 (λ row. row.b) q rows + 16 * spread_rows7 (λ row. row.c) r rows + 8 * spread_rows7 (λ row. row.d) s rows + 4 * spread_rows7 (λ row. row.e) t rows + 2 * spread_rows7 (λ row. row.f) u rows + spread_rows7 (λ row. row.g) v rows
rows_written7 [] p q r s t u v = refl
rows_written7 (row ∷ rows) p q r s t u v =
    ap (λ (n : ℕ). fold with_bit n (flat_map bits_of_row7 rows)) (row_sum7 p q r s t u v (bit_value row.a) (bit_value row.b) (bit_value row.c) (bit_value row.d) (bit_value row.e) (bit_value row.f) (bit_value row.g))
    ∙ rows_written7 rows (128 * p + bit_value row.a) (128 * q + bit_value row.b) (128 * r + bit_value row.c) (128 * s + bit_value row.d) (128 * t + bit_value row.e) (128 * u + bit_value row.f) (128 * v + bit_value row.g)

abbrev pub row7 : ℕ → ℕ → ℕ → ℕ → ℕ → ℕ → ℕ → ℕ → Row7
row7 a b c d e f g k = record { a = bit a k; b = bit b k; c = bit c k; d = bit d k; e = bit e k; f = bit f k; g = bit g k }

abbrev pub rows7 : ℕ → ℕ → ℕ → ℕ → ℕ → ℕ → ℕ → List Row7
rows7 a b c d e f g = map (row7 a b c d e f g) (7 ∷ 6 ∷ 5 ∷ 4 ∷ 3 ∷ 2 ∷ 1 ∷ 0 ∷ [])

rows_in_turn7 : (a b c d e f g : ℕ) → interleaved (map bits_of_byte (a ∷ b ∷ c ∷ d ∷ e ∷ f ∷ g ∷ [])) 8 ≡ flat_map bits_of_row7 (rows7 a b c d e f g)
unfolding interleaved
rows_in_turn7 a b c d e f g = refl

-- eight bits of each, spread and added
pub eight_in_turn7 : (a b c d e f g : ℕ) → low_bits 56 (64 * spread 7 (bits_of_byte a) + 32 * spread 7 (bits_of_byte b) + 16 * spread 7 (bits_of_byte c) + 8 * spread 7 (bits_of_byte d) + 4 * spread 7 (bits_of_byte e) + 2 * spread 7 (bits_of_byte f) + spread 7 (bits_of_byte g)) ≡ interleaved (map bits_of_byte (a ∷ b ∷ c ∷ d ∷ e ∷ f ∷ g ∷ [])) 8
eight_in_turn7 a b c d e f g =
    let bits : List Bool = flat_map bits_of_row7 (rows7 a b c d e f g) in
    let written : number_of bits ≡ 64 * spread 7 (bits_of_byte a) + 32 * spread 7 (bits_of_byte b) + 16 * spread 7 (bits_of_byte c) + 8 * spread 7 (bits_of_byte d) + 4 * spread 7 (bits_of_byte e) + 2 * spread 7 (bits_of_byte f) + spread 7 (bits_of_byte g) = rows_written7 (rows7 a b c d e f g) 0 0 0 0 0 0 0 in
    ap (low_bits 56) (sym written) ∙ low_bits-fold bits 0 ∙ sym (rows_in_turn7 a b c d e f g)
