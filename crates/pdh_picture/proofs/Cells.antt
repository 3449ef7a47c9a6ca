-- How many bits a fine cell has.
use Rattle.std.proofs.Common.{◌≡◌, ◌≤◌, ◌<◌, ℕ, suc, ◌*◌, ◌/◌, ◌^◌, max, arith, ap, ◌∙◌, inl, inr}
use Rattle.std.proofs.Math.Nat.{mul-le-mul_right, pow-suc}
use Rattle.std.proofs.Math.Pow.{pow-lt, pow_mono}
use Rattle.std.proofs.lemmas.Bool.{cases_lt}
use Rattle.std.proofs.lemmas.Grind.{div_ceil_times}
use Rattle.std.proofs.lemmas.Nat.{pow_pos}
use Rattle.std.specs.Int.{div_ceil, IsPowerOfTwo}
use Rattle.pdh_picture.specs.Cells.{IsShift}

-- what is at most so many times a number has no more whole or begun parts of its size
ceil_le : (a b n : ℕ) → 0 < b → a ≤ n * b → div_ceil a b ≤ n
ceil_le a b n some within =
    elim (cases_lt n (div_ceil a b)) as (λ _. div_ceil a b ≤ n) [
      | inl more ↦ absurd (omega (arith, div_ceil_times a b some, mul-le-mul_right b more))
      | inr le ↦ le
    ]

-- twice a power of two is at most each larger one
twice_le : (less more : ℕ) → less < more → 2 * 2 ^ less ≤ 2 ^ more
twice_le less more below =
    let next : 2 ^ suc less ≤ 2 ^ more = pow_mono below in omega (arith, next, pow-suc 2 less)

-- two powers of two are one where the first is at most the second, and this is below twice the first
same_power : (shift k : ℕ) → 2 ^ shift ≤ 2 ^ k → 2 ^ k < 2 * 2 ^ shift → k ≡ shift
same_power shift k le lt =
    elim (cases_lt k shift) [
      | inl below ↦ let less : 2 ^ k < 2 ^ shift = pow-lt below in absurd (omega (arith, less))
      | inr above ↦
          elim (cases_lt shift k) [
            | inl far ↦ absurd (omega (arith, twice_le shift k far))
            | inr near ↦ omega (arith, above, near)
          ]
    ]

-- the least power of two from a 4,096th of the bits on is how many a fine cell has
pub is_shift : (bits power shift : ℕ) → IsPowerOfTwo power → div_ceil bits 4096 ≤ power → power / 2 < max 1 (div_ceil bits 4096)
    → 2 ^ shift ≤ power → power < 2 * 2 ^ shift → IsShift bits shift
is_shift bits power shift is enough least le lt =
    let same : power ≡ 2 ^ shift =
    is.1 ∙ ap (λ k. 2 ^ k) (same_power shift is.0 (omega (arith, is.1)) (omega (arith, is.1))) in
    record {
      enough = omega (arith, same, div_ceil_times bits 4096 (omega arith));
      least = λ other holds.
          elim (cases_lt other shift) [
            | inl below ↦
                let half : 2 * 2 ^ other ≤ 2 ^ shift = twice_le other shift below in
                let some : 0 < 2 ^ other = pow_pos other in
                let few : div_ceil bits 4096 ≤ 2 ^ other = ceil_le bits 4096 (2 ^ other) (omega arith) (omega (arith, holds)) in
                absurd (omega (arith, same, half, some, few, least))
            | inr above ↦ above
          ];
    }
