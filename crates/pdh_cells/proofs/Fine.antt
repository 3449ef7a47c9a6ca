-- Bits and the fine cells in which they are.
use Rattle.std.proofs.Common.{◌≡◌, ℕ, suc, ◌+◌, ◌*◌, ◌/◌, ◌%◌, ◌^◌, ◌<◌, ◌≤◌, inl, inr, sym, arith}
use Rattle.std.proofs.lemmas.Bool.{cases_lt}
use Rattle.std.proofs.lemmas.Nat.{pow_pos, shr_split, shr-shr, div_below}
use Rattle.std.proofs.Math.Nat.{mul-le-mul_right}
use Rattle.std.proofs.Math.Pow.{pow_mono}
use Rattle.pdh_cells.specs.Contents.{fine_cell}

-- a bit past the last fine cell is far
is_past : (shift bit : ℕ) → 4096 ≤ fine_cell shift bit → 4096 * 2 ^ shift ≤ bit
is_past shift bit past =
    let whole : bit / 2 ^ shift * 2 ^ shift + bit % 2 ^ shift ≡ bit = shr_split bit shift in
    let most : 4096 * 2 ^ shift ≤ bit / 2 ^ shift * 2 ^ shift = mul-le-mul_right (2 ^ shift) past in
    omega (arith, whole, most)

-- a bit within the fine cells
pub is_within : (shift bit : ℕ) → bit < 4096 * 2 ^ shift → fine_cell shift bit < 4096
is_within shift bit within = div_below bit (2 ^ shift) 4096 (pow_pos shift) within

pub is_enough : (shift bit : ℕ) → fine_cell shift bit < 4096 → suc bit ≤ 4096 * 2 ^ shift
is_enough shift bit inside =
    let whole : bit / 2 ^ shift * 2 ^ shift + bit % 2 ^ shift ≡ bit = shr_split bit shift in
    let some : 0 < 2 ^ shift = pow_pos shift in
    let part : bit % 2 ^ shift < 2 ^ shift = omega (arith, some) in
    let few : bit / 2 ^ shift ≤ 4095 = omega (arith, inside) in
    let most : bit / 2 ^ shift * 2 ^ shift ≤ 4095 * 2 ^ shift = mul-le-mul_right (2 ^ shift) few in
    omega (arith, whole, part, most)

-- where a bit is past the last fine cell, wider ones are needed
pub needs_more : (shift other bit : ℕ) → 4096 ≤ fine_cell shift bit → suc bit ≤ 4096 * 2 ^ other → suc shift ≤ other
needs_more shift other bit past enough =
    elim (cases_lt shift other) [
      | inl more ↦ omega (arith, more)
      | inr few ↦
          let power : 2 ^ other ≤ 2 ^ shift = pow_mono few in
          let far : 4096 * 2 ^ shift ≤ bit = is_past shift bit past in
          absurd (omega (arith, far, power, enough))
    ]

pub is_small : (shift bit : ℕ) → bit < 2 ^ 64 → 4096 ≤ fine_cell shift bit → suc shift ≤ 52
is_small shift bit fits past = needs_more shift 52 bit past (omega (arith, fits))

-- fine cells of twice the bits
pub halved : (shift bit : ℕ) → fine_cell (shift + 1) bit ≡ fine_cell shift bit / 2
halved shift bit = sym (shr-shr bit shift 1)
