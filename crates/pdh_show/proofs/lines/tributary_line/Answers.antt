use Rattle.std.proofs.Common.{◌≤◌, ◌+◌, ◌^◌, ℕ, length, length-append, ap, arith}
use Rattle.std.specs.Prelude.{decimal}
use Rattle.std.proofs.lemmas.Fmt.{length-decimal-le}
use Rattle.pdh_show.proofs.lines.tributary_line.Goals as goal

-- a number of 32 bits has at most ten digits
few_digits : (n : ℕ) → n ≤ 2 ^ 32 → length (decimal n) ≤ 10
few_digits n few = length-decimal-le 10 n (omega arith) (omega (arith, few)) (omega (arith, few))

pub number-requires : goal.number-requires
number-requires g c =
    omega (arith, few_digits (c.from.result + 1) (omega (arith, c.from.ensures, c.ranges.trib.fits)), c.text.ensures.len, ap length c.new-line.ensures)

pub number-requires-2 : goal.number-requires-2
number-requires-2 g c =
    omega (arith, few_digits c.carried.result c.carried.ensures.few, c.text-2.ensures.len, c.append_controls.ensures.len, c.number.ensures.len, c.text.ensures.len, ap length c.new-line.ensures)

pub text-requires-3 : goal.text-requires-3
text-requires-3 g c =
    omega (
      arith,
      ap length c.number-2.ensures.bytes,
      length-append c.text-2.new.self (decimal c.carried.result),
      few_digits c.carried.result c.carried.ensures.few,
      c.text-2.ensures.len,
      c.append_controls.ensures.len,
      c.number.ensures.len,
      c.text.ensures.len,
      ap length c.new-line.ensures,
    )

pub returns-clause-len : goal.returns-clause-len
returns-clause-len g c =
    omega (
      arith,
      c.text-3.ensures.len,
      ap length c.number-2.ensures.bytes,
      length-append c.text-2.new.self (decimal c.carried.result),
      few_digits c.carried.result c.carried.ensures.few,
      c.text-2.ensures.len,
      c.append_controls.ensures.len,
      c.number.ensures.len,
      c.text.ensures.len,
      ap length c.new-line.ensures,
    )
