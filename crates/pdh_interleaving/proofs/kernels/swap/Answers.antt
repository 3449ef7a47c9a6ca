use Rattle.std.proofs.Common.{◌≡◌, ℕ, ◌-◌, ◌*◌, ◌/◌, ◌%◌, ◌^◌, ◌<◌, bit_and, bit_xor, ap, ◌∙◌, arith}
use Rattle.std.proofs.lemmas.Nat.{shl_whole, and_le_r}
use Rattle.pdh_bits.specs.Bits.{bit}
use Rattle.pdh_interleaving.proofs.SwapLaws.{swapped_high, swapped_low}
use Rattle.pdh_interleaving.proofs.kernels.swap.Goals as goal

pub returns-clause-high : goal.returns-clause-high
returns-clause-high c k = swapped_high c.args.high c.args.low c.args.apart c.args.mask k

pub returns-clause-low : goal.returns-clause-low
returns-clause-low c k =
    let h = c.args.high in
    let l = c.args.low in
    let s = c.args.apart in
    let m = c.args.mask in
    let d : ℕ = bit_and (bit_xor h (l / 2 ^ s)) m in
    let small : d < 2 ^ (64 - s) = omega (arith, and_le_r (bit_xor h (l / 2 ^ s)) m, c.requires.within) in
    let whole : d * 2 ^ s % 2 ^ 64 ≡ d * 2 ^ s = shl_whole d (64 - s) s 64 small (omega (arith, c.requires.few)) in
    ap (λ (v : ℕ). bit (bit_xor l v) k) whole ∙ swapped_low h l s m k
