use Rattle.std.proofs.Common.{◌≡◌, ℕ, ◌+◌, ◌-◌, ◌*◌, ◌%◌, ◌^◌, ◌++◌, length, take, drop, sym, ap, ◌∙◌, arith, length-take, length-drop}
use Rattle.std.proofs.lemmas.List.{take_at}
use Rattle.std.proofs.lemmas.Nat.{pow_pos}
use Rattle.pdh_packed.specs.Words.{low_bits}
use Rattle.pdh_packed.specs.WordLaws.{length-low_bits, shifted_in}
use Rattle.pdh_packed.proofs.packed.Packed.read_left.Goals as goal

pub returns : goal.returns
returns c =
    let bits = c.args.self.now.bits in
    let count = c.args.count in
    let place = c.args.place in
    let m : ℕ = 64 - count in
    let n = c.number.result in
    let x : ℕ = n * 2 ^ m % 2 ^ 64 in
    let whole : count + m ≡ 64 = omega (arith, c.requires.few) in
    let long : length c.read.result ≡ count = omega (arith, ap length c.read.ensures, length-take count (drop place bits), length-drop place bits, c.requires.within) in
    let written : low_bits count n ≡ take count (drop place bits) = ap (λ (k : ℕ). low_bits k n) (sym long) ∙ c.number.ensures.bits ∙ c.read.ensures in
    let same : (x + 0) % 2 ^ 64 ≡ x = omega arith in
    let joined : low_bits 64 x ≡ low_bits count n ++ low_bits m 0 = ap (low_bits 64) (sym same) ∙ shifted_in count m n 0 whole (pow_pos m) in
    ap (take count) joined ∙ take_at (low_bits count n) (low_bits m 0) count (length-low_bits count n) ∙ written
