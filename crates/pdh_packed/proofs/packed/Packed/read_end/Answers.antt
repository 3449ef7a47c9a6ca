use Rattle.std.proofs.Common.{◌≡◌, ℕ, ◌-◌, ◌++◌, min, Bool, List, false, length, take, drop, replicate, inl, inr, ap, sym, ◌∙◌, arith, length-drop, length-take}
use Rattle.std.proofs.lemmas.Bool.{cases_lt}
use Rattle.std.proofs.lemmas.List.{take_all, drop_all, take-replicate, take-append-le, append-nil}
use Rattle.pdh_packed.specs.Words.{low_bits}
use Rattle.pdh_packed.specs.Places.{between_zeros}
use Rattle.pdh_packed.proofs.PackedLaws.{take_past}
use Rattle.pdh_packed.proofs.PlacesLaws.{length-between}
use Rattle.pdh_packed.proofs.packed.Packed.read_end.Goals as goal

-- zeros behind the bits that there are
zeros_behind : (bits : List Bool) (n : ℕ) → n ≡ min (length bits) 64 → take n bits ++ replicate (64 - n) false ≡ take 64 (bits ++ replicate 64 false)
zeros_behind bits n is = elim (cases_lt (length bits) 64) [
  | inl short ↦
      let all : take n bits ≡ bits = take_all n bits (omega (arith, is, short)) in
      let same : n ≡ length bits = omega (arith, is, short) in
      ap (λ (x : List Bool). x ++ replicate (64 - n) false) all
      ∙ ap (λ (x : List Bool). bits ++ x) (ap (λ (k : ℕ). replicate (64 - k) false) same ∙ sym (take-replicate (64 - length bits) 64 false (omega arith)))
      ∙ sym (take_past 64 bits (replicate 64 false) (omega (arith, short)))
  | inr long ↦
      let whole : n ≡ 64 = omega (arith, is, long) in
      ap (λ (k : ℕ). take k bits ++ replicate (64 - k) false) whole ∙ append-nil (take 64 bits) ∙ sym (take-append-le 64 bits (replicate 64 false) long)
]

-- no bits from the end on
dropped_same : (bits : List Bool) (place from : ℕ) → from ≡ min place (length bits) → drop from bits ≡ drop place bits
dropped_same bits place from is = elim (cases_lt place (length bits)) [
  | inl within ↦
      let same : from ≡ place = omega (arith, is, within) in
      ap (λ (n : ℕ). drop n bits) same
  | inr past ↦ drop_all from bits (omega (arith, is, past)) ∙ sym (drop_all place bits past)
]

pub returns : goal.returns
returns c =
    let bits = c.args.self.now.bits in
    let place = c.args.place in
    let from = c.min-from.result in
    let word = c.read.result in
    let n : ℕ = c.min-count.result in
    let x = c.number.result in
    let rest : drop from bits ≡ drop place bits = dropped_same bits place from (omega (arith, c.min-from.ensures, c.len.ensures.count)) in
    let count : n ≡ min (length (drop place bits)) 64 = omega (arith, c.min-count.ensures, c.len-2.ensures.count, c.min-from.ensures, c.len.ensures.count, length-drop place bits) in
    let read : word ≡ take n (drop place bits) = c.read.ensures ∙ ap (take n) rest in
    let long : length word ≡ n = omega (arith, ap length read, length-take n (drop place bits), count) in
    let whole : length c.placed.result ≡ 64 = omega (arith, ap length c.placed.ensures, length-between 0 (64 - 0 - length word) word, long, count) in
    ap (λ (k : ℕ). low_bits k x) (sym whole) ∙ c.number.ensures.bits ∙ c.placed.ensures
    ∙ ap (λ (k : ℕ). between_zeros 0 word (64 - 0 - k)) long ∙ ap (λ (w : List Bool). between_zeros 0 w (64 - 0 - n)) read
    ∙ zeros_behind (drop place bits) n count
