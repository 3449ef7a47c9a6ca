use Rattle.std.proofs.Common.{◌≡◌, ℕ, ◌-◌, ◌/◌, ◌%◌, ◌^◌, take, drop, sym, ap, ◌∙◌, arith}
use Rattle.pdh_packed.specs.Words.{low_bits}
use Rattle.pdh_packed.specs.WordLaws.{take_low, drop_low, low_bits-mod, low_bits_byte}
use Rattle.pdh_interleaving.proofs.turns.byte_at.Goals as goal

pub returns : goal.returns
returns c =
    let n = c.args.word in
    let place = c.args.place in
    let w : ℕ = 64 - place in
    let shift : w - 8 ≡ 56 - place = omega arith in
    let cut : drop place (low_bits 64 n) ≡ low_bits w n = drop_low place 64 n (omega arith) ∙ low_bits-mod w n in
    let first : take 8 (low_bits w n) ≡ low_bits 8 (n / 2 ^ (w - 8)) = take_low 8 w n (omega arith) in
    let x : ℕ = n / 2 ^ (56 - place) in
    sym (low_bits_byte (x % 256)) ∙ low_bits-mod 8 x ∙ ap (λ (k : ℕ). low_bits 8 (n / 2 ^ k)) (sym shift) ∙ sym first ∙ ap (take 8) (sym cut)
