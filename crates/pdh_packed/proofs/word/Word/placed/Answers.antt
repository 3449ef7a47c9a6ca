use Rattle.std.proofs.Common.{◌≡◌, ℕ, ◌-◌, ◌*◌, ◌%◌, ◌^◌, length, ap, ◌∙◌, arith}
use Rattle.pdh_packed.specs.Words.{low_bits}
use Rattle.pdh_packed.proofs.BitwiseLaws.{placed_bits, placed_none}
use Rattle.pdh_packed.proofs.word.Word.placed.Goals as goal

pub returns-then-count-eq0 : goal.returns-then-count-eq0
returns-then-count-eq0 c =
    let none : length c.args.self.now ≡ 0 = omega (arith, c.len-count.ensures.count, c.if-count-eq0.true) in
    c.copies.ensures ∙ placed_none c.args.self.now c.args.place _ none (omega (arith, none, c.requires))

pub returns : goal.returns
returns c =
    let bits = c.args.self.now in
    let behind : ℕ = 64 - c.args.place - length bits in
    let shift : 64 - c.args.place - c.len-count.result ≡ behind = omega (arith, c.len-count.ensures.count) in
    c.of.ensures.bits ∙ ap (λ (k : ℕ). low_bits 64 (c.number.result * 2 ^ k % 2 ^ 64)) shift
    ∙ placed_bits bits c.number.result c.args.place behind (omega (arith, c.requires)) c.number.ensures.small c.number.ensures.bits
