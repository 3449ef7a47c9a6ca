use Rattle.std.proofs.Common.{ℕ, ◌-◌, length, not, sym, ap, ◌∙◌, arith}
use Rattle.std.specs.Int.{w64, leading_zeros}
use Rattle.std.specs.List.{prefix_len}
use Rattle.pdh_packed.proofs.BitwiseLaws.{leading_count}
use Rattle.pdh_packed.proofs.word.Word.leading_zeros.Goals as goal

pub overflow_sub-result-2 : goal.overflow_sub-result-2
overflow_sub-result-2 c =
    let both = leading_count (length c.args.self.now) c.number.result c.len.ensures.bounded c.number.ensures.small c.number.type_inv in
    omega (arith, both.0, c.len.ensures.count)

pub returns : goal.returns
returns c =
    let both = leading_count (length c.args.self.now) c.number.result c.len.ensures.bounded c.number.ensures.small c.number.type_inv in
    ap (λ (k : ℕ). leading_zeros w64 c.number.result - (64 - k)) c.len.ensures.count ∙ sym both.1 ∙ ap (prefix_len not) c.number.ensures.bits
