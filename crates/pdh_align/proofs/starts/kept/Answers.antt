use Rattle.std.proofs.Common.{◌≡◌, bit_and, length, sym, ap, ◌∙◌}
use Rattle.std.specs.Bool.{beq}
use Rattle.pdh_bits.specs.Bits.{bit}
use Rattle.pdh_packed.specs.Words.{low_bits}
use Rattle.pdh_align.proofs.StartLaws.{kept_at, same_bit, not_bit}
use Rattle.pdh_align.proofs.starts.kept.Goals as goal
use Rattle.pdh_align.proofs.starts.kept.Goals.{then-value, else-value}

pub returns-clause-kept : goal.returns-clause-kept
returns-clause-kept c i h =
    let candidates = c.args.candidates in
    let bits = c.args.bits in
    let x = c.number-2.result in
    let others = c.if-value.others in
    let is : c.of.result ≡ low_bits (length candidates) (bit_and x others) = c.of.ensures.bits ∙ ap (λ n. low_bits n (bit_and x others)) c.len.ensures.count in
    elim c.if-value.branch [
      | then-value w ↦
          kept_at candidates bits c.of.result x w.number-others.result others c.args.value i c.requires c.len.ensures.bounded c.number-2.ensures.bits w.number-others.ensures.bits is
          (λ k within. ap (λ n. bit n k) w.others-is ∙ same_bit (bit w.number-others.result k) ∙ ap (beq (bit w.number-others.result k)) (sym w.if-value.true)) h
      | else-value w ↦
          kept_at candidates bits c.of.result x w.number.result others c.args.value i c.requires c.len.ensures.bounded c.number-2.ensures.bits w.number.ensures.bits is
          (λ k within. ap (λ n. bit n k) w.others-is ∙ not_bit w.number.result k w.number.type_inv within ∙ ap (beq (bit w.number.result k)) (sym w.if-value.false)) h
    ]
