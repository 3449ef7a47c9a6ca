use Rattle.std.proofs.Common.{◌≡◌, true, false, length, replicate, sym, ap, ◌∙◌, arith}
use Rattle.std.proofs.lemmas.List.{length-replicate}
use Rattle.pdh_bits.specs.BitOut.{BoundedBits}
use Rattle.pdh_runs.proofs.parts.Parts.open.Goals as goal

pub invariant_of-result : goal.invariant_of-result
invariant_of-result g c = record {
  frame_whole = ap (λ (b : BoundedBits). length b.bits) c.in_ok-equal_bits.ensures ∙ length-replicate c.LEN.result false ∙ c.LEN.ensures ∙ sym g.met.S.Shape.len_is;
  frame_room = ap (λ (b : BoundedBits). b.capacity) c.in_ok-equal_bits.ensures ∙ c.LEN.ensures ∙ sym g.met.S.Shape.len_is;
  columns_many = c.in_ok-empty_lists.ensures.count ∙ c.from.ensures ∙ c.TRIBS.ensures ∙ sym g.met.S.Shape.tribs_is;
  columns_room = λ k d within. omega (arith, c.in_ok-empty_lists.ensures.room k d within, c.LOW.ensures, g.met.S.Shape.low_is);
  columns_are = λ apart. absurd (differ apart);
  last_known = tt;
  ones_are = ap (λ (b : BoundedBits). b.bits) c.in_ok-equal_bits-2.ensures ∙ ap (λ n. replicate n true) (c.LOW-2.ensures ∙ sym g.met.S.Shape.low_is);
}
  where
    differ : false ≡ true → ⊥
    differ h = cc
