use Rattle.std.proofs.Common.{◌≡◌, ◌+◌, ℕ, Bool, false, not, get_or, ap, sym, ◌∙◌, arith}
use Rattle.std.proofs.lemmas.List.Sums.{count_by_more_yes, count_by_more_no}
use Rattle.pdh_delivered.specs.CBits.{fixed_c_bits}
use Rattle.pdh_delivered.proofs.c_bits.says_parity.Goals as goal
use Rattle.pdh_delivered.proofs.c_bits.says_parity.Goals.{then-not-get, else-not-get}

pub loop-slot-preserved : goal.loop-slot-preserved
loop-slot-preserved c =
    let bits = c.args.frame.now.bits in
    let zero : ℕ → Bool = λ slot. not (get_or bits slot false) in
    let n = c.loop-slot.slot-index in
    let inv = c.loop-slot.invariant in
    let bit : get_or bits (get_or fixed_c_bits n 0) false ≡ c.get.result = ap (λ (slot : ℕ). get_or bits slot false) (sym c.from.ensures) ∙ sym c.get.ensures in
    elim c.if-not-get.branch [
      | then-not-get w ↦ record {
        zeros = w.zeros-is ∙ ap (λ (k : ℕ). k + 1) inv.zeros ∙ sym (count_by_more_yes zero fixed_c_bits n 0 c.loop-slot-test.true (ap not (bit ∙ w.if-not-get.true)));
        few = omega (arith, w.zeros-is, inv.few);
      }
      | else-not-get w ↦ record {
        zeros = w.zeros-is ∙ inv.zeros ∙ sym (count_by_more_no zero fixed_c_bits n 0 c.loop-slot-test.true (ap not (bit ∙ w.if-not-get.false)));
        few = omega (arith, w.zeros-is, inv.few);
      }
    ]
