use Rattle.std.proofs.Common.{◌≡◌, ◌+◌, ◌-◌, inl, inr, ◌∙◌, ap, subst, ℕ, false, arith}
use Rattle.std.specs.Str.{bytes_eq}
use Rattle.std.proofs.lemmas.Bool.{cases_lt}
use Rattle.pdh_smoothing.specs.Again.{lists_in, counts_marked}
use Rattle.pdh_smoothing.proofs.rows.run_from.Goals as goal

pub loop-next-init : goal.loop-next-init
loop-next-init g c = λ k h less. (let is : k ≡ c.args.first = omega (arith, h, less) in ap (counts_marked g.S.Shape.shape (lists_in c.args.marks.now)) is)

pub loop-next-preserved : goal.loop-next-preserved
loop-next-preserved g c = λ k h less.
    let counts = counts_marked g.S.Shape.shape (lists_in c.args.marks.now) in
    elim (cases_lt k c.loop-next.next) [
      | inl before ↦ c.loop-next.invariant k h before
      | inr at ↦ (let is : k ≡ c.loop-next.next = omega (arith, less, at) in ap counts is ∙ c.are_alike-alike.ensures.alike c.if-not-alike.false)
    ]

pub returns-then-not-alike-clause-alike : goal.returns-then-not-alike-clause-alike
returns-then-not-alike-clause-alike g c = λ k less. c.loop-next.invariant (c.args.first + k) (omega arith) (omega (arith, less))

pub returns-then-not-alike-clause-ends : goal.returns-then-not-alike-clause-ends
returns-then-not-alike-clause-ends g c = λ less.
    let counts = counts_marked g.S.Shape.shape (lists_in c.args.marks.now) in
    let at : c.loop-next.next ≡ c.args.first + (c.loop-next.next - c.args.first) = omega arith in
    subst (λ (k : ℕ). bytes_eq (counts c.args.first) (counts k) ≡ false) at (c.are_alike-alike.ensures.other c.if-not-alike.true)

pub returns-clause-alike : goal.returns-clause-alike
returns-clause-alike g c = λ k less. c.loop-next.invariant (c.args.first + k) (omega arith) (omega (arith, less))

pub returns-clause-ends : goal.returns-clause-ends
returns-clause-ends g c = λ less. absurd (omega (arith, less, c.requires.some))
