use Rattle.std.proofs.Common.{◌≡◌, ◌+◌, ◌-◌, inl, inr, ap, ◌∙◌, arith}
use Rattle.std.proofs.lemmas.Bool.{cases_lt}
use Rattle.pdh_align.specs.Searching.{two_right}
use Rattle.pdh_align.proofs.starts.wrong_starts.Goals as goal

pub returns-then-wrong-count-clause-wrong : goal.returns-then-wrong-count-clause-wrong
returns-then-wrong-count-clause-wrong g c i h =
    let done = c.loop-done.done in
    elim (cases_lt i done) [
      | inl before ↦ c.loop-done.invariant.1 i before
      | inr after ↦
          let here : i ≡ done + (i - done) = omega (arith, after) in
          ap (two_right g.S.Shape.shape c.args.held.now.bits) here ∙ c.wrong_from-wrong.ensures.wrong (i - done) (omega (arith, h, after))
    ]

pub loop-done-preserved : goal.loop-done-preserved
loop-done-preserved g c =
    let done = c.loop-done.done in (
      omega (arith, c.min-count.ensures, c.loop-done-test.true),
      λ i h. elim (cases_lt i done) [
        | inl before ↦ c.loop-done.invariant.1 i before
        | inr after ↦
            let here : i ≡ done + (i - done) = omega (arith, after) in
            ap (two_right g.S.Shape.shape c.args.held.now.bits) here ∙ c.wrong_from-wrong.ensures.wrong (i - done) (omega (arith, h, after, c.if-wrong-count.false))
      ],
    )
