use Rattle.std.proofs.Common.{sym, ◌∙◌, arith}
use Rattle.pdh_align.proofs.StartLaws.{none_left}
use Rattle.pdh_align.proofs.starts.wrong_from.Goals as goal

pub returns-then-number-eq0-clause-wrong : goal.returns-then-number-eq0-clause-wrong
returns-then-number-eq0-clause-wrong g c i h =
    let right = c.two_right_starts-right.result in
    sym (c.two_right_starts-right.ensures.right i h) ∙ none_left right c.number.result i c.number.ensures.bits c.if-number-eq0.true (omega (arith, h, c.two_right_starts-right.ensures.count))
