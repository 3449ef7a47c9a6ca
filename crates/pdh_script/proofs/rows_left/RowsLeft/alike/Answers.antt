use Rattle.std.proofs.Common.{arith}
use Rattle.pdh_script.proofs.FirstRow.{alike_none, first_ends, alike_before, alike_within}
use Rattle.pdh_script.proofs.rows_left.RowsLeft.alike.Goals as goal

pub returns-in_default-clause-alike : goal.returns-in_default-clause-alike
returns-in_default-clause-alike c bits long = alike_none c.self.inside.steps.now c.self.inside.added.now c.args.place c.args.self.now bits c.self.view_is c.in_default.ensures.cases

pub returns-then-at-place-clause-alike : goal.returns-then-at-place-clause-alike
returns-then-at-place-clause-alike c bits long =
    alike_before c.args.place c.args.self.now c.self.inside.steps.now c.in-Some.field-0-1.now c.in-Some.step.now c.self.inside.added.now c.self.view_is c.in-Some.ensures.cases.0 c.requires.left bits
    (omega (arith, c.from-at.ensures, c.if-at-place.true)) (omega (arith, long, c.min.ensures, c.from-at.ensures, c.if-at-place.true))

pub returns-clause-alike : goal.returns-clause-alike
returns-clause-alike c bits long =
    let added = c.self.inside.added.now in
    let steps = c.self.inside.steps.now in
    let rest = c.in-Some.field-0-1.now in
    let step = c.in-Some.step.now in
    let ahead = first_ends c.args.place c.args.self.now steps rest step added c.self.view_is c.in-Some.ensures.cases.0 c.requires.ahead in
    alike_within c.args.place c.args.self.now steps rest step added c.self.view_is c.in-Some.ensures.cases.0 c.requires.left bits
    (omega (arith, c.from-at.ensures, c.if-at-place.false)) ahead (omega (arith, long, c.min-2.ensures, c.end.ensures added, ahead))
