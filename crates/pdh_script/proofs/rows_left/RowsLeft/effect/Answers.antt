use Rattle.std.proofs.Common.{arith}
use Rattle.pdh_script.proofs.FirstRow.{unchanged, unchanged_by_bytes}
use Rattle.pdh_script.proofs.rows_left.RowsLeft.effect.Goals as goal

pub returns-in_default : goal.returns-in_default
returns-in_default c =
    unchanged c.args.place c.args.self.now c.self.inside.steps.now c.in_ok-step.field-0-1.now c.in_ok-step.step.now c.self.inside.added.now c.self.view_is c.in_ok-step.ensures.cases.0 c.requires.left
    (omega (arith, c.from.ensures, c.if-from-place.false))

pub returns-in_default-2 : goal.returns-in_default-2
returns-in_default-2 c =
    unchanged_by_bytes c.args.place c.args.self.now c.self.inside.steps.now c.in_ok-step.field-0-1.now c.in_ok-step.step.now c.self.inside.added.now c.self.view_is c.in_ok-step.ensures.cases.0 c.in_default.field-0 c.in_default.is
    c.requires.ahead c.requires.left
