use Rattle.std.proofs.Common.{arith}
use Rattle.pdh_rows.proofs.Fills.{steps_pass}
use Rattle.pdh_rows.proofs.inside.Fills.behind_steps.Goals as goal

pub returns : goal.returns
returns c =
    steps_pass c.args.self _ (omega (arith, c.if-self-lt-LEAST_FILL.false)) (omega (arith, c.if-self-gt-MOST_FILL.false)) (omega (arith, c.if-self-lt-LEAST_FILL.false, c.min.ensures)) (omega (arith, c.if-self-gt-MOST_FILL.false, c.max.ensures))
    (omega (arith, c.min.ensures)) (omega (arith, c.max.ensures)) (omega (arith, c.min.ensures)) (omega (arith, c.max.ensures))
