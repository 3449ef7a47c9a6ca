use Rattle.std.proofs.Common.{◌≤◌, ◌<◌, ◌+◌, length, take, drop, ap, arith}
use Rattle.std.proofs.lemmas.List.{length-take}
use Rattle.pdh_events.specs.Telling.{ones_at_end}
use Rattle.pdh_events.specs.Keeping.{OnesRun}
use Rattle.pdh_events.proofs.CalmLaws.{calm_few, calm_ones}
use Rattle.pdh_events.proofs.ais.AisRun.calm.Goals as goal

pub returns-then-self-clause-calm : goal.returns-then-self-clause-calm
returns-then-self-clause-calm c line is =
    let long : c.args.self.now.long ≤ ones_at_end line = omega (arith, is, c.if-self.true, ap (λ (r : OnesRun). r.run) c.self.view_is, ap (λ (r : OnesRun). r.long) c.self.view_is) in
    calm_ones c.args.self.now.long line (take c.leading_ones.result (drop c.args.from c.args.bits.now.bits)) long c.leading_ones.ensures.ones

pub returns-clause-calm : goal.returns-clause-calm
returns-clause-calm c line is =
    let few = length-take c.min.result (drop c.args.from c.args.bits.now.bits) in
    let short : ones_at_end line + length (take c.min.result (drop c.args.from c.args.bits.now.bits)) < c.args.self.now.long = omega (arith, is, c.if-self.false, ap (λ (r : OnesRun). r.run) c.self.view_is, ap (λ (r : OnesRun). r.long) c.self.view_is, few, c.min.ensures, c.self.invariant) in
    calm_few c.args.self.now.long line (take c.min.result (drop c.args.from c.args.bits.now.bits)) short
