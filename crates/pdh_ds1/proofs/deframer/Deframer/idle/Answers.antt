use Rattle.std.proofs.Common.{List, Bool, take, drop, subst, arith}
use Rattle.pdh_align.specs.Aligning.{Held, StandsFor, Waits}
use Rattle.pdh_ds1.specs.declared.plan.SuperframePlan.{SuperframePlan}
use Rattle.pdh_ds1.specs.Superframe.{in_superframe}
use Rattle.pdh_ds1.proofs.MachineLaws.{quietly_waits, quietly_passes}
use Rattle.pdh_ds1.proofs.deframer.Deframer.idle.Goals as goal

pub returns-then-passed-gt0-clause-taken : goal.returns-then-passed-gt0-clause-taken
returns-then-passed-gt0-clause-taken g c =
    quietly_passes g.P.InSuperframe.f_bits g.P.InSuperframe.PLAN c.args.self.now.aligner c.pass-passed.new.self _ _ _ _ (take c.pass-passed.result (drop c.args.from c.args.bits.now.bits)) (c.pass-passed.ensures.passes (omega arith))

pub returns-clause-taken : goal.returns-clause-taken
returns-clause-taken g c =
    let f_bits = g.P.InSuperframe.f_bits in
    let plan : SuperframePlan = g.P.InSuperframe.PLAN in
    let bits : List Bool = take c.take.result (drop c.args.from c.args.bits.now.bits) in
    let Was : Held → Type 0 = λ held. (line : List Bool) → StandsFor (in_superframe f_bits plan) held line → Waits (in_superframe f_bits plan) c.take.new.self bits line in
    quietly_waits f_bits plan c.args.self.now.aligner c.take.new.self _ _ _ _ bits (subst Was (c.pass-passed.ensures.none (omega arith)) c.take.ensures.waits)
