use Rattle.std.proofs.Common.{[], ◌∷◌, refl, sym, ◌∙◌, arith}
use Rattle.std.proofs.lemmas.Result.{on_ok_weaker, on_err_weaker}
use Rattle.pdh_smoothing.proofs.Told.{first_is, behind_is, puts_first, part_first, puts_second, part_second, first_cause, second_cause}
use Rattle.pdh_smoothing.proofs.split_port.SplitPortDrain.put.Goals as goal

-- ---- a list of the port

pub put-requires : goal.put-requires
put-requires g c =
    let old = c.args.self.now in
    sym (first_is old.from (g.P.Drain.outputs old.port).holds (g.K.Drain.outputs old.kept).holds c.args.leaf (omega (arith, c.if-leaf-self.true))) ∙ c.requires

pub returns-then-leaf-self-clause-ok : goal.returns-then-leaf-self-clause-ok
returns-then-leaf-self-clause-ok g c =
    let old = c.args.self.now in
    on_ok_weaker c.put.result (puts_first old.from c.args.leaf (c.args.bit ∷ []) (g.P.Drain.outputs old.port) (g.P.Drain.outputs c.put.new.self) (g.K.Drain.outputs old.kept) (omega (arith, c.if-leaf-self.true))) c.put.ensures.ok

pub returns-then-leaf-self-clause-err : goal.returns-then-leaf-self-clause-err
returns-then-leaf-self-clause-err g c =
    let old = c.args.self.now in
    on_err_weaker c.put.result (part_first old.from c.args.leaf (c.args.bit ∷ []) (g.P.Drain.outputs old.port) (g.P.Drain.outputs c.put.new.self) (g.K.Drain.outputs old.kept) (omega (arith, c.if-leaf-self.true))) c.put.ensures.err

pub returns-then-leaf-self-clause-cause : goal.returns-then-leaf-self-clause-cause
returns-then-leaf-self-clause-cause g c = first_cause c.put.result (g.P.Drain.drain_faults c.args.self.now.port) (g.P.Drain.drain_faults c.put.new.self) (g.K.Drain.drain_faults c.args.self.now.kept) c.put.ensures.cause

pub returns-then-leaf-self-clause-drained : goal.returns-then-leaf-self-clause-drained
returns-then-leaf-self-clause-drained g c = (c.put.ensures.drained, g.met.K.Drain.drained_same c.args.self.now.kept, refl)

-- ---- one of those that are kept

pub put-requires-2 : goal.put-requires-2
put-requires-2 g c =
    let old = c.args.self.now in
    sym (behind_is old.from (g.P.Drain.outputs old.port).holds (g.K.Drain.outputs old.kept).holds c.args.leaf (omega (arith, c.if-leaf-self.false))) ∙ c.requires

pub returns-clause-ok : goal.returns-clause-ok
returns-clause-ok g c =
    let old = c.args.self.now in
    on_ok_weaker c.put-2.result (puts_second old.from c.args.leaf (c.args.bit ∷ []) (g.K.Drain.outputs old.kept) (g.K.Drain.outputs c.put-2.new.self) (g.P.Drain.outputs old.port) (omega (arith, c.if-leaf-self.false))) c.put-2.ensures.ok

pub returns-clause-err : goal.returns-clause-err
returns-clause-err g c =
    let old = c.args.self.now in
    on_err_weaker c.put-2.result (part_second old.from c.args.leaf (c.args.bit ∷ []) (g.K.Drain.outputs old.kept) (g.K.Drain.outputs c.put-2.new.self) (g.P.Drain.outputs old.port) (omega (arith, c.if-leaf-self.false))) c.put-2.ensures.err

pub returns-clause-cause : goal.returns-clause-cause
returns-clause-cause g c = second_cause c.put-2.result (g.P.Drain.drain_faults c.args.self.now.port) (g.K.Drain.drain_faults c.args.self.now.kept) (g.K.Drain.drain_faults c.put-2.new.self) c.put-2.ensures.cause

pub returns-clause-drained : goal.returns-clause-drained
returns-clause-drained g c = (g.met.P.Drain.drained_same c.args.self.now.port, c.put-2.ensures.drained, refl)
