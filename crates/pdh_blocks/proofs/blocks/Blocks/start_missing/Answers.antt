use Rattle.std.proofs.Common.{List, length, Ok, Err, ap, arith}
use Rattle.std.proofs.lemmas.Result.{err_from_is_err_and}
use Rattle.pdh_blocks.specs.Leaves.{Output}
use Rattle.pdh_blocks.specs.State.{over}
use Rattle.pdh_blocks.proofs.Joining.{starts_none, starts_join}
use Rattle.pdh_blocks.proofs.blocks.Blocks.start_missing.Goals as goal

pub loop-self-init : goal.loop-self-init
loop-self-init g c = starts_none tt (over (g.S.Shelf.state c.args.shelf.now) c.args.self.now) c.requires.port

pub start_next-requires-clause-port : goal.start_next-requires-clause-port
start_next-requires-clause-port g c = c.loop-self.invariant.port

pub loop-self-smaller : goal.loop-self-smaller
loop-self-smaller g c = omega (arith, c.in_ok-start_next.ensures.ok, c.loop-self-test.true, ap (λ (all : List Output). length all) c.in_ok-start_next.ensures.done.outputs)

pub loop-self-preserved : goal.loop-self-preserved
loop-self-preserved g c =
    let a = over (g.S.Shelf.state c.args.shelf.now) c.args.self.now in
    let b = over (g.S.Shelf.state c.loop-self.shelf) c.loop-self.self in
    let d = over (g.S.Shelf.state c.start_next.new.shelf) c.start_next.new.self in
    starts_join a b d tt (Ok tt) c.loop-self.invariant c.in_ok-start_next.ensures.done

pub returns-in_err-start_next-clause-done : goal.returns-in_err-start_next-clause-done
returns-in_err-start_next-clause-done g c =
    let p = err_from_is_err_and c.from_residual.result c.from_residual.ensures.1 in
    let a = over (g.S.Shelf.state c.args.shelf.now) c.args.self.now in
    let b = over (g.S.Shelf.state c.loop-self.shelf) c.loop-self.self in
    let d = over (g.S.Shelf.state c.start_next.new.shelf) c.start_next.new.self in
    rw p.1 (starts_join a b d tt (Err _) c.loop-self.invariant c.in_err-start_next.ensures.done)

pub returns-clause-done : goal.returns-clause-done
returns-clause-done g c = c.loop-self.invariant

pub returns-clause-ok : goal.returns-clause-ok
returns-clause-ok g c = omega (arith, c.loop-self-test.false, c.loop-self.invariant.port.blocks.among, c.loop-self.invariant.port.blocks.begun)
