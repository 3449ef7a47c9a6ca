use Rattle.std.proofs.Common.{◌≡◌, Ok, Err, refl, sym, ◌∙◌, subst, arith}
use Rattle.std.proofs.lemmas.Result.{err_from_is_err_and}
use Rattle.pdh_blocks.specs.State.{over}
use Rattle.pdh_blocks.specs.Held.{WaitsAtMost}
use Rattle.pdh_blocks.specs.laws.PortLaws.{same_outputs}
use Rattle.pdh_blocks.proofs.Joining.{appends_none, appends_join}
use Rattle.pdh_blocks.proofs.Ending.{all_written, one_more_short}
use Rattle.pdh_blocks.proofs.blocks.Blocks.finish.Goals as goal

pub loop-leaf-init : goal.loop-leaf-init
loop-leaf-init g c = record { done = appends_none tt (over (g.S.Shelf.state c.args.shelf.now) c.args.self.now) c.requires.port; none = λ written. refl; before = λ j less. absurd (omega (arith, less)) }

pub finish_output-requires-clause-port : goal.finish_output-requires-clause-port
finish_output-requires-clause-port g c = c.loop-leaf.invariant.done.port

pub finish_output-requires-clause-held : goal.finish_output-requires-clause-held
finish_output-requires-clause-held g c = omega (arith, c.loop-leaf-test.true, c.len-leaf-end.ensures, same_outputs c.loop-leaf.invariant.done.drains.keeps)

pub returns-in_err-finish_output-clause-done : goal.returns-in_err-finish_output-clause-done
returns-in_err-finish_output-clause-done g c =
    let p = err_from_is_err_and c.from_residual.result c.from_residual.ensures.1 in
    let a = over (g.S.Shelf.state c.args.shelf.now) c.args.self.now in
    let b = over (g.S.Shelf.state c.loop-leaf.shelf) c.loop-leaf.self in
    let d = over (g.S.Shelf.state c.finish_output.new.shelf) c.finish_output.new.self in
    rw p.1 (appends_join a b d tt (Err _) c.loop-leaf.invariant.done c.in_err-finish_output.ensures.done)

pub loop-leaf-preserved : goal.loop-leaf-preserved
loop-leaf-preserved g c =
    let a = over (g.S.Shelf.state c.args.shelf.now) c.args.self.now in
    let b = over (g.S.Shelf.state c.loop-leaf.shelf) c.loop-leaf.self in
    let d = over (g.S.Shelf.state c.finish_output.new.shelf) c.finish_output.new.self in
    record {
      done = appends_join a b d tt (Ok tt) c.loop-leaf.invariant.done c.in_ok-finish_output.ensures.done;
      none = λ written.
          let same : b ≡ a = c.loop-leaf.invariant.none written in
          c.in_ok-finish_output.ensures.none (subst (WaitsAtMost 7 c.loop-leaf.leaf) (sym same) (written c.loop-leaf.leaf)) ∙ same;
      before = one_more_short b d c.loop-leaf.leaf c.loop-leaf.invariant.before c.in_ok-finish_output.ensures.others c.in_ok-finish_output.ensures.ok;
    }

pub returns-clause-done : goal.returns-clause-done
returns-clause-done g c = c.loop-leaf.invariant.done

pub returns-in_err-finish_output-clause-none : goal.returns-in_err-finish_output-clause-none
returns-in_err-finish_output-clause-none g c written =
    let a = over (g.S.Shelf.state c.args.shelf.now) c.args.self.now in
    let b = over (g.S.Shelf.state c.loop-leaf.shelf) c.loop-leaf.self in
    let same : b ≡ a = c.loop-leaf.invariant.none written in
    c.in_err-finish_output.ensures.none (subst (WaitsAtMost 7 c.loop-leaf.leaf) (sym same) (written c.loop-leaf.leaf)) ∙ same

pub returns-clause-none : goal.returns-clause-none
returns-clause-none g c = c.loop-leaf.invariant.none

pub returns-clause-ok : goal.returns-clause-ok
returns-clause-ok g c =
    let b = over (g.S.Shelf.state c.loop-leaf.shelf) c.loop-leaf.self in
    all_written b (λ k less. c.loop-leaf.invariant.before k (omega (arith, less, c.loop-leaf-test.false, c.len-leaf-end.ensures, same_outputs c.loop-leaf.invariant.done.drains.keeps)))
