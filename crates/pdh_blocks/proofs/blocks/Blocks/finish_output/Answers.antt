use Rattle.std.proofs.lemmas.Result.{err_from_is_err_and}
use Rattle.pdh_blocks.specs.State.{over}
use Rattle.pdh_blocks.proofs.Joining.{appends_join, starts_append, starts_fail_append}
use Rattle.pdh_blocks.proofs.blocks.Blocks.finish_output.Goals as goal

pub returns-in_err-start_missing-clause-done : goal.returns-in_err-start_missing-clause-done
returns-in_err-start_missing-clause-done g c =
    let p = err_from_is_err_and c.from_residual.result c.from_residual.ensures.1 in
    rw p.1 (starts_fail_append _ _ _ c.in_err-start_missing.ensures.done)

pub returns-clause-done : goal.returns-clause-done
returns-clause-done g c =
    let a = over (g.S.Shelf.state c.args.shelf.now) c.args.self.now in
    let b = over (g.S.Shelf.state c.start_missing.new.shelf) c.start_missing.new.self in
    let d = over (g.S.Shelf.state c.append_waiting.new.shelf) c.append_waiting.new.self in
    appends_join a b d tt c.append_waiting.result (starts_append a b d tt c.in_ok-start_missing.ensures.done) c.append_waiting.ensures.done
