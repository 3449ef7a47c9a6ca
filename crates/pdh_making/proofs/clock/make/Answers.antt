use Rattle.std.proofs.Common.{◌∙◌, arith}
use Rattle.std.proofs.lemmas.Result.{err_from_is_err_and}
use Rattle.pdh_making.proofs.ClockComes.{make_start_refused, make_append_refused}
use Rattle.pdh_making.proofs.clock.make.Goals as goal

pub returns-in_err-start : goal.returns-in_err-start
returns-in_err-start g c =
    let p = err_from_is_err_and c.from_residual-in_err-start.result c.from_residual-in_err-start.ensures.1 in
    rw (p.1, p.2) (make_start_refused c.args.chain _ _ _ _ _ (omega arith) c.start.ensures.kept c.in_err-start.ensures.err)

pub returns-in_err-append : goal.returns-in_err-append
returns-in_err-append g c =
    let p = err_from_is_err_and c.from_residual-in_err-append.result c.from_residual-in_err-append.ensures.1 in
    rw (p.1, p.2) (make_append_refused c.args.chain _ (g.S.Shelf.state c.start.new.shelf) _ _ _ c.deref.result.now _ (omega arith) (c.deref.ensures.value ∙ c.in_ok-text.ensures.text) c.start.ensures.kept c.in_ok-start.ensures.ok c.append.ensures.kept c.in_err-append.ensures.err)
