use Rattle.std.proofs.lemmas.Result.{err_from_is_err_and}
use Rattle.pdh_recorded.proofs.DisturbComes.{line_size_refuses, script_size_refuses}
use Rattle.pdh_recorded.proofs.disturbing.read_sizes.Goals as goal

pub returns-in_err-line-clause-err : goal.returns-in_err-line-clause-err
returns-in_err-line-clause-err g c =
    let p = err_from_is_err_and c.from_residual.result c.from_residual.ensures.1 in
    rw (p.1, p.2) (line_size_refuses c.args.chain _ _ _ c.in_err-line.ensures.err)

pub returns-in_err-script-clause-err : goal.returns-in_err-script-clause-err
returns-in_err-script-clause-err g c =
    let p = err_from_is_err_and c.from_residual-in_err-script.result c.from_residual-in_err-script.ensures.1 in
    rw (p.1, p.2) (script_size_refuses c.args.chain _ (g.S.Shelf.state c.size.new.shelf) _ c.in_ok-line.line _ c.size.ensures.looks c.in_ok-line.ensures.counted c.in_ok-line.ensures.ok c.in_err-script.ensures.err)
