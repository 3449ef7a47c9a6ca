use Rattle.std.proofs.lemmas.Result.{err_from_is_err_and}
use Rattle.pdh_runner.proofs.Refusing.{refuses_since}
use Rattle.pdh_recorded.proofs.disturbing.DisturbPortCommandNobody.prepare.Goals as goal
use Rattle.pdh_recorded.specs.Disturb.{disturbing}

pub returns-in_err-script-clause-err : goal.returns-in_err-script-clause-err
returns-in_err-script-clause-err g c =
    let error = err_from_is_err_and c.from_residual-in_err-script.result c.from_residual-in_err-script.ensures.1 in
    rw (error.1, error.2) (refuses_since (disturbing c.args.self.now.chain) _ (g.S.Shelf.state c.read_sizes.new.shelf) _ _ c.read_sizes.ensures.looks c.in_ok-sizes.ensures.counted c.in_err-script.ensures.err)
