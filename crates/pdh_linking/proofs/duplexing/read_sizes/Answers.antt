use Rattle.std.proofs.lemmas.Result.{err_from_is_err_and}
use Rattle.pdh_linking.proofs.SessionComes.{west_size_refuses, east_size_refuses}
use Rattle.pdh_linking.proofs.duplexing.read_sizes.Goals as goal

pub returns-in_err-west-clause-err : goal.returns-in_err-west-clause-err
returns-in_err-west-clause-err g c =
    let p = err_from_is_err_and c.from_residual.result c.from_residual.ensures.1 in
    rw (p.1, p.2) (λ chain seed. west_size_refuses chain seed c.args.frames _ _ _ c.in_err-west.ensures.err)

pub returns-in_err-east-clause-err : goal.returns-in_err-east-clause-err
returns-in_err-east-clause-err g c =
    let p = err_from_is_err_and c.from_residual-in_err-east.result c.from_residual-in_err-east.ensures.1 in
    rw (p.1, p.2) (λ chain seed. east_size_refuses chain seed c.args.frames _ (g.S.Shelf.state c.size.new.shelf) _ c.in_ok-west.west _ c.size.ensures.looks c.in_ok-west.ensures.counted c.in_ok-west.ensures.ok c.in_err-east.ensures.err)
