use Rattle.std.proofs.Common.{refl, arith}
use Rattle.std.proofs.lemmas.Result.{err_from_is_err_and}
use Rattle.pdh_runner.proofs.Refusing.{refuses_performs}
use Rattle.pdh_linking.specs.Duplex.{duplexing}
use Rattle.pdh_linking.proofs.SessionWatched.{session_done, session_watched}
use Rattle.pdh_linking.proofs.duplexing.duplex.Goals as goal

pub watched_session-requires : goal.watched_session-requires
watched_session-requires g c =
    let are = c.in_ok-scripts.ensures.ok in
    record { seed = c.requires; few = omega (arith, are.has.few); to_east = are.fit_east; to_west = are.fit_west }

pub returns-in_err-scripts-clause-performs : goal.returns-in_err-scripts-clause-performs
returns-in_err-scripts-clause-performs g c =
    let p = err_from_is_err_and c.from_residual.result c.from_residual.ensures.1 in
    rw (p.1, p.2) (refuses_performs (duplexing c.args.chain c.args.seed c.args.frames) _ _ _ c.read_scripts.ensures.looks (c.in_err-scripts.ensures.err c.args.seed) c.in_err-scripts.ensures.counted)

pub returns-in_err-scripts-clause-watches : goal.returns-in_err-scripts-clause-watches
returns-in_err-scripts-clause-watches g c =
    let p = err_from_is_err_and c.from_residual.result c.from_residual.ensures.1 in
    rw p.1 refl

pub returns-in_err-session-clause-performs : goal.returns-in_err-session-clause-performs
returns-in_err-session-clause-performs g c =
    let p = err_from_is_err_and c.from_residual-in_err-session.result c.from_residual-in_err-session.ensures.1 in
    rw (p.1, p.2) (refuses_performs (duplexing c.args.chain c.args.seed c.args.frames) _ _ _ c.read_scripts.ensures.looks tt c.in_ok-scripts.ensures.counted)

pub returns-in_err-session-clause-watches : goal.returns-in_err-session-clause-watches
returns-in_err-session-clause-watches g c =
    let p = err_from_is_err_and c.from_residual-in_err-session.result c.from_residual-in_err-session.ensures.1 in
    rw p.1 c.in_err-session.ensures.unseen

pub returns-clause-performs : goal.returns-clause-performs
returns-clause-performs g c =
    rw c.says.ensures (session_done c.args.chain c.args.seed c.args.frames _ _ c.in_ok-scripts.scripts c.read_scripts.ensures.looks c.in_ok-scripts.ensures.counted c.in_ok-scripts.ensures.ok c.in_ok-session.session c.in_ok-session.ensures.session)

pub returns-clause-watches : goal.returns-clause-watches
returns-clause-watches g c =
    session_watched c.args.chain c.args.seed c.args.frames _ _ c.in_ok-scripts.scripts c.read_scripts.ensures.looks c.in_ok-scripts.ensures.counted c.in_ok-scripts.ensures.ok c.says.result _ _ c.in_ok-session.ensures.seen
