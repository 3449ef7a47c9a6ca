use Rattle.std.proofs.lemmas.Result.{err_from_is_err_and}
use Rattle.pdh_streams.proofs.StreamLaws.{streams_unstarted}
use Rattle.pdh_streams.proofs.streaming.stream.Goals as goal

pub returns-in_err-start-clause-part : goal.returns-in_err-start-clause-part
returns-in_err-start-clause-part g c =
    let p = err_from_is_err_and c.from_residual.result c.from_residual.ensures.1 in
    rw p.1 (streams_unstarted (g.M.Machine.far c.args.machine.now) _ _ _ _ c.start.ensures.inputs c.start.ensures.outputs)

pub returns-clause-kept : goal.returns-clause-kept
returns-clause-kept g c = g.met.P.Port.kept_join c.args.port.now c.start.new.self c.give.new.port c.start.ensures.kept c.give.ensures.kept
