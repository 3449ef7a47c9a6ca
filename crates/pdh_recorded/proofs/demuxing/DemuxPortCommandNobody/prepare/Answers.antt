use Rattle.std.proofs.lemmas.Result.{IfErr-weaker}
use Rattle.pdh_answers.specs.Names.{line_file}
use Rattle.pdh_recorded.specs.Demux.{demuxed, demuxing}
use Rattle.pdh_runner.proofs.LineStops.{line_refuses}
use Rattle.pdh_recorded.proofs.DemuxFiles.{begins_with_line}
use Rattle.pdh_recorded.proofs.demuxing.DemuxPortCommandNobody.prepare.Goals as goal

pub returns-clause-err : goal.returns-clause-err
returns-clause-err g c =
    let command = c.args.self.now in
    IfErr-weaker c.line_of.result _ _ (λ stop cause. line_refuses (line_file command.bits) command.chain (demuxing command.chain command.bits) (demuxed command.chain) _ _ stop (begins_with_line command.chain command.bits) (rw c.of_line.ensures at cause)) c.line_of.ensures.err
