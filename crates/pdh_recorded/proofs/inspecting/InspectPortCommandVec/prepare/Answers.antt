use Rattle.std.proofs.Common.{◌∙◌}
use Rattle.std.proofs.lemmas.Result.{IfErr-weaker}
use Rattle.pdh_answers.specs.Names.{line_file}
use Rattle.pdh_runner.proofs.LineStops.{line_refuses}
use Rattle.pdh_runner.proofs.Prepared.{ok_both}
use Rattle.pdh_recorded.specs.Inspect.{inspecting, inspected}
use Rattle.pdh_recorded.proofs.InspectWatched.{inspect_reads}
use Rattle.pdh_recorded.proofs.LineWorks.{refused_unseen}
use Rattle.pdh_recorded.proofs.inspecting.InspectPortCommandVec.prepare.Goals as goal

pub returns-clause-err : goal.returns-clause-err
returns-clause-err g c =
    let command = c.args.self.now in
    IfErr-weaker c.line_of.result _ _ (λ stop cause. line_refuses (line_file command.bits) command.chain (inspecting command.chain command.bits) (inspected command.chain) _ _ stop (inspect_reads command.chain command.bits).begins (rw c.of_line.ensures at cause)) c.line_of.ensures.err
