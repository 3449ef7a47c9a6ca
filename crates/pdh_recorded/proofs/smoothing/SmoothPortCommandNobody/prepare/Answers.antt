use Rattle.std.proofs.lemmas.Result.{IfErr-weaker}
use Rattle.pdh_answers.specs.declared.file.File.TheVariants.{Line}
use Rattle.pdh_runner.proofs.LineStops.{line_refuses}
use Rattle.pdh_recorded.specs.Smooth.{smoothed, smoothing}
use Rattle.pdh_recorded.proofs.SmoothFiles.{begins_smooth}
use Rattle.pdh_recorded.proofs.smoothing.SmoothPortCommandNobody.prepare.Goals as goal

pub returns-clause-err : goal.returns-clause-err
returns-clause-err g c =
    let chain = c.args.self.now.chain in
    IfErr-weaker c.line_of.result _ _ (λ stop cause. line_refuses Line chain (smoothing chain) (smoothed chain) _ _ stop (begins_smooth chain) cause) c.line_of.ensures.err
