use Rattle.std.proofs.lemmas.Result.{IfErr-weaker}
use Rattle.pdh_making.specs.Mux.Job.{WithSlips}
use Rattle.pdh_making.proofs.slipping.MuxSlipPortCommandSinkLog.prepare.Goals as goal

pub returns-clause-err : goal.returns-clause-err
returns-clause-err g c = IfErr-weaker c.read_plan.result _ _ (λ stop refuses. refuses WithSlips) c.read_plan.ensures.err
