use Rattle.std.proofs.lemmas.Result.{IfOk-weaker, IfErr-weaker}
use Rattle.pdh_making.specs.Mux.Job.{Plainly}
use Rattle.pdh_making.proofs.muxing.MuxPortCommandNobody.prepare.Goals as goal

pub returns-clause-ok : goal.returns-clause-ok
returns-clause-ok g c = IfOk-weaker c.read_plan.result _ _ (λ plan planned. (planned, c.requires)) c.read_plan.ensures.ok

pub returns-clause-err : goal.returns-clause-err
returns-clause-err g c = IfErr-weaker c.read_plan.result _ _ (λ stop refuses. refuses (Plainly c.args.self.now.feac)) c.read_plan.ensures.err
