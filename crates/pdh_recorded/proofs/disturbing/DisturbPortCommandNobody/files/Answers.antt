use Rattle.pdh_runner.proofs.Prepared.{ok_both}
use Rattle.pdh_recorded.proofs.DisturbFiles.{bend_prepared}
use Rattle.pdh_recorded.proofs.disturbing.DisturbPortCommandNobody.files.Goals as goal

pub returns : goal.returns
returns c = ok_both c.line_to_line.result (λ files inputs outputs state planned. bend_prepared c.args.self.now.chain c.args.plan.now files.inputs.items inputs files.outputs.items outputs state planned) c.line_to_line.ensures.inputs c.line_to_line.ensures.outputs
