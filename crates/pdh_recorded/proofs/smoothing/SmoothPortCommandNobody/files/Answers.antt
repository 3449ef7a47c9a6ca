use Rattle.pdh_runner.proofs.Prepared.{ok_both}
use Rattle.pdh_recorded.proofs.SmoothFiles.{smooth_prepared}
use Rattle.pdh_recorded.proofs.smoothing.SmoothPortCommandNobody.files.Goals as goal

pub returns : goal.returns
returns c = ok_both c.port_files.result (λ files inputs outputs state planned. smooth_prepared c.args.self.now.chain c.args.line.now files.inputs.items inputs files.outputs.items outputs state planned) c.port_files.ensures.inputs c.port_files.ensures.outputs
