use Rattle.pdh_runner.proofs.Prepared.{ok_both}
use Rattle.pdh_streams.proofs.InspectFramed.{framed_prepared}
use Rattle.pdh_streams.proofs.inspecting.InspectE1PortCommandVec.files.Goals as goal

pub returns : goal.returns
returns g c = ok_both c.line.result (λ files inputs outputs state planned. framed_prepared c.args.line.now files.inputs.items inputs files.outputs.items outputs state planned) c.line.ensures.inputs c.line.ensures.outputs
