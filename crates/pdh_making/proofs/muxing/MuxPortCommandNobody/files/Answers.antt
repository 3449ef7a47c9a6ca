use Rattle.pdh_runner.proofs.Prepared.{ok_both}
use Rattle.pdh_making.specs.Mux.Job.{Plainly}
use Rattle.pdh_making.proofs.MuxFiles.{mux_prepared}
use Rattle.pdh_making.proofs.muxing.MuxPortCommandNobody.files.Goals as goal

pub port_files-requires : goal.port_files-requires
port_files-requires c = c.requires.1.0.scheduled

pub returns : goal.returns
returns c = ok_both c.port_files.result (λ files inputs outputs state planned. mux_prepared c.args.self.now.chain (Plainly c.args.self.now.feac) c.args.self.now.feac c.args.plan.now files.inputs.items inputs files.outputs.items outputs state planned.0 planned.1) c.port_files.ensures.inputs c.port_files.ensures.outputs
