use Rattle.std.specs.Prelude.{None}
use Rattle.pdh_runner.proofs.Prepared.{ok_both}
use Rattle.pdh_making.specs.Mux.Job.{WithSlips}
use Rattle.pdh_making.proofs.MuxFiles.{mux_prepared}
use Rattle.pdh_making.proofs.slipping.MuxSlipPortCommandSinkLog.files.Goals as goal

pub port_files-requires : goal.port_files-requires
port_files-requires g c = c.requires.1.scheduled

pub returns : goal.returns
returns g c = ok_both c.port_files.result (λ files inputs outputs state planned. mux_prepared c.args.self.now.chain WithSlips None c.args.plan.now files.inputs.items inputs files.outputs.items outputs state planned tt) c.port_files.ensures.inputs c.port_files.ensures.outputs
