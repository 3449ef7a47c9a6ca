use Rattle.pdh_runner.proofs.Prepared.{ok_both}
use Rattle.pdh_recorded.proofs.DemuxFiles.{demux_prepared}
use Rattle.pdh_recorded.proofs.demuxing.DemuxPortCommandNobody.files.Goals as goal

pub returns : goal.returns
returns c = ok_both c.port_files.result (λ files inputs outputs state planned. demux_prepared c.args.self.now.chain c.args.self.now.bits c.args.line.now planned.0 files.inputs.items inputs files.outputs.items outputs state planned.1) c.port_files.ensures.inputs c.port_files.ensures.outputs
