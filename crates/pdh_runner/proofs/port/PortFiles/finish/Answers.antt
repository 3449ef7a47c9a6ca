use Rattle.pdh_runner.proofs.Finished.{files_kept}
use Rattle.pdh_runner.proofs.port.PortFiles.finish.Goals as goal

pub stop-requires-clause-files : goal.stop-requires-clause-files
stop-requires-clause-files g c = files_kept c.args.self.now.inputs.items c.args.self.now.outputs.items c.finish.ensures.drained.keeps c.requires.files
