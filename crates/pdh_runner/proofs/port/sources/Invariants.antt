use Rattle.std.proofs.Common.{take}
use Rattle.pdh_runner.specs.PortFiles.{AreSources}
use Rattle.pdh_runner.proofs.port.sources.Given as goal

abbrev pub invariant-loop-input : goal.invariant-loop-input
invariant-loop-input l = AreSources (take l.input-index l.inputs) l.sources.items
