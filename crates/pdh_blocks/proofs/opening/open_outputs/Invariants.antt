use Rattle.std.proofs.Common.{◌≡◌, map, take}
use Rattle.pdh_blocks.specs.Opened.{unwritten}
use Rattle.pdh_blocks.proofs.opening.open_outputs.Given as goal

abbrev pub invariant-loop-name : goal.invariant-loop-name
invariant-loop-name l = l.outputs.items ≡ map unwritten (take l.name-index l.writes)
