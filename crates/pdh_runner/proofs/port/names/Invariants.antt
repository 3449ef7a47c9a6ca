use Rattle.std.proofs.Common.{◌≡◌, map, take}
use Rattle.std.specs.String.{string_bytes}
use Rattle.pdh_answers.specs.Names.{name_of}
use Rattle.pdh_runner.proofs.port.names.Given as goal

abbrev pub invariant-loop-file : goal.invariant-loop-file
invariant-loop-file l = map string_bytes l.names.items ≡ map name_of (take l.file-index l.outputs)
