use Rattle.std.proofs.Common.{◌≡◌, map}
use Rattle.std.specs.List.{range_with_len}
use Rattle.pdh_answers.specs.declared.file.File.TheVariants.{Output}
use Rattle.pdh_recorded.proofs.demuxing.port_files.Given as goal

abbrev pub invariant-loop-leaf : goal.invariant-loop-leaf
invariant-loop-leaf l = l.outputs.items ≡ map Output (range_with_len 0 l.leaf)
