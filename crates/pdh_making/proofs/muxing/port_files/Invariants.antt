use Rattle.pdh_making.proofs.muxing.port_files.Given as goal
use Rattle.std.proofs.Common.{◌≡◌, map}
use Rattle.std.specs.List.{range_with_len}
use Rattle.pdh_making.specs.Mux.{bits_needed}
use Rattle.pdh_answers.specs.declared.file.File.TheVariants.{Leaf}

abbrev pub invariant-loop-leaf : goal.invariant-loop-leaf
invariant-loop-leaf l = l.inputs.items ≡ map (λ k. record { file = Leaf k; bits = bits_needed l.fn.chain l.fn.plan.clock.rows k }) (range_with_len 0 l.leaf)
