use Rattle.std.proofs.Common.{◌≡◌, map}
use Rattle.std.specs.List.{range_with_len}
use Rattle.pdh_patterns.specs.Leaves.{input_of}
use Rattle.pdh_patterns.specs.Patterns.{rest_of}
use Rattle.pdh_patterns.proofs.patterns.Patterns.open.Given as goal

-- the leaves so far give what they should
abbrev pub invariant-loop-leaf : goal.invariant-loop-leaf
invariant-loop-leaf l = map rest_of l.list.items ≡ map (input_of l.fn.chain l.fn.seed l.fn.frames) (range_with_len 0 l.leaf)
