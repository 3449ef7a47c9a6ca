-- What the leaves of a chain still give, each of its pattern.
use Rattle.std.specs.Prelude.{Bool, List, map}
use Rattle.pdh_edge.specs.Ports.{Inputs}
use Rattle.pdh_edge.specs.MemLists.{inputs_of}
use Rattle.pdh_patterns.specs.Pattern.{bits_from}
use Rattle.pdh_patterns.specs.declared.patterns.LeafPattern.{LeafPattern}

-- what a leaf still gives
abbrev pub rest_of : LeafPattern → List Bool
rest_of leaf = bits_from leaf.pattern leaf.left

abbrev pub pattern_inputs : List LeafPattern → Inputs
pattern_inputs leaves = inputs_of (map rest_of leaves)
