-- Four leaves of a multiplexer.
use Rattle.std.specs.Prelude.{List, [], ◌∷◌, map}
use Rattle.pdh_tx.specs.Meaning.{Meaning}
use Rattle.pdh_tx.specs.Leaf.{leaf_meaning}

-- the leaves 0 to 3
abbrev pub four_leaves : List Meaning
four_leaves = map leaf_meaning (0 ∷ 1 ∷ 2 ∷ 3 ∷ [])
