-- Four leaves of a demultiplexer.
use Rattle.std.specs.Prelude.{ℕ, ◌<◌, IsTrue, List, [], ◌∷◌, map}
use Rattle.pdh_edge.specs.Ports.{Outputs}
use Rattle.pdh_rx.specs.Meaning.{Meaning}
use Rattle.pdh_rx.specs.Tail.{tail_meaning}

-- the leaves 0 to 3
abbrev pub four_tails : List Meaning
four_tails = map tail_meaning (0 ∷ 1 ∷ 2 ∷ 3 ∷ [])

-- there is a list for each of them
abbrev pub HoldsFour : Outputs → Type 0
HoldsFour outputs = (k : ℕ) → k < 4 → IsTrue (outputs.holds k)
