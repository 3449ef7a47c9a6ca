-- Four desynchronisers of the second order below a demultiplexer.
use Rattle.std.specs.Prelude.{ℕ, ◌+◌, ◌*◌, ◌<◌, IsTrue, List, [], ◌∷◌, map}
use Rattle.pdh_eframes.specs.Plans.{e2}
use Rattle.pdh_edge.specs.Ports.{Outputs}
use Rattle.pdh_rx.specs.Meaning.{Meaning}
use Rattle.pdh_desync.specs.Smooth.{smooth_meaning}

-- one of them, by its number from 0
abbrev pub smooth_at : ℕ → Meaning
smooth_at n = smooth_meaning e2 (record { depth = 1; first = n + 1; second = 0 }) (4 * n) (4 * n + 16)

-- they put to the leaves 0 to 15, and their marks to the leaves 16 to 31
abbrev pub four_smooth : List Meaning
four_smooth = map smooth_at (0 ∷ 1 ∷ 2 ∷ 3 ∷ [])

-- there is a list for each of them
abbrev pub HoldsEach : Outputs → Type 0
HoldsEach outputs = (k : ℕ) → k < 32 → IsTrue (outputs.holds k)
