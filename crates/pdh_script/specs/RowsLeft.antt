-- Rows of a script that are left where some bits of its line came.
use Rattle.std.specs.Prelude.{◌≡◌, ℕ, suc, ◌<◌, ◌≤◌, Bool, List, [], ◌∷◌, ◌++◌}
use Rattle.pdh_script.specs.Scripts.{Row, end_of}
use Rattle.pdh_script.specs.Bending.{added_at, becomes_at}

-- the rows are in order from a place on
abbrev pub InOrder : ℕ → List Row → Type 0
InOrder place [] = Unit {0}
InOrder place (row ∷ rows) = (place ≤ row.at) × InOrder (end_of row) rows

-- the same, where some bits that the first row changes, or all of them, came before the place
abbrev pub Remain : ℕ → List Row → Type 0
Remain place [] = Unit {0}
Remain place (row ∷ rows) = (place ≤ end_of row) × InOrder (end_of row) rows

-- the first row ends behind the bit of a place
abbrev pub IsAhead : ℕ → List Row → Type 0
IsAhead place [] = Unit {0}
IsAhead place (row ∷ rows) = place < end_of row

-- rows do the same from a place on as others
abbrev pub SameFrom : ℕ → List Row → List Row → Type 0
SameFrom place rows others = (p : ℕ) → place ≤ p → (added_at p rows ≡ added_at p others) × ((bits : List Bool) → becomes_at p rows bits ≡ becomes_at p others bits)

-- these are left of a script's rows where so many bits came: from there on they do the same
pub record AreLeft (left rows : List Row) (place : ℕ) : Type 0 where
  pub remain : Remain place left
  pub same : SameFrom place left rows

-- rows were passed that add these bits before the bit of a place: those that are left do the rest
pub record ArePassed (place : ℕ) (rows left : List Row) (added : List Bool) : Type 0 where
  pub adds : added_at place rows ≡ added ++ added_at place left
  pub here : (bits : List Bool) → becomes_at place left bits ≡ becomes_at place rows bits
  pub later : SameFrom (suc place) left rows
  pub remain : Remain place left

-- all rows were passed that add bits before the bit of a place
pub record HasAdded (place : ℕ) (rows left : List Row) : Type 0 where
  pub ahead : IsAhead place left
  pub passed : ArePassed place rows left (added_at place rows)
