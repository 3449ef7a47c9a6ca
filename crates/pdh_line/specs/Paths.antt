-- The paths of the nodes of a chain, as the code has them.
use Rattle.std.specs.Prelude.{◌≡◌, ℕ, ◌+◌, ◌==◌, if◌then◌else◌, List, [], ◌∷◌, ◌++◌, length, take, slice_get, decimal, Option, Some}
use Rattle.pdh_shape.specs.declared.place.Path.{Path}

-- the steps from the top to the node at a path
abbrev pub steps_of : Path → List ℕ
steps_of path = take path.depth (path.first ∷ path.second ∷ [])

-- the top's path
abbrev pub top : Path
top = record { depth = 0; first = 0; second = 0 }

-- the path of the node to which these steps lead from the top: numbers that it doesn't use are 0
abbrev pub path_of : List ℕ → Path
path_of [] = top
path_of (first ∷ []) = record { depth = 1; first = first; second = 0 }
path_of (first ∷ second ∷ rest) = record { depth = 2; first = first; second = second }

-- the text of the path of the node to which these steps lead: each behind a slash, 47, or a slash alone
abbrev pub path_text : List ℕ → List ℕ
path_text [] = 47 ∷ []
path_text (step ∷ steps) = 47 ∷ decimal step ++ (if length steps == 0 then [] else path_text steps)

-- Each child that is a node stands below the node at this path, by its number from 1. `node_of` is the node that a child
-- is, if it is one, and `place_of` the path of a node.
abbrev pub StandBelow : {X N : Type 0} → (X → Option N) → (N → Path) → Path → List X → Type 0
StandBelow {X} {N} node_of place_of path xs = (j : ℕ) (x : X) (node : N) → slice_get xs j ≡ Some x → node_of x ≡ Some node → steps_of (place_of node) ≡ steps_of path ++ (j + 1) ∷ []
