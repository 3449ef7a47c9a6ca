-- The turns that a tributary has in a piece of a frame.
use Rattle.std.specs.Prelude.{◌≡◌, ◌<◌, ◌≤◌, ℕ, ◌+◌, ◌-◌, Bool, true, nat_lt, if◌then◌else◌, List, ◌∷◌, ◌++◌, map, take, drop, Option, Some, None, IfSome}
use Rattle.pdh_shape.specs.Frame.{FrameShape}
use Rattle.pdh_shape.specs.Tributary.{reads_below, turned}
use Rattle.pdh_runs.specs.declared.turns.Turns.{Turns}

-- how many of the first so many turns carry nothing, where one does or none
abbrev pub empty_before : Option ℕ → ℕ → ℕ
empty_before None n = 0
empty_before (Some place) n = (if nat_lt place n then 1 else 0)

-- the turns of tributary j in a piece of a frame that carries an additional bit of it or doesn't
pub record AreTurns (s : FrameShape) (j : ℕ) (more : Bool) (first len : ℕ) (turns : Turns) : Type 0 where
  -- it has had so many before the piece,
  pub from_is : turns.from ≡ reads_below s j true first
  -- has so many in it,
  pub count_is : turns.from + turns.count ≡ reads_below s j true (first + len)
  -- and each of these carries the next bit, but for the empty one
  pub carries : (t : ℕ) → first ≤ t → t ≤ first + len → reads_below s j more t + turns.from + empty_before turns.empty (reads_below s j true t - turns.from) ≡ reads_below s j more first + reads_below s j true t
  pub empty_is : IfSome turns.empty (λ place. place < turns.count)

-- the bits of so many turns, from a queue on, as the line has them; the empty turn is 1
abbrev pub turn_bits : Bool → Option ℕ → ℕ → List Bool → List Bool
turn_bits inverted None count queue = map (turned inverted) (take count queue)
turn_bits inverted (Some place) count queue = map (turned inverted) (take place queue) ++ true ∷ map (turned inverted) (take (count - place - 1) (drop place queue))
