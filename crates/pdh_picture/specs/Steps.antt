-- The steps of a scale.
use Rattle.std.specs.Prelude.{ℕ, ◌*◌, max, nat_le, List}
use Rattle.std.specs.Int.{div_ceil}
use Rattle.std.specs.List.{find}
use Rattle.std.specs.Option.{unwrap_or}

-- the shortest step of which ten are enough for so many microseconds
abbrev pub tenth_of : ℕ → ℕ
tenth_of us = max (div_ceil us 10) 1

-- the step for so many microseconds: the first of these that is long enough, or else the fewest days that are
abbrev pub step_of : List ℕ → ℕ → ℕ
step_of steps us = unwrap_or (find (λ step. nat_le (tenth_of us) step) steps) (div_ceil (tenth_of us) 86400000000 * 86400000000)
