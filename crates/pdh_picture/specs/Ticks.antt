-- How high the ticks of a lane are.
use Rattle.std.specs.Prelude.{ℕ, ◌+◌, ◌*◌, ◌==◌, nat_lt, if◌then◌else◌}
use Rattle.std.specs.Int.{div_ceil}

-- the class of a count: none, one, two to nine, ten to 99, or more
abbrev pub class_of : ℕ → ℕ
class_of count =
    if count == 0 then 0
    else if count == 1 then 1
    else if nat_lt count 10 then 2
    else if nat_lt count 100 then 3
    else 4

-- the height of a tick of a class from one on: so many sixths of the lane, and two more, rounded up
abbrev pub height_of : ℕ → ℕ → ℕ
height_of lane class = div_ceil (lane * (class + 2)) 6
