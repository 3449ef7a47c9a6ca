-- The frames at tops of which most are right.
use Rattle.std.specs.Prelude.{ℕ, Bool, nat_lt, ◌==◌, if◌then◌else◌, List, [], ◌∷◌, map, flat_map, take, fold}
use Rattle.pdh_readings.specs.declared.bit_order.BitOrder.{BitOrder}
use Rattle.pdh_looking.specs.declared.nearest.Nearest.{Nearest}
use Rattle.pdh_looking.specs.declared.top.Top.{Top}
use Rattle.pdh_looking.specs.Words.{tops, level_of}
use Rattle.pdh_looking.specs.Judging.{judged_as, line_of}

-- one among others: behind those with as many right frames or more
abbrev pub put_among : Nearest → List Nearest → List Nearest
put_among one [] = one ∷ []
put_among one (other ∷ others) = (if nat_lt other.judged.right one.judged.right then one ∷ other ∷ others else other ∷ put_among one others)

-- with one more, unless none of its frames is right
abbrev pub ranked : List Nearest → Nearest → List Nearest
ranked list one = (if one.judged.right == 0 then list else put_among one list)

-- a frame at a top, in an order of a part of a recording
abbrev pub near : (BitOrder → List Bool) → Top → BitOrder → Nearest
near line top order = record { level = level_of top; order = order; judged = judged_as top (line order) }

-- the three of which most are right, those with as many in the order in which they are tried
abbrev pub nearest_by : (BitOrder → List Bool) → List BitOrder → List Nearest
nearest_by line orders = take 3 (fold ranked [] (flat_map (λ top. map (near line top) orders) tops))

abbrev pub nearest_of : List ℕ → ℕ → ℕ → List BitOrder → List Nearest
nearest_of bytes from bits orders = nearest_by (line_of bytes from bits) orders
