-- Lists of bits place by place, and a list written over a part of another.
use Rattle.std.specs.Prelude.{ℕ, ◌+◌, Bool, true, false, not, ◌&&◌, ◌||◌, List, ◌++◌, length, map, take, drop, replicate}
use Rattle.std.specs.List.{zip}

-- at each place, whether both have a 1
abbrev pub both : List Bool → List Bool → List Bool
both xs ys = map (λ pair. pair.0 && pair.1) (zip xs ys)

-- at each place, whether one of the two has a 1
abbrev pub either : List Bool → List Bool → List Bool
either xs ys = map (λ pair. pair.0 || pair.1) (zip xs ys)

-- two bits differ
abbrev pub differs : Bool → Bool → Bool
differs true bit = not bit
differs false bit = bit

-- at each place, whether the two differ
abbrev pub differing : List Bool → List Bool → List Bool
differing xs ys = map (λ pair. differs pair.0 pair.1) (zip xs ys)

-- bits with so many zeros before them and behind them
abbrev pub between_zeros : ℕ → List Bool → ℕ → List Bool
between_zeros before bits behind = replicate before false ++ (bits ++ replicate behind false)

-- bits with others in place of as many, from a place on
abbrev pub overwritten : ℕ → List Bool → List Bool → List Bool
overwritten place part bits = take place bits ++ (part ++ drop (place + length part) bits)

-- the bits from a place on where a mask has a 1, and zeros where it hasn't
abbrev pub masked : ℕ → List Bool → List Bool → List Bool
masked place mask bits = both (take (length mask) (drop place bits)) mask
