-- What slips do to the bits of a tributary. That a store which slips moves its fill by half of its size, and that the bits which it
-- then puts in are ones, is this project's own.
use Rattle.std.specs.Prelude.{ℕ, ◌+◌, ◌-◌, ◌/◌, Bool, true, nat_lt, if◌then◌else◌, List, [], ◌∷◌, ◌++◌, take, drop, replicate}
use Rattle.pdh_shape.specs.OwnNumbers.{store_size}

-- half of what a store may hold: so many bits an overflow takes out of it, and so many ones an underflow puts in
abbrev pub half_store : ℕ
half_store = store_size / 2

-- an overflow or an underflow, behind so many reads of the tributary
pub record Edit : Type 0 where
  pub over : Bool
  pub place : ℕ

-- an overflow takes out bits from its place on, and an underflow puts ones in before it
abbrev pub edit_bits : Edit → (ℕ → Bool) → ℕ → Bool
edit_bits edit bits i =
    if nat_lt i edit.place then bits i
    else (if edit.over then bits (i + half_store)
    else (if nat_lt i (edit.place + half_store) then true else bits (i - half_store)))

-- all edits, in order: each changes what those before it left
abbrev pub edited : List Edit → (ℕ → Bool) → ℕ → Bool
edited [] bits i = bits i
edited (edit ∷ edits) bits i = edited edits (edit_bits edit bits) i

-- the same of a list
abbrev pub edit_list : Edit → List Bool → List Bool
edit_list edit bits =
    take edit.place bits
    ++ (if edit.over then drop (edit.place + half_store) bits else replicate half_store true ++ drop edit.place bits)

abbrev pub edited_list : List Edit → List Bool → List Bool
edited_list [] bits = bits
edited_list (edit ∷ edits) bits = edited_list edits (edit_list edit bits)
