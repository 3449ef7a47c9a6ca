-- The roles of the frames of T1.107, computed by the checker.
use Rattle.std.specs.Prelude.{◌≡◌, ℕ, zero, suc, true, false, List, [], ◌∷◌, ◌++◌, map, refl}
use Rattle.pdh_shape.specs.declared.role.Role.{Role}
use Rattle.pdh_shape.specs.declared.role.Role.TheVariants.{Align, Service, Control, Just, Info}
use Rattle.pdh_shape.specs.Frame.{slots}
use Rattle.pdh_ds.specs.Blocks.{block_role}
use Rattle.pdh_ds.specs.Plans.{ds2, ds3}

-- the four tributaries in turn, so many times
abbrev pub fours : ℕ → List Role
fours zero = []
fours (suc n) = Info 0 ∷ Info 1 ∷ Info 2 ∷ Info 3 ∷ fours n

-- a subframe of DS2: its first overhead slot, its number, and the first information slots of its last block
abbrev pub ds2_subframe : Role → ℕ → List Role → List Role
ds2_subframe first i last =
    (first ∷ fours 12)
    ++ (Control i 0 ∷ fours 12)
    ++ (Align false ∷ fours 12)
    ++ (Control i 1 ∷ fours 12)
    ++ (Control i 2 ∷ fours 12)
    ++ (Align true ∷ last ++ fours 11)

abbrev pub ds2_table : List Role
ds2_table =
    ds2_subframe (Align false) 0 (Just 0 ∷ Info 1 ∷ Info 2 ∷ Info 3 ∷ [])
    ++ ds2_subframe (Align true) 1 (Info 0 ∷ Just 1 ∷ Info 2 ∷ Info 3 ∷ [])
    ++ ds2_subframe (Align true) 2 (Info 0 ∷ Info 1 ∷ Just 2 ∷ Info 3 ∷ [])
    ++ ds2_subframe (Service 0) 3 (Info 0 ∷ Info 1 ∷ Info 2 ∷ Just 3 ∷ [])

pub ds2_roles : map ds2.role (slots ds2) ≡ ds2_table
unfolding block_role
ds2_roles = refl

-- the seven tributaries in turn, so many times
abbrev pub sevens : ℕ → List Role
sevens zero = []
sevens (suc n) = Info 0 ∷ Info 1 ∷ Info 2 ∷ Info 3 ∷ Info 4 ∷ Info 5 ∷ Info 6 ∷ sevens n

-- a subframe of DS3
abbrev pub ds3_subframe : Role → ℕ → List Role → List Role
ds3_subframe first i last =
    (first ∷ sevens 12)
    ++ (Align true ∷ sevens 12)
    ++ (Control i 0 ∷ sevens 12)
    ++ (Align false ∷ sevens 12)
    ++ (Control i 1 ∷ sevens 12)
    ++ (Align false ∷ sevens 12)
    ++ (Control i 2 ∷ sevens 12)
    ++ (Align true ∷ last ++ sevens 11)

abbrev pub ds3_table : List Role
ds3_table =
    ds3_subframe (Service 0) 0 (Just 0 ∷ Info 1 ∷ Info 2 ∷ Info 3 ∷ Info 4 ∷ Info 5 ∷ Info 6 ∷ [])
    ++ ds3_subframe (Service 0) 1 (Info 0 ∷ Just 1 ∷ Info 2 ∷ Info 3 ∷ Info 4 ∷ Info 5 ∷ Info 6 ∷ [])
    ++ ds3_subframe (Service 1) 2 (Info 0 ∷ Info 1 ∷ Just 2 ∷ Info 3 ∷ Info 4 ∷ Info 5 ∷ Info 6 ∷ [])
    ++ ds3_subframe (Service 1) 3 (Info 0 ∷ Info 1 ∷ Info 2 ∷ Just 3 ∷ Info 4 ∷ Info 5 ∷ Info 6 ∷ [])
    ++ ds3_subframe (Align false) 4 (Info 0 ∷ Info 1 ∷ Info 2 ∷ Info 3 ∷ Just 4 ∷ Info 5 ∷ Info 6 ∷ [])
    ++ ds3_subframe (Align true) 5 (Info 0 ∷ Info 1 ∷ Info 2 ∷ Info 3 ∷ Info 4 ∷ Just 5 ∷ Info 6 ∷ [])
    ++ ds3_subframe (Align false) 6 (Info 0 ∷ Info 1 ∷ Info 2 ∷ Info 3 ∷ Info 4 ∷ Info 5 ∷ Just 6 ∷ [])

pub ds3_roles : map ds3.role (slots ds3) ≡ ds3_table
unfolding block_role
ds3_roles = refl
