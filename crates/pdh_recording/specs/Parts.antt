-- The bytes that are passed over before the part of a recording that is looked at.
use Rattle.std.specs.Prelude.{ℕ, suc, ◌==◌, ◌||◌, if◌then◌else◌, List, [], ◌∷◌}

-- how many bytes at the beginning are this one
abbrev pub leading : ℕ → List ℕ → ℕ
leading byte [] = 0
leading byte (first ∷ rest) = (if first == byte then suc (leading byte rest) else 0)

-- all but the last of the bytes at the beginning that are all 0 or all 255
abbrev pub passed_over : List ℕ → ℕ
passed_over [] = 0
passed_over (first ∷ rest) = (if first == 0 || first == 255 then leading first rest else 0)
