-- Names of files, as they stand in SVG.
use Rattle.std.specs.Prelude.{ℕ, ◌-◌, ◌==◌, ◌&&◌, ◌++◌, nat_le, nat_lt, List, [], ◌∷◌, if◌then◌else◌, length, drop, codes}
use Rattle.std.specs.List.{flat_map}

-- a byte: what SVG would read as its own is escaped, and a question mark stands for what isn't printable ASCII
abbrev pub escaped : ℕ → List ℕ
escaped byte =
    if byte == 38 then codes "&amp;"
    else if byte == 60 then codes "&lt;"
    else if byte == 62 then codes "&gt;"
    else if nat_le 32 byte && nat_le byte 126 then byte ∷ []
    else codes "?"

abbrev pub escaped_bytes : List ℕ → List ℕ
escaped_bytes = flat_map escaped

-- a name whole, or of one with more than 60 bytes three dots and the last 57
abbrev pub shown_name : List ℕ → List ℕ
shown_name name =
    if nat_lt 60 (length name) then codes "..." ++ escaped_bytes (drop (length name - 57) name)
    else escaped_bytes name
