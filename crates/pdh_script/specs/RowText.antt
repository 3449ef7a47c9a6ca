-- The line that is a row of a script.
use Rattle.std.specs.Prelude.{ℕ, ◌==◌, nat_lt, ◌||◌, if◌then◌else◌, List, [], ◌∷◌, codes, length, Option, Some, None, option_map}
use Rattle.std.specs.Result.{result_ok}
use Rattle.std.specs.Str.{bytes_eq}
use Rattle.hex.specs.Hex.{decode_of}
use Rattle.pdh_row_text.specs.Text.{◌>>=◌, words_of, number_of}
use Rattle.pdh_script.specs.Scripts.{Change, Flip, Ones, Zeros, Drop, Add, Row}

-- a number of bits, which isn't 0
abbrev pub count_of : List ℕ → Option ℕ
count_of word = do
  count ← number_of word
  if count == 0 then None else Some count

-- the bytes that 2 to 128 hexadecimal digits write, two digits for each
abbrev pub hex_of : List ℕ → Option (List ℕ)
hex_of word = if length word == 0 || nat_lt 128 (length word) then None else result_ok (decode_of word)

-- the change of this name, with what the last word says of it
abbrev pub change_of : List ℕ → List ℕ → Option Change
change_of name word =
    (if bytes_eq name (codes "flip") then option_map Flip (count_of word)
    else (if bytes_eq name (codes "ones") then option_map Ones (count_of word)
    else (if bytes_eq name (codes "zeros") then option_map Zeros (count_of word)
    else (if bytes_eq name (codes "drop") then option_map Drop (count_of word)
    else (if bytes_eq name (codes "add") then option_map Add (hex_of word) else None)))))

-- a name, a place, and what the change needs
abbrev pub row_of_words : List (List ℕ) → Option Row
row_of_words (name ∷ place ∷ word ∷ []) = do
  at ← number_of place
  change ← change_of name word
  Some (record { at = at; change = change })
row_of_words _ = None

abbrev pub row_of : List ℕ → Option Row
row_of line = row_of_words (words_of line)
