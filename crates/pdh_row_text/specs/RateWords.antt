-- Clock offsets, and the words that write them.
use Rattle.std.specs.Prelude.{ℕ, ◌+◌, ◌-◌, nat_le, ◌==◌, ◌&&◌, if◌then◌else◌, List, [], ◌∷◌, Option, Some, None}
use Rattle.pdh_row_text.specs.Text.{◌>>=◌, number_of}

-- the rate of a stream that is so many parts per million fast or slow, as a multiple of a millionth of its nominal rate
abbrev pub fast : ℕ → ℕ
fast ppm = 1000000 + ppm

abbrev pub slow : ℕ → ℕ
slow ppm = 1000000 - ppm

-- at most 1000 parts per million; a slow stream's aren't 0
abbrev pub ahead_of : ℕ → Option ℕ
ahead_of ppm = if nat_le ppm 1000 then Some (fast ppm) else None

abbrev pub behind_of : ℕ → Option ℕ
behind_of ppm = if nat_le 1 ppm && nat_le ppm 1000 then Some (slow ppm) else None

-- the rate that a word writes: a number of parts per million, with a minus sign, 45, before it where it is negative
abbrev pub rate_of : List ℕ → Option ℕ
rate_of [] = None
rate_of (byte ∷ word) = (if byte == 45 then number_of word >>= behind_of else number_of (byte ∷ word) >>= ahead_of)
