-- Numbers and times as people read them.
use Rattle.std.specs.Prelude.{ℕ, ◌*◌, ◌/◌, ◌%◌, ◌^◌, ◌-◌, ◌++◌, ◌==◌, ◌&&◌, false, nat_lt, List, [], ◌∷◌, if◌then◌else◌, length, codes, decimal}
use Rattle.std.specs.Fmt.{padded_integral, format_spec}

-- what stands before so many digits, behind another one: a comma where they are three, six, nine and so on
abbrev pub comma_before : ℕ → List ℕ
comma_before n = if nat_lt 0 n && (n % 3 == 0) then codes "," else []

-- digits with a comma before each three, counted from the end
unfoldable pub in_threes : List ℕ → List ℕ
in_threes [] = []
in_threes (digit ∷ rest) = digit ∷ (comma_before (length rest) ++ in_threes rest)

-- a number in decimal, with a comma before each three digits
abbrev pub grouped_text : ℕ → List ℕ
grouped_text n = in_threes (decimal n)

-- the same, and a hyphen for 0
abbrev pub count_text : ℕ → List ℕ
count_text n = if n == 0 then codes "-" else grouped_text n

-- a time in whole and tenths of a unit that has ten times so many parts, and the unit behind it
abbrev pub in_tenths : ℕ → List ℕ → ℕ → List ℕ
in_tenths part unit n = decimal (n / (10 * part)) ++ (codes "." ++ (decimal (n / part % 10) ++ unit))

-- a time of so many microseconds: in these below a millisecond, in tenths of a millisecond below a second, else in tenths of a
-- second, cut off
abbrev pub microseconds_text : ℕ → List ℕ
microseconds_text us =
    if us == 0 then codes "<1 us"
    else if nat_lt us 1000 then decimal us ++ codes " us"
    else if nat_lt us 1000000 then in_tenths 100 (codes " ms") us
    else in_tenths 100000 (codes " s") us

-- how long so many bits take at a rate in bits a second
abbrev pub duration_text : ℕ → ℕ → List ℕ
duration_text rate bits = if bits == 0 then codes "-" else microseconds_text (bits * 1000000 / rate)

-- the decimal digits of a number, six at least, with zeros in front
abbrev pub six_digits : ℕ → List ℕ
six_digits n = padded_integral (format_spec 32 0 4 6 (2 ^ 64 - 1)) false [] (decimal n)

-- the time of a bit at a rate in bits a second: seconds with six digits, cut off
abbrev pub clock_text : ℕ → ℕ → List ℕ
clock_text rate bit = decimal (bit / rate) ++ (codes "." ++ six_digits (bit % rate * 1000000 / rate))
