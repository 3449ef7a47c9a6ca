-- The test of candidates over a part of a recording.
use Rattle.std.specs.Prelude.{◌≡◌, ℕ, Bool, if◌then◌else◌, List}
use Rattle.pdh_readings.specs.declared.bit_order.BitOrder.{BitOrder}
use Rattle.pdh_candidates.specs.declared.candidate.Candidate.{Candidate}
use Rattle.pdh_looking.specs.declared.reading.Reading.{Reading}
use Rattle.pdh_looking.specs.declared.part.Part.{Part}
use Rattle.pdh_looking.specs.Judging.{line_of}
use Rattle.pdh_looking.specs.Levels.{fits}

-- a candidate meets the test: so many bits of these bytes from a bit on may be its chain or stream in its order
abbrev pub meets : List ℕ → ℕ → ℕ → Candidate → Bool
meets bytes from bits candidate = fits candidate.word (line_of bytes from bits candidate.order)

-- ---- the part as it is kept

-- the part in an order
abbrev pub in_order : Part → BitOrder → Reading
in_order part order =
    (if order.lsb_first then (if order.inverted then part.lsb_inverted else part.lsb) else (if order.inverted then part.msb_inverted else part.msb))

-- its bits in each order
abbrev pub lines_in : Part → BitOrder → List Bool
lines_in part order = (in_order part order).line.bits

-- it is so many bits of these bytes from a bit on
abbrev pub IsPart : List ℕ → ℕ → ℕ → Part → Type 0
IsPart bytes from bits part = (order : BitOrder) → lines_in part order ≡ line_of bytes from bits order

-- a candidate meets the test in it
abbrev pub is_met_in : Part → Candidate → Bool
is_met_in part candidate = fits candidate.word (lines_in part candidate.order)
