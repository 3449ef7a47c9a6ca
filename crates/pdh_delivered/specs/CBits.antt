-- By which C bits a DS3 line tells that it has C-bit parity (ANSI T1.107).
use Rattle.std.specs.Prelude.{ℕ, ◌+◌, ◌-◌, ◌*◌, ◌^◌, min, Bool, true, false, not, nat_le, if◌then◌else◌, List, [], ◌∷◌, get_or, count_by}
use Rattle.pdh_ds.specs.Plans.{ds3}
use Rattle.pdh_delivered.specs.declared.c_bits.CBits.{CBits}
use Rattle.pdh_delivered.specs.Deliveries.{Delivery, deliveries}

-- the slot of a C bit, by its subframe and its number, both from 1: a subframe has 680 slots, and every second block of 85
-- begins with a C bit
abbrev pub c_bit : ℕ → ℕ → ℕ
c_bit subframe number = 680 * (subframe - 1) + 170 * number

-- those that are 1 in each frame with C-bit parity
abbrev pub fixed_c_bits : List ℕ
fixed_c_bits =
    c_bit 1 1 ∷ c_bit 1 2 ∷ c_bit 2 1 ∷ c_bit 2 2 ∷ c_bit 2 3 ∷ c_bit 6 1 ∷ c_bit 6 2 ∷ c_bit 6 3
    ∷ c_bit 7 1 ∷ c_bit 7 2 ∷ c_bit 7 3 ∷ []

-- a frame says so where at most one of them is 0; this, and how many frames must say so, is this project's own
abbrev pub says_c_bit_parity : List Bool → Bool
says_c_bit_parity frame = nat_le (count_by (λ slot. not (get_or frame slot false)) fixed_c_bits) 1

-- how many delivered frames of a line pass a test, where a count that reaches its type's end stands there
abbrev pub counted : (List Bool → Bool) → List Delivery → ℕ
counted test frames = min (count_by (λ delivery. test delivery.frame) frames) (2 ^ 64 - 1)

-- how many frames of a line are delivered, and how many of them say so
unfoldable pub c_bits_in : List Bool → CBits
c_bits_in line = record { frames = counted (λ frame. true) (deliveries ds3 line); saying = counted says_c_bit_parity (deliveries ds3 line) }

-- these are of a line with C-bit parity: three frames in four say so, or more
abbrev pub have_c_bit_parity : CBits → Bool
have_c_bit_parity counts = nat_le (3 * counts.frames) (4 * counts.saying)

-- a line has C-bit parity
abbrev pub has_c_bit_parity : List Bool → Bool
has_c_bit_parity line = have_c_bit_parity (c_bits_in line)

-- ---- a frame more

abbrev pub one_more : ℕ → ℕ
one_more n = min (n + 1) (2 ^ 64 - 1)

abbrev pub with_frame : CBits → Delivery → CBits
with_frame counts delivery = record { frames = one_more counts.frames; saying = (if says_c_bit_parity delivery.frame then one_more counts.saying else counts.saying) }
