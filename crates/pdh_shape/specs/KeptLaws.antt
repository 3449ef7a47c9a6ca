-- A computed test of a shape's laws, for every shape: one walk for the marks, one for the payload, and one for each tributary.
use Rattle.std.specs.Prelude.{ℕ, suc, ◌+◌, ◌*◌, ◌%◌, Bool, true, false, not, nat_lt, nat_le, ◌==◌, ◌&&◌, ◌||◌, if◌then◌else◌, List, map, count_by}
use Rattle.std.specs.Bool.{beq}
use Rattle.std.specs.List.{range_with_len, list_all}
use Rattle.pdh_shape.specs.declared.role.Role.{Role}
use Rattle.pdh_shape.specs.declared.role.Role.TheVariants.{Control, Just, Info}
use Rattle.pdh_shape.specs.declared.role.Mark.{Mark}
use Rattle.pdh_shape.specs.declared.role.Mark.TheVariants.{Framing, Multi, Other}
use Rattle.pdh_shape.specs.Frame.{FrameShape, slots, clean, is_align, is_framing}
use Rattle.pdh_shape.specs.Tributary.{reads_from, controls, is_control, is_just}
use Rattle.pdh_shape.specs.Payload.{is_payload}
use Rattle.pdh_shape.specs.Walk.{walk}
use Rattle.pdh_shape.specs.OwnNumbers.{most_slots, most_signal}

-- ---- the numbers and the loss rule

abbrev pub keeps_numbers : FrameShape → Bool
keeps_numbers s =
    nat_lt 0 s.len
    && (nat_le s.len most_slots
    && (nat_le s.signal most_signal
    && (nat_le s.signal s.len
    && (not (s.loses clean clean clean clean)
    && ((s.copies == 0) || (s.copies % 2 == 1))))))

-- ---- the marks

-- a slot with this mark and role, before which so many framing slots stand, is marked and numbered well
abbrev pub mark_fits : Mark → Role → ℕ → Bool
mark_fits (Framing number) role framing = is_align role && ((number == framing) && nat_lt number 64)
mark_fits Multi role framing = is_align role
mark_fits Other role framing = not (is_align role)

-- slot t with this role is an alignment slot exactly where it is a slot of the signal, if the frame begins with one
abbrev pub signal_fits : FrameShape → Role → ℕ → Bool
signal_fits s role t = (s.signal == 0) || beq (is_align role) (nat_lt t s.signal)

-- slot t does both, and the framing slots before the next
abbrev pub marks_at : FrameShape → Role → ℕ → ℕ → Bool
marks_at s role t framing = mark_fits (s.mark t) role framing && signal_fits s role t

abbrev pub marks_next : FrameShape → Role → ℕ → ℕ → ℕ
marks_next s role t framing = framing + (if is_framing (s.mark t) then 1 else 0)

abbrev pub keeps_marks : FrameShape → List Role → Bool
keeps_marks s roles = walk (marks_at s) (marks_next s) (λ framing. true) roles 0 0

-- ---- the payload

-- a slot with this role, behind so many payload slots, belongs to the tributary whose turn it is, if to any
abbrev pub turn_fits : FrameShape → Role → ℕ → ℕ → Bool
turn_fits s (Info j) t payload = j == payload % s.tribs
turn_fits s (Just j) t payload = j == payload % s.tribs
turn_fits s _ t payload = true

-- the payload slots before the next slot
abbrev pub turn_next : Role → ℕ → ℕ → ℕ
turn_next role t payload = payload + (if is_payload role then 1 else 0)

-- the payload slots of a frame are all those of its tributaries
abbrev pub all_turns : FrameShape → ℕ → Bool
all_turns s payload = payload == s.tribs * suc s.low

abbrev pub keeps_turns : FrameShape → List Role → Bool
keeps_turns s roles = walk (turn_fits s) turn_next (all_turns s) roles 0 0

-- ---- the tributaries

-- a role names no tributary and no copy, or those that the shape has
abbrev pub names_known : FrameShape → Role → Bool
names_known s (Control j copy) = nat_lt j s.tribs && nat_lt copy s.copies
names_known s (Just j) = nat_lt j s.tribs
names_known s (Info j) = nat_lt j s.tribs
names_known s _ = true

abbrev pub keeps_copies : FrameShape → List Role → ℕ → Bool
keeps_copies s roles j = list_all (λ copy. count_by (is_control j copy) roles == 1) (range_with_len 0 s.copies)

-- the slots of a tributary before a slot
pub record Passed : Type 0 where
  -- its information slots
  pub low : ℕ
  -- these and its justifiable slot
  pub high : ℕ
  -- its control slots
  pub controls : ℕ

abbrev pub none_passed : Passed
none_passed = record { low = 0; high = 0; controls = 0 }

-- the slots of tributary j before the next slot
abbrev pub passes : ℕ → Role → ℕ → Passed → Passed
passes j role t passed = record {
  low = passed.low + (if reads_from j false role then 1 else 0);
  high = passed.high + (if reads_from j true role then 1 else 0);
  controls = passed.controls + (if controls j role then 1 else 0);
}

-- slot t stands near an even spread, and behind all control slots if it is the justifiable one
abbrev pub slot_fits : FrameShape → ℕ → Role → ℕ → Passed → Bool
slot_fits s j role t passed =
    nat_le (passed.low * s.len) (s.low * t + 2 * s.len)
    && (nat_le (suc s.low * suc t) ((passed.high + 5) * s.len)
    && (not (is_just j role) || (passed.controls == s.copies)))

-- the slots of a tributary in the whole frame
abbrev pub all_passed : FrameShape → Passed → Bool
all_passed s passed = (passed.low == s.low) && ((passed.high == suc s.low) && (passed.controls == s.copies))

abbrev pub keeps_tributary : FrameShape → List Role → ℕ → Bool
keeps_tributary s roles j = walk (slot_fits s j) (passes j) (all_passed s) roles 0 none_passed

-- ---- all of them

-- the shape keeps its laws, where these are the roles of its slots
unfoldable pub keeps_laws_by : FrameShape → List Role → Bool
keeps_laws_by s roles =
    keeps_numbers s
    && (keeps_marks s roles
    && (keeps_turns s roles
    && (list_all (names_known s) roles
    && (list_all (keeps_copies s roles) (range_with_len 0 s.tribs)
    && list_all (keeps_tributary s roles) (range_with_len 0 s.tribs)))))

-- the roles of a frame's slots, in order
abbrev pub roles_of : FrameShape → List Role
roles_of s = map s.role (slots s)

-- the shape keeps its laws
abbrev pub keeps_laws : FrameShape → Bool
keeps_laws s = keeps_laws_by s (roles_of s)
