-- What the service bits of a delivered frame tell (G.742, Table 1, and G.751; ANSI T1.107).
use Rattle.std.specs.Prelude.{◌≡◌, ℕ, suc, ◌*◌, ◌%◌, Bool, true, false, not, nat_lt, ◌==◌, ◌&&◌, if◌then◌else◌, Option, Some, None, List, [], ◌∷◌, ◌++◌, length, map, filter, filter_map, flat_map, fold, take, count_by}
use Rattle.std.specs.List.{range_with_len, slice_index_or, list_any}
use Rattle.std.specs.Bool.{beq}
use Rattle.pdh_shape.specs.declared.place.Path.{Path}
use Rattle.pdh_shape.specs.declared.role.Role.{Role}
use Rattle.pdh_shape.specs.declared.role.Role.TheVariants.{Service}
use Rattle.pdh_shape.specs.declared.role.Duty.{Duty}
use Rattle.pdh_shape.specs.declared.role.Duty.TheVariants.{Alarm, Parity, Feac, PathParity, Febe, Other}
use Rattle.pdh_shape.specs.Frame.{FrameShape, slots, idle}
use Rattle.pdh_shape.specs.Payload.{payload_ones}
use Rattle.pdh_cbit.specs.Feac.{answer_of}
use Rattle.pdh_watch.specs.declared.kind.Kind.{Kind}
use Rattle.pdh_watch.specs.declared.kind.TheConstants.Kind.{ALARM_ON, ALARM_OFF, PARITY, PATH_PARITY, FEBE, FEAC}
use Rattle.pdh_watch.specs.declared.event.Event.{Event}
use Rattle.pdh_line.specs.Tracking.{Piece}
use Rattle.pdh_line.specs.Tracking.Piece.{Gap, Delivered}
use Rattle.pdh_events.specs.Telling.{tell, changed}

-- ---- delivered frames

-- the frame of a piece, where it is a delivered one
abbrev pub piece_frame : Piece → Option (List Bool)
piece_frame (Gap n) = None
piece_frame (Delivered frame) = Some frame

-- the delivered frames
abbrev pub frames_of : List Piece → List (List Bool)
frames_of pieces = filter_map piece_frame pieces

-- the frame that the pieces end with; none where they end with a gap, so that no alignment holds
abbrev pub last_frame : List Piece → Option (List Bool)
last_frame pieces = fold (λ last piece. piece_frame piece) None pieces

-- ---- the bits that tell something

-- a number for each duty
abbrev pub duty_number : Duty → ℕ
duty_number Alarm = 0
duty_number Parity = 1
duty_number Feac = 2
duty_number PathParity = 3
duty_number Febe = 4
duty_number Other = 5

-- a slot of this role has this duty: it carries a service bit that tells this
abbrev pub has_duty : FrameShape → Duty → Role → Bool
has_duty s duty (Service number) = duty_number (s.duty number) == duty_number duty
has_duty s duty _ = false

-- the slots of a duty, in order
abbrev pub slots_with : FrameShape → Duty → List ℕ
slots_with s duty = filter (λ slot. has_duty s duty (s.role slot)) (slots s)

-- their bits in a frame
unfoldable pub duty_bits : FrameShape → Duty → List Bool → List Bool
duty_bits s duty frame = map (λ slot. slice_index_or frame slot false) (slots_with s duty)

-- ---- the remote alarm

-- with which bit a slot of this role says alarm
abbrev pub alarm_bit : FrameShape → Role → Bool
alarm_bit s (Service number) = s.service number (record idle { alarm = true }) false
alarm_bit s _ = true

-- what each alarm bit of a frame says
unfoldable pub alarm_says : FrameShape → List Bool → List Bool
alarm_says s frame = map (λ slot. beq (slice_index_or frame slot false) (alarm_bit s (s.role slot))) (slots_with s Alarm)

-- what they all say; what stood before where they differ, or there are none
abbrev pub agreed : Bool → List Bool → Bool
agreed before says = (if beq (list_any (λ says. says) says) (list_any not says) then before else list_any (λ says. says) says)

-- whether there is an alarm after these delivered frames; none before the first (G.742, Table 1, bit 11; T1.107 sends it in
-- two X bits)
unfoldable pub alarm_after : FrameShape → List (List Bool) → Bool
alarm_after s frames = fold (λ alarm frame. agreed alarm (alarm_says s frame)) false frames

abbrev pub alarm_kinds : FrameShape → List (List Bool) → List Bool → List Kind
alarm_kinds s frames frame = changed ALARM_ON ALARM_OFF (alarm_after s frames) (alarm_after s (frames ++ frame ∷ []))

-- ---- parity

-- the information and justifiable slots of a frame hold an odd number of ones (T1.107)
unfoldable pub is_odd : FrameShape → List Bool → Bool
is_odd s frame = payload_ones s 0 frame % 2 == 1

-- more than half of some bits are ones
abbrev pub most_are_ones : List Bool → Bool
most_are_ones bits = nat_lt (length bits) (2 * count_by (λ bit. bit) bits)

-- a parity bit isn't the parity of the frame before
abbrev pub breaks_parity : FrameShape → Bool → List Bool → Bool
breaks_parity s odd frame = list_any (λ bit. not (beq bit odd)) (duty_bits s Parity frame)

-- there are path parity bits, and their majority isn't the parity of the frame before
abbrev pub breaks_path_parity : FrameShape → Bool → List Bool → Bool
breaks_path_parity s odd frame = let bits = duty_bits s PathParity frame in nat_lt 0 (length bits) && not (beq (most_are_ones bits) odd)

-- whether the frame before in the same alignment is odd, if there is one
abbrev pub odd_before : FrameShape → List Piece → Option Bool
odd_before s pieces = odd_of (last_frame pieces)
  where
    odd_of : Option (List Bool) → Option Bool
    odd_of None = None
    odd_of (Some frame) = Some (is_odd s frame)

-- the first frame of an alignment has no frame before
abbrev pub parity_kinds : FrameShape → Option Bool → List Bool → List Kind
parity_kinds s None frame = []
parity_kinds s (Some odd) frame = (if breaks_parity s odd frame then PARITY ∷ [] else []) ++ (if breaks_path_parity s odd frame then PATH_PARITY ∷ [] else [])

-- frames of the shape tell the same of these parities of the frame before
abbrev pub TellAlike : FrameShape → Option Bool → Option Bool → Type 0
TellAlike s a b = (frame : List Bool) → parity_kinds s a frame ≡ parity_kinds s b frame

-- ---- the far end

-- a far end block error bit is 0 (T1.107: the three C bits of subframe 4 aren't 111)
abbrev pub febe_kinds : FrameShape → List Bool → List Kind
febe_kinds s frame = (if list_any not (duty_bits s Febe frame) then FEBE ∷ [] else [])

-- the bits of the far end alarm and control channel in delivered frames, whatever losses stand between them
unfoldable pub channel_bits : FrameShape → List (List Bool) → List Bool
channel_bits s frames = flat_map (duty_bits s Feac) frames

-- the codes that the channel's bits of a frame answer, after those of all delivered frames before it
unfoldable pub codes_answered : FrameShape → List (List Bool) → List Bool → List ℕ
codes_answered s frames frame =
    let bits = duty_bits s Feac frame in
    filter_map (λ k. answer_of (channel_bits s frames ++ take (suc k) bits)) (range_with_len 0 (length bits))

-- an event that tells a code
abbrev pub code_event : Path → ℕ → ℕ → Event
code_event path bit code = record { kind = FEAC; path = path; bit = bit; value = code }

-- ---- a frame's events

-- a delivered frame's own events, after these pieces: the alarm, parity, path parity, far end block errors and codes, in order
unfoldable pub frame_events : FrameShape → Path → ℕ → List Piece → List Bool → List Event
frame_events s path bit pieces frame =
    tell path bit (alarm_kinds s (frames_of pieces) frame ++ parity_kinds s (odd_before s pieces) frame ++ febe_kinds s frame)
    ++ map (code_event path bit) (codes_answered s (frames_of pieces) frame)
