-- What one more bit of a received line makes a demultiplexer do, in order: it notes events of its own, and gives its
-- tributaries bits (the order is this project's own).
use Rattle.std.specs.Prelude.{ℕ, ◌-◌, ◌*◌, ◌/◌, Bool, true, false, if◌then◌else◌, is_some, List, [], ◌∷◌, ◌++◌, length, map, flat_map, drop, sum_by}
use Rattle.std.specs.List.{range_with_len, slice_index_or}
use Rattle.pdh_shape.specs.declared.place.Path.{Path}
use Rattle.pdh_shape.specs.declared.role.Role.{Role}
use Rattle.pdh_shape.specs.declared.role.Role.TheVariants.{Just, Info}
use Rattle.pdh_shape.specs.Frame.{FrameShape, slots}
use Rattle.pdh_shape.specs.Tributary.{carries_more, turned}
use Rattle.pdh_watch.specs.declared.kind.Kind.{Kind}
use Rattle.pdh_watch.specs.declared.kind.TheConstants.Kind.{ALIGNED, LOST}
use Rattle.pdh_watch.specs.declared.event.Event.{Event}
use Rattle.pdh_line.specs.Tracking.{Piece, track}
use Rattle.pdh_line.specs.Tracking.Piece.{Gap, Delivered}
use Rattle.pdh_edge.specs.Ports.{only}
use Rattle.pdh_events.specs.Telling.{next_bit, tell, changed, ais_kinds}
use Rattle.pdh_events.specs.Duties.{frames_of, last_frame, frame_events}

-- it notes an event of its own, or gives a tributary a bit
pub data Act : Type 0 where
  Note : Event → Act
  Give : ℕ → Bool → Act

-- ---- frames

-- a slot gives the tributary whose bit it carries that bit
abbrev pub role_acts : FrameShape → Role → Bool → Bool → List Act
role_acts s (Info j) more bit = Give j (turned (s.inverted j) bit) ∷ []
role_acts s (Just j) more bit = (if more then Give j (turned (s.inverted j) bit) ∷ [] else [])
role_acts s _ more bit = []

-- a justifiable slot carries a bit where the frame carries an additional bit of its tributary
abbrev pub carries_at : FrameShape → List Bool → Role → Bool
carries_at s frame (Just j) = carries_more s j frame
carries_at s frame _ = false

abbrev pub slot_acts : FrameShape → List Bool → ℕ → List Act
slot_acts s frame slot = role_acts s (s.role slot) (carries_at s frame (s.role slot)) (slice_index_or frame slot false)

-- a delivered frame: its own events, and then its bits in slot order
unfoldable pub frame_acts : FrameShape → Path → ℕ → List Piece → List Bool → List Act
frame_acts s path bit pieces frame = map Note (frame_events s path bit pieces frame) ++ flat_map (slot_acts s frame) (slots s)

-- frames that follow each other, after these pieces
abbrev pub frames_acts : FrameShape → Path → ℕ → List Piece → List (List Bool) → List Act
frames_acts s path bit pieces [] = []
frames_acts s path bit pieces (frame ∷ frames) = frame_acts s path bit pieces frame ++ frames_acts s path bit (pieces ++ Delivered frame ∷ []) frames

-- ---- gaps

-- a round of a gap: a one for each tributary in order
abbrev pub round_acts : FrameShape → List Act
round_acts s = flat_map (λ j. Give j true ∷ []) (range_with_len 0 s.tribs)

-- so many rounds
abbrev pub rounds_acts : FrameShape → ℕ → List Act
rounds_acts s rounds = flat_map (λ round. round_acts s) (range_with_len 0 rounds)

-- how many whole frames' lengths the gaps have, each by itself
abbrev pub piece_lengths : FrameShape → Piece → ℕ
piece_lengths s (Gap n) = n / s.len
piece_lengths s (Delivered frame) = 0

abbrev pub gap_lengths : FrameShape → List Piece → ℕ
gap_lengths s pieces = sum_by (piece_lengths s) pieces

-- ---- a bit

-- aligned where an alignment holds that didn't before, and lost where none holds and one did (G.742, 4; G.751; T1.107)
abbrev pub alignment_kinds : List Piece → List Piece → List Kind
alignment_kinds before after = changed ALIGNED LOST (is_some (last_frame before)) (is_some (last_frame after))

-- what the pieces after a bit have more than those before it: rounds for each frame's length of a gap, and frames
unfoldable pub pieces_acts : FrameShape → Path → ℕ → List Piece → List Piece → List Act
pieces_acts s path bit before after =
    rounds_acts s ((gap_lengths s after - gap_lengths s before) * s.low)
    ++ frames_acts s path bit before (drop (length (frames_of before)) (frames_of after))

-- what a bit makes the node at this path do, after this received line: AIS, then the alignment, then what the pieces gained
unfoldable pub bit_acts : FrameShape → Path → List Bool → Bool → List Act
bit_acts s path line bit =
    let before = track s line in let after = track s (line ++ bit ∷ []) in let number = next_bit line in
    map Note (tell path number (ais_kinds s.len line bit ++ alignment_kinds before after)) ++ pieces_acts s path number before after

-- ---- the events of acts

-- each line with these bits added
abbrev pub with_more : (ℕ → List Bool) → (ℕ → List Bool) → ℕ → List Bool
with_more lines more j = lines j ++ more j

-- what is noted where a node acts so, after its tributaries have received these lines: its own events, and what each bit for
-- a tributary brings there, as they come
abbrev pub acts_events : (ℕ → List Bool → Bool → List Event) → (ℕ → List Bool) → List Act → List Event
acts_events below lines [] = []
acts_events below lines (Note event ∷ acts) = event ∷ acts_events below lines acts
acts_events below lines (Give j bit ∷ acts) = below j (lines j) bit ++ acts_events below (with_more lines (only j bit)) acts
