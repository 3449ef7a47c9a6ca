-- The bits of a frame, or of a gap, place by place: place p is tributary p % tribs's, which gets a bit there or none.
use Rattle.std.specs.Prelude.{◌≡◌, ◌<◌, ◌≤◌, ℕ, suc, ◌*◌, ◌%◌, Bool, true, false, if◌then◌else◌, List, [], ◌∷◌, length, take, replicate, flat_map, Option, Some, None}
use Rattle.std.specs.List.{range_with_len, slice_index_or}
use Rattle.pdh_shape.specs.declared.role.Role.{Role}
use Rattle.pdh_shape.specs.declared.role.Role.TheVariants.{Just, Info}
use Rattle.pdh_shape.specs.Frame.{FrameShape, slots}
use Rattle.pdh_shape.specs.Tributary.{turned, stripped}
use Rattle.pdh_runs.specs.Columns.{payload_slots}
use Rattle.pdh_events.specs.Acts.{Act, carries_at, slot_acts, rounds_acts}
use Rattle.pdh_events.specs.Acts.Act.{Give}
use Rattle.pdh_events.specs.laws.ActsLaws.{bits_to}

-- what is given at a place: to this tributary a bit, or nothing
abbrev pub cell_acts : ℕ → Option Bool → List Act
cell_acts j None = []
cell_acts j (Some bit) = Give j bit ∷ []

abbrev pub place_acts : ℕ → (ℕ → Option Bool) → ℕ → List Act
place_acts tribs cell p = cell_acts (p % tribs) (cell p)

-- those of so many places from one on
abbrev pub places_acts : ℕ → (ℕ → Option Bool) → ℕ → ℕ → List Act
places_acts tribs cell from count = flat_map (place_acts tribs cell) (range_with_len from count)

-- what a slot of this role gives its tributary
abbrev pub role_cell : FrameShape → Role → Bool → Bool → Option Bool
role_cell s (Info j) more bit = Some (turned (s.inverted j) bit)
role_cell s (Just j) more bit = (if more then Some (turned (s.inverted j) bit) else None)
role_cell s _ more bit = None

abbrev pub slot_cell : FrameShape → List Bool → ℕ → Option Bool
slot_cell s frame t = role_cell s (s.role t) (carries_at s frame (s.role t)) (slice_index_or frame t false)

-- what a frame gives at a place among its payload
abbrev pub frame_cell : FrameShape → List Bool → ℕ → Option Bool
frame_cell s frame p = slot_cell s frame (slice_index_or (payload_slots s) p 0)

-- a gap gives a one at each
abbrev pub ones_cell : ℕ → Option Bool
ones_cell p = Some true

-- ---- what is loaded: a frame, or the ones of a gap as long as one

abbrev pub loaded_cell : FrameShape → Bool → List Bool → ℕ → Option Bool
loaded_cell s gap frame = (if gap then ones_cell else frame_cell s frame)

-- how many places it has
abbrev pub loaded_places : FrameShape → Bool → ℕ
loaded_places s gap = (if gap then s.low * s.tribs else s.tribs * suc s.low)

-- what it gives tributary j
abbrev pub loaded_bits : FrameShape → Bool → List Bool → ℕ → List Bool
loaded_bits s gap frame j = (if gap then replicate s.low true else stripped s j frame)

-- how many bits it gives a tributary at most
abbrev pub loaded_most : FrameShape → Bool → ℕ
loaded_most s gap = (if gap then s.low else suc s.low)

-- what it makes a demultiplexer do
abbrev pub loaded_acts : FrameShape → Bool → List Bool → List Act
loaded_acts s gap frame = (if gap then rounds_acts s s.low else flat_map (slot_acts s frame) (slots s))

-- Tributary j has got k of its bits before place p; the next one stands there, or the places end there.
pub record StandsAt (tribs : ℕ) (cell : ℕ → Option Bool) (end j : ℕ) (bits : List Bool) (k p : ℕ) : Type 0 where
  pub before : bits_to (places_acts tribs cell 0 p) j ≡ take k bits
  pub within : p ≤ end
  pub few : k ≤ length bits
  pub here : k < length bits → (p < end) × (p % tribs ≡ j) × (cell p ≡ Some (slice_index_or bits k false))
  pub last : k ≡ length bits → p ≡ end

-- what was loaded last: a frame or, after it, the ones of a gap; and the bits of the tributary that were read last
pub record Loaded : Type 0 where
  pub gap : Bool
  pub frame : List Bool
  pub bits : List Bool
