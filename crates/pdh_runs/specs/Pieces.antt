-- A piece of a frame: how many slots and turns stand before its slots, the columns from which it is put together, and the
-- parity of its payload.
use Rattle.std.specs.Prelude.{◌≡◌, ℕ, ◌+◌, ◌-◌, ◌/◌, ◌<◌, Bool, true, false, if◌then◌else◌, List, [], map}
use Rattle.std.specs.List.{range_with_len, slice_index_or}
use Rattle.pdh_shape.specs.Frame.{FrameShape}
use Rattle.pdh_shape.specs.Tributary.{reads_from, reads_below, turned}
use Rattle.pdh_shape.specs.Payload.{is_payload, payload_before}

-- the turn in which slot t stands: so many times each tributary has had a payload slot before
abbrev pub turn : FrameShape → ℕ → ℕ
turn s t = payload_before s t / s.tribs

-- how many of the slots before slot t carry no bit of a tributary
abbrev pub overhead_before : FrameShape → ℕ → ℕ
overhead_before s t = t - payload_before s t

-- how many turns a piece of a frame touches, from slot `first` on: a column of the piece has a bit for each
abbrev pub rows : FrameShape → ℕ → ℕ → ℕ
rows s first len = (payload_before s (first + len) + s.tribs - 1) / s.tribs - turn s first

-- which of these turns is that of slot v of the piece
abbrev pub row : FrameShape → ℕ → ℕ → ℕ
row s first v = turn s (first + v) - turn s first

-- A column has the bits of tributary j for a piece of a frame that carries an additional bit of it or doesn't, from this queue
-- on. It has others too, for turns that stand outside of the piece.
pub record FillsColumn (s : FrameShape) (j : ℕ) (more : Bool) (first len : ℕ) (queue column : List Bool) : Type 0 where
  -- each slot that carries a bit has the next one, as the line has it,
  pub carried : (v i : ℕ) → v < len → reads_from j more (s.role (first + v)) ≡ true → reads_below s j more first + i ≡ reads_below s j more (first + v)
      → slice_index_or column (row s first v) false ≡ turned (s.inverted j) (slice_index_or queue i false)
  -- and the justifiable slot a one where it carries nothing
  pub justified : (v : ℕ) → v < len → reads_from j true (s.role (first + v)) ≡ true → reads_from j more (s.role (first + v)) ≡ false
      → slice_index_or column (row s first v) false ≡ true

-- the bits of a piece of a frame, from slot `first` on, are those of the columns and of the overhead
pub record Assembled (s : FrameShape) (first len : ℕ) (overhead : List Bool) (columns : List (List Bool)) (bits : List Bool) : Type 0 where
  -- a payload slot has the bit of its tributary for its turn,
  pub payload : (v j : ℕ) → v < len → reads_from j true (s.role (first + v)) ≡ true
      → slice_index_or bits v false ≡ slice_index_or (slice_index_or columns j []) (row s first v) false
  -- and each other slot has the next bit of the overhead
  pub others : (v : ℕ) → v < len → is_payload (s.role (first + v)) ≡ false
      → slice_index_or bits v false ≡ slice_index_or overhead (overhead_before s (first + v) - overhead_before s first) false

-- the bit of slot t of a piece of a frame, from slot `first` on, where so many of the frame's payload slots stand before the first of the payload
abbrev pub slot_bit : FrameShape → ℕ → ℕ → List Bool → List Bool → ℕ → Bool
slot_bit s first skipped payload overhead t = (if is_payload (s.role t) then slice_index_or payload (payload_before s t - skipped) false else slice_index_or overhead (overhead_before s t - overhead_before s first) false)

-- those of its first so many slots
abbrev pub slot_bits : FrameShape → ℕ → ℕ → List Bool → List Bool → ℕ → List Bool
slot_bits s first skipped payload overhead len = map (slot_bit s first skipped payload overhead) (range_with_len first len)
