-- A frame that is taken apart.
use Rattle.std.specs.Prelude.{◌≡◌, ◌<◌, ◌≤◌, ℕ, suc, Bool, true, if◌then◌else◌, nat_lt, List, [], length, map, replicate, Option, None, Some, IfSome, All}
use Rattle.std.specs.List.{slice_index_or}
use Rattle.pdh_bits.specs.BitOut.{BoundedBits}
use Rattle.pdh_packed.specs.Words.{bounded}
use Rattle.pdh_shape.specs.declared.role.Role.TheVariants.{Just}
use Rattle.pdh_shape.specs.Frame.{FrameShape}
use Rattle.pdh_shape.specs.Tributary.{carries_more, stripped}
use Rattle.pdh_runs.specs.Pieces.{turn}

-- a frame, and the bits of the tributary that was read last
pub record Taken : Type 0 where
  pub frame : List Bool
  pub bits : List Bool

-- the bits of the tributary that was read last, or these, if none was
abbrev pub read_bits : Option ℕ → List BoundedBits → List Bool → List Bool
read_bits None columns none = none
read_bits (Some j) columns none = (slice_index_or columns j (bounded 0 [])).bits

-- lists without their bits
abbrev pub emptied : List BoundedBits → List BoundedBits
emptied lists = map (λ list. bounded list.capacity []) lists

-- a column for each tributary, with these bits, and with room for as many as a frame has of one
pub record HasColumns (s : FrameShape) (bits : ℕ → List Bool) (columns : List BoundedBits) : Type 0 where
  pub count : length columns ≡ s.tribs
  pub each : (j : ℕ) (d : BoundedBits) → j < s.tribs → (slice_index_or columns j d).bits ≡ bits j
  pub room : (j : ℕ) (d : BoundedBits) → j < s.tribs → suc s.low ≤ (slice_index_or columns j d).capacity

-- a frame, a column for each tributary with room for its bits, and as many ones as a frame carries of one at least
pub record IsTaken (s : FrameShape) (frame : BoundedBits) (apart : Bool) (columns : List BoundedBits) (last : Option ℕ) (ones : BoundedBits) : Type 0 where
  pub frame_whole : length frame.bits ≡ s.len
  pub frame_room : frame.capacity ≡ s.len
  pub columns_many : length columns ≡ s.tribs
  pub columns_room : All (λ column. suc s.low ≤ column.capacity) columns
  -- where the frame was taken apart, they have the bits that it gives each tributary
  pub columns_are : apart ≡ true → HasColumns s (λ j. stripped s j frame.bits) columns
  pub last_known : IfSome last (λ j. j < s.tribs)
  pub ones_are : ones.bits ≡ replicate s.low true

-- Bit k of those that a frame gives tributary j stands in turn i: each in its own turn, and those behind the justifiable slot a turn
-- later where the frame carries no additional bit.
pub record StandsInTurn (s : FrameShape) (j : ℕ) (frame : List Bool) (k i : ℕ) : Type 0 where
  pub just : ℕ
  pub just_is : (t : ℕ) → t < s.len → s.role t ≡ Just j → just ≡ turn s t
  pub turn_is : i ≡ (if carries_more s j frame then k else (if nat_lt k just then k else suc k))
