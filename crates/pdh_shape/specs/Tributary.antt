-- The slots of a tributary in a frame, and the bits that a received frame gives it (ITU-T G.742, 5).
use Rattle.std.specs.Prelude.{◌≡◌, ◌⊎◌, ◌<◌, ◌≤◌, suc, ℕ, ◌+◌, ◌*◌, ◌%◌, Bool, true, false, not, nat_lt, ◌==◌, ◌&&◌, ◌||◌, if◌then◌else◌, List, map, filter, count_by}
use Rattle.std.specs.List.{range_with_len, slice_index_or}
use Rattle.pdh_shape.specs.declared.role.Role.{Role}
use Rattle.pdh_shape.specs.declared.role.Role.TheVariants.{Control, Just, Info}
use Rattle.pdh_shape.specs.Frame.{FrameShape, slots}

-- a slot of this role carries a bit of tributary j, in a frame that carries an additional bit of it or doesn't
abbrev pub reads_from : ℕ → Bool → Role → Bool
reads_from j more (Info i) = i == j
reads_from j more (Just i) = (i == j) && more
reads_from j more _ = false

-- a slot of this role holds a copy of tributary j's justification control
abbrev pub controls : ℕ → Role → Bool
controls j (Control i copy) = i == j
controls j _ = false

-- how many copies of tributary j's control are 1 in this frame
abbrev pub control_ones : FrameShape → ℕ → List Bool → ℕ
control_ones s j frame = count_by (λ slot. controls j (s.role slot) && slice_index_or frame slot false) (slots s)

-- so many ones are the majority of the copies, or there are no copies
abbrev pub is_majority : ℕ → ℕ → Bool
is_majority ones copies = nat_lt copies (2 * ones) || (copies == 0)

-- a frame carries an additional bit of tributary j where the majority of its control copies is 0
abbrev pub carries_more : FrameShape → ℕ → List Bool → Bool
carries_more s j frame = not (is_majority (control_ones s j frame) s.copies)

-- a tributary's bit as the line has it, and back
abbrev pub turned : Bool → Bool → Bool
turned inverted bit = (if inverted then not bit else bit)

-- the bits of tributary j in a frame that carries an additional bit of it or doesn't, in slot order
abbrev pub bits_read : FrameShape → ℕ → Bool → List Bool → List Bool
bits_read s j more frame = map (λ slot. turned (s.inverted j) (slice_index_or frame slot false)) (filter (λ slot. reads_from j more (s.role slot)) (slots s))

-- the bits that a received frame gives tributary j
unfoldable pub stripped : FrameShape → ℕ → List Bool → List Bool
stripped s j frame = bits_read s j (carries_more s j frame) frame

-- a slot of this role holds this copy of tributary j's justification control
abbrev pub is_control : ℕ → ℕ → Role → Bool
is_control j copy (Control i number) = (i == j) && (number == copy)
is_control j copy _ = false

-- a slot of this role is the justifiable slot of tributary j
abbrev pub is_just : ℕ → Role → Bool
is_just j (Just i) = i == j
is_just j _ = false

-- what holds of the slots of a shape's tributaries
pub record HasTributaries (s : FrameShape) : Type 0 where
  -- the copies are none or odd, so that a majority decides (G.742, 5)
  pub odd : (s.copies ≡ 0) ⊎ (s.copies % 2 ≡ 1)
  -- each tributary has as many control slots as copies (G.742, Table 1),
  pub copies : (j : ℕ) → j < s.tribs → count_by (λ slot. controls j (s.role slot)) (slots s) ≡ s.copies
  -- one for each copy (G.742, Table 1),
  pub each_copy : (j copy : ℕ) → j < s.tribs → copy < s.copies → count_by (λ slot. is_control j copy (s.role slot)) (slots s) ≡ 1
  -- as many information slots as a frame carries bits of it at least (G.742, Table 1),
  pub low : (j : ℕ) → j < s.tribs → count_by (λ slot. reads_from j false (s.role slot)) (slots s) ≡ s.low
  -- and one justifiable slot more (G.742, Table 1)
  pub high : (j : ℕ) → j < s.tribs → count_by (λ slot. reads_from j true (s.role slot)) (slots s) ≡ suc s.low
  -- each control slot of a tributary stands before its justifiable slot (G.742, Table 1)
  pub controls_first : (j copy t u : ℕ) → t < s.len → u < s.len → s.role t ≡ Control j copy → s.role u ≡ Just j → t < u
  -- a control slot names a tributary and a copy that the shape has,
  pub control_known : (t j copy : ℕ) → t < s.len → s.role t ≡ Control j copy → (j < s.tribs) × (copy < s.copies)
  -- a justifiable slot names a tributary that it has,
  pub just_known : (t j : ℕ) → t < s.len → s.role t ≡ Just j → j < s.tribs
  -- and so does an information slot
  pub info_known : (t j : ℕ) → t < s.len → s.role t ≡ Info j → j < s.tribs

-- how many of the slots before slot t carry a bit of tributary j, in a frame that carries an additional bit of it or doesn't
abbrev pub reads_below : FrameShape → ℕ → Bool → ℕ → ℕ
reads_below s j more t = count_by (λ slot. reads_from j more (s.role slot)) (range_with_len 0 t)

-- A shape reads each tributary evenly: its slots are never far from an even spread over the frame. The two numbers are
-- this project's own.
pub record ReadsEvenly (s : FrameShape) : Type 0 where
  -- the information slots before slot t are at most two more than their share of the first t slots
  pub ahead : (j t : ℕ) → j < s.tribs → t ≤ s.len → reads_below s j false t * s.len ≤ s.low * t + 2 * s.len
  -- with the justifiable slot they are at most five fewer than their share of the slots up to slot t
  pub behind : (j t : ℕ) → j < s.tribs → t < s.len → suc s.low * suc t ≤ (reads_below s j true t + 5) * s.len
