-- A frame shape, as a value that definitions take, and the alignment signal in a frame.
use Rattle.std.specs.Prelude.{◌≡◌, ◌<◌, ◌≤◌, ℕ, ◌^◌, Bool, true, false, not, nat_lt, ◌&&◌, List, [], ◌∷◌, sum_by, count_by}
use Rattle.std.specs.List.{range_with_len, list_all, list_any, slice_index_or}
use Rattle.pdh_shape.specs.declared.role.Role.{Role}
use Rattle.pdh_shape.specs.declared.role.Role.TheVariants.{Align}
use Rattle.pdh_shape.specs.declared.role.Mark.{Mark}
use Rattle.pdh_shape.specs.declared.role.Mark.TheVariants.{Framing, Multi, Other}
use Rattle.pdh_shape.specs.declared.role.Marks.{Marks}
use Rattle.pdh_shape.specs.declared.role.Service.{Service}
use Rattle.pdh_shape.specs.declared.role.Duty.{Duty}
use Rattle.pdh_shape.specs.OwnNumbers.{most_slots, most_signal}

-- the shape of a multiplexer's frame
pub record FrameShape : Type 0 where
  -- slots in a frame
  pub len : ℕ
  -- tributaries
  pub tribs : ℕ
  -- copies of each tributary's justification control
  pub copies : ℕ
  -- the least number of bits of a tributary that a frame carries
  pub low : ℕ
  -- slots of the alignment signal that begins a frame; 0 where the alignment slots are spread over the frame
  pub signal : ℕ
  -- what a slot carries
  pub role : ℕ → Role
  -- which alignment slot a slot is
  pub mark : ℕ → Mark
  -- whether a tributary's bits are inverted on the line
  pub inverted : ℕ → Bool
  -- what the service bit of a number tells
  pub duty : ℕ → Duty
  -- the service bit of a number, by what the frame says and by whether the information slots of the frame before hold an odd number of ones
  pub service : ℕ → Service → Bool → Bool
  -- whether a frame completes a loss of alignment, by what is wrong in the three frames before it and in it
  pub loses : Marks → Marks → Marks → Marks → Bool

-- the slots of a frame, in order
abbrev pub slots : FrameShape → List ℕ
slots s = range_with_len 0 s.len

-- a slot of this role breaks the alignment signal with this bit
abbrev pub breaks : Role → Bool → Bool
breaks (Align true) bit = not bit
breaks (Align false) bit = bit
breaks _ bit = false

-- a slot of this frame breaks the alignment signal
abbrev pub breaks_at : FrameShape → List Bool → ℕ → Bool
breaks_at s frame slot = breaks (s.role slot) (slice_index_or frame slot false)

-- a frame is right where every alignment slot has its bit
unfoldable pub is_right : FrameShape → List Bool → Bool
is_right s frame = list_all (λ slot. not (breaks_at s frame slot)) (slots s)

-- the value of a framing slot's bit in the marks, where the slot is wrong
abbrev pub framing_mark : Mark → Bool → ℕ
framing_mark (Framing number) true = 2 ^ number
framing_mark _ _ = 0

abbrev pub is_multi : Mark → Bool
is_multi Multi = true
is_multi _ = false

-- what is wrong in the alignment signal of a frame
unfoldable pub wrong : FrameShape → List Bool → Marks
wrong s frame = record {
  framing = sum_by (λ slot. framing_mark (s.mark slot) (breaks_at s frame slot)) (slots s);
  multi = list_any (λ slot. is_multi (s.mark slot) && breaks_at s frame slot) (slots s);
}

-- nothing is wrong
abbrev pub clean : Marks
clean = record { framing = 0; multi = false }

-- no alarm and no error, and ones in all other service bits
abbrev pub idle : Service
idle = record { alarm = false; feac = true; febe = true; link = true ∷ true ∷ true ∷ [] }

-- what holds of a shape's numbers and of its loss rule
pub record IsFrame (s : FrameShape) : Type 0 where
  -- a frame has a slot (G.742, Table 1)
  pub some_slots : 0 < s.len
  -- and not more than this project's own limit
  pub few_slots : s.len ≤ most_slots
  -- a frame that is right doesn't complete a loss after three that are right (G.742, 4)
  pub no_loss : s.loses clean clean clean clean ≡ false

-- a slot of this role is an alignment slot
abbrev pub is_align : Role → Bool
is_align (Align signal) = true
is_align _ = false

-- what holds of the alignment signal that begins a shape's frame, if there is one
pub record HasSignal (s : FrameShape) : Type 0 where
  -- its bits fit a word (this project's own limit),
  pub few : s.signal ≤ most_signal
  -- and it fits the frame
  pub within : s.signal ≤ s.len
  -- a slot is an alignment slot exactly where it is a slot of the signal (G.742, 4)
  pub first : 0 < s.signal → (t : ℕ) → t < s.len → is_align (s.role t) ≡ nat_lt t s.signal

-- a slot of this mark is an alignment slot
abbrev pub is_marked : Mark → Bool
is_marked Other = false
is_marked _ = true

-- a slot of this mark is a framing slot
abbrev pub is_framing : Mark → Bool
is_framing (Framing number) = true
is_framing _ = false

-- how many framing slots stand before slot t
abbrev pub framing_before : FrameShape → ℕ → ℕ
framing_before s t = count_by (λ slot. is_framing (s.mark slot)) (range_with_len 0 t)

-- what holds of the marks of a shape's slots
pub record HasMarks (s : FrameShape) : Type 0 where
  -- a slot is marked exactly where it carries a bit of the alignment signal (G.742, 4)
  pub marked : (t : ℕ) → t < s.len → is_marked (s.mark t) ≡ is_align (s.role t)
  -- the framing slots are numbered from 0 in slot order
  pub numbered : (t number : ℕ) → t < s.len → s.mark t ≡ Framing number → number ≡ framing_before s t
  -- and each number is below 64, so that the wrong ones fit a word
  pub few : (t number : ℕ) → t < s.len → s.mark t ≡ Framing number → number < 64
