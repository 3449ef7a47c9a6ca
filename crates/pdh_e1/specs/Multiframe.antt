-- Frames of 32 octets in multiframes of 16: what stands in each bit of the first octet of each frame (G.704, 2.3.2 and
-- 2.3.3). The 31 other octets are the payload. Two sub-multiframes of 8 frames make a multiframe.
use Rattle.std.specs.Prelude.{◌≡◌, ℕ, zero, suc, ◌+◌, ◌-◌, ◌*◌, ◌/◌, ◌%◌, Bool, true, false, ◌&&◌, ◌==◌, List, [], ◌∷◌, ◌++◌, map, slice_index}
use Rattle.std.specs.Bool.{beq}
use Rattle.std.specs.List.{slice_range, slice_index_or}
use Rattle.pdh_bits.specs.Bits.{bit, bits_of_byte, bits_of, number_of}
use Rattle.pdh_e1.specs.Crc4.{crc4, cleared}

-- what a bit of a frame's first octet carries
pub data Place : Type 0 where
  -- this bit always
  Fixed : Bool → Place
  -- C1 to C4: a bit of the word of the sub-multiframe before, of which C1 is the most significant
  Check : ℕ → Place
  -- E: 0 tells the far end of an errored sub-multiframe
  BlockError : Place
  -- A: 1 is an alarm
  Alarm : Place
  -- Sa4 to Sa8
  Spare : Place

-- bit 1 of the 16 frames: frames 1, 3, 5, 7, 9 and 11 carry the multiframe alignment signal 001011
abbrev pub first_places : List Place
first_places =
    Check 1 ∷ Fixed false ∷ Check 2 ∷ Fixed false ∷ Check 3 ∷ Fixed true ∷ Check 4 ∷ Fixed false
    ∷ Check 1 ∷ Fixed true ∷ Check 2 ∷ Fixed true ∷ Check 3 ∷ BlockError ∷ Check 4 ∷ BlockError ∷ []

-- bits 2 to 8 of a frame: the frame alignment signal 0011011 where its number is even
abbrev pub later_places : Bool → List Place
later_places true = Fixed false ∷ Fixed false ∷ Fixed true ∷ Fixed true ∷ Fixed false ∷ Fixed true ∷ Fixed true ∷ []
later_places false = Fixed true ∷ Alarm ∷ Spare ∷ Spare ∷ Spare ∷ Spare ∷ Spare ∷ []

-- the bits of the first octet of a frame, by its number in the multiframe
abbrev pub places : ℕ → List Place
places frame = slice_index_or first_places frame Spare ∷ later_places (frame % 2 == 0)

-- a place may have this bit, where the word is sent
abbrev pub fits : ℕ → Place → Bool → Bool
fits word (Fixed value) b = beq value b
fits word (Check number) b = beq (bit word (4 - number)) b
fits word _ b = true

-- the bit that a packer puts: no alarm, and ones where nothing is told
abbrev pub packed_bit : ℕ → Place → Bool
packed_bit word (Fixed value) = value
packed_bit word (Check number) = bit word (4 - number)
packed_bit word Alarm = false
packed_bit word _ = true

-- each bit passes the test at its place
abbrev pub all_fit : (Place → Bool → Bool) → List Place → List Bool → Bool
all_fit test (place ∷ rest) (b ∷ bits) = test place b && all_fit test rest bits
all_fit test _ _ = true

-- the first octet of a frame of this number in the multiframe may be this octet, where the word is sent
unfoldable pub octet_right : ℕ → ℕ → ℕ → Bool
octet_right frame word octet = all_fit (fits word) (places frame) (bits_of_byte octet)

-- the first octet that a packer puts
unfoldable pub packed_octet : ℕ → ℕ → ℕ
packed_octet frame word = number_of (map (packed_bit word) (places frame))

-- the word of the sub-multiframe of this number in a line of octets
abbrev pub word_of : List ℕ → ℕ → ℕ
word_of line number = crc4 (cleared (bits_of (slice_range line (256 * number) (256 * number + 256))))

-- the word that a sub-multiframe sends: that of the one before. The first one sends 0000, which is this project's own choice
unfoldable pub sent_word : List ℕ → ℕ → ℕ
sent_word line zero = 0
sent_word line (suc before) = word_of line before

-- a frame of a line is right: its fixed bits and its C bit
unfoldable pub frame_right : List ℕ → ℕ → Bool
frame_right line frame = octet_right (frame % 16) (sent_word line (frame / 8)) (slice_index line (32 * frame))

-- a frame of a line has the first octet that a packer puts
unfoldable pub FramePacked : List ℕ → ℕ → Type 0
FramePacked line frame = slice_index line (32 * frame) ≡ packed_octet (frame % 16) (sent_word line (frame / 8))

-- the payload of a frame of a line
abbrev pub frame_payload : List ℕ → ℕ → List ℕ
frame_payload line frame = slice_range line (32 * frame + 1) (32 * frame + 32)

-- the payload of the first frames of a line, in order
unfoldable pub frames_payload : List ℕ → ℕ → List ℕ
frames_payload line zero = []
frames_payload line (suc frame) = frames_payload line frame ++ frame_payload line frame
