-- Lines of superframes: what stands in the F bit of each frame, the words of superframes, the payload, and the line of a payload.
use Rattle.std.specs.Prelude.{◌≡◌, ℕ, zero, suc, ◌+◌, ◌-◌, ◌*◌, ◌/◌, ◌%◌, Bool, true, false, List, [], ◌∷◌, ◌++◌, length, drop, flat_map}
use Rattle.std.specs.Bool.{beq}
use Rattle.std.specs.List.{slice_range, slice_index_or, range_with_len}
use Rattle.pdh_bits.specs.Bits.{bit}
use Rattle.pdh_shape.specs.declared.role.Role.{Role}
use Rattle.pdh_shape.specs.declared.role.Role.TheVariants.{Align, Service}
use Rattle.pdh_ds1.specs.Superframe.{f_bit_at}
use Rattle.pdh_ds1.specs.Crc6.{crc6}

-- ---- words

-- the payload of the frame of this number in a line: all its bits but the first
abbrev pub payload_at : List Bool → ℕ → List Bool
payload_at line frame = slice_range line (193 * frame + 1) (193 * frame + 193)

-- the first so many frames of a line with all F bits taken as 1
abbrev pub with_ones : List Bool → ℕ → List Bool
with_ones line frames = flat_map (λ frame. true ∷ payload_at line frame) (range_with_len 0 frames)

-- the word of the superframe of so many frames with which a line begins
unfoldable pub word_of : ℕ → List Bool → ℕ
word_of frames line = crc6 (with_ones line frames)

-- the word that the superframe of this number in a line sends: that of the one before. The first one sends 000000, which is
-- this project's own choice
unfoldable pub sent_word : ℕ → List Bool → ℕ → ℕ
sent_word frames line zero = 0
sent_word frames line (suc before) = word_of frames (drop (193 * (frames * before)) line)

-- ---- F bits

-- the bit of the word that a frame of this number in the superframe carries: the most significant in the second frame
abbrev pub crc_place : ℕ → ℕ → Bool
crc_place word frame = bit word (5 - frame / 4)

-- the bit that a packer puts: ones in the data link
abbrev pub packed_bit : ℕ → ℕ → Role → Bool
packed_bit word frame (Align signal) = signal
packed_bit word frame (Service (suc zero)) = crc_place word frame
packed_bit word frame _ = true

-- an F bit may be this bit, where the word is sent
abbrev pub fits : ℕ → ℕ → Role → Bool → Bool
fits word frame (Align signal) b = beq signal b
fits word frame (Service (suc zero)) b = beq (crc_place word frame) b
fits word frame _ b = true

-- the F bit of the frame of this number in a line
abbrev pub f_bit_of : List Bool → ℕ → Bool
f_bit_of line frame = slice_index_or line (193 * frame) false

-- a frame of a line is right: its framing or its CRC bit
unfoldable pub frame_right : List Role → ℕ → List Bool → ℕ → Bool
frame_right f_bits frames line frame =
    fits (sent_word frames line (frame / frames)) (frame % frames) (f_bit_at f_bits (frame % frames)) (f_bit_of line frame)

-- the F bit that a packer puts in the frame of this number of a line, by the frames before it
abbrev pub packed_f_bit : List Role → ℕ → List Bool → ℕ → Bool
packed_f_bit f_bits frames line frame = packed_bit (sent_word frames line (frame / frames)) (frame % frames) (f_bit_at f_bits (frame % frames))

-- a frame of a line has it
unfoldable pub FramePacked : List Role → ℕ → List Bool → ℕ → Type 0
FramePacked f_bits frames line frame = f_bit_of line frame ≡ packed_f_bit f_bits frames line frame

-- ---- payloads

-- the payload of the first so many frames of a line, in order
unfoldable pub line_payload : List Bool → ℕ → List Bool
line_payload line frames = flat_map (payload_at line) (range_with_len 0 frames)

-- ---- the line of a payload

-- the payload bits of the frame of this number: those of its 24 octets
abbrev pub frame_bits : List Bool → ℕ → List Bool
frame_bits payload frame = slice_range payload (192 * frame) (192 * frame + 192)

-- the first frames of the line of a payload: each is the F bit that a packer puts, and then its bits of the payload
unfoldable pub packed_frames : List Role → ℕ → List Bool → ℕ → List Bool
packed_frames f_bits frames payload zero = []
packed_frames f_bits frames payload (suc frame) =
    let before = packed_frames f_bits frames payload frame in
    before ++ packed_f_bit f_bits frames before frame ∷ frame_bits payload frame

-- the line of the superframes, each of so many frames, that a payload fills
unfoldable pub packed_superframes : List Role → ℕ → List Bool → List Bool
packed_superframes f_bits frames payload = packed_frames f_bits frames payload (frames * (length payload / (192 * frames)))

-- the first frames of the superframe that sends a word and carries a payload
unfoldable pub superframe_of : List Role → ℕ → List Bool → ℕ → List Bool
superframe_of f_bits sent payload zero = []
superframe_of f_bits sent payload (suc frame) = superframe_of f_bits sent payload frame ++ packed_bit sent frame (f_bit_at f_bits frame) ∷ frame_bits payload frame
