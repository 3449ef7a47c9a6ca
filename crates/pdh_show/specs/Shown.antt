-- The text that shows one frame of the top of a chain.
use Rattle.std.specs.Prelude.{ℕ, suc, Bool, false, ◌==◌, if◌then◌else◌, List, [], ◌∷◌, ◌++◌, length, map, filter, take, drop, codes, decimal, ◌*◌}
use Rattle.std.specs.Int.{div_ceil}
use Rattle.std.specs.List.{range_with_len, flat_map, slice_index_or}
use Rattle.hex.specs.Hex.{encode_lower}
use Rattle.pdh_bits.specs.Bits.{bits_of}
use Rattle.pdh_shape.specs.Frame.{FrameShape, slots, is_right}
use Rattle.pdh_shape.specs.Tributary.{controls, carries_more}
use Rattle.pdh_chain.specs.declared.chain.Chain.{Chain}
use Rattle.pdh_chain.specs.Chains.{name_of, shapes_of}

-- a line of a text, which a line feed ends
abbrev pub ended : List ℕ → List ℕ
ended line = line ++ codes "\n"

-- whether the alignment signal of a frame is right
abbrev pub signal_word : Bool → List ℕ
signal_word right = (if right then codes "right" else codes "wrong")

-- the first line: the chain's name, the frame's number, and whether its alignment signal is right
abbrev pub signal_line : List ℕ → ℕ → Bool → List ℕ
signal_line name number right = codes "show " ++ name ++ codes " frame " ++ decimal number ++ codes ": signal " ++ signal_word right

-- a bit as a digit
abbrev pub digit : Bool → List ℕ
digit bit = (if bit then codes "1" else codes "0")

-- the copies of tributary j's justification control in a frame, in slot order
abbrev pub control_digits : FrameShape → List Bool → ℕ → List ℕ
control_digits s frame j = flat_map (λ slot. digit (slice_index_or frame slot false)) (filter (λ slot. controls j (s.role slot)) (slots s))

-- the part of a tributary's line that tells them; none where the shape has no copies
abbrev pub controls_part : FrameShape → List Bool → ℕ → List ℕ
controls_part s frame j = (if s.copies == 0 then [] else codes " controls " ++ control_digits s frame j)

-- how many bits of tributary j a frame carries
abbrev pub carried : FrameShape → List Bool → ℕ → ℕ
carried s frame j = (if carries_more s j frame then suc s.low else s.low)

-- the line of tributary j, which it counts from 1
abbrev pub tributary_line : FrameShape → List Bool → ℕ → List ℕ
tributary_line s frame j = codes "tributary " ++ decimal (suc j) ++ controls_part s frame j ++ codes " carries " ++ decimal (carried s frame j)

-- a line of bytes in lower-case hexadecimal: 16 of them, or what is left
abbrev pub bytes_line : List ℕ → ℕ → List ℕ
bytes_line bytes number = encode_lower (take 16 (drop (16 * number) bytes))

-- all lines of bytes
abbrev pub bytes_lines : List ℕ → List (List ℕ)
bytes_lines bytes = map (bytes_line bytes) (range_with_len 0 (div_ceil (length bytes) 16))

-- the lines of the tributaries
abbrev pub tributary_lines : FrameShape → List Bool → List (List ℕ)
tributary_lines s frame = map (tributary_line s frame) (range_with_len 0 s.tribs)

-- the text of a frame of this shape, which has these bytes
unfoldable pub shown_frame : FrameShape → List ℕ → ℕ → List ℕ → List ℕ
shown_frame s name number bytes =
    flat_map ended (signal_line name number (is_right s (bits_of bytes)) ∷ tributary_lines s (bits_of bytes) ++ bytes_lines bytes)

-- the text of a frame of the first of these shapes
abbrev pub shown_first : List FrameShape → List ℕ → ℕ → List ℕ → List ℕ
shown_first [] name number bytes = []
shown_first (s ∷ below) name number bytes = shown_frame s name number bytes

-- the text of a frame of a chain's top, which has this number and these bytes
abbrev pub shown : Chain → ℕ → List ℕ → List ℕ
shown chain number bytes = shown_first (shapes_of chain) (name_of chain) number bytes
