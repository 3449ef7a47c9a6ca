-- The payload of a frame, and the columns in which the bits of its tributaries stand there.
use Rattle.std.specs.Prelude.{ℕ, ◌+◌, ◌*◌, Bool, true, false, List, map, filter, Option, Some, None}
use Rattle.std.specs.List.{range_with_len, slice_index_or}
use Rattle.pdh_shape.specs.declared.role.Role.{Role}
use Rattle.pdh_shape.specs.declared.role.Role.TheVariants.{Just, Info}
use Rattle.pdh_shape.specs.Frame.{FrameShape, slots}
use Rattle.pdh_shape.specs.Tributary.{reads_from}
use Rattle.pdh_shape.specs.Payload.{is_payload}

-- the tributary to which a slot of this role belongs, if it is a payload slot
abbrev pub trib_of : Role → Option ℕ
trib_of (Info j) = Some j
trib_of (Just j) = Some j
trib_of _ = None

-- the payload slots of a frame, in order
abbrev pub payload_slots : FrameShape → List ℕ
payload_slots s = filter (λ slot. is_payload (s.role slot)) (slots s)

-- the bits that a frame has in them
abbrev pub payload_bits : FrameShape → List Bool → List Bool
payload_bits s frame = map (λ slot. slice_index_or frame slot false) (payload_slots s)

-- the bits that a frame has in the information slots and the justifiable slot of tributary j, in slot order
abbrev pub trib_bits : FrameShape → ℕ → List Bool → List Bool
trib_bits s j frame = map (λ slot. slice_index_or frame slot false) (filter (λ slot. reads_from j true (s.role slot)) (slots s))

-- column j of the payload of so many tributaries, with `each` bits of each: bit j, and then one bit of each turn
abbrev pub column : ℕ → ℕ → List Bool → ℕ → List Bool
column tribs each payload j = map (λ i. slice_index_or payload (i * tribs + j) false) (range_with_len 0 each)
