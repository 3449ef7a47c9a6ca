-- The payload of a frame: the slots that carry bits of the tributaries.
use Rattle.std.specs.Prelude.{◌≡◌, ◌<◌, suc, ℕ, ◌+◌, ◌*◌, ◌%◌, Bool, true, false, ◌&&◌, List, length, count_by}
use Rattle.std.specs.List.{range_with_len, slice_index_or}
use Rattle.pdh_shape.specs.declared.role.Role.{Role}
use Rattle.pdh_shape.specs.declared.role.Role.TheVariants.{Just, Info}
use Rattle.pdh_shape.specs.Frame.{FrameShape}
use Rattle.pdh_shape.specs.Tributary.{reads_from}

-- a slot of this role is an information or a justifiable slot (ITU-T G.742, Table 1)
abbrev pub is_payload : Role → Bool
is_payload (Info j) = true
is_payload (Just j) = true
is_payload _ = false

-- how many of the slots before slot t are payload
abbrev pub payload_before : FrameShape → ℕ → ℕ
payload_before s t = count_by (λ slot. is_payload (s.role slot)) (range_with_len 0 t)

-- how many of the payload slots of a piece of a frame, from slot `first` on, are 1
abbrev pub payload_ones : FrameShape → ℕ → List Bool → ℕ
payload_ones s first bits = count_by (λ v. slice_index_or bits v false && is_payload (s.role (first + v))) (range_with_len 0 (length bits))

-- the payload slots of a frame, counted from its start, belong to the tributaries in turn
pub record PayloadInTurn (s : FrameShape) : Type 0 where
  -- so many payload slots stand before one of tributary j that division by the tributaries leaves j (G.742, Table 1),
  pub turn : (t j : ℕ) → t < s.len → reads_from j true (s.role t) ≡ true → j ≡ payload_before s t % s.tribs
  -- and all turns of a frame are whole: each tributary has its information slots and one justifiable slot
  pub whole : payload_before s s.len ≡ s.tribs * suc s.low
