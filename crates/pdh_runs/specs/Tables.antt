-- What a layout knows of the slots of a frame.
use Rattle.std.specs.Prelude.{◌≡◌, ◌<◌, ◌≤◌, ℕ, suc, Bool, not, List, length, map, filter, slice_get, Some}
use Rattle.std.specs.List.{range_with_len, slice_index_or}
use Rattle.pdh_shape.specs.declared.role.Role.{Role}
use Rattle.pdh_shape.specs.declared.role.Role.TheVariants.{Just}
use Rattle.pdh_shape.specs.Frame.{FrameShape, slots}
use Rattle.pdh_shape.specs.Tributary.{controls}
use Rattle.pdh_shape.specs.Payload.{is_payload, payload_before}
use Rattle.pdh_runs.specs.declared.tables.Tributary.{Tributary}
use Rattle.pdh_runs.specs.Pieces.{turn}

-- the roles of a frame's slots
abbrev pub AreRoles : FrameShape → List Role → Type 0
AreRoles s roles = roles ≡ map s.role (slots s)

-- slot t carries no bit of a tributary
abbrev pub is_overhead : FrameShape → ℕ → Bool
is_overhead s t = not (is_payload (s.role t))

-- the roles of the slots that carry no bit of a tributary, in order
abbrev pub AreOverheadRoles : FrameShape → List Role → Type 0
AreOverheadRoles s roles = roles ≡ map s.role (filter (is_overhead s) (slots s))

-- how many payload slots stand before each slot, and before the frame's end
abbrev pub payload_counts : FrameShape → List ℕ
payload_counts s = map (payload_before s) (range_with_len 0 (suc s.len))

-- the slots from slot t on are all payload slots, or none of them is one, up to this slot
pub record EndsStretch (s : FrameShape) (t end : ℕ) : Type 0 where
  pub after : t < end
  pub within : end ≤ s.len
  pub same : (u : ℕ) → t ≤ u → u < end → is_payload (s.role u) ≡ is_payload (s.role t)
  -- which is another, if the frame has it
  pub other : end < s.len → is_payload (s.role end) ≡ not (is_payload (s.role t))

-- where the stretch ends in which each slot stands
pub record AreEnds (s : FrameShape) (ends : List ℕ) : Type 0 where
  pub count : length ends ≡ s.len
  pub each : (t : ℕ) → t < s.len → EndsStretch s t (slice_index_or ends t 0)

-- the slots of tributary j
pub record IsTributary (s : FrameShape) (j : ℕ) (tributary : Tributary) : Type 0 where
  -- those of its justification control, in order,
  pub control_are : tributary.control.items ≡ filter (λ t. controls j (s.role t)) (slots s)
  -- and the turn in which its justifiable slot stands
  pub just_is : (t : ℕ) → t < s.len → s.role t ≡ Just j → tributary.just ≡ turn s t

-- those of so many tributaries
pub record AreTributaries (s : FrameShape) (tribs : ℕ) (tributaries : List Tributary) : Type 0 where
  pub count : length tributaries ≡ tribs
  pub each : (j : ℕ) (tributary : Tributary) → slice_get tributaries j ≡ Some tributary → IsTributary s j tributary

-- the tables of a frame
pub record AreTables (s : FrameShape) (payload overhead : List ℕ) (overhead_roles : List Role) (ends : List ℕ) (tributaries : List Tributary) : Type 0 where
  pub payload_are : payload ≡ payload_counts s
  pub overhead_are : overhead ≡ filter (is_overhead s) (slots s)
  pub overhead_roles_are : AreOverheadRoles s overhead_roles
  pub ends_are : AreEnds s ends
  pub tributaries_are : AreTributaries s s.tribs tributaries
