-- The overhead slots and the loss of alignment, computed by the checker.
use Rattle.std.specs.Prelude.{◌≡◌, ℕ, true, false, [], ◌∷◌, map, refl}
use Rattle.pdh_shape.specs.declared.role.Role.TheVariants.{Align, Service, Control}
use Rattle.pdh_shape.specs.declared.role.Mark.TheVariants.{Framing, Multi, Other}
use Rattle.pdh_shape.specs.declared.role.Marks.{Marks}
use Rattle.pdh_shape.specs.Frame.{clean}
use Rattle.pdh_ds.specs.Blocks.{block_role, block_mark}
use Rattle.pdh_ds.specs.Loss.{window_wrong}
use Rattle.pdh_ds.specs.Plans.{ds2, ds2_overhead, ds3, ds3_overhead, ds3c_overhead}

-- DS2 of T1.107, subframe by subframe: M, C1, F, C2, C3, F; M1 to M3 are 011, and the fourth is X
pub ds2_overhead_slots : map ds2_overhead (0 ∷ 1 ∷ 2 ∷ 3 ∷ [])
    ≡ (Align false ∷ Control 0 0 ∷ Align false ∷ Control 0 1 ∷ Control 0 2 ∷ Align true ∷ [])
    ∷ (Align true ∷ Control 1 0 ∷ Align false ∷ Control 1 1 ∷ Control 1 2 ∷ Align true ∷ [])
    ∷ (Align true ∷ Control 2 0 ∷ Align false ∷ Control 2 1 ∷ Control 2 2 ∷ Align true ∷ [])
    ∷ (Service 0 ∷ Control 3 0 ∷ Align false ∷ Control 3 1 ∷ Control 3 2 ∷ Align true ∷ [])
    ∷ []
ds2_overhead_slots = refl

-- DS3 of T1.107, subframe by subframe: X, P or M, then F, C1, F, C2, F, C3, F
pub ds3_overhead_slots : map ds3_overhead (0 ∷ 1 ∷ 2 ∷ 3 ∷ 4 ∷ 5 ∷ 6 ∷ [])
    ≡ (Service 0 ∷ Align true ∷ Control 0 0 ∷ Align false ∷ Control 0 1 ∷ Align false ∷ Control 0 2 ∷ Align true ∷ [])
    ∷ (Service 0 ∷ Align true ∷ Control 1 0 ∷ Align false ∷ Control 1 1 ∷ Align false ∷ Control 1 2 ∷ Align true ∷ [])
    ∷ (Service 1 ∷ Align true ∷ Control 2 0 ∷ Align false ∷ Control 2 1 ∷ Align false ∷ Control 2 2 ∷ Align true ∷ [])
    ∷ (Service 1 ∷ Align true ∷ Control 3 0 ∷ Align false ∷ Control 3 1 ∷ Align false ∷ Control 3 2 ∷ Align true ∷ [])
    ∷ (Align false ∷ Align true ∷ Control 4 0 ∷ Align false ∷ Control 4 1 ∷ Align false ∷ Control 4 2 ∷ Align true ∷ [])
    ∷ (Align true ∷ Align true ∷ Control 5 0 ∷ Align false ∷ Control 5 1 ∷ Align false ∷ Control 5 2 ∷ Align true ∷ [])
    ∷ (Align false ∷ Align true ∷ Control 6 0 ∷ Align false ∷ Control 6 1 ∷ Align false ∷ Control 6 2 ∷ Align true ∷ [])
    ∷ []
ds3_overhead_slots = refl

-- DS3 with C-bit parity, subframe by subframe: X, P or M, then F, C1, F, C2, F, C3, F. C11 and C12 are 1, C13 is the far end alarm
-- and control channel, C3 path parity, C4 the far end block error, and C5 the data link
pub ds3c_overhead_slots : map ds3c_overhead (0 ∷ 1 ∷ 2 ∷ 3 ∷ 4 ∷ 5 ∷ 6 ∷ [])
    ≡ (Service 0 ∷ Align true ∷ Service 2 ∷ Align false ∷ Service 2 ∷ Align false ∷ Service 3 ∷ Align true ∷ [])
    ∷ (Service 0 ∷ Align true ∷ Service 2 ∷ Align false ∷ Service 2 ∷ Align false ∷ Service 2 ∷ Align true ∷ [])
    ∷ (Service 1 ∷ Align true ∷ Service 4 ∷ Align false ∷ Service 4 ∷ Align false ∷ Service 4 ∷ Align true ∷ [])
    ∷ (Service 1 ∷ Align true ∷ Service 5 ∷ Align false ∷ Service 5 ∷ Align false ∷ Service 5 ∷ Align true ∷ [])
    ∷ (Align false ∷ Align true ∷ Service 6 ∷ Align false ∷ Service 7 ∷ Align false ∷ Service 8 ∷ Align true ∷ [])
    ∷ (Align true ∷ Align true ∷ Service 2 ∷ Align false ∷ Service 2 ∷ Align false ∷ Service 2 ∷ Align true ∷ [])
    ∷ (Align false ∷ Align true ∷ Service 2 ∷ Align false ∷ Service 2 ∷ Align false ∷ Service 2 ∷ Align true ∷ [])
    ∷ []
ds3c_overhead_slots = refl

-- the first slots of DS2's subframes, and its framing slots
pub ds2_marks : map ds2.mark (0 ∷ 294 ∷ 588 ∷ 882 ∷ 98 ∷ 245 ∷ 392 ∷ 539 ∷ 686 ∷ 833 ∷ 980 ∷ 1127 ∷ [])
    ≡ Multi ∷ Multi ∷ Multi ∷ Other ∷ Framing 0 ∷ Framing 1 ∷ Framing 2 ∷ Framing 3 ∷ Framing 4 ∷ Framing 5 ∷ Framing 6 ∷ Framing 7 ∷ []
unfolding block_role block_mark
ds2_marks = refl

-- the first slots of DS3's subframes, and the framing slots of the first and the last
pub ds3_marks : map ds3.mark (0 ∷ 680 ∷ 1360 ∷ 2040 ∷ 2720 ∷ 3400 ∷ 4080 ∷ 85 ∷ 255 ∷ 425 ∷ 595 ∷ 4165 ∷ 4335 ∷ 4505 ∷ 4675 ∷ [])
    ≡ Other ∷ Other ∷ Other ∷ Other ∷ Multi ∷ Multi ∷ Multi ∷ Framing 0 ∷ Framing 1 ∷ Framing 2 ∷ Framing 3 ∷ Framing 24 ∷ Framing 25 ∷ Framing 26 ∷ Framing 27 ∷ []
unfolding block_role block_mark
ds3_marks = refl

-- ---- the loss of alignment

-- these framing slots are wrong
abbrev pub framing_wrong : ℕ → Marks
framing_wrong slots = record { framing = slots; multi = false }

-- a multiframe slot is wrong
abbrev pub multi_wrong : Marks
multi_wrong = record { framing = 0; multi = true }

-- DS2, slots 0 and 3 of a frame, and slots 0 and 4, which are five in a row
pub ds2_window : map (λ slots. ds2.loses clean clean clean (framing_wrong slots)) (9 ∷ 17 ∷ []) ≡ true ∷ false ∷ []
unfolding window_wrong
ds2_window = refl

-- slots 5 and 6 of the frame before, with slot 0 of this one behind, and slots 4 and 5
pub ds2_window_before : map (λ slots. ds2.loses clean clean (framing_wrong slots) clean) (96 ∷ 48 ∷ []) ≡ true ∷ false ∷ []
unfolding window_wrong
ds2_window_before = refl

-- DS3, slots 0, 8 and 15 of a frame; slots 0, 8 and 16; and two of them
pub ds3_window : map (λ slots. ds3.loses clean clean clean (framing_wrong slots)) (33025 ∷ 65793 ∷ 257 ∷ []) ≡ true ∷ false ∷ false ∷ []
unfolding window_wrong
ds3_window = refl

-- slots 13, 14 and 15 of the frame before, with slot 0 of this one behind, and slots 12, 13 and 14
pub ds3_window_before : map (λ slots. ds3.loses clean clean (framing_wrong slots) clean) (57344 ∷ 28672 ∷ []) ≡ true ∷ false ∷ []
unfolding window_wrong
ds3_window_before = refl

-- a wrong multiframe slot in each of three frames, and in two
pub three_multi : ds3.loses clean multi_wrong multi_wrong multi_wrong ≡ true
unfolding window_wrong
three_multi = refl

pub two_multi : ds3.loses multi_wrong clean multi_wrong multi_wrong ≡ false
unfolding window_wrong
two_multi = refl
