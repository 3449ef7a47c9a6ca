-- The frames DS2 and DS3 of ANSI T1.107, the latter in the M23 application and with C-bit parity.
use Rattle.std.specs.Prelude.{ℕ, ◌%◌, Bool, true, false, not, ◌==◌, List, [], ◌∷◌}
use Rattle.std.specs.List.{slice_index_or}
use Rattle.pdh_shape.specs.declared.role.Role.{Role}
use Rattle.pdh_shape.specs.declared.role.Role.TheVariants.{Align, Control, Service as ServiceSlot}
use Rattle.pdh_shape.specs.declared.role.Service.{Service}
use Rattle.pdh_shape.specs.declared.role.Duty.{Duty}
use Rattle.pdh_shape.specs.declared.role.Duty.TheVariants.{Alarm, Parity, Feac, PathParity, Febe, Other}
use Rattle.pdh_shape.specs.Frame.{FrameShape}
use Rattle.pdh_ds.specs.declared.block_plan.BlockPlan.{BlockPlan}
use Rattle.pdh_ds.specs.declared.loss.LossRule.{LossRule}
use Rattle.pdh_ds.specs.Blocks.{in_blocks}

-- ---- DS2

-- two or more of four framing bits in a row
abbrev pub ds2_loss : LossRule
ds2_loss = record { framing = 8; window = 4; wrong = 2 }

-- four subframes of six blocks of 49 slots
abbrev pub ds2_plan : BlockPlan
ds2_plan = record { len = 1176; subframe = 294; blocks = 6; block = 49; tribs = 4; copies = 3; low = 287; loss = ds2_loss }

-- the first overhead slot of each subframe: M1 to M3, which are 011, and X
abbrev pub ds2_firsts : List Role
ds2_firsts = Align false ∷ Align true ∷ Align true ∷ ServiceSlot 0 ∷ []

-- the overhead slots of a subframe: its first, C1, F of 0, C2, C3, F of 1
abbrev pub ds2_overhead : ℕ → List Role
ds2_overhead i = slice_index_or ds2_firsts i (ServiceSlot 0) ∷ Control i 0 ∷ Align false ∷ Control i 1 ∷ Control i 2 ∷ Align true ∷ []

-- the second and the fourth tributary are inverted
abbrev pub ds2_inverted : ℕ → Bool
ds2_inverted j = j % 2 == 1

-- number 0 is X
abbrev pub ds2_duty : ℕ → Duty
ds2_duty number = slice_index_or (Alarm ∷ []) number Other

-- which is 1 without alarm
abbrev pub ds2_service : ℕ → Service → Bool → Bool
ds2_service number say odd = slice_index_or (not say.alarm ∷ []) number true

-- the second-order multiplex, 6312 kbit/s
abbrev pub ds2 : FrameShape
ds2 = in_blocks ds2_plan ds2_overhead ds2_inverted ds2_duty ds2_service

-- ---- DS3

-- three or more of sixteen framing bits in a row
abbrev pub ds3_loss : LossRule
ds3_loss = record { framing = 28; window = 16; wrong = 3 }

-- seven subframes of eight blocks of 85 slots
abbrev pub ds3_plan : BlockPlan
ds3_plan = record { len = 4760; subframe = 680; blocks = 8; block = 85; tribs = 7; copies = 3; low = 671; loss = ds3_loss }

-- the first overhead slot of each subframe: X twice, P twice, and M1 to M3, which are 010
abbrev pub ds3_firsts : List Role
ds3_firsts = ServiceSlot 0 ∷ ServiceSlot 0 ∷ ServiceSlot 1 ∷ ServiceSlot 1 ∷ Align false ∷ Align true ∷ Align false ∷ []

-- the overhead slots of a subframe: its first, F of 1, C1, F of 0, C2, F of 0, C3, F of 1
abbrev pub ds3_overhead : ℕ → List Role
ds3_overhead i =
    slice_index_or ds3_firsts i (ServiceSlot 0) ∷ Align true ∷ Control i 0 ∷ Align false ∷ Control i 1 ∷ Align false ∷ Control i 2 ∷ Align true ∷ []

-- number 0 is X, number 1 is P
abbrev pub ds3_duty : ℕ → Duty
ds3_duty number = slice_index_or (Alarm ∷ Parity ∷ []) number Other

-- X is 1 without alarm, and P the parity of the frame before: 1 where its information slots hold an odd number of ones
abbrev pub ds3_service : ℕ → Service → Bool → Bool
ds3_service number say odd = slice_index_or (not say.alarm ∷ odd ∷ []) number true

-- the third-order multiplex of the M23 application, 44736 kbit/s
abbrev pub ds3 : FrameShape
ds3 = in_blocks ds3_plan ds3_overhead (λ j. false) ds3_duty ds3_service

-- ---- DS3 with C-bit parity

-- DS3 without copies of a justification control, so that each tributary has its information slots alone
abbrev pub ds3c_plan : BlockPlan
ds3c_plan = record { len = 4760; subframe = 680; blocks = 8; block = 85; tribs = 7; copies = 0; low = 671; loss = ds3_loss }

-- the service bits in the place of each subframe's three control slots, by their numbers: identification, a reserved bit and
-- the far end alarm and control channel; three that are 1; path parity three times; the far end block error three times; the
-- data link; and twice three that are 1
abbrev pub ds3c_c_bits : List (List ℕ)
ds3c_c_bits = (2 ∷ 2 ∷ 3 ∷ []) ∷ (2 ∷ 2 ∷ 2 ∷ []) ∷ (4 ∷ 4 ∷ 4 ∷ []) ∷ (5 ∷ 5 ∷ 5 ∷ []) ∷ (6 ∷ 7 ∷ 8 ∷ []) ∷ (2 ∷ 2 ∷ 2 ∷ []) ∷ (2 ∷ 2 ∷ 2 ∷ []) ∷ []

-- the C bit of that number, from 0, of a subframe
abbrev pub ds3c_c_bit : ℕ → ℕ → Role
ds3c_c_bit i number = ServiceSlot (slice_index_or (slice_index_or ds3c_c_bits i []) number 2)

-- the overhead slots of a subframe: its first, F of 1, C1, F of 0, C2, F of 0, C3, F of 1
abbrev pub ds3c_overhead : ℕ → List Role
ds3c_overhead i =
    slice_index_or ds3_firsts i (ServiceSlot 0) ∷ Align true ∷ ds3c_c_bit i 0 ∷ Align false ∷ ds3c_c_bit i 1 ∷ Align false ∷ ds3c_c_bit i 2 ∷ Align true ∷ []

-- number 0 is X, 1 is P, 2 is always 1, 3 is the far end alarm and control channel, 4 is path parity, 5 the far end block
-- error, and 6 to 8 are the data link
abbrev pub ds3c_duty : ℕ → Duty
ds3c_duty number = slice_index_or (Alarm ∷ Parity ∷ Other ∷ Feac ∷ PathParity ∷ Febe ∷ []) number Other

-- Path parity is what P is at the path's source; the far end block error is 1 where there is none.
abbrev pub ds3c_service : ℕ → Service → Bool → Bool
ds3c_service number say odd =
    let link = λ (i : ℕ). slice_index_or say.link i true in
    slice_index_or (not say.alarm ∷ odd ∷ true ∷ say.feac ∷ odd ∷ say.febe ∷ link 0 ∷ link 1 ∷ link 2 ∷ []) number true

-- the third-order multiplex with C-bit parity, 44736 kbit/s
abbrev pub ds3c : FrameShape
ds3c = in_blocks ds3c_plan ds3c_overhead (λ j. false) ds3c_duty ds3c_service
