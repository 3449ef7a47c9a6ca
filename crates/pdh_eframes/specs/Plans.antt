-- The frames of ITU-T G.742 and G.751, each by its numbers and its alignment signal.
use Rattle.std.specs.Prelude.{Bool, true, false, List, [], ◌∷◌}
use Rattle.pdh_shape.specs.Frame.{FrameShape}
use Rattle.pdh_eframes.specs.declared.set_plan.SetPlan.{SetPlan}
use Rattle.pdh_eframes.specs.Sets.{in_sets}

-- the alignment signal 1111010000
abbrev pub e2_signal : List Bool
e2_signal = true ∷ true ∷ true ∷ true ∷ false ∷ true ∷ false ∷ false ∷ false ∷ false ∷ []

-- four sets of 212 slots
abbrev pub e2_plan : SetPlan
e2_plan = record { len = 848; signal = 10; set = 212; sets = 4; first_info = 12; copies = 3; low = 205 }

-- the second-order multiplex of G.742, 8448 kbit/s
abbrev pub e2 : FrameShape
e2 = in_sets e2_signal e2_plan

-- four sets of 384 slots
abbrev pub e3_plan : SetPlan
e3_plan = record { len = 1536; signal = 10; set = 384; sets = 4; first_info = 12; copies = 3; low = 377 }

-- the third-order multiplex of G.751, 34368 kbit/s, which has the same signal
abbrev pub e3 : FrameShape
e3 = in_sets e2_signal e3_plan

-- the alignment signal 111110100000
abbrev pub e4_signal : List Bool
e4_signal = true ∷ true ∷ true ∷ true ∷ true ∷ false ∷ true ∷ false ∷ false ∷ false ∷ false ∷ false ∷ []

-- six sets of 488 slots
abbrev pub e4_plan : SetPlan
e4_plan = record { len = 2928; signal = 12; set = 488; sets = 6; first_info = 16; copies = 5; low = 722 }

-- the fourth-order multiplex of G.751, 139264 kbit/s
abbrev pub e4 : FrameShape
e4 = in_sets e4_signal e4_plan
