-- The chains, each as one entry of a list, and what follows from it: the frames, levels and leaves, the bytes of a frame of
-- the top, and the delay of the whole. The rates are those of ITU-T G.742 and G.751 and of ANSI T1.107; the offsets in parts
-- per million are this project's own.
use Rattle.std.specs.Prelude.{ℕ, ◌*◌, ◌/◌, List, [], ◌∷◌, map, codes, refl}
use Rattle.pdh_shape.specs.Frame.{FrameShape}
use Rattle.pdh_eframes.specs.Plans.{e2, e3, e4}
use Rattle.pdh_eframes.specs.laws.E2Laws.{e2_keeps_laws}
use Rattle.pdh_eframes.specs.laws.E3Laws.{e3_keeps_laws}
use Rattle.pdh_eframes.specs.laws.E4Laws.{e4_keeps_laws}
use Rattle.pdh_ds.specs.Plans.{ds2, ds3, ds3c}
use Rattle.pdh_ds.specs.laws.Ds2Laws.{ds2_keeps_laws}
use Rattle.pdh_ds.specs.laws.Ds3Laws.{ds3_keeps_laws}
use Rattle.pdh_ds.specs.laws.Ds3cLaws.{ds3c_keeps_laws}
use Rattle.pdh_recovery.proofs.RuleLaws.{e2_keeps, e3_keeps, e4_keeps, ds2_keeps, ds3_keeps, ds3c_keeps}
use Rattle.pdh_shape.specs.declared.place.Level.{Level}
use Rattle.pdh_nesting.specs.Chains.{width, top_len}
use Rattle.pdh_nesting.specs.Sending.{delay}
use Rattle.pdh_chain.specs.Stages.{Rates, Stage, Listed, whole_rates, level_of, frames_of}
use Rattle.pdh_chain.specs.declared.chain.Chain.{Chain}
use Rattle.pdh_chain.specs.declared.chain.Chain.TheVariants.{E12, E23, E34, E13, E24, E14, M12, M23, M13, C13}

-- ---- the stages

-- four streams of 2048 kbit/s in one of 8448
abbrev pub e2_stage : Stage
e2_stage = record { frame = e2; rates = whole_rates 8448000 30 2048000 50; lawful = e2_keeps_laws; keeps = e2_keeps; numbers = refl; rated = refl }

-- four streams of 8448 kbit/s in one of 34368
abbrev pub e3_stage : Stage
e3_stage = record { frame = e3; rates = whole_rates 34368000 20 8448000 30; lawful = e3_keeps_laws; keeps = e3_keeps; numbers = refl; rated = refl }

-- four streams of 34368 kbit/s in one of 139264
abbrev pub e4_stage : Stage
e4_stage = record { frame = e4; rates = whole_rates 139264000 15 34368000 20; lawful = e4_keeps_laws; keeps = e4_keeps; numbers = refl; rated = refl }

-- four streams of 1544 kbit/s in one of 6312
abbrev pub ds2_stage : Stage
ds2_stage = record { frame = ds2; rates = whole_rates 6312000 30 1544000 32; lawful = ds2_keeps_laws; keeps = ds2_keeps; numbers = refl; rated = refl }

-- seven streams of 6312 kbit/s in one of 44736
abbrev pub ds3_stage : Stage
ds3_stage = record { frame = ds3; rates = whole_rates 44736000 20 6312000 30; lawful = ds3_keeps_laws; keeps = ds3_keeps; numbers = refl; rated = refl }

-- the rate of each of the seven streams that a DS3 with C-bit parity carries: each of its frames has as many bits of each, so it
-- is to the line's rate as these bits to those of the frame
abbrev pub locked_rate : ℕ
locked_rate = 44736000 * ds3c.low

abbrev pub ds3c_rates : Rates
ds3c_rates = record { rate = 44736000; per = 1; ppm = 20; trib_rate = locked_rate; trib_per = ds3c.len; trib_ppm = 20 }

-- seven streams in one of 44736 kbit/s with C-bit parity, which have the line's clock
abbrev pub ds3c_stage : Stage
ds3c_stage = record { frame = ds3c; rates = ds3c_rates; lawful = ds3c_keeps_laws; keeps = ds3c_keeps; numbers = refl; rated = refl }

abbrev pub locked_ds2_rates : Rates
locked_ds2_rates = record { rate = locked_rate; per = ds3c.len; ppm = 20; trib_rate = 1544000; trib_per = 1; trib_ppm = 32 }

-- four streams of 1544 kbit/s in one of those
abbrev pub locked_ds2_stage : Stage
locked_ds2_stage = record { frame = ds2; rates = locked_ds2_rates; lawful = ds2_keeps_laws; keeps = ds2_keeps; numbers = refl; rated = refl }

-- ---- the chains

-- all of them, in order
abbrev pub chains : List Chain
chains = E12 ∷ E23 ∷ E34 ∷ E13 ∷ E24 ∷ E14 ∷ M12 ∷ M23 ∷ M13 ∷ C13 ∷ []

-- the name and the stages of each
abbrev pub listed : Chain → Listed
listed E12 = record { name = codes "e12"; stages = e2_stage ∷ []; held = refl }
listed E23 = record { name = codes "e23"; stages = e3_stage ∷ []; held = refl }
listed E34 = record { name = codes "e34"; stages = e4_stage ∷ []; held = refl }
listed E13 = record { name = codes "e13"; stages = e3_stage ∷ e2_stage ∷ []; held = refl }
listed E24 = record { name = codes "e24"; stages = e4_stage ∷ e3_stage ∷ []; held = refl }
listed E14 = record { name = codes "e14"; stages = e4_stage ∷ e3_stage ∷ e2_stage ∷ []; held = refl }
listed M12 = record { name = codes "m12"; stages = ds2_stage ∷ []; held = refl }
listed M23 = record { name = codes "m23"; stages = ds3_stage ∷ []; held = refl }
listed M13 = record { name = codes "m13"; stages = ds3_stage ∷ ds2_stage ∷ []; held = refl }
listed C13 = record { name = codes "c13"; stages = ds3c_stage ∷ locked_ds2_stage ∷ []; held = refl }

-- ---- what follows

-- the word of a chain
abbrev pub name_of : Chain → List ℕ
name_of chain = (listed chain).name

-- the frames of its levels, from the top down
abbrev pub shapes_of : Chain → List FrameShape
shapes_of chain = frames_of (listed chain).stages

-- its levels, from the top down
abbrev pub levels_of : Chain → List Level
levels_of chain = map level_of (listed chain).stages

-- how many leaves it has
abbrev pub leaves_of : Chain → ℕ
leaves_of chain = width (shapes_of chain)

-- the bytes of a frame of its top
abbrev pub frame_bytes_of : Chain → ℕ
frame_bytes_of chain = top_len (shapes_of chain) / 8

-- by how many bits of a leaf what is received is behind what arrived at most, within the tolerance
abbrev pub delay_of : Chain → ℕ
delay_of chain = delay (shapes_of chain)
