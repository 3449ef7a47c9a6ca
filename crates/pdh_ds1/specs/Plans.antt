-- The superframe and the extended superframe of ANSI T1.107.
use Rattle.std.specs.Prelude.{true, false, List, [], ◌∷◌}
use Rattle.pdh_shape.specs.declared.role.Role.{Role}
use Rattle.pdh_shape.specs.declared.role.Role.TheVariants.{Align, Service as ServiceSlot}
use Rattle.pdh_shape.specs.Frame.{FrameShape}
use Rattle.pdh_ds1.specs.declared.plan.SuperframePlan.{SuperframePlan}
use Rattle.pdh_ds1.specs.Superframe.{in_superframe}

-- the F bits of a superframe: 100011011100
abbrev pub sf_f_bits : List Role
sf_f_bits =
    Align true ∷ Align false ∷ Align false ∷ Align false ∷ Align true ∷ Align true
    ∷ Align false ∷ Align true ∷ Align true ∷ Align true ∷ Align false ∷ Align false ∷ []

-- two or more of four framing bits in a row, which is this project's own rule
abbrev pub sf_plan : SuperframePlan
sf_plan = record { len = 2316; frames = 12; loss = record { framing = 12; window = 4; wrong = 2 } }

abbrev pub ds1_sf : FrameShape
ds1_sf = in_superframe sf_f_bits sf_plan

-- a CRC bit, and a bit of the data link
abbrev pub crc_bit : Role
crc_bit = ServiceSlot 1

abbrev pub link_bit : Role
link_bit = ServiceSlot 2

-- the F bits of an extended superframe: every fourth frame has one of the alignment signal 001011, the second and every
-- fourth after it a CRC bit, and the others the data link
abbrev pub esf_f_bits : List Role
esf_f_bits =
    link_bit ∷ crc_bit ∷ link_bit ∷ Align false ∷ link_bit ∷ crc_bit ∷ link_bit ∷ Align false
    ∷ link_bit ∷ crc_bit ∷ link_bit ∷ Align true ∷ link_bit ∷ crc_bit ∷ link_bit ∷ Align false
    ∷ link_bit ∷ crc_bit ∷ link_bit ∷ Align true ∷ link_bit ∷ crc_bit ∷ link_bit ∷ Align true ∷ []

abbrev pub esf_plan : SuperframePlan
esf_plan = record { len = 4632; frames = 24; loss = record { framing = 6; window = 4; wrong = 2 } }

abbrev pub ds1_esf : FrameShape
ds1_esf = in_superframe esf_f_bits esf_plan
