-- What the alignment machine and the packer of a form stand for and give, and what the machine counts.
use Rattle.std.specs.Prelude.{ℕ, Bool, List, length, count_by}
use Rattle.pdh_shape.specs.declared.role.Role.{Role}
use Rattle.pdh_ds1.specs.declared.form.Frame1.{Frame1}
use Rattle.pdh_ds1.specs.declared.form.Frame1.TheVariants.{Super, Extended}
use Rattle.pdh_ds1.specs.declared.plan.SuperframePlan.{SuperframePlan}
use Rattle.pdh_ds1.specs.declared.deframer.Deframer.{Deframer}
use Rattle.pdh_ds1.specs.declared.framer.Framer.{Framer}
use Rattle.pdh_ds1.specs.declared.packer.Ds1Packer.{Ds1Packer}
use Rattle.pdh_ds1.specs.declared.packer.Ds1Packer.TheVariants as packers
use Rattle.pdh_ds1.specs.declared.align.Ds1Align.{Ds1Align}
use Rattle.pdh_ds1.specs.declared.align.Ds1Align.TheVariants as machines
use Rattle.pdh_ds1.specs.Plans.{sf_f_bits, sf_plan, ds1_sf, esf_f_bits, esf_plan, ds1_esf}
use Rattle.pdh_ds1.specs.Receiving.{ds1_far, judged}
use Rattle.pdh_ds1.specs.Packing.{packed_superframes}
use Rattle.pdh_ds1.specs.Machine.{Stands, Frames, counted, superframes_counted}

-- the machine of a plan stands for these received bits
abbrev pub DeframerStands : {P : Type 0} → List Role → SuperframePlan → Deframer P → List Bool → Type 0
DeframerStands f_bits plan m = Stands f_bits plan m.aligner m.superframe m.payload m.superframes m.blocks

abbrev pub form_of : Ds1Align → Frame1
form_of (machines.Super machine) = Super
form_of (machines.Extended machine) = Extended

-- the machine stands for these received bits
abbrev pub StandsFor : Ds1Align → List Bool → Type 0
StandsFor (machines.Super machine) = DeframerStands sf_f_bits sf_plan machine
StandsFor (machines.Extended machine) = DeframerStands esf_f_bits esf_plan machine

-- the payload of the superframes of a line
abbrev pub far_of : Frame1 → List Bool → List Bool
far_of Super = ds1_far ds1_sf
far_of Extended = ds1_far ds1_esf

-- how many superframes of a line are delivered
abbrev pub superframes_in : Frame1 → List Bool → ℕ
superframes_in Super = superframes_counted sf_f_bits sf_plan
superframes_in Extended = superframes_counted esf_f_bits esf_plan

-- how many blocks of it are judged, and how many of these are errored: a superframe of the extended form is a block
abbrev pub blocks_in : Frame1 → List Bool → ℕ
blocks_in Super line = 0
blocks_in Extended line = counted (length (judged ds1_esf line))

abbrev pub errors_in : Frame1 → List Bool → ℕ
errors_in Super line = 0
errors_in Extended line = counted (count_by (λ errored. errored) (judged ds1_esf line))

-- ---- packing

-- what the packer of a plan stands for
abbrev pub FramerStands : {P : Type 0} → List Role → SuperframePlan → Framer P → List Bool → Type 0
FramerStands f_bits plan m = Frames f_bits plan m.payload m.superframe m.sent

abbrev pub packed_form : Ds1Packer → Frame1
packed_form (packers.Super packer) = Super
packed_form (packers.Extended packer) = Extended

-- the packer stands for these bits of a payload
abbrev pub PacksFor : Ds1Packer → List Bool → Type 0
PacksFor (packers.Super packer) = FramerStands sf_f_bits sf_plan packer
PacksFor (packers.Extended packer) = FramerStands esf_f_bits esf_plan packer

-- the line of the superframes that a payload fills
abbrev pub packed_of : Frame1 → List Bool → List Bool
packed_of Super = packed_superframes sf_f_bits 12
packed_of Extended = packed_superframes esf_f_bits 24
