-- What the packer and the alignment machine of DS1 lines give.
use Rattle.std.proofs.Common.{lit<}
use Rattle.pdh_shape.specs.laws.LawsOfTest.{laws-is_frame}
use Rattle.pdh_ds1.specs.declared.form.Frame1.{Frame1}
use Rattle.pdh_ds1.specs.declared.form.Frame1.TheVariants.{Super, Extended}
use Rattle.pdh_ds1.specs.Plans.{sf_f_bits, ds1_sf, esf_f_bits, ds1_esf}
use Rattle.pdh_ds1.specs.View.{packed_of, far_of}
use Rattle.pdh_ds1.specs.laws.SfLaws.{sf_keeps_laws}
use Rattle.pdh_ds1.specs.laws.EsfLaws.{esf_keeps_laws}
use Rattle.pdh_ds1.proofs.FitLaws.{far_empty}
use Rattle.pdh_ds1.proofs.FramerLaws.{packed_none, packed_grows}
use Rattle.pdh_ds1.proofs.MachineLaws.{far_grows_on}
use Rattle.pdh_streams.specs.Streaming.{GivesOn}

pub packer_gives_on : (form : Frame1) → GivesOn (packed_of form)
packer_gives_on Super = record { none = packed_none sf_f_bits 12 (lit< tt); more = λ bits more. packed_grows sf_f_bits 12 bits more (lit< tt) }
packer_gives_on Extended = record { none = packed_none esf_f_bits 24 (lit< tt); more = λ bits more. packed_grows esf_f_bits 24 bits more (lit< tt) }

pub align_gives_on : (form : Frame1) → GivesOn (far_of form)
align_gives_on Super = record { none = far_empty ds1_sf (laws-is_frame ds1_sf sf_keeps_laws); more = far_grows_on ds1_sf (laws-is_frame ds1_sf sf_keeps_laws) }
align_gives_on Extended = record { none = far_empty ds1_esf (laws-is_frame ds1_esf esf_keeps_laws); more = far_grows_on ds1_esf (laws-is_frame ds1_esf esf_keeps_laws) }
