-- What the forms of a DS1 line are called.
use Rattle.std.specs.Prelude.{ℕ, List, codes}
use Rattle.pdh_ds1.specs.declared.form.Frame1.{Frame1}
use Rattle.pdh_ds1.specs.declared.form.Frame1.TheVariants.{Super, Extended}

abbrev pub name_of : Frame1 → List ℕ
name_of Super = codes "sf"
name_of Extended = codes "esf"
