-- The laws of a superframe, computed over its slots.
use Rattle.std.specs.Prelude.{◌≡◌, true, refl}
use Rattle.std.proofs.Common.{lit<, lit≤}
use Rattle.pdh_shape.specs.Walk.{walk}
use Rattle.pdh_shape.specs.KeptLaws.{keeps_laws, keeps_laws_by}
use Rattle.pdh_ds.specs.Loss.{window_wrong}
use Rattle.pdh_ds1.specs.Superframe.{IsSuperframePlan, superframe_role, superframe_mark}
use Rattle.pdh_ds1.specs.Plans.{ds1_esf, esf_plan}

pub esf_is_plan : IsSuperframePlan esf_plan
esf_is_plan = record {
  whole = refl;
  few = lit≤ tt;
  some = lit< tt;
  even = (lit< tt, refl);
  loss = record { few = lit≤ tt; within = lit≤ tt };
}

pub esf_keeps_laws : keeps_laws ds1_esf ≡ true
unfolding keeps_laws_by walk superframe_role superframe_mark window_wrong
esf_keeps_laws = refl
