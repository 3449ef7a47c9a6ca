-- The laws of a superframe, computed over its slots.
use Rattle.std.specs.Prelude.{◌≡◌, true, refl}
use Rattle.std.proofs.Common.{lit<, lit≤}
use Rattle.pdh_shape.specs.Walk.{walk}
use Rattle.pdh_shape.specs.KeptLaws.{keeps_laws, keeps_laws_by}
use Rattle.pdh_ds.specs.Loss.{window_wrong}
use Rattle.pdh_ds1.specs.Superframe.{IsSuperframePlan, superframe_role, superframe_mark}
use Rattle.pdh_ds1.specs.Plans.{ds1_sf, sf_plan}

pub sf_is_plan : IsSuperframePlan sf_plan
sf_is_plan = record {
  whole = refl;
  few = lit≤ tt;
  some = lit< tt;
  even = (lit< tt, refl);
  loss = record { few = lit≤ tt; within = lit≤ tt };
}

pub sf_keeps_laws : keeps_laws ds1_sf ≡ true
unfolding keeps_laws_by walk superframe_role superframe_mark window_wrong
sf_keeps_laws = refl
