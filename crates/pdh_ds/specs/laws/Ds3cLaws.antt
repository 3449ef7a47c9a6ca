-- The laws of the DS3 frame with C-bit parity, computed over its slots.
use Rattle.std.specs.Prelude.{◌≡◌, true, refl}
use Rattle.std.proofs.Common.{lit<, lit≤}
use Rattle.pdh_shape.specs.Walk.{walk}
use Rattle.pdh_shape.specs.KeptLaws.{keeps_laws, keeps_laws_by}
use Rattle.pdh_ds.specs.Blocks.{IsBlockPlan, block_role, block_mark}
use Rattle.pdh_ds.specs.Loss.{window_wrong}
use Rattle.pdh_ds.specs.Plans.{ds3c, ds3c_plan}

pub ds3c_is_plan : IsBlockPlan ds3c_plan
ds3c_is_plan = record {
  whole = refl;
  blocks = refl;
  some = (lit< tt, lit< tt);
  few = (lit≤ tt, lit≤ tt);
  even = (lit< tt, refl);
  loss = record { few = lit≤ tt; within = lit≤ tt };
}

pub ds3c_keeps_laws : keeps_laws ds3c ≡ true
unfolding keeps_laws_by walk block_role block_mark window_wrong
ds3c_keeps_laws = refl
