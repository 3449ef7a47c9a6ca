-- The laws of the E2 frame, computed over its slots.
use Rattle.std.specs.Prelude.{◌≡◌, true, refl}
use Rattle.std.proofs.Common.{lit<, lit≤}
use Rattle.pdh_eframes.specs.Sets.{IsSetPlan, set_role, set_mark, four_wrong}
use Rattle.pdh_eframes.specs.Plans.{e2_signal, e2, e2_plan}
use Rattle.pdh_shape.specs.Walk.{walk}
use Rattle.pdh_shape.specs.KeptLaws.{keeps_laws, keeps_laws_by}

pub e2_is_plan : IsSetPlan e2_signal e2_plan
e2_is_plan = record { whole = refl; some = (lit< tt, lit< tt); few = lit≤ tt; short = lit< tt; signal_is = refl }

pub e2_keeps_laws : keeps_laws e2 ≡ true
unfolding keeps_laws_by walk set_role set_mark four_wrong
e2_keeps_laws = refl
