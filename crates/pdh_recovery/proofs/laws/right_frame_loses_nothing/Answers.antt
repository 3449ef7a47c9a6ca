use Rattle.pdh_recovery.proofs.RuleLaws.{e2_keeps, e3_keeps, e4_keeps, ds2_keeps, ds3_keeps, ds3c_keeps}
use Rattle.pdh_recovery.proofs.laws.right_frame_loses_nothing.Goals as goal

pub returns : goal.returns
returns c = record { e2 = e2_keeps; e3 = e3_keeps; e4 = e4_keeps; ds2 = ds2_keeps; ds3 = ds3_keeps; ds3c = ds3c_keeps }
