use Rattle.std.proofs.Common.{[], refl, arith}
use Rattle.pdh_tx.proofs.tributary.tell.Goals as goal

pub returns-in-Ok-clause-told : goal.returns-in-Ok-clause-told
returns-in-Ok-clause-told g c = record { all = record { logs_them = c.in-Ok.ensures.logged; unfailed = c.in-Ok.ensures.cause }; front = tt }

pub returns-in-Err-clause-told : goal.returns-in-Err-clause-told
returns-in-Err-clause-told g c = record {
  all = tt;
  front = record { told = _; rest = []; front = refl; logs_them = record { takes = c.requires; some = omega arith; broken = c.in-Err.ensures.broken }; counted = c.in-Err.ensures.cause };
}
