use Rattle.std.proofs.Common.{[], refl, arith}
use Rattle.pdh_seconds.proofs.seconds.Seconds.new.Goals as goal

pub returns : goal.returns
returns c = record {
  settled = [];
  waiting = [];
  splits = λ later. refl;
  few = omega arith;
  alike = tt;
  settled_are = c.none-settled.ensures;
  waiting_are = c.none-waiting.ensures;
}
