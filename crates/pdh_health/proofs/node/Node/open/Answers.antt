use Rattle.std.proofs.Common.{[], refl, arith}
use Rattle.pdh_health.proofs.node.Node.open.Goals as goal

pub returns : goal.returns
returns c = record {
  plan_is = refl;
  counts_are = c.none-counts.ensures;
  first_is = refl;
  codes_are = c.none-codes.ensures;
  early_stands = c.in_ok-early.ensures;
  late_stands = c.begin.ensures _ _ [] [] 0 c.in_ok-late.ensures (omega arith) (omega arith);
}
