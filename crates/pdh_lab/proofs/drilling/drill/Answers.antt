use Rattle.std.proofs.Common.{length, ap, subst, sym, arith}
use Rattle.pdh_lab.specs.Drill.{IsInTime}
use Rattle.pdh_lab.proofs.InTime.{in_time}
use Rattle.pdh_lab.proofs.Sent.{length-line}
use Rattle.pdh_patterns.proofs.Entered.{few_bits}
use Rattle.pdh_lab.proofs.drilling.drill.Goals as goal

pub receive-requires : goal.receive-requires
receive-requires c = omega (arith, ap length c.in_ok-line.ensures, length-line c.args.chain c.args.seed c.args.frames, few_bits c.args.chain c.args.frames c.requires.few)

pub returns-clause-within : goal.returns-clause-within
returns-clause-within c = subst (IsInTime c.args.chain) (sym c.report.ensures) (in_time c.args.chain c.args.seed c.args.frames c.requires.few)
