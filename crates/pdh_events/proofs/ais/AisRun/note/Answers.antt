use Rattle.std.proofs.Common.{arith}
use Rattle.pdh_events.proofs.Runs.{ones_with_one, ones_with_zero}
use Rattle.pdh_events.proofs.ais.AisRun.note.Goals as goal

pub returns-then-not-bit-clause-counts : goal.returns-then-not-bit-clause-counts
returns-then-not-bit-clause-counts g c line is = omega (arith, ones_with_zero line c.args.bit c.if-not-bit.true)

pub returns-then-was_long-2-clause-counts : goal.returns-then-was_long-2-clause-counts
returns-then-was_long-2-clause-counts g c line is = grind (arith, ones_with_one line c.args.bit c.if-not-bit.false)

pub returns-clause-counts : goal.returns-clause-counts
returns-clause-counts g c line is = grind (arith, ones_with_one line c.args.bit c.if-not-bit.false)
