use Rattle.std.proofs.Common.{arith}
use Rattle.std.proofs.lemmas.Nat.{pow_pos}
use Rattle.pdh_align.proofs.StartLaws.{ones_small, ones_bit}
use Rattle.pdh_align.proofs.starts.all.Goals as goal

pub of-requires-clause-small : goal.of-requires-clause-small
of-requires-clause-small c = omega (arith, ones_small c.args.count c.requires.few, pow_pos c.args.count)

pub returns-clause-all : goal.returns-clause-all
returns-clause-all c i h = ones_bit c.of.result c.args.count i _ (ones_small c.args.count c.requires.few) c.of.ensures.bits h
