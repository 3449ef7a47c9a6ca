use Rattle.pdh_interleaving.proofs.InterleavingLaws.{eight_in_turn7}
use Rattle.pdh_interleaving.proofs.kernels.interleave7.Goals as goal

pub returns-clause-bits : goal.returns-clause-bits
returns-clause-bits c = rw (c.spread7.ensures.spread, c.spread7-2.ensures.spread, c.spread7-3.ensures.spread, c.spread7-4.ensures.spread, c.spread7-5.ensures.spread, c.spread7-6.ensures.spread, c.spread7-7.ensures.spread) (eight_in_turn7 c.args.a c.args.b c.args.c c.args.d c.args.e c.args.f c.args.g)
