use Rattle.std.proofs.Common.{◌++◌}
use Rattle.pdh_g706.proofs.AlignSteps.{on_ok}
use Rattle.pdh_tests_of_streams.proofs.ds1.take_all.Goals as goal

pub returns-clause-stands : goal.returns-clause-stands
returns-clause-stands g c =
    on_ok c.take.result _ _ (λ taken. (c.requires.stands.0 ++ c.args.bits.now.bits, taken.stands c.requires.stands.0 c.requires.stands.1)) c.take.ensures.taken

pub returns-clause-holds : goal.returns-clause-holds
returns-clause-holds g c = g.met.D.Drain.drained_holds c.args.drain.now c.take.new.drain c.take.ensures.drained
