use Rattle.pdh_streams.proofs.E1Taking.{e1_takes, e1_takes_part}
use Rattle.pdh_streams.proofs.machine.E1AlignMachine.receive.Goals as goal

pub returns-clause-taken : goal.returns-clause-taken
returns-clause-taken g c = e1_takes _ c.args.bits.now.bits (g.D.Drain.outputs c.args.drain.now) (g.D.Drain.outputs c.take.new.drain) _ c.take.result c.take.ensures.stands c.take.ensures.put

pub returns-clause-part : goal.returns-clause-part
returns-clause-part g c = e1_takes_part _ c.args.bits.now.bits (g.D.Drain.outputs c.args.drain.now) (g.D.Drain.outputs c.take.new.drain) c.take.result c.take.ensures.put_err
