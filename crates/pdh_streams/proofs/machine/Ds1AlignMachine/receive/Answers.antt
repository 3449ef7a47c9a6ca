use Rattle.std.proofs.Common.{ap}
use Rattle.pdh_ds1.specs.View.{far_of}
use Rattle.pdh_streams.specs.Ds1.{ds1_codec}
use Rattle.pdh_streams.proofs.machine.Ds1AlignMachine.receive.Goals as goal

pub returns-clause-codec : goal.returns-clause-codec
returns-clause-codec g c = ap ds1_codec c.take.ensures.form

pub returns-clause-same : goal.returns-clause-same
returns-clause-same g c = ap far_of c.take.ensures.form
