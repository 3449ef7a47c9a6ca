use Rattle.std.proofs.Common.{ap}
use Rattle.pdh_ds1.specs.View.{packed_of}
use Rattle.pdh_streams.specs.Ds1.{ds1_codec}
use Rattle.pdh_streams.proofs.machine.Ds1PackerMachine.receive.Goals as goal

pub returns-clause-codec : goal.returns-clause-codec
returns-clause-codec g c = ap ds1_codec c.take.ensures.form

pub returns-clause-same : goal.returns-clause-same
returns-clause-same g c = ap packed_of c.take.ensures.form
