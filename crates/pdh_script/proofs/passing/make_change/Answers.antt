use Rattle.pdh_script.specs.Applying.{PassesBy}
use Rattle.pdh_script.proofs.Parts.{altering, adding}
use Rattle.pdh_script.proofs.passing.make_change.Goals as goal

pub returns-in-Alter-clause-passed : goal.returns-in-Alter-clause-passed
returns-in-Alter-clause-passed g c =
    altering (λ f n. PassesBy g.P.Feed g.P.Drain g.P.Port.kept f n c.args.port.now c.pass.new.port c.pass.result) c.args.edit c.in-Alter.effect c.in-Alter.bits c.from.result c.args.added.now c.in-Alter.is c.from.ensures c.pass.ensures.passed

pub returns-in-Add-clause-passed : goal.returns-in-Add-clause-passed
returns-in-Add-clause-passed g c =
    adding (λ f n. PassesBy g.P.Feed g.P.Drain g.P.Port.kept f n c.args.port.now c.put_bytes.new.port c.put_bytes.result) c.args.edit c.in-Add.bytes c.args.added.now c.in-Add.is c.put_bytes.ensures.passed
