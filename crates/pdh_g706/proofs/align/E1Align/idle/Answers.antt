use Rattle.std.proofs.Common.{◌<◌, length, arith}
use Rattle.pdh_g706.specs.declared.stage.Stage.TheVariants as stages
use Rattle.pdh_g706.specs.Machine.{Fits}
use Rattle.pdh_g706.specs.Machine.Phase.{Searching}
use Rattle.pdh_g706.proofs.AlignSteps.{has_room, fits_stage}
use Rattle.pdh_g706.proofs.GlideLaws.{idle_part, idle_few, idle_rejected}
use Rattle.pdh_g706.proofs.align.E1Align.idle.Goals as goal

pub returns-in_default-clause-waits : goal.returns-in_default-clause-waits
returns-in_default-clause-waits c bits few =
    let self = c.args.self.now in
    idle_part self.stage self.held.bits bits self.group c.in_default.not-Searching (omega (arith, few, c.held-held.ensures.count))

pub returns-in_default-clause-room : goal.returns-in_default-clause-room
returns-in_default-clause-room c =
    let self = c.args.self.now in
    let room : length self.held.bits < 16384 = has_room self.stage self.held.bits self.group c.requires in
    omega (arith, room, c.held-held.ensures.count)

pub returns-then-held-lt767-clause-waits : goal.returns-then-held-lt767-clause-waits
returns-then-held-lt767-clause-waits c bits few =
    let self = c.args.self.now in
    idle_few self.stage self.held.bits bits self.group c.in-Searching.is (omega (arith, few, c.held-held.ensures.count, c.if-held-lt767.true))

pub returns-clause-waits : goal.returns-clause-waits
returns-clause-waits c bits few =
    let self = c.args.self.now in
    let fits : Fits (Searching self.held.bits) = fits_stage self stages.Searching c.in-Searching.is c.requires in
    idle_rejected self.stage self.held.bits bits self.group c.rejected.result c.in-Searching.is (omega (arith, fits, c.held-held.ensures.count, c.if-held-lt767.false)) few c.rejected.ensures.few c.rejected.ensures.none

pub returns-clause-room : goal.returns-clause-room
returns-clause-room c =
    let self = c.args.self.now in
    let fits : Fits (Searching self.held.bits) = fits_stage self stages.Searching c.in-Searching.is c.requires in
    omega (arith, fits, c.rejected.ensures.few)
