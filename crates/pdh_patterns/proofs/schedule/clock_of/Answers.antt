use Rattle.pdh_patterns.proofs.Clocked.{made_clock}
use Rattle.pdh_patterns.proofs.schedule.clock_of.Goals as goal

pub returns : goal.returns
returns c =
    let made = c.from_ppm.ensures in
    made_clock c.args.chain c.args.frames c.levels.result.now c.from_ppm.result c.levels.ensures.value made.levels made.frames made.sound made.top made.enough
