use Rattle.pdh_making.proofs.ClockComes.{made_text_is}
use Rattle.pdh_making.proofs.clock.made_text.Goals as goal

pub returns-clause-text : goal.returns-clause-text
returns-clause-text c =
    let clock = c.in_ok-clock.clock in
    let levels = rw c.levels.ensures.value at c.in_ok-clock.ensures.levels in
    let each = rw c.levels.ensures.value at c.in_ok-clock.ensures.frames in
    made_text_is c.args.chain clock c.args.frames c.args.bias c.in_ok-text.field-0.items levels each c.in_ok-text.ensures.text
