use Rattle.std.proofs.Common.{◌∙◌, length, arith}
use Rattle.pdh_levels.specs.Levels.{IsLevel}
use Rattle.pdh_levels.proofs.DelayLaws.{IsLow, delay_none, delay_one, delay_more, few_more, frames_few, held_fits, all_below}
use Rattle.pdh_levels.proofs.frame.+delay_below.Goals as goal

pub short_by-requires-in-len1-up-clause-few : goal.short_by-requires-in-len1-up-clause-few
short_by-requires-in-len1-up-clause-few t c = frames_few c.args.frames (length c.args.levels.now) c.requires.few

pub nonzero_div-short_by : goal.nonzero_div-short_by
nonzero_div-short_by t c = (few_more c.args.levels.now c.args.frames c.short_by-in-len1-up.result _ _ c.in-len1-up.len_at_least c.requires.each c.requires.low c.requires.few c.short_by-in-len1-up.ensures).some

pub overflow_add-short_by : goal.overflow_add-short_by
overflow_add-short_by t c =
    held_fits c.args.levels.now c.short_by-in-len1-up.result _
    (few_more c.args.levels.now c.args.frames c.short_by-in-len1-up.result _ _ c.in-len1-up.len_at_least c.requires.each c.requires.low c.requires.few c.short_by-in-len1-up.ensures)

pub delay_below-requires : goal.delay_below-requires
delay_below-requires t c = (
  omega arith,
  (
    all_below IsLevel c.args.levels.now c.requires.each,
    (
      all_below IsLow c.args.levels.now c.requires.low,
      (few_more c.args.levels.now c.args.frames c.short_by-in-len1-up.result _ _ c.in-len1-up.len_at_least c.requires.each c.requires.low c.requires.few c.short_by-in-len1-up.ensures).few,
    ),
  ),
)

pub returns-in-empty : goal.returns-in-empty
returns-in-empty t c = delay_none c.args.levels.now c.args.frames c.in-empty.len_below

pub returns-in-len1 : goal.returns-in-len1
returns-in-len1 t c = delay_one c.args.levels.now c.args.frames c.short_by.result _ c.in-len1.len_at_least c.in-len1.len_below c.short_by.ensures

pub returns-in-len1-up : goal.returns-in-len1-up
returns-in-len1-up t c = c.delay_below.ensures ∙ delay_more c.args.levels.now c.args.frames c.short_by-in-len1-up.result _ _ c.in-len1-up.len_at_least c.short_by-in-len1-up.ensures
