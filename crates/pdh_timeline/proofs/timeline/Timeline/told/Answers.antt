use Rattle.std.proofs.Common.{sym, ◌∙◌, refl, eqb, ◌%◌, true}
use Rattle.pdh_timeline.specs.Marks.Mark.{Far}
use Rattle.pdh_timeline.proofs.Adding.{blocks_same, told_more}
use Rattle.pdh_timeline.proofs.Standings.{mark_stands, comes_now}
use Rattle.pdh_timeline.proofs.timeline.Timeline.told.Goals as goal

pub returns-clause-stands : goal.returns-clause-stands
returns-clause-stands c marks stands order =
    let old = c.args.self.now in
    let kept = c.reach.new.self in
    let mark = Far c.args.place in
    let at_start = eqb (c.args.place % old.rate) 0 in
    let now = c.reach.ensures.stands marks stands in
    let comes = comes_now old.rate kept.rate kept.second mark c.requires c.reach.ensures.rate (c.reach.ensures.second order) in
    mark_stands kept marks mark at_start kept.out kept.ais kept.alarm kept.blocks true now comes refl refl refl
    (now.blocks_are ∙ sym (blocks_same kept.rate kept.second marks mark refl)) (sym (told_more kept.rate kept.second marks at_start mark comes refl))
