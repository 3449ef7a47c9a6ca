use Rattle.std.proofs.Common.{ap, sym, ◌∙◌, refl, eqb, ◌%◌}
use Rattle.pdh_spans.specs.Times.Turn.{Ends}
use Rattle.pdh_timeline.specs.Touches.{touch_ends}
use Rattle.pdh_timeline.specs.Marks.Mark.{Turns}
use Rattle.pdh_timeline.proofs.Adding.{blocks_same, told_same}
use Rattle.pdh_timeline.proofs.Standings.{mark_stands, comes_now}
use Rattle.pdh_timeline.proofs.timeline.Timeline.end.Goals as goal

pub returns-clause-stands : goal.returns-clause-stands
returns-clause-stands c marks stands order =
    let old = c.args.self.now in
    let kept = c.reach.new.self in
    let mark = Turns c.args.state (Ends c.args.place) in
    let at_start = eqb (c.args.place % old.rate) 0 in
    let now = c.reach.ensures.stands marks stands in
    let comes = comes_now old.rate kept.rate kept.second mark c.requires c.reach.ensures.rate (c.reach.ensures.second order) in
    mark_stands kept marks mark at_start c.end_if-out.result c.end_if-ais.result c.end_if-alarm.result kept.blocks kept.far now comes
    (c.end_if-out.ensures ∙ ap (λ own. touch_ends own at_start kept.out) c.is.ensures)
    (c.end_if-ais.ensures ∙ ap (λ own. touch_ends own at_start kept.ais) c.is-2.ensures)
    (c.end_if-alarm.ensures ∙ ap (λ own. touch_ends own at_start kept.alarm) c.is-3.ensures)
    (now.blocks_are ∙ sym (blocks_same kept.rate kept.second marks mark refl)) (now.far_is ∙ sym (told_same kept.rate kept.second marks mark refl))
