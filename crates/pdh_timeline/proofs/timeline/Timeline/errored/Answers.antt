use Rattle.std.proofs.Common.{◌≡◌, ◌+◌, ◌≤◌, length, sym, ◌∙◌, refl, arith, eqb, ◌%◌}
use Rattle.std.proofs.lemmas.List.Sums.{count_by-le-length}
use Rattle.pdh_timeline.specs.Marks.{is_errored, is_in, blocks_in}
use Rattle.std.specs.Prelude.{◌&&◌}
use Rattle.pdh_timeline.specs.Marks.Mark.{Errored}
use Rattle.pdh_timeline.proofs.Adding.{blocks_more, told_same}
use Rattle.pdh_timeline.proofs.Standings.{mark_stands, comes_now}
use Rattle.pdh_timeline.proofs.timeline.Timeline.errored.Goals as goal

pub returns-clause-stands : goal.returns-clause-stands
returns-clause-stands c marks stands order few =
    let old = c.args.self.now in
    let kept = c.reach.new.self in
    let mark = Errored c.args.place in
    let at_start = eqb (c.args.place % old.rate) 0 in
    let now = c.reach.ensures.stands marks stands in
    let comes = comes_now old.rate kept.rate kept.second mark c.requires c.reach.ensures.rate (c.reach.ensures.second order) in
    let most : blocks_in kept.rate kept.second marks ≤ length marks = count_by-le-length (λ m. is_errored m && is_in kept.rate kept.second m) marks in
    let one : c.saturating_add-self.result ≡ blocks_in kept.rate kept.second marks + 1 = omega (arith, c.saturating_add-self.ensures, now.blocks_are, most, few) in
    mark_stands kept marks mark at_start kept.out kept.ais kept.alarm c.saturating_add-self.result kept.far now comes refl refl refl
    (one ∙ sym (blocks_more kept.rate kept.second marks at_start mark comes refl)) (now.far_is ∙ sym (told_same kept.rate kept.second marks mark refl))
