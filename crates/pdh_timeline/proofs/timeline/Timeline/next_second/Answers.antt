use Rattle.std.proofs.Common.{◌≡◌, ◌+◌, ◌++◌, ◌∷◌, [], ◌∙◌, subst, arith}
use Rattle.pdh_seconds.specs.declared.second.Second.{Second}
use Rattle.pdh_seconds.specs.Standing.{StandsFor as SecondsStandFor}
use Rattle.pdh_timeline.specs.Marks.{second_at, whole_seconds}
use Rattle.pdh_timeline.proofs.Standings.{shown_is, seconds_count, next_stands}
use Rattle.pdh_timeline.proofs.timeline.Timeline.next_second.Goals as goal

pub returns-clause-stands : goal.returns-clause-stands
returns-clause-stands c marks stands =
    let kept = c.args.self.now in
    let shown : c.shown-second.result ≡ second_at kept.block kept.rate kept.rate marks kept.second = c.shown-second.ensures ∙ shown_is kept marks kept.rate stands in
    let noted : SecondsStandFor c.note.new.self (whole_seconds kept.block kept.rate marks kept.second ++ second_at kept.block kept.rate kept.rate marks kept.second ∷ []) =
    subst (λ (second : Second). SecondsStandFor c.note.new.self (whole_seconds kept.block kept.rate marks kept.second ++ second ∷ [])) shown
    (c.note.ensures (whole_seconds kept.block kept.rate marks kept.second) stands.seconds_are (omega (arith, seconds_count kept.block kept.rate kept.second marks, c.requires))) in
    next_stands kept marks c.next-out.result c.next-ais.result c.next-alarm.result c.note.new.self (kept.second + 1) stands (omega arith) c.next-out.ensures c.next-ais.ensures c.next-alarm.ensures noted
