use Rattle.std.proofs.Common.{sym, ap, ◌∙◌}
use Rattle.pdh_spans.specs.Times.{begun_after}
use Rattle.pdh_timeline.specs.declared.state.State.{State}
use Rattle.pdh_timeline.specs.declared.state.State.TheVariants.{Out, Ais, Alarm}
use Rattle.pdh_timeline.specs.Marks.{turns_of}
use Rattle.pdh_track.proofs.track.Track.begun.Goals as goal

pub returns-in-Out : goal.returns-in-Out
returns-in-Out c marks stands =
    c.begun.ensures (turns_of Out marks) stands.out_is ∙ ap (λ (state : State). begun_after (turns_of state marks)) (sym c.in-Out.is)

pub returns-in-Ais : goal.returns-in-Ais
returns-in-Ais c marks stands =
    c.begun-in-Ais.ensures (turns_of Ais marks) stands.ais_is ∙ ap (λ (state : State). begun_after (turns_of state marks)) (sym c.in-Ais.is)

pub returns-in-Alarm : goal.returns-in-Alarm
returns-in-Alarm c marks stands =
    c.begun-in-Alarm.ensures (turns_of Alarm marks) stands.alarm_is ∙ ap (λ (state : State). begun_after (turns_of state marks)) (sym c.in-Alarm.is)
