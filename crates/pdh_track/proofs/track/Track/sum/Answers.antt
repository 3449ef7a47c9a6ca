use Rattle.std.proofs.Common.{sym, ap, ◌∙◌, subst}
use Rattle.pdh_spans.specs.Times.{times}
use Rattle.pdh_spans.specs.Sums.{Fits, sum_of}
use Rattle.pdh_timeline.specs.declared.state.State.{State}
use Rattle.pdh_timeline.specs.declared.state.State.TheVariants.{Out, Ais, Alarm}
use Rattle.pdh_timeline.specs.Marks.{turns_of}
use Rattle.pdh_track.proofs.track.Track.sum.Goals as goal

pub returns-in-Out : goal.returns-in-Out
returns-in-Out c marks stands fits =
    c.sum.ensures (turns_of Out marks) stands.out_is (subst (λ (state : State). Fits (times (turns_of state marks) c.args.bits)) c.in-Out.is fits)
    ∙ ap (λ (state : State). sum_of (times (turns_of state marks) c.args.bits)) (sym c.in-Out.is)

pub returns-in-Ais : goal.returns-in-Ais
returns-in-Ais c marks stands fits =
    c.sum-in-Ais.ensures (turns_of Ais marks) stands.ais_is (subst (λ (state : State). Fits (times (turns_of state marks) c.args.bits)) c.in-Ais.is fits)
    ∙ ap (λ (state : State). sum_of (times (turns_of state marks) c.args.bits)) (sym c.in-Ais.is)

pub returns-in-Alarm : goal.returns-in-Alarm
returns-in-Alarm c marks stands fits =
    c.sum-in-Alarm.ensures (turns_of Alarm marks) stands.alarm_is (subst (λ (state : State). Fits (times (turns_of state marks) c.args.bits)) c.in-Alarm.is fits)
    ∙ ap (λ (state : State). sum_of (times (turns_of state marks) c.args.bits)) (sym c.in-Alarm.is)
