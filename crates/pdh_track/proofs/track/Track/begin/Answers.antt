use Rattle.std.proofs.Common.{◌∷◌, [], Bool, List, ap, if◌then◌else◌}
use Rattle.pdh_spans.specs.Times.{Turn}
use Rattle.pdh_spans.specs.Times.Turn.{Begins}
use Rattle.pdh_timeline.specs.declared.state.State.TheVariants.{Out, Ais, Alarm}
use Rattle.pdh_timeline.specs.Marks.{turns_of}
use Rattle.pdh_timeline.specs.Marks.Mark.{Turns}
use Rattle.pdh_track.proofs.Pushing.{spans_push}
use Rattle.pdh_track.proofs.track.Track.begin.Goals as goal

pub returns-clause-stands : goal.returns-clause-stands
returns-clause-stands c marks stands order =
    let mark = Turns c.args.state (Begins c.args.place) in
    let own : Bool → List Turn = λ b. if b then Begins c.args.place ∷ [] else [] in
    record {
      out_is = spans_push Out c.with_begin-out.result marks mark (own c.is.result) (ap own c.is.ensures) (c.with_begin-out.ensures (turns_of Out marks) stands.out_is);
      ais_is = spans_push Ais c.with_begin-ais.result marks mark (own c.is-2.result) (ap own c.is-2.ensures) (c.with_begin-ais.ensures (turns_of Ais marks) stands.ais_is);
      alarm_is = spans_push Alarm c.with_begin-alarm.result marks mark (own c.is-3.result) (ap own c.is-3.ensures) (c.with_begin-alarm.ensures (turns_of Alarm marks) stands.alarm_is);
      timeline_is = c.begin.ensures.stands marks stands.timeline_is order;
    }
