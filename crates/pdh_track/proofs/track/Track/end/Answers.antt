use Rattle.std.proofs.Common.{◌∷◌, [], Bool, List, ap, if◌then◌else◌}
use Rattle.pdh_spans.specs.Times.{Turn}
use Rattle.pdh_spans.specs.Times.Turn.{Ends}
use Rattle.pdh_timeline.specs.declared.state.State.TheVariants.{Out, Ais, Alarm}
use Rattle.pdh_timeline.specs.Marks.{turns_of}
use Rattle.pdh_timeline.specs.Marks.Mark.{Turns}
use Rattle.pdh_track.proofs.Pushing.{spans_push, fits_push}
use Rattle.pdh_track.proofs.track.Track.end.Goals as goal

pub returns-clause-stands : goal.returns-clause-stands
returns-clause-stands c marks stands order fit =
    let mark = Turns c.args.state (Ends c.args.place) in
    let own : Bool → List Turn = λ b. if b then Ends c.args.place ∷ [] else [] in
    record {
      out_is = spans_push Out c.with_end-out.result marks mark (own c.is.result) (ap own c.is.ensures)
          (c.with_end-out.ensures (turns_of Out marks) stands.out_is (fits_push Out marks mark (own c.is.result) (ap own c.is.ensures) (fit Out)));
      ais_is = spans_push Ais c.with_end-ais.result marks mark (own c.is-2.result) (ap own c.is-2.ensures)
          (c.with_end-ais.ensures (turns_of Ais marks) stands.ais_is (fits_push Ais marks mark (own c.is-2.result) (ap own c.is-2.ensures) (fit Ais)));
      alarm_is = spans_push Alarm c.with_end-alarm.result marks mark (own c.is-3.result) (ap own c.is-3.ensures)
          (c.with_end-alarm.ensures (turns_of Alarm marks) stands.alarm_is (fits_push Alarm marks mark (own c.is-3.result) (ap own c.is-3.ensures) (fit Alarm)));
      timeline_is = c.end.ensures.stands marks stands.timeline_is order;
    }
