use Rattle.std.proofs.Common.{refl}
use Rattle.pdh_timeline.specs.declared.state.State.TheVariants.{Out, Ais, Alarm}
use Rattle.pdh_timeline.specs.Marks.Mark.{Far}
use Rattle.pdh_track.proofs.Pushing.{spans_same}
use Rattle.pdh_track.proofs.track.Track.told.Goals as goal

pub returns-clause-stands : goal.returns-clause-stands
returns-clause-stands c marks stands order =
    let mark = Far c.args.place in
    let track = c.args.self.now in
    record {
      out_is = spans_same Out track.out marks mark refl stands.out_is;
      ais_is = spans_same Ais track.ais marks mark refl stands.ais_is;
      alarm_is = spans_same Alarm track.alarm marks mark refl stands.alarm_is;
      timeline_is = c.told.ensures.stands marks stands.timeline_is order;
    }
