use Rattle.std.proofs.Common.{◌+◌, sym, subst, arith}
use Rattle.pdh_spans.specs.Times.{begun_after}
use Rattle.pdh_timeline.specs.declared.state.State.TheVariants.{Out, Ais, Alarm}
use Rattle.pdh_timeline.specs.Marks.{turns_of}
use Rattle.pdh_track.specs.declared.track.Track.{Track}
use Rattle.pdh_track.specs.Standing.{StandsFor as TrackStandsFor}
use Rattle.pdh_health.proofs.Coursing.{same_lanes, begun_before, all_open}
use Rattle.pdh_health.proofs.course.Course.close_all.Goals as goal

pub returns-clause-cells : goal.returns-clause-cells
returns-clause-cells c rate block marks codes place stands less =
    let bits = c.args.bits in
    let first = stands.track_stands in
    let second = subst (λ (t : Track). TrackStandsFor t marks) (sym c.close.ensures.track) first in
    let third = subst (λ (t : Track). TrackStandsFor t marks) (sym c.close-2.ensures.track) second in
    let out = c.close.ensures.cells marks _ (place + 1) bits first stands.cells_stand (omega (arith, less))
    (begun_before (begun_after (turns_of Out marks)) place bits less ((stands.times_lie Out).begun_is)) (omega arith) in
    let ais = c.close-2.ensures.cells marks _ bits bits second out (omega arith)
    (begun_before (begun_after (turns_of Ais marks)) place bits less ((stands.times_lie Ais).begun_is)) (omega arith) in
    let alarm = c.close-3.ensures.cells marks _ bits bits third ais (omega arith)
    (begun_before (begun_after (turns_of Alarm marks)) place bits less ((stands.times_lie Alarm).begun_is)) (omega arith) in
    same_lanes _ _ _ bits (all_open bits marks codes) alarm
