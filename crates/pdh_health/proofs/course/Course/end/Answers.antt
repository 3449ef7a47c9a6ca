use Rattle.std.proofs.Common.{◌≡◌, ◌+◌, ◌/◌, ◌≤◌, ◌∷◌, [], ◌++◌, sym, ap, ◌∙◌, subst, arith, refl, length}
use Rattle.std.proofs.lemmas.List.{length_push}
use Rattle.pdh_spans.specs.Times.{begun_after}
use Rattle.pdh_spans.specs.Times.Turn.{Ends}
use Rattle.pdh_timeline.specs.Marks.{is_errored, is_far, turns_of}
use Rattle.pdh_timeline.specs.Marks.Mark.{Turns}
use Rattle.pdh_track.specs.declared.track.Track.{Track}
use Rattle.pdh_track.specs.Standing.{rate_of, block_of, second_of, StandsFor as TrackStandsFor}
use Rattle.pdh_cells.specs.Standing.{StandsFor as CellsStandFor}
use Rattle.pdh_health.specs.Courses.{lanes_so_far}
use Rattle.pdh_health.proofs.Marked.{ends_are_shown, errors_same}
use Rattle.pdh_health.proofs.Lying.{marks_end}
use Rattle.pdh_health.proofs.Fitting.{ended_fit}
use Rattle.pdh_health.proofs.Coursing.{not_behind, reaches, begun_before}
use Rattle.pdh_health.proofs.course.Course.end.Goals as goal

pub returns : goal.returns
returns c rate block marks codes before stands le few =
    let old = c.args.self.now in
    let kept = c.close.new.self in
    let place = c.args.place in
    let state = c.args.state in
    let mark = Turns state (Ends place) in
    let same : kept.track ≡ old.track = c.close.ensures.track in
    let order = subst (λ (t : Track). second_of t ≤ place / rate_of t) (sym same) (not_behind old rate block marks codes before place stands le) in
    let begun = begun_before (begun_after (turns_of state marks)) before (place + 1) (omega (arith, le)) ((stands.times_lie state).begun_is) in
    let cells = c.close.ensures.cells marks (lanes_so_far marks codes) (before + 1) (place + 1) stands.track_stands stands.cells_stand (omega (arith, le)) begun (omega arith) in
    let lie = marks_end before place marks state le stands.times_lie in
    let count : length (marks ++ mark ∷ []) ≡ length marks + 1 = length_push marks mark in
    record {
      track_stands = c.end.ensures.stands marks (subst (λ (t : Track). TrackStandsFor t marks) (sym same) stands.track_stands) order
          (ended_fit (marks ++ mark ∷ []) place (omega (arith, c.ranges.place)) (omega (arith, count, few)) lie);
      rate_is = c.end.ensures.rate ∙ ap rate_of same ∙ stands.rate_is;
      block_is = c.end.ensures.block ∙ ap block_of same ∙ stands.block_is;
      reached = reaches _ _ rate place kept.some (c.end.ensures.second order) (ap rate_of same ∙ stands.rate_is);
      cells_stand = subst (λ lanes. CellsStandFor kept.cells lanes (place + 1)) (sym (ends_are_shown state place marks codes (begun_after (turns_of state marks)) refl)) cells;
      near_are = c.close.ensures.near ∙ stands.near_are ∙ sym (errors_same is_errored marks mark refl);
      far_are = c.close.ensures.far ∙ stands.far_are ∙ sym (errors_same is_far marks mark refl);
      times_lie = lie;
    }
