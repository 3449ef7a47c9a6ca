use Rattle.std.proofs.Common.{◌+◌, sym, ◌∙◌, subst, arith, refl}
use Rattle.pdh_spans.specs.Times.Turn.{Begins}
use Rattle.pdh_timeline.specs.Marks.{is_errored, is_far}
use Rattle.pdh_timeline.specs.Marks.Mark.{Turns}
use Rattle.pdh_cells.specs.Standing.{StandsFor as CellsStandFor}
use Rattle.pdh_cells.proofs.Keeping.{raised}
use Rattle.pdh_health.proofs.Marked.{begins_shown, errors_same}
use Rattle.pdh_health.proofs.Lying.{marks_begin}
use Rattle.pdh_health.proofs.Coursing.{not_behind, reaches}
use Rattle.pdh_health.proofs.course.Course.begin.Goals as goal

pub returns : goal.returns
returns c rate block marks codes before stands le few =
    let old = c.args.self.now in
    let place = c.args.place in
    let mark = Turns c.args.state (Begins place) in
    let order = not_behind old rate block marks codes before place stands le in
    record {
      track_stands = c.begin.ensures.stands marks stands.track_stands order;
      rate_is = c.begin.ensures.rate ∙ stands.rate_is;
      block_is = c.begin.ensures.block ∙ stands.block_is;
      reached = reaches _ _ rate place old.some (c.begin.ensures.second order) stands.rate_is;
      cells_stand = subst (λ lanes. CellsStandFor old.cells lanes (place + 1)) (sym (begins_shown c.args.state place marks codes)) (raised _ _ (before + 1) (place + 1) (omega (arith, le)) stands.cells_stand);
      near_are = stands.near_are ∙ sym (errors_same is_errored marks mark refl);
      far_are = stands.far_are ∙ sym (errors_same is_far marks mark refl);
      times_lie = marks_begin before place marks c.args.state le stands.times_lie;
    }
