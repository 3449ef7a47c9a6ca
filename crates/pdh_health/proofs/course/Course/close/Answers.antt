use Rattle.std.proofs.Common.{◌≡◌, ◌<◌, ℕ, Option, Some, None, sym, ◌∙◌, subst}
use Rattle.pdh_spans.specs.Times.{begun_after}
use Rattle.pdh_timeline.specs.Marks.{turns_of}
use Rattle.pdh_cells.specs.Standing.{StandsFor as CellsStandFor}
use Rattle.pdh_cells.proofs.Keeping.{raised}
use Rattle.pdh_health.specs.Courses.{begun_or, with_open}
use Rattle.pdh_health.proofs.Coursing.{open_lies}
use Rattle.pdh_health.proofs.course.Course.close.Goals as goal

pub returns-in-Some-clause-cells : goal.returns-in-Some-clause-cells
returns-in-Some-clause-cells c marks lanes end now track cells le before within =
    let from = c.in-Some.from in
    let begun : Some from ≡ begun_after (turns_of c.args.state marks) = sym c.in-Some.is ∙ c.begun.ensures marks track in
    let earlier : from < now = subst (λ (b : Option ℕ). begun_or 0 b < now) (sym begun) before in
    subst (λ (b : Option ℕ). CellsStandFor c.stood.new.self (with_open c.args.state b c.args.place lanes) now) begun
    (c.stood.ensures lanes end now cells le (open_lies from c.args.place now earlier within))

pub returns-in-None-clause-cells : goal.returns-in-None-clause-cells
returns-in-None-clause-cells c marks lanes end now track cells le before within =
    let begun : None ≡ begun_after (turns_of c.args.state marks) = sym c.in-None.is ∙ c.begun.ensures marks track in
    subst (λ (b : Option ℕ). CellsStandFor c.args.self.now.cells (with_open c.args.state b c.args.place lanes) now) begun (raised _ lanes end now le cells)
