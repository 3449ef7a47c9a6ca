use Rattle.std.proofs.Common.{true, false, Option, Some, None, List, take, sym, ap, ◌∙◌}
use Rattle.std.specs.Prelude.{if◌then◌else◌}
use Rattle.std.specs.Option.{option_or}
use Rattle.pdh_event_counts.specs.Counting.{counts_of}
use Rattle.pdh_cells.specs.declared.cell.Code.{Code}
use Rattle.pdh_placed.specs.declared.placed.Placed.{Placed}
use Rattle.pdh_health.specs.Marking.{marks_of, codes_of}
use Rattle.pdh_health.specs.Nodes.{kinds_of, last_place, is_alignment}
use Rattle.pdh_health.proofs.Pushing.{kinds_push, alignment_push, codes_push, course_pushed, marks_few}
use Rattle.pdh_health.proofs.node.Node.note.Goals as goal

pub returns : goal.returns
returns c rate plan events stands le few =
    let placed = c.args.placed.now in
    record {
      plan_is = stands.plan_is;
      counts_are = c.plus-counts.ensures (kinds_of events) stands.counts_are ∙ ap counts_of (sym (kinds_push events placed));
      first_is = c.first_with-first.ensures ∙ ap (λ (o : Option Placed). option_or o (if is_alignment placed then Some placed else None)) stands.first_is ∙ sym (alignment_push events placed);
      codes_are = c.codes_after-codes.ensures (codes_of events) stands.codes_are ∙ ap (λ (l : List Code). take 3 l) (sym (codes_push events placed));
      early_stands = course_pushed _ rate plan.block false events placed (c.note.ensures rate plan.block (marks_of false events) (codes_of events) (last_place events) stands.early_stands le (marks_few false events few));
      late_stands = course_pushed _ rate plan.block true events placed (c.note-2.ensures rate plan.block (marks_of true events) (codes_of events) (last_place events) stands.late_stands le (marks_few true events few));
    }
