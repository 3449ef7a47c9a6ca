use Rattle.std.proofs.Common.{ap, sym, ◌∙◌}
use Rattle.pdh_spans.specs.Times.{begun_with}
use Rattle.pdh_spans.specs.Times.Turn.{Begins}
use Rattle.pdh_spans.specs.Sums.{sum_of}
use Rattle.pdh_spans.proofs.Turning.{begun_push, ended_begins}
use Rattle.pdh_spans.proofs.spans.Spans.begin.Goals as goal

pub returns : goal.returns
returns c turns stands = record {
  begun_is = c.begun_at-begun.ensures ∙ ap (λ b. begun_with b (Begins c.args.place)) stands.begun_is ∙ sym (begun_push turns (Begins c.args.place));
  ended_are = stands.ended_are ∙ ap sum_of (sym (ended_begins turns c.args.place));
}
