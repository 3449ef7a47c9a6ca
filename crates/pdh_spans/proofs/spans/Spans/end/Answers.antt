use Rattle.std.proofs.Common.{◌≡◌, ◌++◌, ◌∷◌, [], ap, sym, ◌∙◌, subst}
use Rattle.pdh_spans.specs.Times.{ended, times}
use Rattle.pdh_spans.specs.Times.Turn.{Ends}
use Rattle.pdh_spans.specs.Sums.{sum_of, Fits}
use Rattle.pdh_spans.proofs.Turning.{ended_push, begun_ends}
use Rattle.pdh_spans.proofs.spans.Spans.end.Goals as goal

pub returns : goal.returns
returns c turns stands fits =
    let all : ended (turns ++ Ends c.args.place ∷ []) ≡ times turns c.args.place = ended_push turns (Ends c.args.place) in
    record {
      begun_is = sym (begun_ends turns c.args.place);
      ended_are = c.sum-ended.ensures turns stands (subst Fits all fits) ∙ ap sum_of (sym all);
    }
