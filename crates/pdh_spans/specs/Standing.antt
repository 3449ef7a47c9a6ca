-- What is kept of a state's turns.
use Rattle.std.specs.Prelude.{◌≡◌, List}
use Rattle.pdh_spans.specs.declared.spans.Spans.{Spans}
use Rattle.pdh_spans.specs.Times.{Turn, ended, begun_after}
use Rattle.pdh_spans.specs.Sums.{sum_of}

-- what is kept stands for the turns that came
pub record StandsFor (kept : Spans) (turns : List Turn) : Type 0 where
  pub begun_is : kept.begun ≡ begun_after turns
  pub ended_are : kept.ended ≡ sum_of (ended turns)
