-- The number and the lengths of times.
use Rattle.std.specs.Prelude.{ℕ, ◌-◌, ◌<◌, ◌^◌, max, List, length, sum_by, fold}
use Rattle.pdh_spans.specs.declared.span_sum.SpanSum.{SpanSum}
use Rattle.pdh_spans.specs.Times.{Span}

abbrev pub span_length : Span → ℕ
span_length span = span.to - span.from

-- how many they are, how long in all, and the longest of them
abbrev pub sum_of : List Span → SpanSum
sum_of spans = record {
  count = length spans;
  bits = sum_by span_length spans;
  longest = fold (λ longest span. max longest (span_length span)) 0 spans;
}

-- the sums fit
pub record Fits (spans : List Span) : Type 0 where
  pub count : length spans < 2 ^ 64
  pub bits : sum_by span_length spans < 2 ^ 64
