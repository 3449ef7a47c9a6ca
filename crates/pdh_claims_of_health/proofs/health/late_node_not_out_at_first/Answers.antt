use Rattle.std.proofs.Common.{ap}
use Rattle.std.proofs.lemmas.Result.{IfOk-weaker}
use Rattle.pdh_spans.specs.declared.span_sum.SpanSum.{SpanSum}
use Rattle.pdh_claims_of_health.proofs.health.late_node_not_out_at_first.Goals as goal

pub returns : goal.returns
returns c = IfOk-weaker c.found_after.result _ _ (λ node is. ap (λ (s : SpanSum). s.bits) is.course_is.out_is) c.found_after.ensures
