use Rattle.std.proofs.Common.{refl}
use Rattle.pdh_spans.proofs.spans.Spans.new.Goals as goal

pub returns : goal.returns
returns c = record { begun_is = refl; ended_are = c.none-ended.ensures }
