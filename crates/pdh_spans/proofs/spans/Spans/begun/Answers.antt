use Rattle.pdh_spans.proofs.spans.Spans.begun.Goals as goal

pub returns : goal.returns
returns c turns stands = stands.begun_is
