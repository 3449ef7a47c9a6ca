use Rattle.std.proofs.Common.{◌∙◌, ap, length}
use Rattle.std.specs.Fmt.{digits}
use Rattle.pdh_watch.specs.Monitors.{says}
use Rattle.pdh_claims_of_events.proofs.watch.line_of_161_bytes.Goals as goal

pub returns-clause-len : goal.returns-clause-len
unfolding digits
returns-clause-len c = c.line.ensures.len ∙ ap (λ s. length (says s)) c.new.ensures

pub returns-clause-text : goal.returns-clause-text
unfolding digits
returns-clause-text c = c.line.ensures.text ∙ ap says c.new.ensures
