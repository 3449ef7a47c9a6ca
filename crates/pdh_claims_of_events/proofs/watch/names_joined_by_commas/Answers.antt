use Rattle.std.proofs.Common.{◌∙◌, ap}
use Rattle.std.specs.Fmt.{digits}
use Rattle.pdh_watch.specs.Monitors.{new_monitor, names_of, says}
use Rattle.pdh_watch.specs.Monitors.Form.{Counts}
use Rattle.pdh_claims_of_events.proofs.watch.names_joined_by_commas.Goals as goal

pub returns : goal.returns
unfolding digits names_of
returns c = c.line.ensures.text ∙ ap says c.new.ensures ∙ ap (λ n. says (new_monitor Counts (record { 0 = n }))) (c.union.ensures tt)
