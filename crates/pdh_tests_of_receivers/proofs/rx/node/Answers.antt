use Rattle.std.proofs.Common.{length, ap, sym, ◌∙◌}
use Rattle.std.proofs.lemmas.List.{length-map}
use Rattle.pdh_tests_of_receivers.proofs.rx.node.Goals as goal

pub open-requires-2-clause-count : goal.open-requires-2-clause-count
open-requires-2-clause-count c = sym (length-map c.in_ok-tails.field-0.items _) ∙ ap length c.in_ok-tails.ensures
