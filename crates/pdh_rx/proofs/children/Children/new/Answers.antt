use Rattle.std.proofs.Common.{◌∙◌}
use Rattle.std.proofs.lemmas.List.{length-map}
use Rattle.pdh_rx.proofs.children.Children.new.Goals as goal

pub invariant_of-result : goal.invariant_of-result
invariant_of-result g c = record { count = length-map c.args.list.items g.C.Rx.meaning ∙ c.requires.count; disjoint = c.requires.disjoint }
