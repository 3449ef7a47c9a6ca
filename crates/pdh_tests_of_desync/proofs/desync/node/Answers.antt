use Rattle.std.proofs.Common.{length, ap, sym, subst, ◌∙◌}
use Rattle.std.proofs.lemmas.List.{length-map}
use Rattle.pdh_rx.specs.Node.{IsDisjoint, ArePlaced}
use Rattle.pdh_tests_of_desync.proofs.FourSmooth.{four_disjoint, four_placed}
use Rattle.pdh_tests_of_desync.proofs.desync.node.Goals as goal

pub open-requires-2-clause-count : goal.open-requires-2-clause-count
open-requires-2-clause-count c = sym (length-map c.in_ok-children.field-0.items _) ∙ ap length c.in_ok-children.ensures.meaning

pub open-requires-2-clause-disjoint : goal.open-requires-2-clause-disjoint
open-requires-2-clause-disjoint c = subst IsDisjoint (sym c.in_ok-children.ensures.meaning) four_disjoint

pub open-requires-2-clause-paths : goal.open-requires-2-clause-paths
open-requires-2-clause-paths c = subst (ArePlaced (record { depth = 0; first = 0; second = 0 })) (sym c.in_ok-children.ensures.meaning) four_placed
