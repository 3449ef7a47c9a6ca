use Rattle.std.proofs.Common.{◌≡◌, true, false, List, sym, ap, ◌∙◌, subst}
use Rattle.pdh_placed.specs.declared.placed.Placed.{Placed}
use Rattle.pdh_health.specs.declared.plan.NodePlan.{NodePlan}
use Rattle.pdh_health.specs.Nodes.{StandsFor}
use Rattle.pdh_health.specs.Lines.{is_path, own_events}
use Rattle.pdh_health.proofs.Pushing.{own_other, own_more, own_before, own_fewer}
use Rattle.pdh_health.proofs.node.Node.note_own.Goals as goal

pub returns-then-not-is_same : goal.returns-then-not-is_same
returns-then-not-is_same c rate plan events stands order =
    let placed = c.args.placed.now in
    let other : is_path plan.path placed.event.path ≡ false = sym (ap (λ (p : NodePlan). is_path p.path placed.event.path) stands.plan_is) ∙ sym c.is_same.ensures ∙ c.if-not-is_same.true in
    subst (λ (l : List Placed). StandsFor c.args.self.now rate plan l) (sym (own_other plan events placed other)) stands

pub returns : goal.returns
returns c rate plan events stands order =
    let placed = c.args.placed.now in
    let own : is_path plan.path placed.event.path ≡ true = sym (ap (λ (p : NodePlan). is_path p.path placed.event.path) stands.plan_is) ∙ sym c.is_same.ensures ∙ c.if-not-is_same.false in
    subst (λ (l : List Placed). StandsFor c.note.new.self rate plan l) (sym (own_more plan events placed own))
    (c.note.ensures rate plan (own_events plan events) stands (own_before plan events placed order) (own_fewer plan events placed order))
