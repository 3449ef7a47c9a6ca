use Rattle.std.proofs.Common.{inl, inr, sym, ap, ◌∙◌, arith}
use Rattle.pdh_desync.specs.declared.leaves.Leaves.{Leaves}
use Rattle.pdh_desync.specs.Smooth.{smooth_meaning}
use Rattle.pdh_rx.specs.Node.{node_meaning}
use Rattle.pdh_desync.proofs.Quieting.{quiet_disjoint, quiet_placed, quiet_all}
use Rattle.pdh_desync.proofs.node.SmoothNode.open.Goals as goal

pub open-requires-2-clause-disjoint : goal.open-requires-2-clause-disjoint
open-requires-2-clause-disjoint g c = quiet_disjoint c.in_ok-mutes.field-0.items

pub open-requires-2-clause-paths : goal.open-requires-2-clause-paths
open-requires-2-clause-paths g c = quiet_placed c.args.path c.in_ok-mutes.field-0.items

pub open-requires-3 : goal.open-requires-3
open-requires-3 g c =
    let tribs = g.met.S.Shape.tribs_is in
    record {
      first_inside = omega (arith, c.requires.first, tribs);
      marks_inside = omega (arith, c.requires.marks, tribs);
      apart = elim c.requires.apart [
        | inl below ↦ inl (omega (arith, below, tribs))
        | inr above ↦ inr (omega (arith, above, tribs))
      ];
    }

pub returns-clause-meaning : goal.returns-clause-meaning
returns-clause-meaning g c =
    let s = g.S.Shape.shape in
    ap (λ p. smooth_meaning s p c.in_ok-far.far.stores.leaves.first c.in_ok-far.far.stores.leaves.marks) c.in_ok-far.ensures.path
    ∙ ap (λ (l : Leaves). smooth_meaning s c.args.path l.first l.marks) c.in_ok-far.ensures.leaves

pub returns-clause-stands : goal.returns-clause-stands
returns-clause-stands g c =
    let s = g.S.Shape.shape in
    let mutes = c.in_ok-mutes.field-0.items in
    record {
      far = c.in_ok-far.ensures.stands;
      noting = c.in_ok-events.ensures.stands;
      meaning_is = c.in_ok-events.ensures.meaning ∙ ap (node_meaning s c.args.path) (quiet_all s.tribs mutes (c.in_ok-mutes.ensures ∙ sym g.met.S.Shape.tribs_is)) ∙ ap (λ p. node_meaning s p _) (sym c.in_ok-far.ensures.path);
    }
