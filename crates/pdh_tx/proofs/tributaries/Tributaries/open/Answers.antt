use Rattle.std.proofs.Common.{length, map, sym, ap, ◌∙◌, subst, arith}
use Rattle.std.proofs.lemmas.Bool.{ne_eqb}
use Rattle.std.proofs.lemmas.List.{length-map}
use Rattle.pdh_tx.specs.Tributary.{child_in}
use Rattle.pdh_tx.specs.Node.{IsDisjoint}
use Rattle.pdh_tx.proofs.FrameStarts.{meanings}
use Rattle.pdh_tx.proofs.tributaries.Tributaries.open.Goals as goal

pub invariant_of-result : goal.invariant_of-result
invariant_of-result g c =
    let ws = c.in_ok-list.list.items in
    let children = c.in_ok-list.ensures.children in
    record {
      count = sym (length-map ws (child_in {C = g.row.C.Denot})) ∙ ap length children ∙ c.requires.count;
      stores = ne_eqb g.S.Shape.shape.copies 0 (λ z. absurd (omega (arith, z, c.requires.stores, g.met.S.Shape.copies_is)));
      disjoint = subst IsDisjoint (sym (meanings g.C.Tx ws ∙ ap (map g.C.Tx.meaning) children)) c.requires.disjoint;
      room = c.in_ok-scratch.ensures;
      queue_count = c.in_ok-queues.ensures.count;
      queue_room = c.in_ok-queues.ensures.room;
    }
