use Rattle.std.proofs.Common.{ap, ◌∙◌, refl, arith, below_more}
use Rattle.pdh_edge.specs.Ports.{Outputs}
use Rattle.pdh_lab.proofs.receiving.make_room.Goals as goal

pub loop-leaf-init : goal.loop-leaf-init
loop-leaf-init c = record { inputs = refl; outputs = refl; faults = refl; room = λ k less. absurd (omega arith); fresh = λ f. f }

pub room-requires : goal.room-requires
room-requires c = record { held = ap (λ (o : Outputs). o.holds c.loop-leaf.leaf) c.loop-leaf.invariant.outputs ∙ c.requires.held c.loop-leaf.leaf (omega arith) }

pub loop-leaf-preserved : goal.loop-leaf-preserved
loop-leaf-preserved c =
    let inv = c.loop-leaf.invariant in
    let step = c.room.ensures in
    record {
      inputs = step.inputs ∙ inv.inputs;
      outputs = step.outputs ∙ inv.outputs;
      faults = step.drain_faults ∙ inv.faults;
      room = below_more _ _ (λ k less. let was = inv.room k less in let grows = step.rooms k in omega arith) (let here = c.in_ok-room.ensures.room in omega arith);
      fresh = λ f. step.fresh (inv.fresh f);
    }
