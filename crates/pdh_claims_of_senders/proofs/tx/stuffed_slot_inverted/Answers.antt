use Rattle.std.proofs.Common.{ap, ◌∙◌}
use Rattle.pdh_tx.specs.Node.{overhead_bit}
use Rattle.pdh_claims_of_senders.proofs.tx.stuffed_slot_inverted.Goals as goal

pub returns : goal.returns
returns g c j is =
    c.overhead_of.ensures ∙ ap (overhead_bit g.S.Shape.shape c.args.say.now c.args.odd (g.D.Decisions.shares c.args.decisions.now)) (c.role.ensures ∙ is)
