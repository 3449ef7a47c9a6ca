use Rattle.std.proofs.Common.{ap, ◌∙◌}
use Rattle.pdh_shape.specs.Payload.{is_payload}
use Rattle.pdh_tx.specs.Node.{overhead_bit}
use Rattle.pdh_claims_of_senders.proofs.tx.role_of_the_neighbouring_slot.Goals as goal

pub returns : goal.returns
returns g c v signal within is =
    c.write_overhead.ensures.bits v within (ap is_payload is) ∙ ap (overhead_bit g.S.Shape.shape c.args.say.now c.args.odd (g.D.Decisions.shares c.args.decisions.now)) is
