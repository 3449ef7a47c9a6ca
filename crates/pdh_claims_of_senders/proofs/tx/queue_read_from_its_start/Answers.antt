use Rattle.std.proofs.Common.{ap, ◌∙◌}
use Rattle.std.proofs.lemmas.List.{get_or-drop}
use Rattle.pdh_shape.specs.Tributary.{turned}
use Rattle.pdh_claims_of_senders.proofs.tx.queue_read_from_its_start.Goals as goal

pub returns : goal.returns
returns g c v i within reads number =
    c.pass.ensures.fills.carried v i within reads number ∙ ap (turned (g.S.Shape.shape.inverted c.args.trib)) (get_or-drop c.args.queue.now.gone c.args.queue.now.bits.bits i _)
