use Rattle.std.proofs.Common.{◌≡◌, ◌+◌, length, sym, ap, ◌∙◌, arith, slice_get}
use Rattle.std.proofs.lemmas.List.{length-drop}
use Rattle.pdh_tx.proofs.Lists.{get_at}
use Rattle.pdh_tx.proofs.Moving.{inside}
use Rattle.pdh_claims_of_senders.proofs.tx.left_over_queue_not_put_back.Goals as goal

pub returns : goal.returns
returns g c j w queue here there =
    let old = c.args.ts.now in
    let new = c.scatter_all.new.self in
    let back = c.scatter_all.ensures in
    let one = get_at old.list.items j (omega (arith, inside new.list.items j w here, new.count, old.count)) in
    omega (arith, ap length (back.store j w queue here there), length-drop queue.gone queue.bits.bits, (c.requires.left j one.0 queue one.1 (ap (λ queues. slice_get queues.items j) (sym back.queues) ∙ there)).all)
