use Rattle.std.proofs.Common.{sym, subst}
use Rattle.pdh_cbit.specs.Channel.{Receiving, HasReceived}
use Rattle.pdh_cbit.proofs.Received.{HasReceived-push}
use Rattle.pdh_cbit.proofs.Answered.{answer_is}
use Rattle.pdh_cbit.proofs.feac.FeacReceiver.push.Goals as goal

pub returns-clause-received : goal.returns-clause-received
returns-clause-received c bits received =
    HasReceived-push _ _ _ c.oldest.result c.args.bit bits c.oldest.ensures c.register_with-self-inside.ensures c.repeated_with-self-inside.ensures (subst (λ (r : Receiving). HasReceived r bits) (sym c.self.view_is) received)

pub returns-clause-answer : goal.returns-clause-answer
returns-clause-answer c bits received =
    answer_is _ _ _ (returns-clause-received c bits received) c.told_code.ensures
