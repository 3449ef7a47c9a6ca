use Rattle.std.proofs.Common.{refl}
use Rattle.pdh_rx.proofs.Gains.{gains_nothing}
use Rattle.pdh_desync.proofs.mute.MuteRx.push.Goals as goal

pub returns-clause-put : goal.returns-clause-put
returns-clause-put g c = λ line told. gains_nothing _ _ (g.D.Drain.outputs c.args._drain.now) (λ k. refl)
