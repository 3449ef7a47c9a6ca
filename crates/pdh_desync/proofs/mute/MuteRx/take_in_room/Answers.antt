use Rattle.std.proofs.Common.{refl}
use Rattle.pdh_rx.proofs.Gains.{gains_nothing}
use Rattle.pdh_desync.proofs.Quieting.{mute_quiet}
use Rattle.pdh_desync.proofs.mute.MuteRx.take_in_room.Goals as goal

pub returns-clause-taken : goal.returns-clause-taken
returns-clause-taken g c = record {
  stands = λ line was. was;
  gains = λ line was. gains_nothing _ _ (g.D.Drain.outputs c.args._drain.now) (λ k. refl);
}

pub returns-clause-quiet : goal.returns-clause-quiet
returns-clause-quiet g c line was = mute_quiet line _
