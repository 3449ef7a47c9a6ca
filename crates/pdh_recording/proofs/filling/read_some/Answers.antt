use Rattle.pdh_recording.proofs.Retrying.{kept_consumes}
use Rattle.pdh_recording.proofs.filling.read_some.Goals as goal

pub returns-in-Ok-clause-read : goal.returns-in-Ok-clause-read
returns-in-Ok-clause-read g c = kept_consumes _ _ _ _ c.loop-turn.invariant.kept c.in-Ok.ensures.bytes.0
