use Rattle.pdh_recovery.proofs.RecoverLaws.{rejoins_line}
use Rattle.pdh_recovery.proofs.laws.rejoined_front_is_rejoined_line.Goals as goal

pub returns : goal.returns
returns c = record { line = λ received sent bits e u same. rejoins_line received sent bits e u same }
