-- What calls for bits tell a log of slips, in step order. `logs` is what is told of the log's kind, `old` and `new` the log before
-- and after a call.
use Rattle.std.specs.Prelude.{◌≡◌, ℕ, ◌<◌, true, List, [], ◌++◌, length, Result, OnOk, IfErr}
use Rattle.pdh_edge.specs.Counts.{one_more}
use Rattle.pdh_slips.specs.declared.log.SlipLog as log
use Rattle.pdh_slips.specs.declared.slip.Slip.{Slip}
use Rattle.pdh_tx.specs.declared.tx.TxStop.{TxStop}
use Rattle.pdh_tx.specs.declared.tx.TxStop.TheVariants.{LogFailed}

-- a log's count of faults after a call that stopped so: one more where a slip couldn't be told, and else as it was
abbrev pub log_faults_met : TxStop → ℕ → ℕ
log_faults_met LogFailed faults = one_more faults
log_faults_met stop faults = faults

-- it takes slips, and of some slips, the last of which it couldn't be told, it was told of all others
pub record FailsAtLast {G : Type 0} (logs : log.Ghosts G) (old new : G) (slips : List Slip) : Type 0 where
  pub takes : logs.takes ≡ true
  pub some : 0 < length slips
  pub broken : logs.broken old slips new

-- it was told of these slips; where a call stopped since the last of them couldn't be told, but for that one
abbrev pub Told : {G : Type 0} → log.Ghosts G → G → G → TxStop → List Slip → Type 0
Told logs old new LogFailed slips = FailsAtLast logs old new slips
Told logs old new stop slips = logs.logged old slips new

-- a call that stopped told it of the first of these slips
pub record TellsFront {G : Type 0} (logs : log.Ghosts G) (old new : G) (slips : List Slip) (stop : TxStop) : Type 0 where
  pub told : List Slip
  pub rest : List Slip
  pub front : told ++ rest ≡ slips
  pub logs_them : Told logs old new stop told
  pub counted : logs.log_faults new ≡ log_faults_met stop (logs.log_faults old)

-- a call that met nothing told it of all of them
pub record TellsAll {G : Type 0} (logs : log.Ghosts G) (old new : G) (slips : List Slip) : Type 0 where
  pub logs_them : logs.logged old slips new
  pub unfailed : logs.log_faults new ≡ logs.log_faults old

-- a call that brought no slip told it of none
abbrev pub TellsNone : {G : Type 0} → log.Ghosts G → G → G → Type 0
TellsNone logs old new = TellsAll logs old new []

-- what a call that comes by these slips told it
pub record Tells {G T : Type 0} (logs : log.Ghosts G) (old new : G) (slips : List Slip) (result : Result T TxStop) : Type 0 where
  pub all : OnOk result (TellsAll logs old new slips)
  pub front : IfErr result (TellsFront logs old new slips)
