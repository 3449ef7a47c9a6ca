-- The state in which `mux` leaves its port, and the port's counts of faults, by how what it calls stopped.
use Rattle.std.proofs.Common.{◌≡◌, ℕ, ◌∙◌, ap, Result, Err}
use Rattle.pdh_edge.specs.Counts.{one_more}
use Rattle.pdh_tx.specs.declared.tx.TxStop.{TxStop}
use Rattle.pdh_tx.specs.declared.tx.TxStop.TheVariants.{Overflow, Underflow, NoFrame, Failed, Ended, LogFailed}
use Rattle.pdh_tx.specs.Meaning.{faults_met}
use Rattle.pdh_chain.specs.Muxes.{IsLeftReady, mux_stop}
use Rattle.pdh_chain.specs.Faults.{reads_at_mux_stop, writes_at_mux_stop}
use Rattle.pdh_chain.specs.declared.stop.MuxStop.{MuxStop}
use Rattle.pdh_chain.specs.declared.stop.MuxStop.TheVariants.{Memory}

pub left_by_sender : (fresh ready refused : Type 0) (stop : TxStop) → ready → IsLeftReady fresh ready refused (Err (mux_stop stop))
left_by_sender fresh ready refused (Overflow place) here = here
left_by_sender fresh ready refused (Underflow place) here = here
left_by_sender fresh ready refused (NoFrame node) here = here
left_by_sender fresh ready refused Failed here = here
left_by_sender fresh ready refused (Ended leaf) here = here
left_by_sender fresh ready refused LogFailed here = here

pub reads_by_sender : (stop : TxStop) (a b c : ℕ) → c ≡ faults_met stop b → b ≡ a → c ≡ reads_at_mux_stop (mux_stop stop) a
reads_by_sender (Overflow place) a b c counted same = counted ∙ same
reads_by_sender (Underflow place) a b c counted same = counted ∙ same
reads_by_sender (NoFrame node) a b c counted same = counted ∙ same
reads_by_sender Failed a b c counted same = counted ∙ ap one_more same
reads_by_sender (Ended leaf) a b c counted same = counted ∙ same
reads_by_sender LogFailed a b c counted same = counted ∙ same

pub writes_by_sender : (stop : TxStop) (a c : ℕ) → c ≡ a → c ≡ writes_at_mux_stop (mux_stop stop) a
writes_by_sender (Overflow place) a c same = same
writes_by_sender (Underflow place) a c same = same
writes_by_sender (NoFrame node) a c same = same
writes_by_sender Failed a c same = same
writes_by_sender (Ended leaf) a c same = same
writes_by_sender LogFailed a c same = same

pub never_memory : (stop : TxStop) → mux_stop stop ≡ Memory → ⊥
never_memory (Overflow place) is = cc
never_memory (Underflow place) is = cc
never_memory (NoFrame node) is = cc
never_memory Failed is = cc
never_memory (Ended leaf) is = cc
never_memory LogFailed is = cc

-- the same failure is the same stop
pub same_err : {x y : MuxStop} → ◌≡◌ {A = Result (Unit {0}) MuxStop} (Err x) (Err y) → x ≡ y
same_err is = cc
