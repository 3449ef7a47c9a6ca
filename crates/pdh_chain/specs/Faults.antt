-- The counts of a port's failed reads and failed writes after a call: the call of the port that ended it was counted once, and
-- nothing else was.
use Rattle.std.specs.Prelude.{ℕ, Result, Ok, Err}
use Rattle.pdh_edge.specs.Counts.{one_more}
use Rattle.pdh_tx.specs.Meaning.{faults_met}
use Rattle.pdh_chain.specs.declared.sending.SendStop.{SendStop}
use Rattle.pdh_chain.specs.declared.sending.SendStop.TheVariants.{Sender, TakeFailed, WriteFailed as SendFailed}
use Rattle.pdh_chain.specs.declared.stop.MuxStop.{MuxStop}
use Rattle.pdh_chain.specs.declared.stop.MuxStop.TheVariants.{ReadFailed as MuxReadFailed, WriteFailed as MuxWriteFailed}
use Rattle.pdh_chain.specs.declared.stop.DemuxStop.{DemuxStop}
use Rattle.pdh_chain.specs.declared.stop.DemuxStop.TheVariants.{ReadFailed, WriteFailed}

-- after frames were sent, by how that stopped
abbrev pub counted_at_send_stop : SendStop → ℕ × ℕ → ℕ × ℕ
counted_at_send_stop (Sender stop) faults = (faults_met stop faults.0, faults.1)
counted_at_send_stop TakeFailed faults = (one_more faults.0, faults.1)
counted_at_send_stop SendFailed faults = (faults.0, one_more faults.1)

-- after `mux`, by how it stopped
abbrev pub reads_at_mux_stop : MuxStop → ℕ → ℕ
reads_at_mux_stop MuxReadFailed faults = one_more faults
reads_at_mux_stop stop faults = faults

abbrev pub writes_at_mux_stop : MuxStop → ℕ → ℕ
writes_at_mux_stop MuxWriteFailed faults = one_more faults
writes_at_mux_stop stop faults = faults

abbrev pub mux_reads : {T : Type 0} → Result T MuxStop → ℕ → ℕ
mux_reads (Ok done) faults = faults
mux_reads (Err stop) faults = reads_at_mux_stop stop faults

abbrev pub mux_writes : {T : Type 0} → Result T MuxStop → ℕ → ℕ
mux_writes (Ok done) faults = faults
mux_writes (Err stop) faults = writes_at_mux_stop stop faults

-- after `demux`, by how it stopped
abbrev pub reads_at_demux_stop : DemuxStop → ℕ → ℕ
reads_at_demux_stop ReadFailed faults = one_more faults
reads_at_demux_stop stop faults = faults

abbrev pub writes_at_demux_stop : DemuxStop → ℕ → ℕ
writes_at_demux_stop WriteFailed faults = one_more faults
writes_at_demux_stop stop faults = faults

-- both counts
abbrev pub counted_at_demux_stop : DemuxStop → ℕ × ℕ → ℕ × ℕ
counted_at_demux_stop stop faults = (reads_at_demux_stop stop faults.0, writes_at_demux_stop stop faults.1)

abbrev pub demux_reads : {T : Type 0} → Result T DemuxStop → ℕ → ℕ
demux_reads (Ok done) faults = faults
demux_reads (Err stop) faults = reads_at_demux_stop stop faults

abbrev pub demux_writes : {T : Type 0} → Result T DemuxStop → ℕ → ℕ
demux_writes (Ok done) faults = faults
demux_writes (Err stop) faults = writes_at_demux_stop stop faults
