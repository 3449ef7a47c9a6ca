-- What a chain tells a log of slips, in the order of the steps. `logs` is what is told of the log's kind, `old` and `new` the log
-- before and after a call.
use Rattle.std.specs.Prelude.{ℕ, ◌+◌, List, flat_map, map, Result, Ok, Err}
use Rattle.std.specs.List.{range_with_len}
use Rattle.pdh_edge.specs.Ports.{Inputs}
use Rattle.pdh_shape.specs.Frame.{FrameShape}
use Rattle.pdh_line.specs.Events.{Event}
use Rattle.pdh_line.specs.Nodes.{Counts}
use Rattle.pdh_nesting.specs.Slips.{slips_of}
use Rattle.pdh_clock.specs.Contents.{Contents, counts}
use Rattle.pdh_slips.specs.declared.slip.Slip.{Slip}
use Rattle.pdh_slips.specs.declared.log.SlipLog as log
use Rattle.pdh_slips.specs.Logs.{slip_at}
use Rattle.pdh_tx.specs.declared.tx.Tx as tx
use Rattle.pdh_tx.specs.declared.tx.TxStop.{TxStop}
use Rattle.pdh_tx.specs.declared.tx.TxStop.TheVariants.{Failed as TxFailed, LogFailed as TxLogFailed}
use Rattle.pdh_tx.specs.Meaning.{Plan, Meaning}
use Rattle.pdh_tx.specs.Making.{IsUneventful}
use Rattle.pdh_tx.specs.Telling.{Tells}
use Rattle.pdh_chain.specs.Muxes.{is_overflow, place_of}
use Rattle.pdh_chain.specs.declared.sending.SendStop.{SendStop}
use Rattle.pdh_chain.specs.declared.sending.SendStop.TheVariants.{Sender, TakeFailed, WriteFailed}
use Rattle.pdh_chain.specs.declared.stop.MuxStop.{MuxStop}
use Rattle.pdh_chain.specs.declared.stop.MuxStop.TheVariants.{LogFailed}

-- ---- senders

-- the slips in making so many bits of a sender's line, from bit x on
abbrev pub slips_over : Meaning → Plan → ℕ → ℕ → List Slip
slips_over m plan x count = flat_map (m.slips plan) (range_with_len x count)

-- it told a log of the slips in making its next bits, so many, or where it stopped of the first of them
abbrev pub TellsInFrame : {T G X : Type 0} → tx.Ghosts T → T → Plan → ℕ → log.Ghosts G → G → G → Result X TxStop → Type 0
TellsInFrame sender t plan len logs old new result = (x : ℕ) → sender.stands_at t plan x → Tells logs old new (slips_over (sender.meaning t) plan x len) result

-- how a stop of sending is told: that of the sender, and else one of the port, where all slips that came were told
abbrev pub send_stop : SendStop → TxStop
send_stop (Sender stop) = stop
send_stop TakeFailed = TxFailed
send_stop WriteFailed = TxFailed

abbrev pub send_result : {X : Type 0} → Result X SendStop → Result X TxStop
send_result (Ok done) = Ok done
send_result (Err stop) = Err (send_stop stop)

-- the same of a frame, where nothing stands in the way of so many bits, nor do they bring a slip
abbrev pub TellsFrame : {T G X : Type 0} → tx.Ghosts T → T → Plan → ℕ → ℕ → Inputs → log.Ghosts G → G → G → Result X SendStop → Type 0
TellsFrame sender t plan len clear inputs logs old new result =
    (x : ℕ) → sender.stands_at t plan x → IsUneventful (sender.meaning t) plan x (x + clear) inputs → Tells logs old new (slips_over (sender.meaning t) plan x len) (send_result result)

-- and of its first bits, so many
abbrev pub TellsFrames : {T G X : Type 0} → tx.Ghosts T → T → Plan → ℕ → log.Ghosts G → G → G → Result X SendStop → Type 0
TellsFrames sender t plan bits logs old new result = Tells logs old new (slips_over (sender.meaning t) plan 0 bits) (send_result result)

-- ---- whole chains

-- an event as a log is told of it
abbrev pub slip_of : Event → Slip
slip_of event = slip_at (is_overflow event.kind) (place_of event)

-- all slips in so many frames of a chain's line, in order
abbrev pub told_slips : List FrameShape → Counts → ℕ → List Slip
told_slips shapes counts frames = map slip_of (slips_of shapes counts frames)

-- how `mux_slips` stopped, as far as a log is told of it
abbrev pub mux_told : MuxStop → TxStop
mux_told LogFailed = TxLogFailed
mux_told stop = TxFailed

abbrev pub mux_result : {X : Type 0} → Result X MuxStop → Result X TxStop
mux_result (Ok done) = Ok done
mux_result (Err stop) = Err (mux_told stop)

-- A log was told of all slips of so many frames, or where the call stopped of the first of them, in order. Where the log failed, the
-- last of these is the one that it couldn't be told of; and its count of faults rose then, and never else.
abbrev pub TellsSlips : {G X : Type 0} → log.Ghosts G → G → G → List FrameShape → Contents → ℕ → Result X MuxStop → Type 0
TellsSlips logs old new shapes schedule frames result = Tells logs old new (told_slips shapes (counts schedule.rows) frames) (mux_result result)
