-- How a chain's line is muxed, in one word for all of its types.
use Rattle.std.specs.Prelude.{◌≡◌, ℕ, true, List, Option, Result, Err, OnOk, IfErr}
use Rattle.pdh_shape.specs.Frame.{FrameShape}
use Rattle.pdh_edge.specs.declared.port.Feed as feed
use Rattle.pdh_edge.specs.declared.port.Drain as drain
use Rattle.pdh_clock.specs.Contents.{Contents}
use Rattle.pdh_slips.specs.declared.log.SlipLog as log
use Rattle.pdh_tx.specs.Meaning.{mode_of}
use Rattle.pdh_chain.specs.Calls.{MuxesBy, MuxStopsBy}
use Rattle.pdh_chain.specs.Faults.{mux_reads, mux_writes}
use Rattle.pdh_chain.specs.Slipping.{TellsSlips}
use Rattle.pdh_chain.specs.declared.stop.MuxStop.{MuxStop}
use Rattle.pdh_chain.specs.declared.stop.MuxStop.TheVariants.{Memory}

-- So many frames of the line of a chain with these frames were made and put, or this is why they weren't, as `mux_with` says it.
-- `old` and `new` are the port before and after the call, and `before` and `after` the log.
pub record IsMuxed {P G : Type 0} (feeds : feed.Ghosts P) (drains : drain.Ghosts P) (logs : log.Ghosts G) (shapes : List FrameShape) (schedule : Contents) (feac : Option ℕ) (frames : ℕ) (old new : P) (before after : G) (result : Result (Unit {0}) MuxStop) : Type 0 where
  pub reads : feeds.feed_faults new ≡ mux_reads result (feeds.feed_faults old)
  pub writes : drains.drain_faults new ≡ mux_writes result (drains.drain_faults old)
  pub ok : OnOk result (MuxesBy feeds drains (mode_of logs.takes) shapes schedule feac frames old new)
  pub err : IfErr result (MuxStopsBy feeds drains (mode_of logs.takes) shapes schedule feac frames old new)
  pub told : logs.takes ≡ true → TellsSlips logs before after shapes schedule frames result
  pub untold : result ≡ Err Memory → after ≡ before
