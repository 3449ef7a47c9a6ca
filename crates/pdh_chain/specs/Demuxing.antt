-- Giving a receiver the bits of a line.
use Rattle.std.specs.Prelude.{◌≡◌, ℕ, ◌<◌, ◌≤◌, Bool, List, [], ◌++◌, length}
use Rattle.pdh_edge.specs.Files.{Rose}
use Rattle.pdh_edge.specs.Ports.{Inputs, Outputs, Takes}
use Rattle.pdh_edge.specs.declared.port.FeedStop.{FeedStop}
use Rattle.pdh_edge.specs.declared.port.FeedStop.TheVariants.{Failed as FeedFailed, Ended as FeedEnded}
use Rattle.pdh_watch.specs.declared.event.Event.{Event}
use Rattle.pdh_events.specs.Chain.{bits_events}
use Rattle.pdh_rx.specs.Meaning.{Meaning, Gains, GainsPart}
use Rattle.pdh_chain.specs.Muxing.{as_line}
use Rattle.pdh_chain.specs.declared.stop.DemuxStop.{DemuxStop}
use Rattle.pdh_chain.specs.declared.stop.DemuxStop.TheVariants.{Memory, Ended, ReadFailed, WriteFailed}

-- a watch saw these events, up to one of them
abbrev pub SeesPart : (List Event → Type 0) → List Event → Type 0
SeesPart sees events = (seen rest : List Event) × (events ≡ seen ++ rest) × sees seen

-- So many bits of the line were taken, its first ones; the receiver stands for them, what its leaves got by them was put, and
-- the events that they bring were seen.
pub record Receives (m : Meaning) (stands : List Bool → Type 0) (sees : List Event → Type 0) (bits : ℕ) (inputs inputs_now : Inputs) (outputs outputs_now : Outputs) : Type 0 where
  pub given : List Bool
  pub count : length given ≡ bits
  pub takes : Takes (as_line given) inputs inputs_now
  pub stood : stands given
  pub gains : Gains (m.got []) (m.got given) outputs outputs_now
  pub seen : sees (bits_events m.notes [] given)

-- fewer bits were taken
pub record ReceivesFewer (m : Meaning) (sees : List Event → Type 0) (bits : ℕ) (inputs inputs_now : Inputs) (outputs outputs_now : Outputs) : Type 0 where
  pub given : List Bool
  pub fewer : length given < bits
  pub takes : Takes (as_line given) inputs inputs_now
  pub gains : Gains (m.got []) (m.got given) outputs outputs_now
  pub seen : sees (bits_events m.notes [] given)

-- some bits were taken, a prefix of what the leaves got by them was put, and a prefix of the events seen
pub record ReceivesPart (m : Meaning) (sees : List Event → Type 0) (bits : ℕ) (inputs inputs_now : Inputs) (outputs outputs_now : Outputs) : Type 0 where
  pub given : List Bool
  pub upto : length given ≤ bits
  pub takes : Takes (as_line given) inputs inputs_now
  pub gains : GainsPart (m.got []) (m.got given) outputs outputs_now
  pub seen : SeesPart sees (bits_events m.notes [] given)

-- why the receiver doesn't get all bits: the line is shorter, and used up; a call for a bit failed; a call that puts a bit failed
abbrev pub IsReceiveStop : Meaning → (List Event → Type 0) → ℕ → Inputs → Inputs → Outputs → Outputs → ℕ → ℕ → ℕ → ℕ → DemuxStop → Type 0
IsReceiveStop m sees bits inputs inputs_now outputs outputs_now reads reads_now writes writes_now Memory = ⊥
IsReceiveStop m sees bits inputs inputs_now outputs outputs_now reads reads_now writes writes_now Ended =
    (inputs.left 0 < bits) × (inputs_now.left 0 ≡ 0) × ReceivesFewer m sees bits inputs inputs_now outputs outputs_now
IsReceiveStop m sees bits inputs inputs_now outputs outputs_now reads reads_now writes writes_now ReadFailed =
    Rose reads reads_now × ReceivesFewer m sees bits inputs inputs_now outputs outputs_now
IsReceiveStop m sees bits inputs inputs_now outputs outputs_now reads reads_now writes writes_now WriteFailed =
    Rose writes writes_now × ReceivesPart m sees bits inputs inputs_now outputs outputs_now

-- how a call for a bit ends `demux`
abbrev pub feed_stop : FeedStop → DemuxStop
feed_stop FeedFailed = ReadFailed
feed_stop FeedEnded = Ended
