-- What `demux` takes of its port and puts to it, and what its watch sees.
use Rattle.std.specs.Prelude.{◌≡◌, ℕ, ◌<◌, ◌≤◌, ◌⊎◌, nat_lt, Bool, if◌then◌else◌, List, [], ◌∷◌, length, Ok, Err, Result}
use Rattle.pdh_edge.specs.Files.{Rose}
use Rattle.pdh_edge.specs.Ports.{Inputs, Outputs, Takes, Puts, PutsPart}
use Rattle.pdh_shape.specs.Frame.{FrameShape}
use Rattle.pdh_line.specs.Tracking.{frames_delivered}
use Rattle.pdh_nesting.specs.Chains.{width}
use Rattle.pdh_nesting.specs.Receiving.{far}
use Rattle.pdh_watch.specs.declared.event.Event.{Event}
use Rattle.pdh_events.specs.Chain.{chain_events}
use Rattle.pdh_chain.specs.Muxing.{as_line}
use Rattle.pdh_chain.specs.Demuxing.{SeesPart}
use Rattle.pdh_chain.specs.declared.stop.DemuxStop.{DemuxStop}
use Rattle.pdh_chain.specs.declared.stop.DemuxStop.TheVariants.{Memory, Ended, ReadFailed, WriteFailed}

-- what each leaf of a chain receives of its top's line
abbrev pub received_of : List FrameShape → List Bool → ℕ → List Bool
received_of shapes line leaf = (if nat_lt leaf (width shapes) then far shapes line leaf else [])

-- how many frames of the top are delivered
abbrev pub top_delivered : List FrameShape → List Bool → ℕ
top_delivered [] line = 0
top_delivered (s ∷ below) line = frames_delivered s line

-- these bits of the line were taken, and what each leaf receives by them was put
pub record PutsReceived (shapes : List FrameShape) (given : List Bool) (inputs inputs_now : Inputs) (outputs outputs_now : Outputs) : Type 0 where
  pub takes : Takes (as_line given) inputs inputs_now
  pub puts : Puts (received_of shapes given) outputs outputs_now

-- so many bits of the line came, of which these frames were delivered; the events of the line were seen
pub record Demuxes (shapes : List FrameShape) (sees : List Event → Type 0) (bits frames : ℕ) (inputs inputs_now : Inputs) (outputs outputs_now : Outputs) : Type 0 where
  pub given : List Bool
  pub count : length given ≡ bits
  pub line : PutsReceived shapes given inputs inputs_now outputs outputs_now
  pub seen : sees (chain_events shapes given)
  pub frames_are : frames ≡ top_delivered shapes given

-- fewer bits came
pub record DemuxesFewer (shapes : List FrameShape) (sees : List Event → Type 0) (bits : ℕ) (inputs inputs_now : Inputs) (outputs outputs_now : Outputs) : Type 0 where
  pub given : List Bool
  pub fewer : length given < bits
  pub line : PutsReceived shapes given inputs inputs_now outputs outputs_now
  pub seen : sees (chain_events shapes given)

-- some bits came; what was put is a prefix of what the leaves receive by them, and what was seen a prefix of their events
pub record DemuxesPart (shapes : List FrameShape) (sees : List Event → Type 0) (bits : ℕ) (inputs inputs_now : Inputs) (outputs outputs_now : Outputs) : Type 0 where
  pub given : List Bool
  pub upto : length given ≤ bits
  pub takes : Takes (as_line given) inputs inputs_now
  pub puts : PutsPart (received_of shapes given) outputs outputs_now
  pub seen : SeesPart sees (chain_events shapes given)

-- Why `demux` stops: memory was wanting, and nothing was taken or put; the line is shorter than so many bits, and used
-- up; a call for a bit failed; a call that puts a bit failed.
abbrev pub IsDemuxStop : List FrameShape → (List Event → Type 0) → ℕ → Inputs → Inputs → Outputs → Outputs → ℕ → ℕ → ℕ → ℕ → DemuxStop → Type 0
IsDemuxStop shapes sees bits inputs inputs_now outputs outputs_now reads reads_now writes writes_now Memory =
    (inputs_now ≡ inputs) × (outputs_now ≡ outputs)
IsDemuxStop shapes sees bits inputs inputs_now outputs outputs_now reads reads_now writes writes_now Ended =
    (inputs.left 0 < bits) × (inputs_now.left 0 ≡ 0) × DemuxesFewer shapes sees bits inputs inputs_now outputs outputs_now
IsDemuxStop shapes sees bits inputs inputs_now outputs outputs_now reads reads_now writes writes_now ReadFailed =
    Rose reads reads_now × DemuxesFewer shapes sees bits inputs inputs_now outputs outputs_now
IsDemuxStop shapes sees bits inputs inputs_now outputs outputs_now reads reads_now writes writes_now WriteFailed =
    Rose writes writes_now × DemuxesPart shapes sees bits inputs inputs_now outputs outputs_now

-- the port is fresh still where memory was wanting, and else ready, unless it refused to be started
abbrev pub IsDemuxLeft : (fresh ready refused : Type 0) → Result ℕ DemuxStop → Type 0
IsDemuxLeft fresh ready refused (Ok frames) = ready
IsDemuxLeft fresh ready refused (Err Memory) = fresh
IsDemuxLeft fresh ready refused (Err WriteFailed) = ready ⊎ refused
IsDemuxLeft fresh ready refused (Err stop) = ready
