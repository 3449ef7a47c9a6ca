-- What taking a line apart through far stores takes of its port and puts to it.
use Rattle.std.specs.Prelude.{◌≡◌, ℕ, suc, ◌<◌, ◌≤◌, nat_lt, ◌==◌, if◌then◌else◌, Bool, List, [], ◌∷◌, length}
use Rattle.pdh_bits.specs.Bits.{bits_of}
use Rattle.pdh_edge.specs.Files.{Rose}
use Rattle.pdh_edge.specs.Ports.{Inputs, Outputs, Takes, after, PrefixOf}
use Rattle.pdh_edge.specs.declared.port.Feed as feed
use Rattle.pdh_edge.specs.declared.port.Drain as drain
use Rattle.pdh_shape.specs.Frame.{FrameShape}
use Rattle.pdh_nesting.specs.Chains.{width}
use Rattle.pdh_desync.specs.FarStore.{smooth}
use Rattle.pdh_chain.specs.Muxing.{as_line}
use Rattle.pdh_chain.specs.Demuxes.{top_delivered}
use Rattle.pdh_chain.specs.declared.stop.DemuxStop.{DemuxStop}
use Rattle.pdh_chain.specs.declared.stop.DemuxStop.TheVariants.{Memory, Ended, ReadFailed, WriteFailed}
use Rattle.pdh_smoothing.specs.Again.{schedule_again}

-- how many lists are put to: one for each tributary, and behind those that of the schedule
abbrev pub lists_put : List FrameShape → ℕ
lists_put shapes = suc (width shapes)

-- What list k gets by these first bits of a line of so many: a tributary's what comes out of its far store, and the schedule's the
-- text of it, once all have come.
abbrev pub put_by : FrameShape → ℕ → List Bool → ℕ → List Bool
put_by s bits given k = (if nat_lt k s.tribs then smooth s k given else (if length given == bits then bits_of (schedule_again s given) else []))

-- the same of a chain of one multiplexer with this frame
abbrev pub put_to : List FrameShape → ℕ → List Bool → ℕ → List Bool
put_to [] bits given k = []
put_to (s ∷ below) bits given k = put_by s bits given k

-- these bits of the line were taken, and what each list gets by them was put
pub record PutsSmooth (shapes : List FrameShape) (bits : ℕ) (given : List Bool) (inputs inputs_now : Inputs) (outputs outputs_now : Outputs) : Type 0 where
  pub takes : Takes (as_line given) inputs inputs_now
  pub puts : (k : ℕ) → k < lists_put shapes → outputs_now.told k ≡ after (put_to shapes bits given k) (outputs.told k)

-- so many bits of the line came, of which these frames were delivered
pub record Smooths (shapes : List FrameShape) (bits frames : ℕ) (inputs inputs_now : Inputs) (outputs outputs_now : Outputs) : Type 0 where
  pub given : List Bool
  pub count : length given ≡ bits
  pub line : PutsSmooth shapes bits given inputs inputs_now outputs outputs_now
  pub frames_are : frames ≡ top_delivered shapes given

-- fewer bits came
pub record SmoothsFewer (shapes : List FrameShape) (bits : ℕ) (inputs inputs_now : Inputs) (outputs outputs_now : Outputs) : Type 0 where
  pub given : List Bool
  pub fewer : length given < bits
  pub line : PutsSmooth shapes bits given inputs inputs_now outputs outputs_now

-- some bits came; what was put is a prefix of what the lists get by them
pub record SmoothsPart (shapes : List FrameShape) (bits : ℕ) (inputs inputs_now : Inputs) (outputs outputs_now : Outputs) : Type 0 where
  pub given : List Bool
  pub upto : length given ≤ bits
  pub takes : Takes (as_line given) inputs inputs_now
  pub puts : (k : ℕ) → k < lists_put shapes → PrefixOf (put_to shapes bits given k) (outputs.told k) (outputs_now.told k)

-- Why it stops: memory was wanting, and nothing was taken or put; the line is shorter than so many bits, and used up; a call for a
-- bit failed; a call that puts a bit failed.
abbrev pub IsSmoothStop : List FrameShape → ℕ → Inputs → Inputs → Outputs → Outputs → ℕ → ℕ → ℕ → ℕ → DemuxStop → Type 0
IsSmoothStop shapes bits inputs inputs_now outputs outputs_now reads reads_now writes writes_now Memory =
    (inputs_now ≡ inputs) × (outputs_now ≡ outputs)
IsSmoothStop shapes bits inputs inputs_now outputs outputs_now reads reads_now writes writes_now Ended =
    (inputs.left 0 < bits) × (inputs_now.left 0 ≡ 0) × SmoothsFewer shapes bits inputs inputs_now outputs outputs_now
IsSmoothStop shapes bits inputs inputs_now outputs outputs_now reads reads_now writes writes_now ReadFailed =
    Rose reads reads_now × SmoothsFewer shapes bits inputs inputs_now outputs outputs_now
IsSmoothStop shapes bits inputs inputs_now outputs outputs_now reads reads_now writes writes_now WriteFailed =
    Rose writes writes_now × SmoothsPart shapes bits inputs inputs_now outputs outputs_now

-- ---- a call, by what is told of the port's kind as a feed and as an output, and of the port before and after it

abbrev pub SmoothsBy : {P : Type 0} → feed.Ghosts P → drain.Ghosts P → List FrameShape → ℕ → P → P → ℕ → Type 0
SmoothsBy feeds drains shapes bits old new frames = Smooths shapes bits frames (feeds.inputs old) (feeds.inputs new) (drains.outputs old) (drains.outputs new)

abbrev pub SmoothStopsBy : {P : Type 0} → feed.Ghosts P → drain.Ghosts P → List FrameShape → ℕ → P → P → DemuxStop → Type 0
SmoothStopsBy feeds drains shapes bits old new =
    IsSmoothStop shapes bits (feeds.inputs old) (feeds.inputs new) (drains.outputs old) (drains.outputs new)
    (feeds.feed_faults old) (feeds.feed_faults new) (drains.drain_faults old) (drains.drain_faults new)
