-- What monitors see of a line, and what is answered of it.
use Rattle.std.specs.Prelude.{◌≡◌, ℕ, ◌-◌, ◌^◌, ◌<◌, min, Bool, List, length, Result, Ok, Err}
use Rattle.pdh_bits.specs.Bits.{bits_of}
use Rattle.pdh_edge.specs.Counts.{one_more}
use Rattle.pdh_edge.specs.Ports.{Inputs, Takes}
use Rattle.pdh_watch.specs.declared.event.Event.{Event}
use Rattle.pdh_watch.specs.Monitors.{State, SawEach}
use Rattle.pdh_events.specs.Chain.{chain_events}
use Rattle.pdh_chain.specs.Chains.{shapes_of}
use Rattle.pdh_chain.specs.Muxing.{as_line}
use Rattle.pdh_chain.specs.Demuxes.{top_delivered}
use Rattle.pdh_chain.specs.declared.chain.Chain.{Chain}
use Rattle.pdh_g706.specs.Tracking.{multiframes_in, counted}
use Rattle.pdh_g706.specs.Events.{e1_events}
use Rattle.pdh_inspect.specs.declared.line.LineSeen.{LineSeen}
use Rattle.pdh_inspect.specs.declared.framed.FramedSeen.{FramedSeen}
use Rattle.pdh_inspect.specs.declared.seen.LineStop.{LineStop}
use Rattle.pdh_inspect.specs.declared.seen.LineStop.TheVariants.{Memory, Failed}

-- ---- the events

-- the events of a chain's line, by its bits
abbrev pub line_bits_events : Chain → List Bool → List Event
line_bits_events chain bits = chain_events (shapes_of chain) bits

-- the same by its bytes
abbrev pub line_events : Chain → List ℕ → List Event
line_events chain line = line_bits_events chain (bits_of line)

-- those of a framed 2048 kbit/s line, by its bytes
abbrev pub framed_events : List ℕ → List Event
framed_events line = e1_events (bits_of line)

-- how many they are; a count that reaches its type's end stands there
abbrev pub events_counted : List Event → ℕ
events_counted events = min (length events) (2 ^ 64 - 1)

-- ---- what is seen of some bits

-- each monitor saw the events of these bits of a chain's line; their delivered frames and their events were counted
pub record SeesLine (chain : Chain) (bits : List Bool) (old new : List State) (seen : LineSeen) : Type 0 where
  pub each : SawEach old (line_bits_events chain bits) new
  pub frames_are : seen.frames ≡ top_delivered (shapes_of chain) bits
  pub events_are : seen.events ≡ events_counted (line_bits_events chain bits)

-- each monitor saw the events of these bits of a framed 2048 kbit/s line; their delivered multiframes and their events were
-- counted
pub record SeesFramed (bits : List Bool) (old new : List State) (seen : FramedSeen) : Type 0 where
  pub each : SawEach old (e1_events bits) new
  pub multiframes_are : seen.multiframes ≡ counted (multiframes_in bits)
  pub events_are : seen.events ≡ events_counted (e1_events bits)

-- ---- what is seen of a feed

-- so many bits came of list 0, and this was seen of them
pub record SeesAll (sees : List Bool → Type 0) (bits : ℕ) (inputs inputs_now : Inputs) : Type 0 where
  pub given : List Bool
  pub count : length given ≡ bits
  pub takes : Takes (as_line given) inputs inputs_now
  pub seen : sees given

-- fewer bits came of it, and this was seen of all that came
pub record SeesFewer (sees : List Bool → Type 0) (bits : ℕ) (inputs inputs_now : Inputs) : Type 0 where
  pub given : List Bool
  pub fewer : length given < bits
  pub takes : Takes (as_line given) inputs inputs_now
  pub seen : sees given

-- Why a line wasn't seen to its end: memory was wanting, and nothing was taken or shown; a call of the feed failed, and this was
-- seen of exactly the bits that came before.
abbrev pub IsLineStop : (sees : List Bool → Type 0) (unseen : Type 0) → ℕ → Inputs → Inputs → LineStop → Type 0
IsLineStop sees unseen bits inputs inputs_now Memory = (inputs_now ≡ inputs) × unseen
IsLineStop sees unseen bits inputs inputs_now Failed = SeesFewer sees bits inputs inputs_now

-- a feed's count of failed calls by how the seeing stopped: the call that failed was counted once, and nothing else was
abbrev pub faults_at_stop : LineStop → ℕ → ℕ
faults_at_stop Memory faults = faults
faults_at_stop Failed faults = one_more faults

abbrev pub faults_seen : {T : Type 0} → Result T LineStop → ℕ → ℕ
faults_seen (Ok seen) faults = faults
faults_seen (Err stop) faults = faults_at_stop stop faults
