-- What the fields of an alignment machine stand for.
use Rattle.std.specs.Prelude.{◌≡◌, ◌+◌, ℕ, Bool, true, false, List, [], Result, OnOk, OnErr}
use Rattle.pdh_edge.specs.Ports.{Outputs, Puts, PutsPart, HasCause, for_leaf}
use Rattle.pdh_framed.specs.Taking.{Gains as GainsOf, GainsPart as GainsPartOf}
use Rattle.pdh_g706.specs.declared.align.E1Align.{E1Align}
use Rattle.pdh_g706.specs.declared.counts.Counts.{Counts}
use Rattle.pdh_g706.specs.declared.counts.Group.{Group}
use Rattle.pdh_g706.specs.declared.stage.Stage.{Stage}
use Rattle.pdh_g706.specs.declared.stage.Stage.TheVariants as stages
use Rattle.pdh_g706.specs.Tracking.{Share, e1_far, multiframes_in, blocks_in, errors_in, signs_in, counted}
use Rattle.pdh_watch.specs.declared.event.Event.{Event}
use Rattle.pdh_line.specs.Paths.{top}
use Rattle.pdh_events.specs.Telling.{next_bit, tell}
use Rattle.pdh_events.specs.Keeping.{CountsOnes}
use Rattle.pdh_g706.specs.Events.{alarm_after, ais_length}
use Rattle.pdh_g706.specs.Machine.{Phase, Holds, Turn, added_kinds, aligned_turn, framed_turn, block_turn}
use Rattle.pdh_g706.specs.Machine.Phase.{Searching, Aligned, Framed}

-- what is held in a stage
abbrev pub phase_of : Stage → List Bool → Group → Phase
phase_of stages.Searching held group = Searching held
phase_of stages.Aligned held group = Aligned held
phase_of stages.Framed held group = Framed held group.judged group.errored

abbrev pub phase : E1Align → Phase
phase align = phase_of align.stage align.held.bits align.group

-- multiframe alignment was reached
abbrev pub is_framed : Stage → Bool
is_framed stages.Framed = true
is_framed _ = false

-- what is done with the bits that are held at the end of a frame without a loss, in either stage of an alignment, and at the
-- end of a sub-multiframe
abbrev pub aligned_here : E1Align → Turn
aligned_here align = aligned_turn align.held.bits

abbrev pub framed_here : E1Align → Turn
framed_here align = framed_turn align.held.bits align.group.judged align.group.errored

abbrev pub block_here : E1Align → Turn
block_here align = block_turn align.held.bits align.group.judged align.group.errored

-- the counts are those of the received bits
pub record AreCounts (counts : Counts) (line : List Bool) : Type 0 where
  pub multiframes_are : counts.multiframes ≡ counted (multiframes_in line)
  pub blocks_are : counts.blocks ≡ counted (blocks_in line)
  pub errored_are : counts.errored ≡ counted (errors_in line)

-- the machine stands for these received bits: it holds of them what it needs, and has counted what was found in them
pub record StandsFor (align : E1Align) (line : List Bool) : Type 0 where
  pub holds : Holds (phase align) line
  pub counts : AreCounts align.counts line
  pub room : align.held.capacity ≡ 16384
  pub number : align.bits ≡ next_bit line
  pub long : align.ais.long ≡ ais_length
  pub ones : CountsOnes align.ais line
  pub alarm : align.alarm ≡ alarm_after false (signs_in line).frames

-- so much was counted in addition
pub record Counted (gained : Share) (old new : Counts) : Type 0 where
  pub multiframes_are : (n : ℕ) → old.multiframes ≡ counted n → new.multiframes ≡ counted (n + gained.multiframes)
  pub blocks_are : (n : ℕ) → old.blocks ≡ counted n → new.blocks ≡ counted (n + gained.blocks)
  pub errored_are : (n : ℕ) → old.errored ≡ counted n → new.errored ≡ counted (n + gained.errored)

-- a turn was made
pub record Becomes (turn : Turn) (old new : E1Align) : Type 0 where
  pub phase_is : phase new ≡ turn.phase
  pub counts : Counted turn.gained old.counts new.counts
  pub room : new.held.capacity ≡ old.held.capacity
  pub number : new.bits ≡ old.bits
  pub ais : new.ais ≡ old.ais
  pub alarm : new.alarm ≡ alarm_after old.alarm turn.gained.signs.frames

-- the events that a turn tells
abbrev pub turn_events : E1Align → Turn → List Event
turn_events old turn = tell top old.bits (added_kinds old.alarm turn.gained.signs)

-- How a call that makes a turn comes out: the turn was made, its payload put to leaf 0, and its events seen. Or a call of the
-- drain failed: a prefix of the payload was put, and no event seen. Only a drain's calls changed it, and the one that failed
-- was counted.
pub record Turned {D W T E : Type 0} (outputs : D → Outputs) (faults : D → ℕ) (drained : D → D → Type 0) (saw : W → List Event → W → Type 0) (turn : Turn) (old new : E1Align) (before after : D) (was is : W) (result : Result T E) : Type 0 where
  pub becomes : OnOk result (Becomes turn old new)
  pub put : OnOk result (Puts (for_leaf 0 turn.gained.payload) (outputs before) (outputs after))
  pub part : OnErr result (PutsPart (for_leaf 0 turn.gained.payload) (outputs before) (outputs after))
  pub seen : OnOk result (saw was (turn_events old turn) is)
  pub unseen : OnErr result (saw was [] is)
  pub cause : HasCause (faults before) (faults after) result
  pub drains : drained before after

-- what a line gives has grown, and what came was put to leaf 0
abbrev pub Gains : List Bool → List Bool → Outputs → Outputs → Type 0
Gains = GainsOf e1_far

-- the same where a call failed: a prefix of what came was put
abbrev pub GainsPart : List Bool → List Bool → Outputs → Outputs → Type 0
GainsPart = GainsPartOf e1_far
