-- A demultiplexer over children: what each of them receives, what leaves get by that, and the events.
use Rattle.std.specs.Prelude.{◌≡◌, ℕ, zero, suc, ◌+◌, ◌%◌, ◌^◌, ◌-◌, ◌<◌, min, Bool, true, List, [], ◌∷◌, ◌++◌, length, map, if◌then◌else◌, slice_get, Some, Result, Ok, OnOk, OnErr, flat_map, replicate, ◌==◌}
use Rattle.pdh_shape.specs.declared.place.Path.{Path}
use Rattle.pdh_shape.specs.Frame.{FrameShape}
use Rattle.pdh_shape.specs.Tributary.{stripped}
use Rattle.pdh_edge.specs.declared.port.Drain as drain
use Rattle.pdh_edge.specs.Leaves.{any_below, NoneShared}
use Rattle.pdh_edge.specs.Ports.{Outputs, HasCause}
use Rattle.pdh_watch.specs.declared.kind.TheConstants.Kind.{ALIGNED, LOST}
use Rattle.pdh_watch.specs.declared.event.Event.{Event}
use Rattle.pdh_watch.specs.declared.watch.Watch as watch
use Rattle.pdh_watch.specs.Seen.{SawPart}
use Rattle.pdh_line.specs.Paths.{StandBelow}
use Rattle.pdh_line.specs.Tracking.{Piece, track, frames_delivered}
use Rattle.pdh_line.specs.Tracking.Piece.{Gap, Delivered}
use Rattle.pdh_line.specs.Receiving.{received}
use Rattle.pdh_align.specs.declared.step.Step.{Step}
use Rattle.pdh_align.specs.declared.step.Step.TheVariants.{Rejected, Aligned, Frame, Lost}
use Rattle.pdh_align.specs.Aligning.{Held, StandsFor, frames_gained}
use Rattle.pdh_events.specs.Telling.{next_bit, event_of}
use Rattle.pdh_events.specs.Keeping.{OnesRun, CountsOnes, Kept, Remembers}
use Rattle.pdh_events.specs.Acts.{Act, with_more, frames_acts, rounds_acts, bit_acts, acts_events}
use Rattle.pdh_events.specs.Acts.Act.{Note}
use Rattle.pdh_events.specs.laws.ActsLaws.{bits_to}
use Rattle.pdh_rx.specs.declared.rx.Rx as rx
use Rattle.pdh_judging.specs.declared.judged.Judged.{Judged}
use Rattle.pdh_judging.specs.Judged.{judged_in, Judges}
use Rattle.pdh_rx.specs.declared.counts.NodeCounts.{NodeCounts}
use Rattle.pdh_rx.specs.Meaning.{Meaning, IsDeaf, HoldsAll, Gains, GainsPart}

-- each child stands for its line
abbrev pub EachStands : {C : Type 0} → (C → List Bool → Type 0) → List C → (ℕ → List Bool) → Type 0
EachStands {C} stands children lines = (j : ℕ) (c : C) → slice_get children j ≡ Some c → stands c (lines j)

-- no leaf is below two of them
abbrev pub IsDisjoint : List Meaning → Type 0
IsDisjoint = NoneShared (λ (m : Meaning). m.leaves)

-- whether a leaf is below one of them
abbrev pub any_leaf : List Meaning → ℕ → Bool
any_leaf = any_below (λ (m : Meaning). m.leaves)

-- what a leaf has got, where these children have received these lines
abbrev pub got_by : List Meaning → (ℕ → List Bool) → ℕ → List Bool
got_by [] lines k = []
got_by (m ∷ ms) lines k = (if m.leaves k then m.got (lines 0) k else got_by ms (λ j. lines (suc j)) k)

-- what each child has received of a node's line
abbrev pub received_lines : FrameShape → List Bool → ℕ → List Bool
received_lines s line j = received s j line

-- what a bit for child j brings, after this line of it
abbrev pub child_notes : List Meaning → ℕ → List Bool → Bool → List Event
child_notes [] j line bit = []
child_notes (m ∷ ms) zero line bit = m.notes line bit
child_notes (m ∷ ms) (suc j) line bit = child_notes ms j line bit

-- how many frames of a line are delivered, where a count that reaches its type's end stands there
unfoldable pub frames_counted : FrameShape → List Bool → ℕ
frames_counted s line = min (frames_delivered s line) (2 ^ 64 - 1)

-- what the node at a path counts of its received line
abbrev pub counts_of : FrameShape → Path → List Bool → NodeCounts
counts_of s path line = record { path = path; bits = next_bit line; frames = frames_counted s line; judged = judged_in s line }

-- what these children and the nodes below them count of their lines, one child after another
abbrev pub counted_by : List Meaning → (ℕ → List Bool) → List NodeCounts
counted_by [] lines = []
counted_by (m ∷ ms) lines = m.counted (lines 0) ++ counted_by ms (λ j. lines (suc j))

abbrev pub node_meaning : FrameShape → Path → List Meaning → Meaning
node_meaning s path ms = record {
  path = Some path;
  leaves = any_leaf ms;
  got = λ line k. got_by ms (received_lines s line) k;
  notes = λ line bit. acts_events (child_notes ms) (received_lines s line) (bit_acts s path line bit);
  delivered = frames_counted s;
  counted = λ line. counts_of s path line ∷ counted_by ms (received_lines s line);
}

-- each child that is a node stands below the node at this path, by its number from 1
abbrev pub ArePlaced : Path → List Meaning → Type 0
ArePlaced = StandBelow (λ (m : Meaning). m.path) (λ below. below)

-- ---- the children

-- the children of a node of so many tributaries: one for each, and no leaf below two of them
pub record AreChildren (tribs : ℕ) (ms : List Meaning) : Type 0 where
  pub count : length ms ≡ tribs
  pub disjoint : IsDisjoint ms

-- they can take bits: each stands for a line, and each leaf below them has a list
pub record AreReady {C : Type 0} (stands : C → List Bool → Type 0) (meaning : C → Meaning) (children : List C) (outputs : Outputs) : Type 0 where
  pub lines : ℕ → List Bool
  pub each : EachStands stands children lines
  pub lists : HoldsAll (any_leaf (map meaning children)) outputs

-- child j may be spared its bits
abbrev pub ChildIsDeaf : {C : Type 0} → (C → List Bool → Type 0) → (C → Meaning) → List C → Outputs → ℕ → Type 0
ChildIsDeaf {C} stands meaning children outputs j = (c : C) → slice_get children j ≡ Some c → IsDeaf (meaning c) (stands c) outputs

-- each of them may
abbrev pub AreDeaf : {C : Type 0} → (C → List Bool → Type 0) → (C → Meaning) → List C → Outputs → Type 0
AreDeaf stands meaning children outputs = (j : ℕ) → ChildIsDeaf stands meaning children outputs j

-- ---- room for bits of them

-- there is room for so many bits of child j
abbrev pub ChildFits : {C : Type 0} → (C → (ℕ → ℕ) → ℕ → Type 0) → List C → ℕ → (ℕ → ℕ) → ℕ → Type 0
ChildFits {C} fits children j room bits = (c : C) → slice_get children j ≡ Some c → fits c room bits

-- there is room for so many bits of each
abbrev pub AllFit : {C : Type 0} → (C → (ℕ → ℕ) → ℕ → Type 0) → List C → (ℕ → ℕ) → ℕ → Type 0
AllFit fits children room bits = (j : ℕ) → ChildFits fits children j room bits

-- ---- calls that give them bits

-- whatever comes of such a call: no meaning changed, only what a drain's calls change did, and the one that failed was counted
pub record Keeps {C D T E : Type 0} (meaning : C → Meaning) (faults : D → ℕ) (drained : D → D → Type 0) (old new : List C) (before after : D) (result : Result T E) : Type 0 where
  pub same : map meaning new ≡ map meaning old
  pub drains : drained before after
  pub cause : HasCause (faults before) (faults after) result

-- each child got its bits of these, and what leaves got by that was put to their lists
pub record Gives {C : Type 0} (stands : C → List Bool → Type 0) (ms : List Meaning) (more : ℕ → List Bool) (old new : List C) (before after : Outputs) : Type 0 where
  pub each : (lines : ℕ → List Bool) → EachStands stands old lines → EachStands stands new (with_more lines more)
  pub gains : (lines : ℕ → List Bool) → EachStands stands old lines → Gains (got_by ms lines) (got_by ms (with_more lines more)) before after

-- the same where a call failed: a prefix was put
pub record GivesPart {C : Type 0} (stands : C → List Bool → Type 0) (ms : List Meaning) (more : ℕ → List Bool) (old : List C) (before after : Outputs) : Type 0 where
  pub gains : (lines : ℕ → List Bool) → EachStands stands old lines → GainsPart (got_by ms lines) (got_by ms (with_more lines more)) before after

-- ---- calls in which a node acts

-- A node acted so: each child got its bits, what leaves got by that was put to their lists, and the watch saw the events.
pub record Plays {C W : Type 0} (stands : C → List Bool → Type 0) (saw : W → List Event → W → Type 0) (ms : List Meaning) (acts : List Act) (old new : List C) (before after : Outputs) (was is : W) : Type 0 where
  pub gives : Gives stands ms (bits_to acts) old new before after
  pub sees : (lines : ℕ → List Bool) → EachStands stands old lines → saw was (acts_events (child_notes ms) lines acts) is

-- the same where a call failed: a prefix was put, and a prefix of the events seen
pub record PlaysPart {C W : Type 0} (stands : C → List Bool → Type 0) (saw : W → List Event → W → Type 0) (ms : List Meaning) (acts : List Act) (old : List C) (before after : Outputs) (was is : W) : Type 0 where
  pub gives : GivesPart stands ms (bits_to acts) old before after
  pub sees : (lines : ℕ → List Bool) → EachStands stands old lines → SawPart saw was (acts_events (child_notes ms) lines acts) is

-- a call failed at one of these acts: those before it were played, of it a prefix, and none behind it
pub record PlaysUpTo {C W : Type 0} (stands : C → List Bool → Type 0) (saw : W → List Event → W → Type 0) (ms : List Meaning) (acts : List Act) (old : List C) (before after : Outputs) (was is : W) : Type 0 where
  pub done : List Act
  pub failed : Act
  pub left : List Act
  pub acts_are : acts ≡ done ++ failed ∷ left
  pub between : List C
  pub middle : Outputs
  pub heard : W
  pub played : Plays stands saw ms done old between before middle was heard
  pub part : PlaysPart stands saw ms (failed ∷ []) between middle after heard is

-- whatever came of a call that acts: all of these acts were played, or it failed and a prefix of them was; and what any call keeps
pub record Acted {C D W T E : Type 0} (receivers : rx.Ghosts C) (drains : drain.Ghosts D) (watches : watch.Ghosts W) (acts : List Act) (old new : List C) (before after : D) (was is : W) (result : Result T E) : Type 0 where
  pub played : OnOk result (Plays receivers.stands watches.saw (map receivers.meaning old) acts old new (drains.outputs before) (drains.outputs after) was is)
  pub part : OnErr result (PlaysPart receivers.stands watches.saw (map receivers.meaning old) acts old (drains.outputs before) (drains.outputs after) was is)
  pub kept : Keeps receivers.meaning drains.drain_faults drains.drained old new before after result

-- the same where it failed at one of them
pub record ActedUpTo {C D W T E : Type 0} (receivers : rx.Ghosts C) (drains : drain.Ghosts D) (watches : watch.Ghosts W) (acts : List Act) (old new : List C) (before after : D) (was is : W) (result : Result T E) : Type 0 where
  pub played : OnOk result (Plays receivers.stands watches.saw (map receivers.meaning old) acts old new (drains.outputs before) (drains.outputs after) was is)
  pub part : OnErr result (PlaysUpTo receivers.stands watches.saw (map receivers.meaning old) acts old (drains.outputs before) (drains.outputs after) was is)
  pub kept : Keeps receivers.meaning drains.drain_faults drains.drained old new before after result

-- and where no call failed
abbrev pub ActedWhole : {C D W : Type 0} → rx.Ghosts C → drain.Ghosts D → watch.Ghosts W → List Act → List C → List C → D → D → W → W → Type 0
ActedWhole receivers drains watches acts old new before after was is = Acted {T = Unit {0}} {E = Unit {0}} receivers drains watches acts old new before after was is (Ok tt)

-- ---- a step of the alignment machine

-- what the ready frames give each tributary
abbrev pub frames_bits : FrameShape → List (List Bool) → ℕ → List Bool
frames_bits s frames j = flat_map (stripped s j) frames

-- as many ones as a frame carries bits of a tributary at least
abbrev pub ones_bits : FrameShape → ℕ → List Bool
ones_bits s j = replicate s.low true

-- how many positions of a gap were passed over since the last whole frame's length of it
abbrev pub gap_after : FrameShape → Step → ℕ → ℕ
gap_after s Rejected gap = (if suc gap == s.len then 0 else suc gap)
gap_after s Lost gap = 0
gap_after s _ gap = gap

-- how many frames are delivered
abbrev pub frames_after : Step → ℕ → ℕ
frames_after step frames = min (frames + frames_gained step) (2 ^ 64 - 1)

-- what each tributary gains, where the count of passed positions is now this
abbrev pub step_bits : FrameShape → Step → List (List Bool) → ℕ → ℕ → List Bool
step_bits s Rejected ready gap j = (if gap == 0 then ones_bits s j else [])
step_bits s Aligned ready gap j = frames_bits s ready j
step_bits s Frame ready gap j = frames_bits s ready j
step_bits s _ ready gap j = []

-- what a step makes a node note and do to its children, after these pieces
abbrev pub step_acts : FrameShape → Path → ℕ → List Piece → Step → List (List Bool) → ℕ → List Act
step_acts s path bit pieces Rejected ready gap = (if gap == 0 then rounds_acts s s.low else [])
step_acts s path bit pieces Aligned ready gap = Note (event_of path bit ALIGNED) ∷ frames_acts s path bit pieces ready
step_acts s path bit pieces Frame ready gap = frames_acts s path bit pieces ready
step_acts s path bit pieces Lost ready gap = Note (event_of path bit LOST) ∷ []
step_acts s path bit pieces _ ready gap = []

-- the pieces after a step, but for the positions that a gap grew by
abbrev pub step_pieces : Step → List (List Bool) → List Piece → List Piece
step_pieces Aligned ready pieces = pieces ++ map Delivered ready
step_pieces Frame ready pieces = pieces ++ map Delivered ready
step_pieces Lost ready pieces = pieces ++ Gap 0 ∷ []
step_pieces _ ready pieces = pieces

-- ---- the state

-- the positions of the gap that a line's pieces end with, less whole frames' lengths
abbrev pub IsGap : FrameShape → ℕ → List Piece → Type 0
IsGap s gap pieces = (others : List Piece) (n : ℕ) → pieces ≡ others ++ Gap n ∷ [] → gap ≡ n % s.len

-- what a demultiplexer's children and its aligner are, after these received bits
pub record NodeTracks {C : Type 0} (stands : C → List Bool → Type 0) (meaning : C → Meaning) (s : FrameShape) (children : List C) (held : Held) (gap frames : ℕ) (line : List Bool) : Type 0 where
  pub count : length children ≡ s.tribs
  pub each : EachStands stands children (received_lines s line)
  pub aligner : StandsFor s held line
  pub inside : gap < s.len
  pub gap_is : IsGap s gap (track s line)
  pub frames_are : frames ≡ frames_counted s line

-- what its state is: these, what it judged, and what it keeps to tell events
pub record NodeStands {C : Type 0} (stands : C → List Bool → Type 0) (meaning : C → Meaning) (s : FrameShape) (children : List C) (held : Held) (gap frames : ℕ) (judged : Judged) (bits : ℕ) (ais : OnesRun) (kept : Kept) (line : List Bool) : Type 0 where
  pub node : NodeTracks stands meaning s children held gap frames line
  pub judges : Judges s judged line
  pub bits_are : bits ≡ next_bit line
  pub long_is : ais.long ≡ s.len
  pub ones_are : CountsOnes ais line
  pub remembers : Remembers s kept (track s line)
