-- What `mux` and `mux_slips` put to their port and take of it. `mode` tells what an event of a store does: it ends the line of `mux`,
-- and is a slip in that of `mux_slips`. `counts` tells how many bits of each tributary of the node at a path arrive in
-- each of its frames, `scheduled` how many frames the node has, and `says` what the service bits of the top's frames say.
use Rattle.std.specs.Prelude.{◌≡◌, ℕ, suc, ◌+◌, ◌*◌, ◌<◌, ◌≤◌, ◌⊎◌, Bool, true, false, List, [], ◌∷◌, length, Some, None, Option, Ok, Err, Result, slice_get}
use Rattle.std.specs.List.{slice_index_or}
use Rattle.pdh_edge.specs.Files.{Rose}
use Rattle.pdh_edge.specs.Ports.{Inputs, Outputs, Takes, Puts, PutsPart}
use Rattle.pdh_shape.specs.declared.role.Service.{Service}
use Rattle.pdh_shape.specs.Frame.{FrameShape}
use Rattle.pdh_shape.specs.declared.place.Place.{Place}
use Rattle.pdh_shape.specs.declared.place.Path.{Path}
use Rattle.pdh_line.specs.Sending.{Mode, front, begun, given}
use Rattle.pdh_line.specs.Sending.Mode.{Plain, Slipping}
use Rattle.pdh_line.specs.Events.{Event, Kind}
use Rattle.pdh_line.specs.Events.Kind.{Overflow, Underflow}
use Rattle.pdh_nesting.specs.Chains.{width, top_len, AreFrames, ReadEvenly}
use Rattle.pdh_line.specs.Nodes.{child, Counts}
use Rattle.pdh_nesting.specs.Sending.{chain_line, given_below, AllWithin}
use Rattle.pdh_line.specs.Paths.{steps_of, top, path_of}
use Rattle.pdh_nesting.specs.Events.{events_in, first_event}
use Rattle.pdh_tx.specs.Meaning.{Plan}
use Rattle.pdh_tx.specs.declared.tx.TxStop.{TxStop}
use Rattle.pdh_tx.specs.declared.tx.TxStop.TheVariants.{Overflow as TxOverflow, Underflow as TxUnderflow, NoFrame as TxNoFrame, Failed as TxFailed, Ended as TxEnded, LogFailed as TxLogFailed}
use Rattle.pdh_chain.specs.Muxing.{as_line}
use Rattle.pdh_chain.specs.Trees.{sender_of}
use Rattle.pdh_chain.specs.declared.stop.MuxStop.{MuxStop}
use Rattle.pdh_chain.specs.declared.stop.MuxStop.TheVariants.{Memory, Event as MeetsEvent, NoFrame, Ended, ReadFailed, WriteFailed, LogFailed}

-- ---- the line

-- the bits of the leaves' lists
abbrev pub bits_of : (ℕ → List Bool) → ℕ → ℕ → Bool
bits_of lists k i = slice_index_or (lists k) i false

-- so many frames of a chain's line, whose top's frames say this
abbrev pub frames_of_line : Mode → List FrameShape → Counts → (ℕ → Service) → (ℕ → List Bool) → ℕ → List Bool
frames_of_line mode shapes counts says lists frames = front (chain_line mode shapes counts (bits_of lists) says [] 0) (frames * top_len shapes)

-- the leaves' lists begin with the bits that were given
abbrev pub BeginWith : ℕ → (ℕ → List Bool) → (ℕ → List Bool) → Type 0
BeginWith leaves given lists = (k i : ℕ) → k < leaves → i < length (given k) → slice_index_or (given k) i false ≡ slice_index_or (lists k) i false

-- The leaves gave so many bits, and whatever lists begin with these, the line that such lists give was put: so many frames.
pub record PutsFrames (mode : Mode) (shapes : List FrameShape) (counts : Counts) (says : ℕ → Service) (frames : ℕ) (inputs inputs_now : Inputs) (outputs outputs_now : Outputs) : Type 0 where
  pub given : ℕ → List Bool
  pub takes : Takes given inputs inputs_now
  pub others : (k : ℕ) → width shapes ≤ k → given k ≡ []
  pub puts : (lists : ℕ → List Bool) → BeginWith (width shapes) given lists → Puts (as_line (frames_of_line mode shapes counts says lists frames)) outputs outputs_now

-- the leaves gave no fewer bits than so many frames take of them, and no more than one frame more takes
pub record GivesFrames (shapes : List FrameShape) (counts : Counts) (frames : ℕ) (given : ℕ → List Bool) : Type 0 where
  pub no_fewer : (k : ℕ) → k < width shapes → given_below shapes counts [] (frames * top_len shapes) k ≤ length (given k)
  pub no_more : (k : ℕ) → k < width shapes → length (given k) ≤ given_below shapes counts [] (suc frames * top_len shapes) k

-- ---- what stands in the way

-- so many frames of each node, and so many bits of each of its tributaries that arrive in each of them
abbrev pub plan_with : Mode → (List ℕ → ℕ) → Counts → Plan
plan_with mode scheduled counts = record { mode = mode; frames = λ path. scheduled (steps_of path); counts = λ path. counts (steps_of path) }

-- what stands first in the way of bit x of a chain's line, where the leaves' lists hold so many bits in all
abbrev pub obstacle_at : Mode → List FrameShape → Counts → (List ℕ → ℕ) → (ℕ → ℕ) → ℕ → Option TxStop
obstacle_at mode shapes counts scheduled size x = (sender_of shapes top 0).obstacle (plan_with mode scheduled counts) size x

-- nothing stands in the way of the first bits, so many
abbrev pub IsClear : Mode → List FrameShape → Counts → (List ℕ → ℕ) → (ℕ → ℕ) → ℕ → Type 0
IsClear mode shapes counts scheduled size bits = (x : ℕ) → x < bits → obstacle_at mode shapes counts scheduled size x ≡ None

-- this stands first in the way of a bit of so many frames, and nothing in the way of an earlier bit
pub record IsFirstObstacle (mode : Mode) (shapes : List FrameShape) (counts : Counts) (scheduled : List ℕ → ℕ) (size : ℕ → ℕ) (frames : ℕ) (stop : TxStop) : Type 0 where
  pub made : ℕ
  pub within : made < frames * top_len shapes
  pub clear : IsClear mode shapes counts scheduled size made
  pub met : obstacle_at mode shapes counts scheduled size made ≡ Some stop

-- ---- within the tolerance

-- what stands in the way, if anything does, is neither an overflow nor an underflow of a store
abbrev pub IsNoEvent : Option TxStop → Type 0
IsNoEvent None = Unit {0}
IsNoEvent (Some (TxOverflow place)) = ⊥
IsNoEvent (Some (TxUnderflow place)) = ⊥
IsNoEvent (Some stop) = Unit {0}

-- A chain of at most three levels, of which all nodes that have stores read their tributaries evenly, is within the tolerance
-- over the frames that so many bits of its line begin.
pub record IsTolerated (shapes : List FrameShape) (counts : Counts) (bits : ℕ) : Type 0 where
  pub levels : length shapes ≤ 3
  pub frames : AreFrames shapes
  pub even : ReadEvenly shapes
  pub within : AllWithin shapes counts [] bits

-- ---- all frames

-- all frames were put, in whose way nothing stood: in plain mode no store met an event. Each leaf gave exactly the bits that these
-- frames take of it.
pub record Muxes (mode : Mode) (shapes : List FrameShape) (counts : Counts) (says : ℕ → Service) (scheduled : List ℕ → ℕ) (frames : ℕ) (inputs inputs_now : Inputs) (outputs outputs_now : Outputs) : Type 0 where
  pub line : PutsFrames mode shapes counts says frames inputs inputs_now outputs outputs_now
  pub given_is : (k : ℕ) → k < width shapes → inputs.left k ≡ given_below shapes counts [] (frames * top_len shapes) k + inputs_now.left k
  pub no_event : mode ≡ Plain → first_event shapes counts frames ≡ None
  pub clear : IsClear mode shapes counts scheduled inputs.left (frames * top_len shapes)

-- ---- why it stops

abbrev pub is_overflow : Kind → Bool
is_overflow Overflow = true
is_overflow Underflow = false

-- the place of an event, with its tributary counted from 1
abbrev pub place_of : Event → Place
place_of event = record { path = path_of event.path; trib = event.trib + 1; frame = event.frame; slot = event.slot }

-- some whole frames were put, fewer than so many, and nothing stood in their way
pub record PutsFewer (mode : Mode) (shapes : List FrameShape) (counts : Counts) (says : ℕ → Service) (scheduled : List ℕ → ℕ) (frames : ℕ) (inputs inputs_now : Inputs) (outputs outputs_now : Outputs) : Type 0 where
  pub whole : ℕ
  pub fewer : whole < frames
  pub line : PutsFrames mode shapes counts says whole inputs inputs_now outputs outputs_now
  pub gives : GivesFrames shapes counts whole line.given
  pub clear : IsClear mode shapes counts scheduled inputs.left (whole * top_len shapes)

-- this stands first in the way of a bit of so many frames, and all whole frames before that bit were put
pub record StopsFirst (mode : Mode) (shapes : List FrameShape) (counts : Counts) (says : ℕ → Service) (scheduled : List ℕ → ℕ) (frames : ℕ) (stop : TxStop) (inputs inputs_now : Inputs) (outputs outputs_now : Outputs) : Type 0 where
  pub obstacle : IsFirstObstacle mode shapes counts scheduled inputs.left frames stop
  pub put : PutsFewer mode shapes counts says scheduled frames inputs inputs_now outputs outputs_now
  pub begun : put.whole * top_len shapes ≤ obstacle.made
  pub within : obstacle.made < suc put.whole * top_len shapes

-- an overflow or an underflow of a store, at a place
abbrev pub stop_at : Bool → Place → TxStop
stop_at true place = TxOverflow place
stop_at false place = TxUnderflow place

-- The first event stands here. It is met in making this bit of the line, before which none is met, and the whole frames
-- before that bit were put.
pub record StopsAtEvent (shapes : List FrameShape) (counts : Counts) (says : ℕ → Service) (scheduled : List ℕ → ℕ) (frames : ℕ) (over : Bool) (place : Place) (inputs inputs_now : Inputs) (outputs outputs_now : Outputs) : Type 0 where
  pub event : Event
  pub first : first_event shapes counts frames ≡ Some event
  pub kind : over ≡ is_overflow event.kind
  pub place_is : place ≡ place_of event
  pub made : ℕ
  pub met : slice_get (events_in Plain shapes counts [] made) 0 ≡ Some event
  pub quiet : (x : ℕ) → x < made → events_in Plain shapes counts [] x ≡ []
  pub whole : ℕ
  pub begun : whole * top_len shapes ≤ made
  pub within : made < suc whole * top_len shapes
  pub line : PutsFrames Plain shapes counts says whole inputs inputs_now outputs outputs_now
  pub stops : StopsFirst Plain shapes counts says scheduled frames (stop_at over place) inputs inputs_now outputs outputs_now

-- some frames were made, in whose way nothing stood, and what was put is a prefix of them
pub record PutsPrefix (mode : Mode) (shapes : List FrameShape) (counts : Counts) (says : ℕ → Service) (scheduled : List ℕ → ℕ) (frames : ℕ) (inputs inputs_now : Inputs) (outputs outputs_now : Outputs) : Type 0 where
  pub made : ℕ
  pub upto : made ≤ frames
  pub given : ℕ → List Bool
  pub takes : Takes given inputs inputs_now
  pub others : (k : ℕ) → width shapes ≤ k → given k ≡ []
  pub exact : (k : ℕ) → k < width shapes → length (given k) ≡ given_below shapes counts [] (made * top_len shapes) k
  pub puts : (lists : ℕ → List Bool) → BeginWith (width shapes) given lists → PutsPart (as_line (frames_of_line mode shapes counts says lists made)) outputs outputs_now
  pub clear : IsClear mode shapes counts scheduled inputs.left (made * top_len shapes)

-- this node is the one at a path, which makes so many bits of its line, or one below it, and it begins more frames than are
-- scheduled
unfoldable pub LacksFrames : List FrameShape → Counts → (List ℕ → ℕ) → List ℕ → ℕ → List ℕ → Type 0
LacksFrames [] counts scheduled path x node = ⊥
LacksFrames (s ∷ below) counts scheduled path x node =
    ((node ≡ path) × (scheduled path < begun s x)) ⊎ ((j : ℕ) × (j < s.tribs) × LacksFrames below counts scheduled (child path j) (given s j (counts path j) x) node)

-- the same of a node below the top
abbrev pub LacksBelow : List FrameShape → Counts → (List ℕ → ℕ) → ℕ → List ℕ → Type 0
LacksBelow [] counts scheduled x node = ⊥
LacksBelow (s ∷ below) counts scheduled x node = (j : ℕ) × (j < s.tribs) × LacksFrames below counts scheduled (child [] j) (given s j (counts [] j) x) node

-- a node below the top has fewer frames than it begins by so many frames of the top
pub record StopsForFrame (shapes : List FrameShape) (counts : Counts) (scheduled : List ℕ → ℕ) (frames : ℕ) (node : Path) : Type 0 where
  pub steps : List ℕ
  pub node_is : node ≡ path_of steps
  pub lacks : LacksBelow shapes counts scheduled (frames * top_len shapes) steps

-- a leaf's list, which has fewer bits than these frames take of it, is used up
pub record StopsAtEnd (shapes : List FrameShape) (counts : Counts) (frames : ℕ) (leaf : ℕ) (inputs inputs_now : Inputs) : Type 0 where
  pub known : leaf < width shapes
  pub short : inputs.left leaf < given_below shapes counts [] (frames * top_len shapes) leaf
  pub used_up : inputs_now.left leaf ≡ 0

-- Why `mux` or `mux_slips` stops: memory was wanting, and nothing was taken or put; in plain mode the first event of a store; the
-- schedule has too few frames of a node below the top; a list is shorter than what the frames take of it; a call for bits failed; a
-- call that puts bits failed; in the other mode the log couldn't be told of a slip.
abbrev pub IsMuxStop : Mode → List FrameShape → Counts → (ℕ → Service) → (List ℕ → ℕ) → ℕ → Inputs → Inputs → Outputs → Outputs → ℕ → ℕ → ℕ → ℕ → MuxStop → Type 0
IsMuxStop mode shapes counts says scheduled frames inputs inputs_now outputs outputs_now reads reads_now writes writes_now Memory =
    (inputs_now ≡ inputs) × (outputs_now ≡ outputs)
IsMuxStop mode shapes counts says scheduled frames inputs inputs_now outputs outputs_now reads reads_now writes writes_now (MeetsEvent over place) =
    (mode ≡ Plain) × StopsAtEvent shapes counts says scheduled frames over place inputs inputs_now outputs outputs_now
IsMuxStop mode shapes counts says scheduled frames inputs inputs_now outputs outputs_now reads reads_now writes writes_now (NoFrame node) =
    StopsForFrame shapes counts scheduled frames node × StopsFirst mode shapes counts says scheduled frames (TxNoFrame node) inputs inputs_now outputs outputs_now
IsMuxStop mode shapes counts says scheduled frames inputs inputs_now outputs outputs_now reads reads_now writes writes_now (Ended leaf) =
    StopsAtEnd shapes counts frames leaf inputs inputs_now × StopsFirst mode shapes counts says scheduled frames (TxEnded leaf) inputs inputs_now outputs outputs_now
IsMuxStop mode shapes counts says scheduled frames inputs inputs_now outputs outputs_now reads reads_now writes writes_now ReadFailed =
    Rose reads reads_now × PutsFewer mode shapes counts says scheduled frames inputs inputs_now outputs outputs_now
IsMuxStop mode shapes counts says scheduled frames inputs inputs_now outputs outputs_now reads reads_now writes writes_now WriteFailed =
    Rose writes writes_now × PutsPrefix mode shapes counts says scheduled frames inputs inputs_now outputs outputs_now
IsMuxStop mode shapes counts says scheduled frames inputs inputs_now outputs outputs_now reads reads_now writes writes_now LogFailed =
    (mode ≡ Slipping) × PutsFewer mode shapes counts says scheduled frames inputs inputs_now outputs outputs_now

-- the port is fresh still where memory was wanting, and else ready, unless it refused to be started
abbrev pub IsLeftReady : (fresh ready refused : Type 0) → Result (Unit {0}) MuxStop → Type 0
IsLeftReady fresh ready refused (Ok done) = ready
IsLeftReady fresh ready refused (Err Memory) = fresh
IsLeftReady fresh ready refused (Err WriteFailed) = ready ⊎ refused
IsLeftReady fresh ready refused (Err stop) = ready

-- ---- the sender

-- how a stop of the sender ends `mux`
abbrev pub mux_stop : TxStop → MuxStop
mux_stop (TxOverflow place) = MeetsEvent true place
mux_stop (TxUnderflow place) = MeetsEvent false place
mux_stop (TxNoFrame node) = NoFrame node
mux_stop TxFailed = ReadFailed
mux_stop (TxEnded leaf) = Ended leaf
mux_stop TxLogFailed = LogFailed
