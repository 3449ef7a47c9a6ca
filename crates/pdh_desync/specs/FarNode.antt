-- A node of far stores: what its stores hold after the pieces that each tributary got, what its leaves have got, and its state.
use Rattle.std.specs.Prelude.{◌≡◌, ◌⊎◌, ℕ, suc, ◌+◌, ◌-◌, ◌^◌, ◌<◌, ◌≤◌, ◌||◌, Bool, true, nat_lt, if◌then◌else◌, List, [], ◌∷◌, ◌++◌, length, map, slice_get, Some, replicate, flat_map, ◌==◌}
use Rattle.pdh_shape.specs.Frame.{FrameShape}
use Rattle.pdh_shape.specs.Tributary.{stripped}
use Rattle.pdh_edge.specs.Ports.{Outputs}
use Rattle.pdh_edge.specs.Leaves.{HaveLists}
use Rattle.pdh_align.specs.declared.step.Step.{Step}
use Rattle.pdh_align.specs.declared.step.Step.TheVariants.{Rejected, Aligned, Frame as FrameStep}
use Rattle.pdh_rx.specs.Meaning.{Meaning, Gains, GainsPart}
use Rattle.pdh_rx.specs.Node.{NodeTracks, node_meaning}
use Rattle.pdh_desync.specs.declared.leaves.Leaves.{Leaves}
use Rattle.pdh_desync.specs.FarStore.{FarPiece, pieces_of}
use Rattle.pdh_desync.specs.FarStore.FarPiece.{Ones, Frame}
use Rattle.pdh_desync.specs.Held.{Held}
use Rattle.pdh_desync.specs.States.{Stores, FarState}
use Rattle.pdh_desync.specs.FarHolds.{FarHolds, smooth_of, marks_of}
use Rattle.pdh_desync.specs.Smooth.{is_from, mute_meaning, smooth_meaning}

-- ---- pieces

-- the bits that a piece brings to tributary j
abbrev pub far_bits : FrameShape → ℕ → FarPiece → List Bool
far_bits s j Ones = replicate s.low true
far_bits s j (Frame frame) = stripped s j frame

abbrev pub bits_of : FrameShape → ℕ → List FarPiece → List Bool
bits_of s j pieces = flat_map (far_bits s j) pieces

-- the piece that is loaded: the ones of a gap, or a frame
abbrev pub piece_of : Bool → List Bool → FarPiece
piece_of gap frame = (if gap then Ones else Frame frame)

-- what a step of the alignment machine brings, where so many positions of a gap are passed over now since its last whole
-- frame's length
abbrev pub far_steps : Step → List (List Bool) → ℕ → List FarPiece
far_steps Rejected ready gap = (if gap == 0 then Ones ∷ [] else [])
far_steps Aligned ready gap = map Frame ready
far_steps FrameStep ready gap = map Frame ready
far_steps _ ready gap = []

-- further pieces for each tributary
abbrev pub and_pieces : (ℕ → List FarPiece) → (ℕ → List FarPiece) → ℕ → List FarPiece
and_pieces pieces more j = pieces j ++ more j

-- these pieces for one tributary, and for the first ones
abbrev pub for_trib : ℕ → List FarPiece → ℕ → List FarPiece
for_trib trib pieces j = (if j == trib then pieces else [])

abbrev pub first_pieces : List FarPiece → ℕ → ℕ → List FarPiece
first_pieces pieces tribs j = (if nat_lt j tribs then pieces else [])

-- ---- stores and leaves

-- each store got its tributary's pieces
abbrev pub FarEach : FrameShape → List Held → (ℕ → List FarPiece) → Type 0
FarEach s stores pieces = (j : ℕ) (held : Held) → j < s.tribs → slice_get stores j ≡ Some held → FarHolds s j (pieces j) (bits_of s j (pieces j)) held

abbrev pub far_leaves : FrameShape → Leaves → ℕ → Bool
far_leaves s leaves k = is_from leaves.first s.tribs k || is_from leaves.marks s.tribs k

-- no leaf gets both, and their numbers are ones that leaves have
pub record FarLeaves (s : FrameShape) (leaves : Leaves) : Type 0 where
  pub first_inside : leaves.first + s.tribs ≤ 2 ^ 32
  pub marks_inside : leaves.marks + s.tribs ≤ 2 ^ 32
  pub apart : (leaves.first + s.tribs ≤ leaves.marks) ⊎ (leaves.marks + s.tribs ≤ leaves.first)

-- one store for each tributary, leaves for them, and room for what comes out of one by a piece
pub record AreStores (s : FrameShape) (held : List Held) (leaves : Leaves) (room : ℕ) : Type 0 where
  pub count : length held ≡ s.tribs
  pub leaves_are : FarLeaves s leaves
  pub room_is : suc s.low ≤ room

-- what a leaf has got, where the tributaries got these pieces
abbrev pub far_got : FrameShape → Leaves → (ℕ → List FarPiece) → ℕ → List Bool
far_got s leaves pieces k =
    (if is_from leaves.first s.tribs k then smooth_of s (k - leaves.first) (pieces (k - leaves.first)) (bits_of s (k - leaves.first) (pieces (k - leaves.first)))
    else (if is_from leaves.marks s.tribs k then marks_of s (k - leaves.marks) (pieces (k - leaves.marks)) else []))

-- ---- calls that give them pieces

-- they can take pieces: each store got some, and each leaf has a list
pub record AreReady (s : FrameShape) (stores : Stores) (outputs : Outputs) : Type 0 where
  pub pieces : ℕ → List FarPiece
  pub each : FarEach s stores.held pieces
  pub lists : HaveLists (far_leaves s stores.leaves) outputs.holds

-- each tributary got these pieces more, and what leaves got by that was put to their lists
pub record FarGives (s : FrameShape) (more : ℕ → List FarPiece) (old new : Stores) (before after : Outputs) : Type 0 where
  pub same : new.leaves ≡ old.leaves
  pub each : (pieces : ℕ → List FarPiece) → FarEach s old.held pieces → FarEach s new.held (and_pieces pieces more)
  pub gains : (pieces : ℕ → List FarPiece) → FarEach s old.held pieces → Gains (far_got s old.leaves pieces) (far_got s old.leaves (and_pieces pieces more)) before after

-- the same where a call failed: a prefix was put
pub record FarGivesPart (s : FrameShape) (more : ℕ → List FarPiece) (old : Stores) (before after : Outputs) : Type 0 where
  pub gains : (pieces : ℕ → List FarPiece) → FarEach s old.held pieces → GainsPart (far_got s old.leaves pieces) (far_got s old.leaves (and_pieces pieces more)) before after

-- ---- the node

-- children that take bits and put none, one for each tributary
abbrev pub quiet : FrameShape → List (Unit {0})
quiet s = replicate s.tribs tt

-- the state after these received bits: its aligner is a demultiplexer's, and each store got the line's pieces
pub record SmoothStands (s : FrameShape) (state : FarState) (line : List Bool) : Type 0 where
  pub node : NodeTracks (λ (c : Unit {0}) line. Unit {0}) (λ c. mute_meaning) s (quiet s) state.aligner state.gap state.frames line
  pub each : FarEach s state.stores.held (λ j. pieces_of s line)

-- what its leaves get, and what it notes
abbrev pub far_meaning : FrameShape → FarState → Meaning
far_meaning s state = smooth_meaning s state.path state.stores.leaves.first state.stores.leaves.marks

-- it can take bits: it stands for a line, and each leaf has a list
pub record IsReady (s : FrameShape) (state : FarState) (outputs : Outputs) : Type 0 where
  pub line : List Bool
  pub stands : SmoothStands s state line
  pub lists : HaveLists (far_leaves s state.stores.leaves) outputs.holds

-- it has its place and its leaves still
pub record KeepsPlace (old new : FarState) : Type 0 where
  pub path : new.path ≡ old.path
  pub leaves : new.stores.leaves ≡ old.stores.leaves

-- beside it stands what notes its events: a demultiplexer at its place, with this meaning, whose children note nothing
pub record WatchedStands (s : FrameShape) (events : List Bool → Type 0) (meaning : Meaning) (state : FarState) (line : List Bool) : Type 0 where
  pub far : SmoothStands s state line
  pub noting : events line
  pub meaning_is : meaning ≡ node_meaning s state.path (replicate s.tribs mute_meaning)
