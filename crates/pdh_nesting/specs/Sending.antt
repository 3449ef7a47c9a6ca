-- What a chain sends, and how far it has come.
use Rattle.std.specs.Prelude.{◌≡◌, ℕ, ◌+◌, ◌*◌, ◌<◌, ◌≤◌, Bool, false, List, [], ◌∷◌, ◌++◌, All}
use Rattle.std.specs.List.{slice_index_or}
use Rattle.pdh_shape.specs.declared.role.Service.{Service as Say}
use Rattle.pdh_shape.specs.Frame.{FrameShape, idle}
use Rattle.pdh_line.specs.Sending.Mode.{Plain}
use Rattle.pdh_line.specs.Sending.{HasStores, Mode, line_bit, begun, given}
use Rattle.pdh_line.specs.Tolerance.{IsWithin}
use Rattle.pdh_line.specs.Nodes.{nodes_of, begun_at, Counts, child, given_at, entered_at, delay_of}
use Rattle.pdh_nesting.specs.Chains.{numbers_of, width}

-- ---- the line

-- Bit x of the line of the node at a path, of which the leaves are numbered from `first`: each tributary's bits are those
-- of the line below it, or of the leaf. All nodes are of one mode. `says` is what the service bits of its own frames say; those of
-- the nodes below are idle.
unfoldable pub chain_line : Mode → List FrameShape → Counts → (ℕ → ℕ → Bool) → (ℕ → Say) → List ℕ → ℕ → ℕ → Bool
chain_line mode [] counts bits says path first x = bits first x
chain_line mode (s ∷ below) counts bits says path first x =
    line_bit s (record { mode = mode; counts = counts path; inputs = λ j. chain_line mode below counts bits (λ n. idle) (child path j) (first + j * width below); says = says }) x

-- ---- how far a chain has come, where the node at a path has made x bits of its line

-- how many bits leaf k below it has given
abbrev pub given_below : List FrameShape → Counts → List ℕ → ℕ → ℕ → ℕ
given_below chain = given_at (numbers_of chain)

-- how many bits leaf k below it enters: those of the frames that the leaf's own node has begun
abbrev pub entered_below : List FrameShape → Counts → List ℕ → ℕ → ℕ → ℕ
entered_below chain = entered_at (numbers_of chain)

-- ---- what a chain carries

-- the bits of the leaves, and what the service bits of the top's frames say
pub record Content : Type 0 where
  pub bits : ℕ → ℕ → Bool
  pub says : ℕ → Say

-- lists of bits as the leaves; a place past a list's end has the bit 0, which no line carries whose lists hold what it takes
abbrev pub content_of : (ℕ → List Bool) → (ℕ → Say) → Content
content_of lists says = record { bits = λ leaf i. slice_index_or (lists leaf) i false; says = says }

-- the top's line of a mode with this content
abbrev pub line_in : Mode → List FrameShape → Counts → Content → ℕ → Bool
line_in mode chain counts content = chain_line mode chain counts content.bits content.says [] 0

-- that of plain mode, which an event of a store ends
abbrev pub line_with : List FrameShape → Counts → Content → ℕ → Bool
line_with = line_in Plain

-- how many frames of the top are begun where x bits of its line are made
abbrev pub top_begun : List FrameShape → ℕ → ℕ
top_begun [] x = 0
top_begun (s ∷ below) x = begun s x

-- two contents are the same in all that making the first x bits of the top's line takes
pub record Agree (chain : List FrameShape) (counts : Counts) (x : ℕ) (a b : Content) : Type 0 where
  -- the bits that each leaf has given,
  pub bits : (leaf i : ℕ) → leaf < width chain → i < given_below chain counts [] x leaf → a.bits leaf i ≡ b.bits leaf i
  -- and the service bits of the frames that are begun
  pub says : (n : ℕ) → n < top_begun chain x → a.says n ≡ b.says n

-- ---- the tolerance

-- each tributary that has a store, of the node at a path or of a node below it, is within the tolerance over the frames that
-- its node has begun
unfoldable pub AllWithin : List FrameShape → Counts → List ℕ → ℕ → Type 0
AllWithin [] counts path x = Unit {0}
AllWithin (s ∷ below) counts path x =
    (j : ℕ) → j < s.tribs → (HasStores s → IsWithin s (counts path j) (begun s x)) × AllWithin below counts (child path j) (given s j (counts path j) x)

-- ---- a schedule: how many frames each node has at most

-- the node at a path, and each node below it, has at least the frames that it has begun
abbrev pub AllScheduled : List FrameShape → Counts → (List ℕ → ℕ) → List ℕ → ℕ → Type 0
AllScheduled chain counts frames path x = All (λ steps. begun_at (numbers_of chain) counts path x steps ≤ frames (path ++ steps)) (nodes_of (numbers_of chain))

-- each tributary of these nodes that has a store is within the tolerance over all frames that its node has
unfoldable pub AllTolerated : List FrameShape → Counts → (List ℕ → ℕ) → List ℕ → Type 0
AllTolerated [] counts frames path = Unit {0}
AllTolerated (s ∷ below) counts frames path =
    (j : ℕ) → j < s.tribs → (HasStores s → IsWithin s (counts path j) (frames path)) × AllTolerated below counts frames (child path j)

-- ---- arrivals that fit the slots

-- in each frame that a node with stores at or below a path has begun, no more bits of a tributary arrive than the frame has
-- slots: so at most one arrives in a slot
unfoldable pub ArriveSingly : List FrameShape → Counts → List ℕ → ℕ → Type 0
ArriveSingly [] counts path x = Unit {0}
ArriveSingly (s ∷ below) counts path x =
    (j : ℕ) → j < s.tribs → (HasStores s → (n : ℕ) → n < begun s x → counts path j n ≤ s.len) × ArriveSingly below counts (child path j) (given s j (counts path j) x)

-- ---- the delay

-- by how many bits of a leaf what is received is behind what arrived at most, within the tolerance
abbrev pub delay : List FrameShape → ℕ
delay chain = delay_of (numbers_of chain)
