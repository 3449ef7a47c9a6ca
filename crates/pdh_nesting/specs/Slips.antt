-- The slips of a chain whose stores slip and go on, and what its leaves get then.
use Rattle.std.specs.Prelude.{◌≡◌, ℕ, ◌*◌, ◌/◌, ◌%◌, Bool, true, false, ◌==◌, ◌&&◌, List, [], ◌∷◌, All}
use Rattle.pdh_shape.specs.Frame.{FrameShape}
use Rattle.pdh_line.specs.Edits.{Edit, edited_list}
use Rattle.pdh_line.specs.Sending.Mode.{Slipping}
use Rattle.pdh_line.specs.Sending.{start_of, edits_to, given, frames_found, given_back}
use Rattle.pdh_line.specs.Events.{Event}
use Rattle.pdh_line.specs.Nodes.{child, leaf_node, Counts}
use Rattle.pdh_nesting.specs.Chains.{numbers_of, width, top_len}
use Rattle.pdh_nesting.specs.Events.{events_below}

-- all slips in so many frames of the top, in the order in which the chain meets them
abbrev pub slips_of : List FrameShape → Counts → ℕ → List Event
slips_of chain counts frames = events_below Slipping chain counts (frames * top_len chain)

-- ---- what slips leave of a leaf's bits

-- the edits of leaf k below the node at a path, which has made x bits of its line: those of the slips of the leaf's own store
unfoldable pub leaf_edits : List FrameShape → Counts → List ℕ → ℕ → ℕ → List Edit
leaf_edits [] counts path x k = []
leaf_edits (s ∷ []) counts path x k = edits_to s k (counts path k) (x / s.len) (x % s.len)
leaf_edits (s ∷ next ∷ below) counts path x k =
    let j = k / width (next ∷ below) in
    leaf_edits (next ∷ below) counts (child path j) (given s j (counts path j) x) (k % width (next ∷ below))

-- a leaf's bits with these edits, where the top has made so many bits of its line
abbrev pub slipped : List FrameShape → Counts → ℕ → ℕ → List Bool → List Bool
slipped chain counts x leaf bits = edited_list (leaf_edits chain counts [] x leaf) bits

-- ---- leaves below nodes that don't slip

-- the second path begins with the first
abbrev pub begins_path : List ℕ → List ℕ → Bool
begins_path [] path = true
begins_path (step ∷ steps) [] = false
begins_path (step ∷ steps) (other ∷ path) = (step == other) && begins_path steps path

-- a slip is that of a node on the way to this one, or of the node itself: as a tributary of the node above it
abbrev pub is_above : Event → List ℕ → Bool
is_above slip node = begins_path (child slip.path slip.trib) node

-- no node on the way from the top to a leaf has one of these slips; the leaf itself may have some
abbrev pub NoneAbove : List FrameShape → List Event → ℕ → Type 0
NoneAbove chain slips leaf = All (λ slip. is_above slip (leaf_node (numbers_of chain) leaf) ≡ false) slips

-- how many bits of such a leaf k come back of the first x bits of the line of the node at a path
unfoldable pub slipped_back : List FrameShape → Counts → List ℕ → ℕ → ℕ → ℕ
slipped_back [] counts path x k = x
slipped_back (s ∷ []) counts path x k = (start_of s k (counts path k) (frames_found (x / s.len))).sent
slipped_back (s ∷ next ∷ below) counts path x k =
    let j = k / width (next ∷ below) in
    slipped_back (next ∷ below) counts (child path j) (given_back s (counts path j) (x / s.len)) (k % width (next ∷ below))
