-- The nodes and leaves of a chain of nested multiplexers, and how far each has come. A chain is the list of the numbers of its
-- frames, from the top down. A node is named by its path: the numbers of the tributaries, from 1, on the way to it from the
-- top. Leaves are numbered from 0, in the order of their paths.
use Rattle.std.specs.Prelude.{ℕ, suc, ◌+◌, ◌-◌, ◌*◌, ◌/◌, ◌%◌, List, [], ◌∷◌, ◌++◌, map}
use Rattle.std.specs.List.{flat_map, range_with_len}
use Rattle.pdh_line.specs.Progress.{FrameNumbers, begun_by, taken_by, entered_by, short_by}

-- ---- nodes and leaves

-- the nodes in order: a node, and then those below each of its tributaries
abbrev pub nodes_of : List FrameNumbers → List (List ℕ)
nodes_of [] = []
nodes_of (frame ∷ below) = [] ∷ flat_map (λ step. map (λ path. step ∷ path) (nodes_of below)) (range_with_len 1 frame.tribs)

-- how many leaves are below a node of the first of these frames; below all frames stands a leaf
abbrev pub width : List FrameNumbers → ℕ
width [] = 1
width (frame ∷ below) = frame.tribs * width below

-- the path of the tributary of that number, from 0, of the node at a path
abbrev pub child : List ℕ → ℕ → List ℕ
child path j = path ++ suc j ∷ []

-- the path of the node of which a leaf is a tributary
abbrev pub leaf_node : List FrameNumbers → ℕ → List ℕ
leaf_node [] leaf = []
leaf_node (frame ∷ []) leaf = []
leaf_node (frame ∷ next ∷ below) leaf = suc (leaf / width (next ∷ below)) ∷ leaf_node (next ∷ below) (leaf % width (next ∷ below))

-- and which of the node's tributaries it is, from 0
abbrev pub leaf_trib : List FrameNumbers → ℕ → ℕ
leaf_trib [] leaf = leaf
leaf_trib (frame ∷ []) leaf = leaf
leaf_trib (frame ∷ next ∷ below) leaf = leaf_trib (next ∷ below) (leaf % width (next ∷ below))

-- the bits of a frame of the top
abbrev pub top_len : List FrameNumbers → ℕ
top_len [] = 0
top_len (frame ∷ below) = frame.len

-- ---- how far they have come, where the node at a path, which is of the first of these frames, has made x bits of its line

-- how many bits of each tributary, from 0, of the node at a path arrive in each of its frames
abbrev pub Counts : Type 0
Counts = List ℕ → ℕ → ℕ → ℕ

-- how many bits the node has made to which these steps lead from there
abbrev pub bits_at : List FrameNumbers → Counts → List ℕ → ℕ → List ℕ → ℕ
bits_at chain counts path x [] = x
bits_at [] counts path x (step ∷ steps) = 0
bits_at (frame ∷ below) counts path x (step ∷ steps) =
    bits_at below counts (path ++ step ∷ []) (taken_by frame (step - 1) (counts path (step - 1)) x) steps

-- how many frames it has begun
abbrev pub begun_at : List FrameNumbers → Counts → List ℕ → ℕ → List ℕ → ℕ
begun_at [] counts path x steps = 0
begun_at (frame ∷ below) counts path x [] = begun_by frame.len x
begun_at (frame ∷ below) counts path x (step ∷ steps) =
    begun_at below counts (path ++ step ∷ []) (taken_by frame (step - 1) (counts path (step - 1)) x) steps

-- how many bits leaf k below the node at the path has given
unfoldable pub given_at : List FrameNumbers → Counts → List ℕ → ℕ → ℕ → ℕ
given_at [] counts path x k = x
given_at (frame ∷ below) counts path x k =
    let j = k / width below in
    given_at below counts (child path j) (taken_by frame j (counts path j) x) (k % width below)

-- how many bits it enters: those of the frames that the leaf's own node has begun
unfoldable pub entered_at : List FrameNumbers → Counts → List ℕ → ℕ → ℕ → ℕ
entered_at [] counts path x k = x
entered_at (frame ∷ []) counts path x k = entered_by frame (counts path k) (begun_by frame.len x)
entered_at (frame ∷ next ∷ below) counts path x k =
    let j = k / width (next ∷ below) in
    entered_at (next ∷ below) counts (child path j) (taken_by frame j (counts path j) x) (k % width (next ∷ below))

-- ---- the delay

-- by how many bits a leaf is short, below a node that holds back so many frames: a node that is short by b bits holds back
-- the frames of these bits and four more
unfoldable pub delay_below : List FrameNumbers → ℕ → ℕ
delay_below [] frames = 0
delay_below (frame ∷ []) frames = short_by frame frames
delay_below (frame ∷ next ∷ below) frames = delay_below (next ∷ below) (short_by frame frames / next.len + 4)

-- the top holds back two frames
abbrev pub delay_of : List FrameNumbers → ℕ
delay_of chain = delay_below chain 2
