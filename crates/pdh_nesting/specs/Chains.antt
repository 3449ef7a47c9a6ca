-- Chains of nested multiplexers, with stores and without. A chain is the list of the frames of its levels, from the top down.
use Rattle.std.specs.Prelude.{ℕ, List, [], ◌∷◌, map}
use Rattle.pdh_shape.specs.Frame.{FrameShape, IsFrame}
use Rattle.pdh_shape.specs.Tributary.{HasTributaries, ReadsEvenly}
use Rattle.pdh_line.specs.Progress.{FrameNumbers}
use Rattle.pdh_line.specs.Nodes.{width as width_of, top_len as top_len_of}
use Rattle.pdh_line.specs.Sending.{HasStores, shape_numbers}

-- the numbers of the frames of its levels
abbrev pub numbers_of : List FrameShape → List FrameNumbers
numbers_of chain = map shape_numbers chain

-- how many leaves are below a node of the first of these levels
abbrev pub width : List FrameShape → ℕ
width chain = width_of (numbers_of chain)

-- the bits of a frame of the top
abbrev pub top_len : List FrameShape → ℕ
top_len chain = top_len_of (numbers_of chain)

-- each level's frame has slots and tributaries as a frame must have
abbrev pub AreFrames : List FrameShape → Type 0
AreFrames [] = Unit {0}
AreFrames (s ∷ below) = IsFrame s × HasTributaries s × AreFrames below

-- each level whose nodes have stores reads its tributaries evenly
abbrev pub ReadEvenly : List FrameShape → Type 0
ReadEvenly [] = Unit {0}
ReadEvenly (s ∷ below) = (HasStores s → ReadsEvenly s) × ReadEvenly below

-- the tributaries of each level have stores
abbrev pub AllStores : List FrameShape → Type 0
AllStores [] = Unit {0}
AllStores (s ∷ below) = HasStores s × AllStores below
