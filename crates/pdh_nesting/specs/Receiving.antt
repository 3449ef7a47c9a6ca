-- What comes back of a chain's line.
use Rattle.std.specs.Prelude.{ℕ, ◌/◌, ◌%◌, Bool, List, [], ◌∷◌}
use Rattle.pdh_shape.specs.Frame.{FrameShape}
use Rattle.pdh_line.specs.Sending.{front, given_back}
use Rattle.pdh_line.specs.Receiving.{received}
use Rattle.pdh_nesting.specs.Chains.{width}
use Rattle.pdh_line.specs.Nodes.{child, Counts}
use Rattle.pdh_nesting.specs.Sending.{Content, line_with}

-- what leaf k below a node receives, where this is the node's received line: a node's tributaries take what they receive as
-- their received lines
unfoldable pub far : List FrameShape → List Bool → ℕ → List Bool
far [] line k = line
far (s ∷ below) line k = far below (received s (k / width below) line) (k % width below)

-- what a leaf receives of the first x bits of the top's line with this content
abbrev pub comes_back : List FrameShape → Counts → Content → ℕ → ℕ → List Bool
comes_back chain counts content x leaf = far chain (front (line_with chain counts content) x) leaf

-- how many bits of leaf k below the node at a path come back of the first x bits of the node's line
unfoldable pub back_below : List FrameShape → Counts → List ℕ → ℕ → ℕ → ℕ
back_below [] counts path x k = x
back_below (s ∷ below) counts path x k =
    let j = k / width below in
    back_below below counts (child path j) (given_back s (counts path j) (x / s.len)) (k % width below)
