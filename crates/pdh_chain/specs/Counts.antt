-- What the nodes of a chain count of its line.
use Rattle.std.specs.Prelude.{Bool, List, [], ◌∷◌, flat_map}
use Rattle.std.specs.List.{range_with_len}
use Rattle.pdh_shape.specs.declared.place.Path.{Path}
use Rattle.pdh_shape.specs.Frame.{FrameShape}
use Rattle.pdh_line.specs.Receiving.{received}
use Rattle.pdh_events.specs.Chain.{child_path}
use Rattle.pdh_rx.specs.declared.counts.NodeCounts.{NodeCounts}
use Rattle.pdh_rx.specs.Node.{counts_of}

-- What each node counts of its received line, by the frames from the one at this path down, whose received line this is: itself
-- first, and then those below it, one tributary after another. Leaves count nothing.
unfoldable pub node_counts : List FrameShape → Path → List Bool → List NodeCounts
node_counts [] path line = []
node_counts (s ∷ below) path line = counts_of s path line ∷ flat_map (λ j. node_counts below (child_path path j) (received s j line)) (range_with_len 0 s.tribs)
