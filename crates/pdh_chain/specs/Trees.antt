-- Whole chains of senders and of receivers.
use Rattle.std.specs.Prelude.{◌≡◌, true, ℕ, ◌+◌, ◌*◌, ◌==◌, List, [], ◌∷◌, map}
use Rattle.std.specs.List.{range_with_len}
use Rattle.pdh_shape.specs.declared.place.Path.{Path}
use Rattle.pdh_shape.specs.declared.place.Level.{Level}
use Rattle.pdh_shape.specs.Frame.{FrameShape}
use Rattle.pdh_events.specs.Chain.{child_path}
use Rattle.pdh_levels.specs.Levels.{numbers_of as numbers_in}
use Rattle.pdh_line.specs.Sending.{shape_numbers}
use Rattle.pdh_nesting.specs.Chains.{width, numbers_of}
use Rattle.pdh_tx.specs.Meaning.{Meaning as Sends, HasNumbers}
use Rattle.pdh_tx.specs.Leaf.{leaf_meaning}
use Rattle.pdh_tx.specs.Locked.{multiplexer_of}
use Rattle.pdh_rx.specs.Meaning.{Meaning as Receives}
use Rattle.pdh_rx.specs.Tail.{tail_meaning}
use Rattle.pdh_rx.specs.Node.{node_meaning as demultiplexer_of}

-- the nodes of a shape have no stores, since it has no control copies
abbrev pub HasNoStores : FrameShape → Type 0
HasNoStores s = (s.copies == 0) ≡ true

-- what a chain's sender means, where its own node stands at a path and its leaves are numbered from `first`
unfoldable pub sender_of : List FrameShape → Path → ℕ → Sends
sender_of [] path first = leaf_meaning first
sender_of (s ∷ below) path first = multiplexer_of s path (map (λ j. sender_of below (child_path path j) (first + j * width below)) (range_with_len 0 s.tribs))

-- what the first n tributaries of such a node mean
abbrev pub senders_below : List FrameShape → Path → ℕ → ℕ → List Sends
senders_below below path first n = map (λ j. sender_of below (child_path path j) (first + j * width below)) (range_with_len 0 n)

-- what a chain's receiver means
unfoldable pub receiver_of : List FrameShape → Path → ℕ → Receives
receiver_of [] path first = tail_meaning first
receiver_of (s ∷ below) path first = demultiplexer_of s path (map (λ j. receiver_of below (child_path path j) (first + j * width below)) (range_with_len 0 s.tribs))

-- The levels are those of these frames: the top's has its numbers, and those below it stand for the same numbers as theirs. A
-- level doesn't tell its slots, so a top without stores needs no more than to have none.
abbrev pub AreLevelsOf : List FrameShape → List Level → Type 0
AreLevelsOf [] levels = levels ≡ []
AreLevelsOf (s ∷ below) [] = ⊥
AreLevelsOf (s ∷ below) (level ∷ rest) = HasNumbers level (shape_numbers s) × (numbers_of below ≡ numbers_in rest)
