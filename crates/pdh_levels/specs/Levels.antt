-- The levels of a chain of multiplexers, from the top, as the code has them.
use Rattle.std.specs.Prelude.{◌≡◌, ℕ, suc, ◌+◌, ◌-◌, ◌*◌, ◌≤◌, ◌&&◌, ◌<◌, true, false, nat_le, if◌then◌else◌, List, [], ◌∷◌, length, map, drop, All, Option, Some, None}
use Rattle.std.specs.Option.{option_map_or}
use Rattle.pdh_shape.specs.declared.place.Level.{Level}
use Rattle.pdh_line.specs.Progress.{FrameNumbers, stores_of}
use Rattle.pdh_line.specs.Progress.Stores.{Elastic, Locked}
use Rattle.pdh_line.specs.Nodes.{nodes_of}

-- the numbers of a level's frame; a level doesn't tell its slots, so where it has no stores they serve for whole frames alone
abbrev pub level_numbers : Level → FrameNumbers
level_numbers level = record { len = level.len; tribs = level.tribs; low = level.low; stores = (if level.locked then Locked (λ j t. 0) else Elastic) }

-- the chain that has these levels
abbrev pub numbers_of : List Level → List FrameNumbers
numbers_of levels = map level_numbers levels

-- its nodes in order: a node, and then those below each of its tributaries
abbrev pub nodes_in : List Level → List (List ℕ)
nodes_in levels = nodes_of (numbers_of levels)

-- What is fixed of all levels: limits of this project's own, which each stage of a chain is tested against. The bits of the
-- shortest frame and of the longest one:
abbrev pub shortest_frame : ℕ
shortest_frame = 848

abbrev pub longest_frame : ℕ
longest_frame = 4760

-- and the fewest and the most tributaries of a node; the code has the most in `src/bounds.rt`
abbrev pub fewest_tributaries : ℕ
fewest_tributaries = 4

abbrev pub most_tributaries : ℕ
most_tributaries = 7

-- A level keeps within these numbers. So a row with counts has 11 bytes or more, the sums of a text stay below 2^64, and a
-- node makes few frames more than the one above it.
pub record IsLevel (level : Level) : Type 0 where
  pub shortest : shortest_frame ≤ level.len
  pub longest : level.len ≤ longest_frame
  pub fewest : fewest_tributaries ≤ level.tribs
  pub most : level.tribs ≤ most_tributaries
  -- where no store stands between, a node makes fewer bits than the one above it
  pub carried : level.locked ≡ true → level.low < level.len

-- the nodes of a level have an elastic store for each tributary
abbrev pub IsElastic : Level → Type 0
IsElastic level = level.locked ≡ false

-- the levels of a chain, from the top
pub record AreLevels (levels : List Level) : Type 0 where
  pub some : 1 ≤ length levels
  pub few : length levels ≤ 3
  pub each : All IsLevel levels
  -- only the top may be without stores
  pub stores_below : All IsElastic (drop 1 levels)

-- the level of the node at a path, where there is one: each step is the number of a tributary, from 1
abbrev pub level_at : List Level → List ℕ → Option Level
level_at [] path = None
level_at (level ∷ below) [] = Some level
level_at (level ∷ below) (step ∷ path) = if nat_le 1 step && nat_le step level.tribs then level_at below path else None

-- how many tributaries of a node of this level have a store, and so a count in each frame
abbrev pub level_stores : Level → ℕ
level_stores level = stores_of (level_numbers level)

-- the same of the node at a path, or 0 where there is none
abbrev pub stores_at : List Level → List ℕ → ℕ
stores_at levels path = option_map_or level_stores (level_at levels path) 0

-- the bits of a frame of the node at a path
abbrev pub len_at : List Level → List ℕ → ℕ
len_at levels path = option_map_or (λ level. level.len) (level_at levels path) 0

-- the least bits of a tributary that a frame of the node at a path carries, or 0 where there is none
abbrev pub low_at : List Level → List ℕ → ℕ
low_at levels path = option_map_or (λ level. level.low) (level_at levels path) 0

-- how many nodes a chain with these levels has: its top, and those below each of the top's tributaries
abbrev pub size_of : List Level → ℕ
size_of [] = 0
size_of (level ∷ below) = suc (level.tribs * size_of below)

-- how many nodes stand before the node at a path
abbrev pub place_of : List Level → List ℕ → ℕ
place_of (level ∷ below) (step ∷ path) = suc ((step - 1) * size_of below + place_of below path)
place_of _ _ = 0
