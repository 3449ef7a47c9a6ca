-- How far a node has come that made x bits of its line, by the numbers of its frame: how many frames it has begun, and how
-- many bits of a tributary it has taken. Schedules and lines stand on the same definitions.
use Rattle.std.specs.Prelude.{ℕ, suc, ◌+◌, ◌*◌, ◌/◌, ◌%◌, ◌==◌, if◌then◌else◌, sum_by}
use Rattle.std.specs.List.{range_with_len}
use Rattle.pdh_shape.specs.OwnNumbers.{lead, allowance}

-- how the bits of its tributaries come into a node
pub data Stores : Type 0 where
  -- Through an elastic store for each, which takes a lead before the node's first bit.
  Elastic : Stores
  -- Without stores, each as a slot reads it: so many slots below a slot of a frame read a tributary.
  Locked : (ℕ → ℕ → ℕ) → Stores

-- the numbers of a node's frame: its slots and tributaries, the least bits of a tributary that it carries, and the stores
pub record FrameNumbers : Type 0 where
  pub len : ℕ
  pub tribs : ℕ
  pub low : ℕ
  pub stores : Stores

-- one of two values, by whether there are stores
abbrev pub by_stores : {X : Type 0} → Stores → X → ((ℕ → ℕ → ℕ) → X) → X
by_stores Elastic elastic locked = elastic
by_stores (Locked reads) elastic locked = locked reads

-- how many tributaries have a store, and so a count in each frame
abbrev pub stores_of : FrameNumbers → ℕ
stores_of frame = by_stores frame.stores frame.tribs (λ reads. 0)

-- ---- what arrives at the stores, by how many bits of a tributary arrive in each frame

-- how many bits arrive in the first n frames
unfoldable pub arrived : (ℕ → ℕ) → ℕ → ℕ
arrived counts n = sum_by counts (range_with_len 0 n)

-- how many of a frame's bits have arrived before slot t: they are spread evenly over the frame
abbrev pub arrived_by : ℕ → ℕ → ℕ → ℕ
arrived_by len count t = t * count / len

-- how many bits came into a store before slot t of frame n, the lead among them
abbrev pub came_by : ℕ → (ℕ → ℕ) → ℕ → ℕ → ℕ
came_by len counts n t = lead + arrived counts n + arrived_by len (counts n) t

-- ---- a node that made x bits of its line

-- how many frames it has begun
abbrev pub begun_by : ℕ → ℕ → ℕ
begun_by len x = (if x % len == 0 then x / len else suc (x / len))

-- how many bits of tributary j it has taken: into a store none before its first bit
abbrev pub taken_by : FrameNumbers → ℕ → (ℕ → ℕ) → ℕ → ℕ
taken_by frame j counts x =
    by_stores frame.stores (if x == 0 then 0 else came_by frame.len counts (x / frame.len) (x % frame.len))
    (λ reads. x / frame.len * frame.low + reads j (x % frame.len))

-- how many bits of a tributary the begun frames take by their ends: into a store none where no frame is begun
abbrev pub entered_by : FrameNumbers → (ℕ → ℕ) → ℕ → ℕ
entered_by frame counts frames =
    by_stores frame.stores (if frames == 0 then 0 else lead + arrived counts frames) (λ reads. frames * frame.low)

-- ---- the delay

-- by how many bits a node that holds back so many frames keeps a tributary short
abbrev pub short_by : FrameNumbers → ℕ → ℕ
short_by frame frames = by_stores frame.stores (lead + allowance) (λ reads. 0) + frames * suc frame.low
