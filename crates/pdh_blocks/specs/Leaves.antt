-- Leaves and outputs one by one, and what a block more does to them.
use Rattle.std.specs.Prelude.{◌≡◌, ℕ, ◌+◌, ◌-◌, ◌*◌, ◌/◌, ◌%◌, ◌≤◌, true, Bool, List, [], length, min, take, drop, Some}
use Rattle.pdh_bits.specs.Bits.{bits_of, bytes_of}
use Rattle.pdh_edge.specs.Files.{ShelfState, Range, FailsToReadRange, Appends, FailsToAppend}
use Rattle.pdh_edge.specs.Files.Told.{Known}

-- how many bits a block has
abbrev pub block_bits : ℕ
block_bits = 32768

-- ---- a leaf

-- a leaf: the file of its source, how many of the file's first bits it has, how many of them were given, and those that were read and wait
pub record Leaf : Type 0 where
  pub name : List ℕ
  pub bits : ℕ
  pub given : ℕ
  pub waiting : List Bool

-- a leaf of which nothing was read
abbrev pub unread : List ℕ → ℕ → Leaf
unread name bits = record { name = name; bits = bits; given = 0; waiting = [] }

-- with these bits that wait
abbrev pub with_waiting : List Bool → Leaf → Leaf
with_waiting bits leaf = record leaf { waiting = bits }

-- after so many of the bits that wait were given
abbrev pub after_giving : ℕ → Leaf → Leaf
after_giving count leaf = record leaf { given = leaf.given + count; waiting = drop count leaf.waiting }

-- the bytes in which so many bits stand
abbrev pub bytes_for : ℕ → ℕ
bytes_for bits = (bits + 7) / 8

-- so many first bits of a file may be read
abbrev pub IsReadable : ShelfState → List ℕ → ℕ → Type 0
IsReadable shelf name bits = (at len : ℕ) → at + len ≤ bytes_for bits → shelf.readable name at len ≡ true

-- these bits are those of a leaf's file that come next
abbrev pub AreNext : Leaf → List Bool → List ℕ → Type 0
AreNext leaf bits bytes = bits ≡ take (length bits) (drop leaf.given (bits_of bytes))

-- the next block of a leaf was read, and waits
pub record IsBlockRead (shelf : ShelfState) (old new : Leaf) : Type 0 where
  pub leaf : new ≡ with_waiting new.waiting old
  pub count : length new.waiting ≡ min block_bits (old.bits - old.given)
  pub told : (bytes : List ℕ) → shelf.told old.name ≡ Known (Some bytes) → AreNext old new.waiting bytes

-- so many bytes of a file are the block behind the bits that were given
pub record IsNextBlock (given : ℕ) (range : Range) : Type 0 where
  pub start : 8 * range.at ≡ given
  pub whole : range.at % 4096 ≡ 0
  pub short : range.len ≤ 4096

-- the call for a leaf's next block failed
pub record IsBlockUnread (leaf : Leaf) (shelf after : ShelfState) : Type 0 where
  pub range : Range
  pub block : IsNextBlock leaf.given range
  pub fails : FailsToReadRange leaf.name range shelf after

-- ---- an output

-- an output: its file, and the bits that wait to be appended to it
pub record Output : Type 0 where
  pub name : List ℕ
  pub waiting : List Bool

-- with these bits that wait
abbrev pub to_wait : List Bool → Output → Output
to_wait bits output = record output { waiting = bits }

-- the bits behind the whole bytes of bits
abbrev pub past_bytes : List Bool → List Bool
past_bytes bits = drop (8 * (length bits / 8)) bits

-- the whole bytes that waited were appended
pub record IsAppended (old new : Output) (shelf after : ShelfState) : Type 0 where
  pub file : Appends old.name (bytes_of old.waiting) shelf after
  pub rest : new ≡ to_wait (past_bytes old.waiting) old

-- a prefix of them was, and nothing waits any more
pub record IsEmptied (old new : Output) (shelf after : ShelfState) : Type 0 where
  pub file : FailsToAppend old.name (bytes_of old.waiting) shelf after
  pub rest : new ≡ to_wait [] old
