-- What a shelf of files and a sink of bytes tell and count, and what their calls do to it.
use Rattle.std.specs.Prelude.{◌≡◌, ◌⊎◌, ℕ, ◌+◌, ◌^◌, ◌-◌, ◌≤◌, min, List, [], ◌++◌, length, take, drop, Bool, true, false, if◌then◌else◌, Option, Some, None, is_none}
use Rattle.std.specs.Option.{option_map}
use Rattle.pdh_edge.specs.declared.shelf.Call.{Call}
use Rattle.pdh_edge.specs.declared.shelf.Call.TheVariants.{Read, Start, Append}
use Rattle.pdh_edge.specs.Counts.{one_more}

-- what is told of a file: nothing; or that it isn't held (None), or its bytes
pub data Told : Type 0 where
  Untold : Told
  Known : Option (List ℕ) → Told

-- where a file is told, this holds of it
abbrev pub WhereTold : Told → (Option (List ℕ) → Type 0) → Type 0
WhereTold told P = (held : Option (List ℕ)) → told ≡ Known held → P held

-- where a file is told, it is held with these bytes
abbrev pub Holds : Told → List ℕ → Type 0
Holds told bytes = WhereTold told (λ held. held ≡ Some bytes)

-- where a file is told, it is held with a prefix of these bytes
abbrev pub HoldsPrefix : Told → List ℕ → Type 0
HoldsPrefix told bytes = (n : ℕ) × Holds told (take n bytes)

-- a count rose: it is greater than before, or stands at the end of its type
abbrev pub Rose : ℕ → ℕ → Type 0
Rose before now = min (before + 1) (2 ^ 64 - 1) ≤ now

-- ---- a shelf

-- how many calls of a shelf failed to read, how many failed to write, and how often a file wasn't there
pub record Counts : Type 0 where
  pub read_faults : ℕ
  pub write_faults : ℕ
  pub misses : ℕ

-- with one more of each kind
abbrev pub with_read_fault : Counts → Counts
with_read_fault counts = record counts { read_faults = one_more counts.read_faults }

abbrev pub with_write_fault : Counts → Counts
with_write_fault counts = record counts { write_faults = one_more counts.write_faults }

abbrev pub with_miss : Counts → Counts
with_miss counts = record counts { misses = one_more counts.misses }

-- a call that failed: its kind, and the name that it was called with
pub record FailedCall : Type 0 where
  pub call : Call
  pub name : List ℕ

-- so many bytes of a file, from a place on
pub record Range : Type 0 where
  pub at : ℕ
  pub len : ℕ

-- what a shelf tells and counts
pub record ShelfState : Type 0 where
  -- what is told of the file of each name
  pub told : List ℕ → Told
  -- the ranges that may be read: the file's name, the place and the length
  pub readable : List ℕ → ℕ → ℕ → Bool
  -- its faults and misses
  pub counts : Counts
  -- the last call that failed, where it is told
  pub last_failed : Option FailedCall
  -- the bytes that it asked for, where it is told and asked for bytes
  pub failed_range : Option Range
  -- the names of calls that are told where they fail
  pub tells_name : List ℕ → Bool
  -- the names whose files are told once they are started
  pub tells_started : List ℕ → Bool

-- a call that failed, or what it asked for, is told if the shelf tells such a name; else it or none is told
abbrev pub TellsFailed : {T : Type 0} → Bool → T → Option T → Type 0
TellsFailed true failed told = told ≡ Some failed
TellsFailed {T} false failed told = (other : T) → told ≡ Some other → other ≡ failed

-- each such range that could be read can be read still
abbrev pub KeepsReadable : (List ℕ → Type 0) → ShelfState → ShelfState → Type 0
KeepsReadable names old new = (name : List ℕ) (at len : ℕ) → names name → old.readable name at len ≡ true → new.readable name at len ≡ true

-- the files were at most looked at
pub record Looks (old new : ShelfState) : Type 0 where
  pub told : new.told ≡ old.told
  pub readable : KeepsReadable (λ name. Unit {0}) old new
  pub tells_name : new.tells_name ≡ old.tells_name
  pub tells_started : new.tells_started ≡ old.tells_started

-- at most files with such names were written
pub record TouchesOnly (may : List ℕ → Type 0) (old new : ShelfState) : Type 0 where
  pub told : (name : List ℕ) → ¬ may name → new.told name ≡ old.told name
  pub readable : KeepsReadable (λ name. ¬ may name) old new
  pub tells_name : new.tells_name ≡ old.tells_name
  pub tells_started : new.tells_started ≡ old.tells_started

-- at most the file of this name was written
abbrev pub Touches : List ℕ → ShelfState → ShelfState → Type 0
Touches name old new = TouchesOnly (λ other. other ≡ name) old new

-- no fault and no miss was counted, and no failed call is told anew
pub record Succeeds (old new : ShelfState) : Type 0 where
  pub counts : new.counts ≡ old.counts
  pub last : new.last_failed ≡ old.last_failed
  pub range : new.failed_range ≡ old.failed_range

-- a call of this kind with this name failed to read, which is counted once
pub record FailsToRead (call : Call) (name : List ℕ) (old new : ShelfState) : Type 0 where
  pub counts : new.counts ≡ with_read_fault old.counts
  pub last : TellsFailed (new.tells_name name) (record { call = call; name = name }) new.last_failed

-- a call for these bytes of a file of this name failed, which is counted once
pub record FailsToReadRange (name : List ℕ) (range : Range) (old new : ShelfState) : Type 0 where
  pub fails : FailsToRead Read name old new
  pub asked : TellsFailed (new.tells_name name) range new.failed_range

-- a call of this kind with this name failed to write, which is counted once
pub record FailsToWrite (call : Call) (name : List ℕ) (old new : ShelfState) : Type 0 where
  pub counts : new.counts ≡ with_write_fault old.counts
  pub last : TellsFailed (new.tells_name name) (record { call = call; name = name }) new.last_failed

-- the size of a file, whose ranges may then be read, or None where it isn't held, which is counted once
pub record HasSize (name : List ℕ) (old new : ShelfState) (size : Option ℕ) : Type 0 where
  pub told : WhereTold (old.told name) (λ held. size ≡ option_map length held)
  pub readable : (bytes at len : ℕ) → size ≡ Some bytes → at + len ≤ bytes → new.readable name at len ≡ true
  pub counts : new.counts ≡ (if is_none size then with_miss old.counts else old.counts)
  pub last : new.last_failed ≡ old.last_failed
  pub range : new.failed_range ≡ old.failed_range

-- the buffer has the bytes of a file from a place on
abbrev pub IsRangeOf : Option (List ℕ) → ℕ → List ℕ → Type 0
IsRangeOf None at buffer = ⊥
IsRangeOf (Some bytes) at buffer = (at + length buffer ≤ length bytes) × (buffer ≡ take (length buffer) (drop at bytes))

pub record HasRange (name : List ℕ) (at : ℕ) (buffer : List ℕ) (old new : ShelfState) : Type 0 where
  pub told : WhereTold (old.told name) (λ held. IsRangeOf held at buffer)
  pub succeeds : Succeeds old new

-- what is told of a file of this name that was made empty
abbrev pub told_empty : ShelfState → List ℕ → Told
told_empty shelf name = if shelf.tells_started name then Known (Some []) else Untold

-- the file was made empty
pub record Starts (name : List ℕ) (old new : ShelfState) : Type 0 where
  pub told : new.told name ≡ told_empty new name
  pub succeeds : Succeeds old new

-- it wasn't, and is as before or empty
pub record FailsToStart (name : List ℕ) (old new : ShelfState) : Type 0 where
  pub told : (new.told name ≡ old.told name) ⊎ (new.told name ≡ told_empty new name)
  pub fails : FailsToWrite Start name old new

-- What is told of a file after these bytes were added to it. A file that is told once it is started is told still, and can't be
-- one that isn't held; of any other nothing is told any more.
abbrev pub Grows : Bool → Told → List ℕ → Told → Type 0
Grows tells Untold bytes new = new ≡ Untold
Grows true (Known None) bytes new = ⊥
Grows true (Known (Some held)) bytes new = new ≡ Known (Some (held ++ bytes))
Grows false (Known held) bytes new = new ≡ Untold

-- what is told of it after a prefix of these bytes was added
abbrev pub GrowsInPart : Told → List ℕ → Told → Type 0
GrowsInPart (Known (Some held)) bytes new = (n : ℕ) × (new ≡ Known (Some (held ++ take n bytes)))
GrowsInPart told bytes new = new ≡ told

-- all these bytes were added
pub record Appends (name bytes : List ℕ) (old new : ShelfState) : Type 0 where
  pub told : Grows (new.tells_started name) (old.told name) bytes (new.told name)
  pub succeeds : Succeeds old new

-- a prefix of them was added
pub record FailsToAppend (name bytes : List ℕ) (old new : ShelfState) : Type 0 where
  pub told : GrowsInPart (old.told name) bytes (new.told name)
  pub fails : FailsToWrite Append name old new

-- ---- a sink

-- what a sink tells and counts
pub record SinkState : Type 0 where
  -- the bytes that were written, where they are told
  pub written : Option (List ℕ)
  -- how many calls failed
  pub faults : ℕ

-- what is told was extended by these bytes
abbrev pub Extends : List ℕ → SinkState → SinkState → Type 0
Extends bytes old new = new.written ≡ option_map (λ before. before ++ bytes) old.written

-- these bytes were written
pub record Sends (bytes : List ℕ) (old new : SinkState) : Type 0 where
  pub told : Extends bytes old new
  pub faults : new.faults ≡ old.faults

-- a prefix of these bytes was written, and the call failed, which is counted once
pub record FailsToSend (bytes : List ℕ) (old new : SinkState) : Type 0 where
  pub told : (n : ℕ) × Extends (take n bytes) old new
  pub faults : new.faults ≡ one_more old.faults
