-- What a shelf in memory shows, and what its calls do to it.
use Rattle.std.specs.Prelude.{◌≡◌, ◌≢◌, ◌↔◌, ℕ, ◌+◌, List, [], ◌++◌, length, nat_le, Bool, true, false, not, ◌&&◌, if◌then◌else◌, Option, Some, None, is_some, is_none, Result, IsOk, IsErr, IfOk, OnOk, OnErr, IsTrue}
use Rattle.std.specs.Option.{option_map_or, option_map, option_and_then}
use Rattle.std.specs.BTreeMap.{BTreeMap, get_by_text}
use Rattle.std.specs.declared.alloc.Global.{Global}
use Rattle.std.specs.declared.string.String.{String}
use Rattle.pdh_edge.specs.declared.mem_shelf.Slot.{Slot}
use Rattle.pdh_edge.specs.declared.mem_shelf.MemShelf.{MemShelf}
use Rattle.pdh_edge.specs.declared.mem_shelf.LastFailed.{LastFailed}
use Rattle.pdh_edge.specs.declared.mem_shelf.Asked.{Asked}
use Rattle.pdh_edge.specs.declared.shelf.Call.{Call}
use Rattle.pdh_edge.specs.declared.shelf.Call.TheVariants.{Size, Read, Start, Append}
use Rattle.pdh_edge.specs.Files.{ShelfState, Counts, FailedCall, Range, with_read_fault, with_write_fault, with_miss}
use Rattle.pdh_edge.specs.Files.Told.{Known}
use Rattle.pdh_edge.specs.Plan.{PlanState, no_plan, is_due, plan_after_call, plan_after_fail}

-- a file of a shelf in memory
pub record MemFile : Type 0 where
  -- its bytes, where it is held
  pub held : Option (List ℕ)
  -- how many bytes there is room for, where it may be started
  pub room : Option ℕ
  -- whether it was started, and not set since
  pub started : Bool

-- a file that isn't held and has no room
abbrev pub no_file : MemFile
no_file = record { held = None; room = None; started = false }

-- all that a shelf in memory shows
pub record MemState : Type 0 where
  -- the file of each name
  pub files : List ℕ → MemFile
  -- the calls of each kind
  pub sizes : PlanState
  pub reads : PlanState
  pub starts : PlanState
  pub appends : PlanState
  -- its faults and misses
  pub counts : Counts
  -- the last call that failed, where it is told
  pub last_failed : Option FailedCall
  -- the bytes that it asked for
  pub failed_range : Option Range

-- what one slot shows
abbrev pub file_of : Slot → MemFile
file_of slot = record {
  held = if slot.held then Some slot.buffer.bytes else None;
  room = if slot.has_room then Some slot.buffer.room else None;
  started = slot.started;
}

-- what the slot of a name shows
abbrev pub file_in : BTreeMap (String Global) Slot → List ℕ → MemFile
file_in slots name = option_map_or file_of (get_by_text slots name) no_file

-- what it keeps of the last call that failed
abbrev pub failed_of : LastFailed → FailedCall
failed_of last = record { call = last.call; name = last.name.bytes }

-- and of the bytes that it asked for
abbrev pub range_of : Asked → Range
range_of asked = record { at = asked.at; len = asked.len }

abbrev pub range_in : LastFailed → Option Range
range_in last = option_map range_of last.asked

-- what a shelf in memory shows
abbrev pub mem_state : MemShelf → MemState
mem_state shelf = record {
  files = file_in shelf.slots;
  sizes = shelf.sizes;
  reads = shelf.reads;
  starts = shelf.starts;
  appends = shelf.appends;
  counts = record { read_faults = shelf.read_faults; write_faults = shelf.write_faults; misses = shelf.misses };
  last_failed = option_map failed_of shelf.last;
  failed_range = option_and_then range_in shelf.last;
}

-- the names of calls that are told where they fail
abbrev pub is_short : List ℕ → Bool
is_short name = nat_le (length name) 32

-- what a shelf in memory tells and counts: the bytes of every file; each range may be read
abbrev pub told_by : MemState → ShelfState
told_by state = record {
  told = λ name. Known (state.files name).held;
  readable = λ name at len. true;
  counts = state.counts;
  last_failed = state.last_failed;
  failed_range = state.failed_range;
  tells_name = is_short;
  tells_started = λ name. true;
}

abbrev pub shelf_state : MemShelf → ShelfState
shelf_state shelf = told_by (mem_state shelf)

-- ---- what is set up

-- there is no file, nothing is planned, no call was made, and none failed
pub record IsNew (state : MemState) : Type 0 where
  pub empty : (name : List ℕ) → state.files name ≡ no_file
  pub rest : state ≡ record {
    files = state.files;
    sizes = no_plan;
    reads = no_plan;
    starts = no_plan;
    appends = no_plan;
    counts = record { read_faults = 0; write_faults = 0; misses = 0 };
    last_failed = None;
    failed_range = None;
  }

-- the file of this name changed so, and nothing else changed
pub record ChangesFile (name : List ℕ) (change : MemFile → MemFile) (old new : MemState) : Type 0 where
  pub here : new.files name ≡ change (old.files name)
  pub others : (other : List ℕ) → other ≢ name → new.files other ≡ old.files other
  pub rest : new ≡ record old { files = new.files }

-- a file after it was set to these bytes
abbrev pub file_after_hold : List ℕ → MemFile → MemFile
file_after_hold bytes file = record file { held = Some bytes; started = false }

-- a file after room was made for it
abbrev pub file_after_room : ℕ → MemFile → MemFile
file_after_room bytes file = record file { room = Some bytes }

-- with one more call of this kind that is to fail
abbrev pub with_planned : Call → ℕ → MemState → MemState
with_planned Size number state = record state { sizes = plan_after_fail number state.sizes }
with_planned Read number state = record state { reads = plan_after_fail number state.reads }
with_planned Start number state = record state { starts = plan_after_fail number state.starts }
with_planned Append number state = record state { appends = plan_after_fail number state.appends }

-- ---- calls

-- with one more call of `size`, `read_at`, `start` or `append`
abbrev pub with_size_call : MemState → MemState
with_size_call state = record state { sizes = plan_after_call state.sizes }

abbrev pub with_read_call : MemState → MemState
with_read_call state = record state { reads = plan_after_call state.reads }

abbrev pub with_start_call : MemState → MemState
with_start_call state = record state { starts = plan_after_call state.starts }

abbrev pub with_append_call : MemState → MemState
with_append_call state = record state { appends = plan_after_call state.appends }

-- what is told after a call of this kind with this name failed
abbrev pub failed_told_after : Call → List ℕ → Option FailedCall
failed_told_after call name = if is_short name then Some (record { call = call; name = name }) else None

-- and what is told of the bytes that it asked for, if it asked for any
abbrev pub range_told_after : List ℕ → Option Range → Option Range
range_told_after name asked = if is_short name then asked else None

-- after a call of this kind, with this name, that failed to read; it asked for these bytes, or for none
abbrev pub after_read_fault : Call → List ℕ → Option Range → MemState → MemState
after_read_fault call name asked state =
    record state { counts = with_read_fault state.counts; last_failed = failed_told_after call name; failed_range = range_told_after name asked }

-- after a call of this kind, with this name, that failed to write
abbrev pub after_write_fault : Call → List ℕ → MemState → MemState
after_write_fault call name state = record state { counts = with_write_fault state.counts; last_failed = failed_told_after call name; failed_range = None }

-- with one more miss, where this is the answer for a file that isn't held
abbrev pub with_size_answer : Option ℕ → MemState → MemState
with_size_answer size state = record state { counts = if is_none size then with_miss state.counts else state.counts }

-- `size` fails exactly where that is planned, and counts a file that isn't held
pub record SizesInMemory {E : Type 0} (name : List ℕ) (old new : MemState) (result : Result (Option ℕ) E) : Type 0 where
  pub fails : IsErr result ↔ IsTrue (is_due old.sizes)
  pub size : IfOk result (λ size. size ≡ option_map length (old.files name).held)
  pub ok : IfOk result (λ size. new ≡ with_size_answer size (with_size_call old))
  pub err : OnErr result (new ≡ after_read_fault Size name None (with_size_call old))

-- whether a file is held and has so many bytes from a place on
abbrev pub has_range : MemFile → ℕ → ℕ → Bool
has_range file at len = option_map_or (λ bytes. nat_le (at + len) (length bytes)) file.held false

-- whether the next `read_at` succeeds
abbrev pub can_read : MemState → List ℕ → ℕ → ℕ → Bool
can_read state name at len = not (is_due state.reads) && has_range (state.files name) at len

-- `read_at` fails exactly where that is planned or the file hasn't the range, and then leaves the buffer as it was
pub record ReadsInMemory {E : Type 0} (name : List ℕ) (at : ℕ) (before after : List ℕ) (old new : MemState) (result : Result (Unit {0}) E) : Type 0 where
  pub succeeds : IsOk result ↔ IsTrue (can_read old name at (length before))
  pub ok : OnOk result (new ≡ with_read_call old)
  pub err : OnErr result (new ≡ after_read_fault Read name (Some (record { at = at; len = length before })) (with_read_call old))
  pub buffer : OnErr result (after ≡ before)

-- whether the next `start` succeeds
abbrev pub can_start : MemState → List ℕ → Bool
can_start state name = not (is_due state.starts) && is_some (state.files name).room

-- a file after it was started
abbrev pub file_after_start : MemFile → MemFile
file_after_start file = record file { held = Some []; started = true }

-- `start` fails exactly where that is planned or there is no room, and then leaves the files as they were
pub record StartsInMemory {E : Type 0} (name : List ℕ) (old new : MemState) (result : Result (Unit {0}) E) : Type 0 where
  pub succeeds : IsOk result ↔ IsTrue (can_start old name)
  pub ok : OnOk result (ChangesFile name file_after_start (with_start_call old) new)
  pub err : OnErr result (new ≡ after_write_fault Start name (with_start_call old))

-- whether a file is held, was started, and has room for so many bytes after those that it has
abbrev pub can_grow : MemFile → ℕ → Bool
can_grow file count = file.started && option_map_or (λ bytes. option_map_or (λ room. nat_le (length bytes + count) room) file.room false) file.held false

-- whether the next `append` succeeds
abbrev pub can_append : MemState → List ℕ → ℕ → Bool
can_append state name count = not (is_due state.appends) && can_grow (state.files name) count

-- a file after these bytes were added to it
abbrev pub file_after_append : List ℕ → MemFile → MemFile
file_after_append bytes file = record file { held = option_map (λ before. before ++ bytes) file.held }

-- `append` fails exactly where that is planned, the file wasn't started or the room is too small, and then leaves the files as they were
pub record AppendsInMemory {E : Type 0} (name bytes : List ℕ) (old new : MemState) (result : Result (Unit {0}) E) : Type 0 where
  pub succeeds : IsOk result ↔ IsTrue (can_append old name (length bytes))
  pub ok : OnOk result (ChangesFile name (file_after_append bytes) (with_append_call old) new)
  pub err : OnErr result (new ≡ after_write_fault Append name (with_append_call old))
