-- What a shelf and a sink tell and count that never fail.
use Rattle.std.specs.Prelude.{◌≡◌, ℕ, ◌+◌, ◌-◌, ◌^◌, ◌<◌, min, List, [], length, nat_le, Bool, false, if◌then◌else◌, Option, Some, None, slice_get}
use Rattle.std.specs.Option.{option_map_or, option_and_then}
use Rattle.std.specs.BTreeMap.{BTreeMap, get_by_text}
use Rattle.std.specs.declared.alloc.Global.{Global}
use Rattle.std.specs.declared.string.String.{String}
use Rattle.pdh_edge.specs.declared.never_fails.InputFile.{InputFile}
use Rattle.pdh_edge.specs.declared.never_fails.NeverFails.{NeverFails}
use Rattle.pdh_edge.specs.Files.{ShelfState, SinkState, Counts, Told}
use Rattle.pdh_edge.specs.Files.Told.{Untold, Known}

-- what is known of an input: its bytes, until it is written
abbrev pub held_of : InputFile → Option (List ℕ)
held_of file = if file.written then None else Some file.bytes.items

abbrev pub held_in : BTreeMap (String Global) InputFile → List ℕ → Option (List ℕ)
held_in inputs name = option_and_then held_of (get_by_text inputs name)

-- nothing is told of what isn't known
abbrev pub told_as : Option (List ℕ) → Told
told_as None = Untold
told_as (Some bytes) = Known (Some bytes)

-- a range may be read where it is within bytes that are known
abbrev pub is_within : Option (List ℕ) → ℕ → ℕ → Bool
is_within None at len = false
is_within (Some bytes) at len = nat_le (at + len) (length bytes)

-- no fault was counted
abbrev pub no_faults : ℕ → Counts
no_faults misses = record { read_faults = 0; write_faults = 0; misses = misses }

abbrev pub shelf_state : NeverFails → ShelfState
shelf_state shelf = record {
  told = λ name. told_as (held_in shelf.inputs name);
  readable = λ name at len. is_within (held_in shelf.inputs name) at len;
  counts = no_faults shelf.misses;
  last_failed = None;
  failed_range = None;
  tells_name = λ name. false;
  tells_started = λ name. false;
}

abbrev pub sink_state : NeverFails → SinkState
sink_state sink = record { written = None; faults = 0 }

-- how many bytes were taken after so many more, up to the end of the count's type
abbrev pub taken_after : ℕ → ℕ → ℕ
taken_after count taken = min (taken + count) (2 ^ 64 - 1)

-- ---- what it is made of

-- no name stands twice among these
abbrev pub AllDiffer : List (List ℕ) → Type 0
AllDiffer names = (i j : ℕ) (name : List ℕ) → slice_get names i ≡ Some name → slice_get names j ≡ Some name → i ≡ j

-- of the first of these names each has its file, and nothing is known of any other name
pub record HoldsFirst (count : ℕ) (names files : List (List ℕ)) (held : List ℕ → Option (List ℕ)) : Type 0 where
  pub given : (i : ℕ) (name bytes : List ℕ) → i < count → slice_get names i ≡ Some name → slice_get files i ≡ Some bytes → held name ≡ Some bytes
  pub others : (name : List ℕ) → ((i : ℕ) → i < count → slice_get names i ≡ Some name → ⊥) → held name ≡ None

-- each of these names has its file, nothing is told of any other, and nothing was counted
pub record TellsInputs (names files : List (List ℕ)) (shelf : ShelfState) : Type 0 where
  pub given : (i : ℕ) (name bytes : List ℕ) → slice_get names i ≡ Some name → slice_get files i ≡ Some bytes → shelf.told name ≡ Known (Some bytes)
  pub others : (name : List ℕ) → ((i : ℕ) → slice_get names i ≡ Some name → ⊥) → shelf.told name ≡ Untold
  pub counts : shelf.counts ≡ no_faults 0
