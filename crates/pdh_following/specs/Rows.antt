-- The rows of the events of a line.
use Rattle.std.specs.Prelude.{◌≡◌, ℕ, ◌+◌, ◌-◌, ◌^◌, ◌==◌, min, if◌then◌else◌, Bool, false, List, [], ◌∷◌, ◌++◌, Option, Some, None, option_map, decimal}
use Rattle.csv.specs.declared.writer.Writer.{Writer}
use Rattle.csv.specs.declared.writer.WriterBuilder.{WriterBuilder}
use Rattle.csv.specs.Writing.{default_writer, row_text, text_written, fields_written, has_written, writer_setup}
use Rattle.std.specs.Io.KnownBytes.{Appends}
use Rattle.pdh_line.specs.Paths.{steps_of, path_text}
use Rattle.pdh_watch.specs.Kinds.{kinds}
use Rattle.pdh_watch.specs.declared.kind.Kind.{Kind}
use Rattle.pdh_watch.specs.declared.kind.TheConstants.Kind.{FEAC}
use Rattle.pdh_placed.specs.declared.placed.Placed.{Placed}
use Rattle.pdh_event_rows.specs.Rows.{columns, seconds_text}
use Rattle.pdh_following.specs.declared.fault.FollowFault.{FollowFault}

-- ---- the rows

-- the name of the kind with a bit, in a table of names and bits
abbrev pub name_in : List (List ℕ × ℕ) → ℕ → List ℕ
name_in [] bit = []
name_in (entry ∷ entries) bit = (if entry.1 == bit then entry.0 else name_in entries bit)

-- the name of a kind of events
abbrev pub name_of_kind : Kind → List ℕ
name_of_kind kind = name_in kinds kind.0

-- the bit of the file with which an event comes, where the line begins at its bit `from`
abbrev pub file_bit : ℕ → ℕ → ℕ
file_bit from place = min (from + place) (2 ^ 64 - 1)

-- the code of a feac event; nothing else has a value
abbrev pub code_text : Placed → List ℕ
code_text placed = (if placed.event.kind.0 == FEAC.0 then decimal placed.event.value else [])

-- the fields of an event's row
abbrev pub event_fields : ℕ → ℕ → Placed → List (List ℕ)
event_fields rate from placed =
    path_text (steps_of placed.event.path) ∷ name_of_kind placed.event.kind ∷ decimal placed.event.bit ∷ decimal (file_bit from placed.place)
    ∷ seconds_text rate (file_bit from placed.place) ∷ code_text placed ∷ []

-- the rows of events, in order
abbrev pub rows_of : ℕ → ℕ → List Placed → List ℕ
rows_of rate from [] = []
rows_of rate from (placed ∷ rest) = row_text default_writer (event_fields rate from placed) ++ rows_of rate from rest

-- the first row, of the names of the columns
abbrev pub header : List ℕ
header = row_text default_writer columns

-- ---- the file in which they stand

-- what writes bytes, if anything does, became what has more of them
abbrev pub Gained : {A B : Type 0} → (A → Option (List ℕ)) → (B → Option (List ℕ)) → Option A → Option B → List ℕ → Type 0
Gained before after None None bytes = Unit {0}
Gained before after (Some old) (Some new) bytes = Appends (before old) (after new) bytes
Gained before after None (Some new) bytes = ⊥
Gained before after (Some old) None bytes = ⊥

-- how a writer stands: the fields of its row, whether it wrote any of them, and how it writes
abbrev pub standing_of : {W : Type 0} → Writer W → ℕ × Bool × WriterBuilder
standing_of writer = (fields_written writer, has_written writer, writer_setup writer)

-- as the default one does between two rows
abbrev pub between_rows : ℕ × Bool × WriterBuilder
between_rows = (0, false, default_writer)

-- a writer of rows, if there is one, stands so
abbrev pub StandReady : {W : Type 0} → Option (Writer W) → Type 0
StandReady rows = option_map standing_of rows ≡ option_map (λ writer. between_rows) rows

-- after these events their rows were written, if every row could be
pub record RowsSeen {W : Type 0} (contents : W → Option (List ℕ)) (rate from : ℕ) (old new : Option (Writer W)) (before after : Option FollowFault) (events : List Placed) : Type 0 where
  pub could : after ≡ None → before ≡ None
  pub written : after ≡ None → Gained (text_written contents) (text_written contents) old new (rows_of rate from events)
