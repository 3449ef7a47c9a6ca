-- The rows of a schedule's text, or its first fault.
use Rattle.std.specs.Prelude.{◌≡◌, ℕ, suc, Bool, true, nat_lt, ◌==◌, if◌then◌else◌, List, [], ◌∷◌, length, find, codes, Option, None, Result, Ok, Err}
use Rattle.std.specs.Str.{bytes_eq}
use Rattle.std.specs.Option.{ok_or, option_map_or}
use Rattle.pdh_shape.specs.declared.place.Level.{Level}
use Rattle.pdh_clock.specs.declared.fault.ScheduleFault.{ScheduleFault}
use Rattle.pdh_clock.specs.declared.fault.ScheduleFault.TheVariants.{TooLong, BadRow, UnknownNode, CountOver, Memory}
use Rattle.pdh_row_text.specs.Text.{lines_of, is_passed_over}
use Rattle.pdh_rows.specs.declared.flow.Says.{Says}
use Rattle.pdh_rows.specs.declared.flow.Says.TheVariants.{Counts, Rates}
use Rattle.pdh_row_text.specs.declared.row.Version.{Version}
use Rattle.pdh_row_text.specs.declared.row.Version.TheVariants.{First, Second}
use Rattle.pdh_row_text.specs.Form.{Form, form_of}
use Rattle.pdh_clock.specs.Row.{Row, ratio_of, row_of}
use Rattle.pdh_levels.specs.Levels.{level_at, level_stores}
use Rattle.pdh_clock.specs.Contents.{by_nodes}
use Rattle.pdh_shape.specs.OwnNumbers.{most_bytes}

infixl 10 ◌>>=◌
abbrev pub ◌>>=◌ : {A B : Type 0} → Result A ScheduleFault → (A → Result B ScheduleFault) → Result B ScheduleFault
(Ok x) >>= f = f x
(Err fault) >>= f = Err fault

-- the first count of a row that is above the bits of a frame; a row of rates has none
abbrev pub first_over : ℕ → Says → List ℕ → Option ℕ
first_over most Counts counts = find (nat_lt most) counts
first_over most (Rates line) rates = None

-- the row, unless one of its counts is above the bits of a frame: then the first such count is the fault
abbrev pub counts_judged : ℕ → Level → Form → Result Row ScheduleFault
counts_judged number level form =
    option_map_or (λ count. Err (CountOver number count level.len)) (first_over level.len form.says form.numbers) (Ok (row_of (ratio_of level) form))

-- the row, unless it has not one number for each store of its node
abbrev pub stores_judged : ℕ → Level → Form → Result Row ScheduleFault
stores_judged number level form = if length form.numbers == level_stores level then counts_judged number level form else Err (BadRow number)

-- the row of the line of that number: its form is judged first, then the node, then how many numbers there are, then each count
abbrev pub row_judged : List Level → Version → ℕ → List ℕ → Result Row ScheduleFault
row_judged levels version number line = do
  form ← ok_or (form_of version line) (BadRow number)
  level ← ok_or (level_at levels form.path) (UnknownNode number)
  stores_judged number level form

-- the rows of lines, of which the first has that number, or the first fault
abbrev pub rows_judged : List Level → Version → ℕ → List (List ℕ) → Result (List Row) ScheduleFault
rows_judged levels version number [] = Ok []
rows_judged levels version number (line ∷ lines) = if is_passed_over line then rows_judged levels version (suc number) lines else do
  row ← row_judged levels version number line
  rows ← rows_judged levels version (suc number) lines
  Ok (row ∷ rows)

-- the rows of the lines of a text: where the first one says version 2, those behind it
abbrev pub versions_judged : List Level → List (List ℕ) → Result (List Row) ScheduleFault
versions_judged levels [] = Ok []
versions_judged levels (line ∷ lines) =
    (if bytes_eq line (codes "version 2") then rows_judged levels Second 2 lines else rows_judged levels First 1 (line ∷ lines))

-- the rows of each node in order of lines and the nodes in order, or the first fault
abbrev pub lines_judged : List Level → List (List ℕ) → Result (List Row) ScheduleFault
lines_judged levels lines = do
  rows ← versions_judged levels lines
  Ok (by_nodes levels rows)

-- the rows of a text, or its first fault
unfoldable pub schedule_of : List Level → List ℕ → Result (List Row) ScheduleFault
schedule_of levels text =
    if nat_lt most_bytes (length text) then Err (TooLong (length text)) else lines_judged levels (lines_of text)

-- what was answered is what the definition says, unless memory ran out
abbrev pub Fails : {Y : Type 0} → ScheduleFault → Result Y ScheduleFault → Type 0
Fails Memory said = Unit {0}
Fails fault said = said ≡ Err fault

-- the same, where an answer is seen by `view`
abbrev pub Gives : {X Y : Type 0} → (X → Y) → Result X ScheduleFault → Result Y ScheduleFault → Type 0
Gives view (Ok x) said = said ≡ Ok (view x)
Gives view (Err fault) said = Fails fault said
