-- The rows of a script's text, or its first fault.
use Rattle.std.specs.Prelude.{◌≡◌, ℕ, suc, nat_lt, if◌then◌else◌, List, [], ◌∷◌, length, Result, Ok, Err}
use Rattle.std.specs.Option.{ok_or}
use Rattle.pdh_row_text.specs.Text.{is_passed_over}
use Rattle.pdh_row_text.specs.Text.{lines_of}
use Rattle.pdh_script.specs.declared.fault.ScriptFault.{ScriptFault}
use Rattle.pdh_script.specs.declared.fault.ScriptFault.TheVariants.{TooLong, BadRow, PastEnd, Memory}
use Rattle.pdh_script.specs.RowText.{row_of}
use Rattle.pdh_script.specs.Scripts.{Row, end_of}

infixl 10 ◌>>=◌
abbrev pub ◌>>=◌ : {A B : Type 0} → Result A ScriptFault → (A → Result B ScriptFault) → Result B ScriptFault
(Ok x) >>= f = f x
(Err fault) >>= f = Err fault

-- the most bytes of a text
abbrev pub most_script_bytes : ℕ
most_script_bytes = 1048576

-- the row of the line of that number, unless it begins before a place, where the row before it ends, or ends behind so many bits
abbrev pub placed : ℕ → ℕ → ℕ → Row → Result Row ScriptFault
placed bits number place row =
    if nat_lt row.at place then Err (BadRow number) else (if nat_lt bits (end_of row) then Err (PastEnd number) else Ok row)

-- the row of the line of that number: its form is judged first, then its places
abbrev pub row_judged : ℕ → ℕ → ℕ → List ℕ → Result Row ScriptFault
row_judged bits number place line = do
  row ← ok_or (row_of line) (BadRow number)
  placed bits number place row

-- the rows of lines, of which the first has that number and no row begins before that place, or the first fault
abbrev pub rows_judged : ℕ → ℕ → ℕ → List (List ℕ) → Result (List Row) ScriptFault
rows_judged bits number place [] = Ok []
rows_judged bits number place (line ∷ lines) = if is_passed_over line then rows_judged bits (suc number) place lines else do
  row ← row_judged bits number place line
  rows ← rows_judged bits (suc number) (end_of row) lines
  Ok (row ∷ rows)

-- the rows of a text for a line of so many bits, or the text's first fault
unfoldable pub script_of : ℕ → List ℕ → Result (List Row) ScriptFault
script_of bits text =
    if nat_lt most_script_bytes (length text) then Err (TooLong (length text)) else rows_judged bits 1 0 (lines_of text)

-- what was answered is what the definition says, unless memory ran out
abbrev pub Fails : {Y : Type 0} → ScriptFault → Result Y ScriptFault → Type 0
Fails Memory said = Unit {0}
Fails fault said = said ≡ Err fault

-- the same, where an answer is seen by `view`
abbrev pub Gives : {X Y : Type 0} → (X → Y) → Result X ScriptFault → Result Y ScriptFault → Type 0
Gives view (Ok x) said = said ≡ Ok (view x)
Gives view (Err fault) said = Fails fault said
