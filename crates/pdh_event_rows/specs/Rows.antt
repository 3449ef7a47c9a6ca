-- The rows of events.
use Rattle.std.specs.Prelude.{◌≡◌, ℕ, ◌*◌, ◌/◌, ◌%◌, ◌^◌, ◌-◌, ◌++◌, false, Option, Some, None, List, [], ◌∷◌, codes, decimal}
use Rattle.std.specs.Fmt.{padded_integral, format_spec}
use Rattle.csv.specs.declared.writer.Writer.{Writer}
use Rattle.csv.specs.Writing.{default_writer, fields_written, has_written, writer_setup}
use Rattle.pdh_event_rows.specs.declared.row.EventRow.{EventRow}

-- the names of the columns
abbrev pub columns : List (List ℕ)
columns = codes "node" ∷ codes "kind" ∷ codes "node_bit" ∷ codes "bit" ∷ codes "seconds" ∷ codes "value" ∷ []

-- the decimal digits of a number, nine at least, with zeros in front
abbrev pub nine_digits : ℕ → List ℕ
nine_digits n = padded_integral (format_spec 32 0 4 9 (2 ^ 64 - 1)) false [] (decimal n)

-- the time of a bit in seconds, cut off after nine digits
abbrev pub seconds_text : ℕ → ℕ → List ℕ
seconds_text rate bit = decimal (bit / rate) ++ (codes "." ++ nine_digits (bit % rate * 1000000000 / rate))

-- the text of a value
abbrev pub value_text : Option ℕ → List ℕ
value_text (Some code) = decimal code
value_text None = []

-- the fields of an event's row
abbrev pub fields_of : ℕ → EventRow → List (List ℕ)
fields_of rate row =
    row.node.now ∷ row.kind.now ∷ decimal row.node_bit ∷ decimal row.place ∷ seconds_text rate row.place ∷ value_text row.value ∷ []

-- a writer stands between two rows, and writes as the default one does
pub record IsReady {W : Type 0} (writer : Writer W) : Type 0 where
  pub fields : fields_written writer ≡ 0
  pub wrote : has_written writer ≡ false
  pub setup : writer_setup writer ≡ default_writer
