-- The files that the words name, and which of them may be one.
use Rattle.std.specs.Prelude.{◌≢◌, ℕ, List, ◌++◌, Option, None, Some, option_map, codes}
use Rattle.std.specs.Borrow.{Bor}
use Rattle.pdh_report_words.specs.declared.names.Named.{Named}
use Rattle.pdh_report_words.specs.declared.names.Named.TheVariants.{Events, Json, Picture, Recording}
use Rattle.pdh_report_words.specs.declared.request.Outputs.{Outputs}
use Rattle.pdh_report_words.specs.declared.request.Request.{Request}

-- by which word each is named
abbrev pub word_of : Named → List ℕ
word_of Events = codes "--events"
word_of Json = codes "--json"
word_of Picture = codes "--picture"
word_of Recording = codes "FILE"

-- the bytes of a name, if there is one
abbrev pub name_bytes : Option (Bor (List ℕ)) → Option (List ℕ)
name_bytes name = option_map (λ text. text.now) name

-- the name beside an output under which it is written
abbrev pub part_name : List ℕ → List ℕ
part_name output = output ++ codes ".part"

-- two outputs have different names, and neither has the one under which the other is written
abbrev pub AreApart : Option (List ℕ) → Option (List ℕ) → Type 0
AreApart None other = Unit {0}
AreApart (Some one) None = Unit {0}
AreApart (Some one) (Some other) = (one ≢ other) × (one ≢ part_name other) × (other ≢ part_name one)

-- an output hasn't the name of the recording, which hasn't the one under which it is written; `-` is no name of a file
abbrev pub IsApartFrom : List ℕ → Option (List ℕ) → Type 0
IsApartFrom recording None = Unit {0}
IsApartFrom recording (Some output) = recording ≢ codes "-" → (output ≢ recording) × (recording ≢ part_name output)

-- any two outputs are apart
pub record OutputsApart (outputs : Outputs) : Type 0 where
  pub events_json : AreApart (name_bytes outputs.events) (name_bytes outputs.json)
  pub events_picture : AreApart (name_bytes outputs.events) (name_bytes outputs.picture)
  pub json_picture : AreApart (name_bytes outputs.json) (name_bytes outputs.picture)

-- and each of them is apart from the recording
pub record FilesApart (request : Request) : Type 0 where
  pub outputs : OutputsApart request.outputs
  pub events : IsApartFrom request.file.now (name_bytes request.outputs.events)
  pub json : IsApartFrom request.file.now (name_bytes request.outputs.json)
  pub picture : IsApartFrom request.file.now (name_bytes request.outputs.picture)
