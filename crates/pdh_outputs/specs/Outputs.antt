-- The outputs that are begun.
use Rattle.std.specs.Prelude.{ℕ, ◌==◌, ◌&&◌, Bool, List, map, find, Option, None, Some, option_map, false, if◌then◌else◌}
use Rattle.std.specs.String.{string_bytes}
use Rattle.pdh_report_words.specs.Files.{part_name}
use Rattle.pdh_report_words.specs.declared.names.Named.{Named}
use Rattle.pdh_report_words.specs.declared.names.Named.TheVariants.{Recording}
use Rattle.pdh_outputs.specs.declared.begun.Begun.{Begun}
use Rattle.pdh_outputs.specs.declared.file_id.FileId.{FileId}

-- two files are one where their devices and their numbers are
abbrev pub is_one : FileId → FileId → Bool
is_one a b = a.device == b.device && a.number == b.number

-- whether it is a file, and this one
abbrev pub is_this : Option FileId → FileId → Bool
is_this None id = false
is_this (Some file) id = is_one file id

-- as what the words name the output that is this file, if one is
abbrev pub named_as : List Begun → FileId → Option Named
named_as begun id = option_map (λ output. output.named) (find (λ output. is_one output.id id) begun)

-- as what they name this file: the recording, or else an output
abbrev pub owner_of : Option FileId → List Begun → FileId → Option Named
owner_of recording begun id = (if is_this recording id then Some Recording else named_as begun id)

-- an output as it is begun: its name, and the one beside it under which it is written
abbrev pub begun_as : Named → List ℕ → Named × List ℕ × List ℕ
begun_as named name = (named, name, part_name name)

-- outputs, as they are begun
abbrev pub names_begun : List Begun → List (Named × List ℕ × List ℕ)
names_begun outputs = map (λ output. (output.named, output.name.now, string_bytes output.part)) outputs
