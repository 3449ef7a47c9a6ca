-- The steps that write an output: why they stop.
use Rattle.std.specs.Prelude.{◌≡◌, ℕ, List}
use Rattle.pdh_edge.specs.Files.{ShelfState, FailsToStart, FailsToAppend}
use Rattle.pdh_answers.specs.Names.{name_of}
use Rattle.pdh_answers.specs.declared.file.File.{File}
use Rattle.pdh_answers.specs.declared.answer.Stop.{Stop}
use Rattle.pdh_answers.specs.declared.answer.Stop.TheVariants.{Write}

-- the start of the file failed
abbrev pub IsStartStop : File → ShelfState → ShelfState → Stop → Type 0
IsStartStop file old new stop = (stop ≡ Write file) × FailsToStart (name_of file) old new

-- the bytes weren't all added to the file
abbrev pub IsAppendStop : File → List ℕ → ShelfState → ShelfState → Stop → Type 0
IsAppendStop file bytes old new stop = (stop ≡ Write file) × FailsToAppend (name_of file) bytes old new
