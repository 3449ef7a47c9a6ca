-- The steps of `duplex`: what each finds.
use Rattle.std.specs.Prelude.{◌≡◌, ◌⊎◌, ℕ, ◌≤◌, List, Some, Result, Ok, Err}
use Rattle.pdh_shape.specs.OwnNumbers.{most_drilled}
use Rattle.pdh_edge.specs.Files.{ShelfState}
use Rattle.pdh_edge.specs.Files.Told.{Known}
use Rattle.pdh_script.specs.Scripts.{Row, FitIn}
use Rattle.pdh_script.specs.ScriptText.{script_of, most_script_bytes}
use Rattle.pdh_script.specs.declared.fault.ScriptFault.{ScriptFault}
use Rattle.pdh_chain.specs.declared.chain.Chain.{Chain}
use Rattle.pdh_answers.specs.Names.{name_of, west_name, east_name}
use Rattle.pdh_answers.specs.Answer.{stop_of_script}
use Rattle.pdh_answers.specs.declared.answer.Stop.{Stop}
use Rattle.pdh_answers.specs.declared.file.File.{File}
use Rattle.pdh_answers.specs.declared.file.File.TheVariants.{West, East}
use Rattle.pdh_runner.specs.Reading.{HasLength, IsReadStop}
use Rattle.pdh_linking.specs.Duplex.{line_bits}
use Rattle.pdh_linking.specs.declared.duplexing.Sizes.{Sizes}
use Rattle.pdh_linking.specs.declared.duplexing.Scripts.{Scripts}

-- the sizes of both scripts are these, and the lines have no more frames than they may have
pub record HasSizes (frames : ℕ) (sizes : Sizes) (state : ShelfState) : Type 0 where
  pub west : HasLength west_name sizes.west state
  pub east : HasLength east_name sizes.east state
  pub few : frames ≤ most_drilled

-- where the text of a file is told, it has these rows for a line of so many bits, or this fault
abbrev pub ScriptIs : File → ℕ → ShelfState → Result (List Row) ScriptFault → Type 0
ScriptIs file bits state judged = (text : List ℕ) → state.told (name_of file) ≡ Known (Some text) → script_of bits text ≡ judged

-- why the script of a file of so many bytes isn't read: memory is wanting, or the call failed, for a text that isn't too long; or
-- the text has a fault
abbrev pub IsScriptStop : File → ℕ → ℕ → ShelfState → ShelfState → Stop → Type 0
IsScriptStop file bits bytes old new stop =
    ((bytes ≤ most_script_bytes) × IsReadStop file old new stop) ⊎ ((fault : ScriptFault) × ((stop ≡ stop_of_script fault) × ScriptIs file bits old (Err fault)))

-- both scripts, of lines of so many frames
pub record AreScripts (chain : Chain) (frames : ℕ) (scripts : Scripts) (state : ShelfState) : Type 0 where
  pub sizes : Sizes
  pub has : HasSizes frames sizes state
  pub to_east : ScriptIs West (line_bits chain frames) state (Ok scripts.to_east)
  pub to_west : ScriptIs East (line_bits chain frames) state (Ok scripts.to_west)
  pub fit_east : FitIn (line_bits chain frames) scripts.to_east
  pub fit_west : FitIn (line_bits chain frames) scripts.to_west
