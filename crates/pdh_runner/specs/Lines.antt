-- The line of a file: what it holds, why it is refused before it is read, and how many bits it has.
use Rattle.std.specs.Prelude.{◌≡◌, ℕ, ◌*◌, ◌/◌, ◌≤◌, if◌then◌else◌, Err, IsTrue, nat_lt, List, Option, Some, None, Result, Ok, length}
use Rattle.pdh_edge.specs.Files.{ShelfState, WhereTold, FailsToRead}
use Rattle.pdh_edge.specs.declared.shelf.Call.TheVariants.{Size as SizeCall}
use Rattle.pdh_edge.specs.Ports.{Inputs}
use Rattle.pdh_chain.specs.Chains.{frame_bytes_of}
use Rattle.pdh_chain.specs.declared.chain.Chain.{Chain}
use Rattle.pdh_answers.specs.Names.{name_of}
use Rattle.pdh_runner.specs.Reading.{HasLength}
use Rattle.pdh_answers.specs.declared.file.File.{File}
use Rattle.pdh_runner.specs.declared.port.Input.{Input}
use Rattle.pdh_answers.specs.declared.answer.Stop.{Stop}
use Rattle.pdh_answers.specs.declared.answer.Stop.TheVariants.{Read, Missing, ManyFrames}
use Rattle.pdh_shape.specs.OwnNumbers.{most_frames}

-- how many whole frames a line holds
abbrev pub frames_of : Chain → List ℕ → ℕ
frames_of chain line = length line / frame_bytes_of chain

-- the line that this file holds, or why it is refused before it is read
abbrev pub line_of : File → Chain → Option (List ℕ) → Result (List ℕ) Stop
line_of file chain None = Err (Missing file)
line_of file chain (Some line) = (if nat_lt most_frames (frames_of chain line) then Err (ManyFrames (frames_of chain line)) else Ok line)

-- why the line of a file can't be read
abbrev pub IsLineCause : File → Chain → ShelfState → ShelfState → Stop → Type 0
IsLineCause file chain old new (Read failed) = (failed ≡ file) × FailsToRead SizeCall (name_of file) old new
IsLineCause file chain old new (Missing missed) = WhereTold (old.told (name_of file)) (λ held. line_of file chain held ≡ Err (Missing missed))
IsLineCause file chain old new (ManyFrames frames) = WhereTold (old.told (name_of file)) (λ held. line_of file chain held ≡ Err (ManyFrames frames))
IsLineCause file chain old new _ = ⊥

-- these are all bits of the line of a file, which has no more frames than a line may have
pub record IsLine (chain : Chain) (line : Input) (state : ShelfState) : Type 0 where
  pub bytes : ℕ
  pub bits_are : line.bits ≡ 8 * bytes
  pub long : HasLength (name_of line.file) bytes state
  pub few : bytes / frame_bytes_of chain ≤ most_frames

-- list 0 has so many bits
pub record HasLine (bits : ℕ) (inputs : Inputs) : Type 0 where
  pub holds : IsTrue (inputs.holds 0)
  pub left : inputs.left 0 ≡ bits
