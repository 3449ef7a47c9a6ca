-- The steps of `smooth`: what each makes, and why it stops.
use Rattle.std.specs.Prelude.{◌≡◌, ℕ, suc, ◌^◌, ◌<◌, true, List, [], ◌∷◌, ◌++◌, IsTrue, length, map}
use Rattle.std.specs.List.{range_with_len}
use Rattle.pdh_edge.specs.Files.{ShelfState}
use Rattle.pdh_blocks.specs.State.{PortState}
use Rattle.pdh_blocks.specs.Lists.{inputs_of, outputs_of}
use Rattle.pdh_chain.specs.Chains.{leaves_of, levels_of}
use Rattle.pdh_chain.specs.declared.chain.Chain.{Chain}
use Rattle.pdh_answers.specs.declared.file.File.{File}
use Rattle.pdh_answers.specs.declared.file.File.TheVariants.{Line, Output, ScheduleOut}
use Rattle.pdh_runner.specs.Lines.{HasLine, IsLine}
use Rattle.pdh_runner.specs.LineSteps.{IsLinePort}
use Rattle.pdh_runner.specs.declared.port.Input.{Input}
use Rattle.pdh_recorded.specs.Smooth.{smoothed, smoothing}

-- the line of a chain of one multiplexer
pub record IsSmoothLine (chain : Chain) (line : Input) (state : ShelfState) : Type 0 where
  pub single : length (levels_of chain) ≡ 1
  pub file_is : line.file ≡ Line
  pub is_line : IsLine chain line state

-- a fresh port has so many bits of such a line in list 0, a list for each leaf, and one behind them
pub record CanSmooth (chain : Chain) (bits : ℕ) (port : PortState) : Type 0 where
  pub single : length (levels_of chain) ≡ 1
  pub fresh : port.fresh ≡ true
  pub few : bits < 2 ^ 63
  pub line : HasLine bits (inputs_of port)
  pub lists : (k : ℕ) → k < suc (leaves_of chain) → IsTrue ((outputs_of port).holds k)

-- each leaf has its output, and behind them stands the schedule's
abbrev pub AreSmoothOutputs : Chain → List File → Type 0
AreSmoothOutputs chain writes = writes ≡ map Output (range_with_len 0 (leaves_of chain)) ++ ScheduleOut ∷ []

-- a port is open for `smooth` of a line
abbrev pub IsSmoothPort : Chain → Input → ShelfState → PortState → Type 0
IsSmoothPort chain = IsLinePort (smoothing chain) Line (smoothed chain)
