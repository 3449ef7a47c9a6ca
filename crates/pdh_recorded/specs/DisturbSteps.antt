-- The steps of `disturb`: what each finds or makes.
use Rattle.std.specs.Prelude.{◌≡◌, ℕ, ◌*◌, ◌/◌, ◌^◌, ◌<◌, ◌≤◌, true, IsTrue, List, Some, Result, Ok}
use Rattle.pdh_bits.specs.Bits.{bits_of}
use Rattle.pdh_edge.specs.Files.{ShelfState}
use Rattle.pdh_edge.specs.Files.Told.{Known}
use Rattle.pdh_blocks.specs.State.{PortState}
use Rattle.pdh_blocks.specs.Lists.{inputs_of, outputs_of}
use Rattle.pdh_chain.specs.declared.chain.Chain.{Chain}
use Rattle.pdh_chain.specs.Chains.{frame_bytes_of}
use Rattle.pdh_script.specs.Scripts.{Row, FitIn}
use Rattle.pdh_answers.specs.Names.{line_name, script_name}
use Rattle.pdh_runner.specs.Reading.{HasLength}
use Rattle.pdh_recorded.specs.Disturb.{script_rows, script_in, bent, disturbing}
use Rattle.pdh_runner.specs.Operation.{OfInputs, bytes_in}
use Rattle.pdh_runner.specs.PortFiles.{IsOpenFor}
use Rattle.pdh_runner.specs.Lines.{HasLine}
use Rattle.pdh_recorded.specs.declared.disturbing.Sizes.{Sizes}
use Rattle.pdh_recorded.specs.declared.disturbing.Plan.{Plan}
use Rattle.pdh_answers.specs.declared.answer.Stop.{Stop}
use Rattle.pdh_shape.specs.OwnNumbers.{most_frames}

-- the sizes of the inputs are these, and the line has no more frames than a line may have
pub record HasSizes (chain : Chain) (sizes : Sizes) (state : ShelfState) : Type 0 where
  pub line : HasLength line_name sizes.line state
  pub script : HasLength script_name sizes.script state
  pub few : sizes.line / frame_bytes_of chain ≤ most_frames

-- where the script's text is told, it has these rows for a line of so many bytes, or is refused so
abbrev pub ScriptIs : ℕ → ShelfState → Result (List Row) Stop → Type 0
ScriptIs bytes state rows = (text : List ℕ) → state.told script_name ≡ Known (Some text) → script_rows bytes text ≡ rows

-- What a line is disturbed by, where no step refuses the inputs: the rows of the script, which fit the bits of the line.
pub record IsBendPlan (chain : Chain) (plan : Plan) (state : ShelfState) : Type 0 where
  pub sizes : Sizes
  pub has : HasSizes chain sizes state
  pub bits_are : plan.bits ≡ 8 * sizes.line
  pub script_is : ScriptIs sizes.line state (Ok plan.script)
  pub fit : FitIn plan.bits plan.script

-- a port is open for `disturb` with these rows: its list 0 gives all bits of the line, of which this becomes
pub record IsBendPort (chain : Chain) (rows : List Row) (old : ShelfState) (port : PortState) : Type 0 where
  pub open_for : IsOpenFor (disturbing chain) old port
  pub comes : OfInputs (disturbing chain) old (λ files. (disturbing chain).comes_to files ≡ bent chain (bytes_in files line_name) rows)
  pub rows_are : OfInputs (disturbing chain) old (λ files. script_in files ≡ rows)
  pub gives : OfInputs (disturbing chain) old (λ files. (inputs_of port).told 0 ≡ Some (bits_of (bytes_in files line_name)))

-- a fresh port has all bits of a plan's line in list 0, and a list for what becomes of them
pub record CanBend (plan : Plan) (port : PortState) : Type 0 where
  pub fresh : port.fresh ≡ true
  pub few : plan.bits < 2 ^ 63
  pub fit : FitIn plan.bits plan.script
  pub line : HasLine plan.bits (inputs_of port)
  pub out : IsTrue ((outputs_of port).holds 0)
