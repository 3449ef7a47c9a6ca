-- The steps of `show`: what each finds.
use Rattle.std.specs.Prelude.{◌≡◌, ℕ, ◌*◌, ◌/◌, ◌≤◌, take, Some}
use Rattle.pdh_bits.specs.Bits.{bits_of}
use Rattle.pdh_edge.specs.Files.{ShelfState}
use Rattle.pdh_blocks.specs.State.{PortState}
use Rattle.pdh_blocks.specs.Lists.{inputs_of}
use Rattle.pdh_chain.specs.declared.chain.Chain.{Chain}
use Rattle.pdh_chain.specs.Chains.{frame_bytes_of}
use Rattle.pdh_answers.specs.Names.{line_name}
use Rattle.pdh_runner.specs.Reading.{HasLength}
use Rattle.pdh_recorded.specs.Inspect.{bytes_upto, frame_shown, showing}
use Rattle.pdh_runner.specs.Operation.{OfInputs, bytes_in}
use Rattle.pdh_runner.specs.PortFiles.{IsOpenFor}
use Rattle.pdh_runner.specs.Lines.{HasLine}
use Rattle.pdh_shape.specs.OwnNumbers.{most_frames}

-- the line has no more frames than a line may have, and frame n whole
pub record HasFrame (chain : Chain) (n : ℕ) (state : ShelfState) : Type 0 where
  pub bytes : ℕ
  pub long : HasLength line_name bytes state
  pub few : bytes / frame_bytes_of chain ≤ most_frames
  pub enough : bytes_upto chain n ≤ bytes

-- a port is open for `show` of frame n: its list 0 gives the bits of the line up to the end of that frame
pub record IsShowPort (chain : Chain) (n : ℕ) (old : ShelfState) (port : PortState) : Type 0 where
  pub open_for : IsOpenFor (showing chain n) old port
  pub comes : OfInputs (showing chain n) old (λ files. (showing chain n).comes_to files ≡ frame_shown chain n (bytes_in files line_name))
  pub gives : OfInputs (showing chain n) old (λ files. (inputs_of port).told 0 ≡ Some (take (8 * bytes_upto chain n) (bits_of (bytes_in files line_name))))

-- a port has the line up to the end of a frame, whose number has at most nine digits
pub record CanShow (chain : Chain) (n : ℕ) (port : PortState) : Type 0 where
  pub known : n ≤ 999999999
  pub line : HasLine (8 * bytes_upto chain n) (inputs_of port)
