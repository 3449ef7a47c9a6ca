-- What `smooth` wrote of a line, `mux` makes a line of.
use Rattle.std.specs.Prelude.{◌≡◌, ℕ, ◌≤◌, ◌<◌, List, [], ◌∷◌, length, Option, Some, Ok}
use Rattle.pdh_bits.specs.Bits.{bits_of}
use Rattle.pdh_shape.specs.Frame.{FrameShape}
use Rattle.pdh_shape.specs.OwnNumbers.{most_frames}
use Rattle.pdh_chain.specs.Chains.{shapes_of, levels_of, leaves_of}
use Rattle.pdh_chain.specs.declared.chain.Chain.{Chain}
use Rattle.pdh_desync.specs.FarStore.{pieces_of}
use Rattle.pdh_smoothing.specs.Again.{frames_again}
use Rattle.pdh_answers.specs.Names.{leaf_name, schedule_name}
use Rattle.pdh_runner.specs.Lines.{frames_of}
use Rattle.pdh_runner.specs.Operation.{Files}
use Rattle.pdh_making.specs.Mux.{mux_says, muxing}
use Rattle.pdh_recorded.specs.Smooth.{smooth_output}

-- these files hold, as the leaves and the schedule of `mux`, what `smooth` writes of a line
pub record AreSmoothed (chain : Chain) (line : List ℕ) (files : Files) : Type 0 where
  pub leaves : (leaf : ℕ) → leaf < leaves_of chain → files (leaf_name leaf) ≡ Some (smooth_output chain line leaf)
  pub schedule : files schedule_name ≡ Some (smooth_output chain line (leaves_of chain))

-- how many frames their schedule has, by the top's frame and the line
abbrev pub frames_made_again : List FrameShape → List ℕ → ℕ
frames_made_again [] line = 0
frames_made_again (s ∷ below) line = length (frames_again s (pieces_of s (bits_of line)))

-- Of a line of one multiplexer that isn't too long they are no refusal to `mux`: it comes to a line of all frames of the schedule.
abbrev pub MakesAgain : Chain → Option ℕ → List ℕ → Files → Type 0
MakesAgain chain feac line files =
    length (levels_of chain) ≡ 1 → frames_of chain line ≤ most_frames → AreSmoothed chain line files
    → (muxing chain feac).comes_to files ≡ Ok (mux_says chain (frames_made_again (shapes_of chain) line))
