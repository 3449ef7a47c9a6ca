-- What `smooth` comes to, and what its outputs hold.
use Rattle.std.specs.Prelude.{if◌then◌else◌, ℕ, suc, ◌*◌, ◌==◌, nat_lt, Bool, List, [], ◌∷◌, None, Ok, Err, length, ◌++◌, codes, decimal}
use Rattle.pdh_bits.specs.Bits.{bits_of, bytes_of}
use Rattle.pdh_shape.specs.Frame.{FrameShape}
use Rattle.pdh_chain.specs.Chains.{shapes_of, leaves_of, name_of as name_of_chain}
use Rattle.pdh_chain.specs.declared.chain.Chain.{Chain}
use Rattle.pdh_desync.specs.FarStore.{smooth}
use Rattle.pdh_smoothing.specs.Again.{schedule_again}
use Rattle.pdh_answers.specs.Answer.{Answer, and_then}
use Rattle.pdh_answers.specs.declared.answer.Stop.TheVariants.{NoAlignment}
use Rattle.pdh_answers.specs.declared.answer.Done.{Done}
use Rattle.pdh_answers.specs.declared.answer.Done.TheVariants.{Line as LineSaid}
use Rattle.pdh_answers.specs.declared.file.File.TheVariants.{Line}
use Rattle.pdh_answers.specs.Names.{line_name, output_name, schedule_out_name}
use Rattle.pdh_runner.specs.Operation.{Operation, one_name, all_in_run, due_at_outputs, Files, bytes_in}
use Rattle.pdh_runner.specs.Lines.{line_of}
use Rattle.pdh_recorded.specs.Demux.{frames_received}

-- what it says of so many frames
abbrev pub smooth_says : Chain → ℕ → Done
smooth_says chain frames = LineSaid (codes "smooth " ++ name_of_chain chain ++ codes ": frames " ++ decimal frames ++ codes "\n")

-- how many frames of the line are delivered; or none is, and then how many bits the line has
unfoldable pub smoothed : Chain → List ℕ → Answer
smoothed chain line = (if frames_received chain line == 0 then Err (NoAlignment (8 * length line)) else Ok (smooth_says chain (frames_received chain line)))

-- what output k holds, by the top's frame and the line: a tributary's the whole bytes of what comes out of its far store, and the
-- one behind them the schedule that would make the line again
abbrev pub output_in : List FrameShape → List Bool → ℕ → List ℕ
output_in [] line k = []
output_in (s ∷ below) line k = (if nat_lt k s.tribs then bytes_of (smooth s k line) else schedule_again s line)

unfoldable pub smooth_output : Chain → List ℕ → ℕ → List ℕ
smooth_output chain line k = output_in (shapes_of chain) (bits_of line) k

-- ---- the command

-- the outputs of the leaves, and then the schedule's
abbrev pub smooth_output_name : Chain → ℕ → List ℕ
smooth_output_name chain k = (if nat_lt k (leaves_of chain) then output_name k else schedule_out_name)

abbrev pub smooth_comes : Chain → Files → Answer
smooth_comes chain files = and_then (line_of Line chain (files line_name)) (smoothed chain)

-- `smooth` of the line of a chain of one multiplexer
abbrev pub smoothing : Chain → Operation
smoothing chain = record {
  inputs = one_name line_name;
  outputs = record { count = suc (leaves_of chain); name = smooth_output_name chain };
  bytes = λ files k. smooth_output chain (bytes_in files line_name) k;
  comes_to = smooth_comes chain;
  reads_in_run = all_in_run;
  is_due = due_at_outputs (smooth_comes chain);
  shows = None;
  tells = None;
}
