-- What `demux` comes to, and what its outputs hold.
use Rattle.std.specs.Prelude.{if◌then◌else◌, ℕ, ◌*◌, ◌==◌, List, None, Ok, Err, length, ◌++◌, codes, decimal}
use Rattle.pdh_bits.specs.Bits.{bits_of, bytes_of}
use Rattle.pdh_chain.specs.Chains.{shapes_of, leaves_of, name_of as name_of_chain}
use Rattle.pdh_chain.specs.Demuxes.{top_delivered}
use Rattle.pdh_chain.specs.declared.chain.Chain.{Chain}
use Rattle.pdh_nesting.specs.Receiving.{far}
use Rattle.pdh_answers.specs.Answer.{Answer, and_then}
use Rattle.pdh_answers.specs.declared.answer.Stop.TheVariants.{NoAlignment}
use Rattle.pdh_answers.specs.Names.{name_of, line_file, output_name}
use Rattle.pdh_runner.specs.Operation.{Operation, one_name, all_in_run, due_at_outputs, Files, bytes_in}
use Rattle.pdh_answers.specs.declared.file.Bits.{Bits}
use Rattle.pdh_answers.specs.declared.answer.Done.TheVariants.{Line}
use Rattle.pdh_answers.specs.declared.answer.Done.{Done}
use Rattle.pdh_runner.specs.Lines.{line_of}

-- how many frames of the line are delivered at the top
abbrev pub frames_received : Chain → List ℕ → ℕ
frames_received chain line = top_delivered (shapes_of chain) (bits_of line)

-- what it says of so many frames
abbrev pub demux_says : Chain → ℕ → Done
demux_says chain frames = Line (codes "demux " ++ name_of_chain chain ++ codes ": frames " ++ decimal frames ++ codes "\n")

-- how many frames of the line are delivered; or none is, and then how many bits the line has
unfoldable pub demuxed : Chain → List ℕ → Answer
demuxed chain line = (if frames_received chain line == 0 then Err (NoAlignment (8 * length line)) else Ok (demux_says chain (frames_received chain line)))

-- what a leaf's output holds: the whole bytes of what the leaf receives of the line
unfoldable pub output_of : Chain → List ℕ → ℕ → List ℕ
output_of chain line leaf = bytes_of (far (shapes_of chain) (bits_of line) leaf)

-- ---- the command

abbrev pub demux_comes : Chain → Bits → Files → Answer
demux_comes chain bits files = and_then (line_of (line_file bits) chain (files (name_of (line_file bits)))) (demuxed chain)

-- `demux` of a chain's line in this file
abbrev pub demuxing : Chain → Bits → Operation
demuxing chain bits = record {
  inputs = one_name (name_of (line_file bits));
  outputs = record { count = leaves_of chain; name = output_name };
  bytes = λ files leaf. output_of chain (bytes_in files (name_of (line_file bits))) leaf;
  comes_to = demux_comes chain bits;
  reads_in_run = all_in_run;
  is_due = due_at_outputs (demux_comes chain bits);
  shows = None;
  tells = None;
}
