-- The steps of `demux`: what each makes, and why it stops.
use Rattle.std.specs.Prelude.{◌≡◌, ℕ, ◌^◌, ◌<◌, true, List, Some, IsTrue, map}
use Rattle.std.specs.List.{range_with_len}
use Rattle.pdh_bits.specs.Bits.{bits_of}
use Rattle.pdh_edge.specs.Files.{ShelfState}
use Rattle.pdh_blocks.specs.State.{PortState}
use Rattle.pdh_blocks.specs.Lists.{inputs_of, outputs_of}
use Rattle.pdh_chain.specs.Chains.{leaves_of}
use Rattle.pdh_chain.specs.declared.chain.Chain.{Chain}
use Rattle.pdh_answers.specs.declared.file.Bits.{Bits}
use Rattle.pdh_answers.specs.Names.{name_of, line_file}
use Rattle.pdh_recorded.specs.Demux.{demuxed, demuxing}
use Rattle.pdh_runner.specs.Operation.{OfInputs, bytes_in}
use Rattle.pdh_runner.specs.PortFiles.{IsOpenFor}
use Rattle.pdh_answers.specs.declared.file.File.{File}
use Rattle.pdh_answers.specs.declared.file.File.TheVariants.{Output}
use Rattle.pdh_runner.specs.declared.port.Input.{Input}
use Rattle.pdh_runner.specs.Lines.{HasLine}

-- a fresh port has so many bits of a line in list 0, and a list for each leaf
pub record CanReceive (chain : Chain) (bits : ℕ) (port : PortState) : Type 0 where
  pub fresh : port.fresh ≡ true
  pub few : bits < 2 ^ 63
  pub line : HasLine bits (inputs_of port)
  pub leaves : (k : ℕ) → k < leaves_of chain → IsTrue ((outputs_of port).holds k)

-- each leaf has its output
abbrev pub AreLeafOutputs : Chain → List File → Type 0
AreLeafOutputs chain writes = writes ≡ map Output (range_with_len 0 (leaves_of chain))

-- A port is open for `demux` of a line: its list 0 gives all bits of the line, which isn't refused.
pub record IsDemuxPort (chain : Chain) (bits : Bits) (line : Input) (old : ShelfState) (port : PortState) : Type 0 where
  pub open_for : IsOpenFor (demuxing chain bits) old port
  pub file_is : line.file ≡ line_file bits
  pub comes : OfInputs (demuxing chain bits) old (λ files. (demuxing chain bits).comes_to files ≡ demuxed chain (bytes_in files (name_of line.file)))
  pub gives : OfInputs (demuxing chain bits) old (λ files. (inputs_of port).told 0 ≡ Some (bits_of (bytes_in files (name_of line.file))))
