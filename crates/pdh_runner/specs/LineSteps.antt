-- A command that begins with one file; one that reads all bits of a line in its run, and what its port is.
use Rattle.std.specs.Prelude.{◌≡◌, ◌^◌, ◌<◌, ℕ, List, length, Option, Some, None, Result, Err, true, slice_get}
use Rattle.pdh_bits.specs.Bits.{bits_of}
use Rattle.pdh_edge.specs.Files.{ShelfState}
use Rattle.pdh_blocks.specs.State.{PortState}
use Rattle.pdh_blocks.specs.Lists.{inputs_of}
use Rattle.pdh_answers.specs.Names.{name_of}
use Rattle.pdh_answers.specs.Answer.{Answer, and_then}
use Rattle.pdh_answers.specs.declared.answer.Stop.{Stop}
use Rattle.pdh_answers.specs.declared.answer.Stop.TheVariants.{Missing}
use Rattle.pdh_answers.specs.declared.file.File.{File}
use Rattle.pdh_chain.specs.declared.chain.Chain.{Chain}
use Rattle.pdh_runner.specs.Lines.{line_of}
use Rattle.pdh_runner.specs.Operation.{Operation, View, Files, bytes_in, OfInputs, reaches_outputs, IsReadDue, IsOfFile}
use Rattle.pdh_runner.specs.PortFiles.{IsOpenFor, unread_file}
use Rattle.pdh_runner.specs.Lines.{HasLine}
use Rattle.pdh_runner.specs.declared.port.Input.{Input}

-- ---- a command that begins with one file

-- the bytes that are held, or why they are refused
abbrev pub Judge : Type 0
Judge = Option (List ℕ) → Result (List ℕ) Stop

-- the file is its first input, and it comes to what that is judged to be, which nothing refuses before the outputs
pub record BeginsWith (operation : Operation) (file : File) (judge : Judge) (next : List ℕ → Answer) : Type 0 where
  pub some : 0 < operation.inputs.count
  pub first : name_of file ≡ operation.inputs.name 0
  pub missing : judge None ≡ Err (Missing file)
  pub comes : (files : Files) → operation.comes_to files ≡ and_then (judge (files (name_of file))) next
  pub due : (files : Files) → reaches_outputs (operation.comes_to files) ≡ true → IsReadDue operation file files
  pub reaches : (bytes : List ℕ) → reaches_outputs (next bytes) ≡ true

-- It reads all bits of the line of a file in its run, shows the events of no other, and writes nothing; this follows of the
-- line's bytes, where the line isn't refused.
pub record ReadsLine (operation : Operation) (file : File) (chain : Chain) (next : List ℕ → Answer) : Type 0 where
  pub begins : BeginsWith operation file (line_of file chain) next
  pub in_run : operation.reads_in_run file ≡ true
  pub no_outputs : operation.outputs.count ≡ 0
  pub shows : (view : View) → operation.shows ≡ Some view → IsOfFile file view
  pub tells : operation.tells ≡ None

-- ---- its port

-- a port has so many bits in list 0
pub record CanRead (bits : ℕ) (port : PortState) : Type 0 where
  pub few : bits < 2 ^ 63
  pub line : HasLine bits (inputs_of port)

-- A port is open for the command: its list 0 gives all bits of the file, and the command comes to what follows of its bytes.
pub record IsLinePort (operation : Operation) (file : File) (next : List ℕ → Answer) (line : Input) (begun : ShelfState) (port : PortState) : Type 0 where
  pub open_for : IsOpenFor operation begun port
  pub file_is : line.file ≡ file
  pub leaf : slice_get port.leaves 0 ≡ Some (unread_file line)
  pub comes : OfInputs operation begun (λ files. operation.comes_to files ≡ next (bytes_in files (name_of file)))
  pub gives : OfInputs operation begun (λ files. (inputs_of port).told 0 ≡ Some (bits_of (bytes_in files (name_of file))))
  pub long : OfInputs operation begun (λ files. length (bits_of (bytes_in files (name_of file))) ≡ line.bits)
