-- What `disturb` comes to, and what its output holds.
use Rattle.std.specs.Prelude.{ℕ, zero, suc, ◌*◌, List, [], ◌∷◌, Bool, true, false, ◌&&◌, nat_le, is_ok, length, None, Result, Ok, ◌++◌, codes, decimal}
use Rattle.std.specs.Result.{result_unwrap_or}
use Rattle.pdh_bits.specs.Bits.{bits_of, bytes_of}
use Rattle.pdh_chain.specs.declared.chain.Chain.{Chain}
use Rattle.pdh_script.specs.Scripts.{Row, disturbed}
use Rattle.pdh_script.specs.ScriptText.{script_of, most_script_bytes}
use Rattle.pdh_answers.specs.Names.{line_name, script_name, bent_name}
use Rattle.pdh_answers.specs.Answer.{Answer, script_or_stop, and_then}
use Rattle.pdh_answers.specs.declared.file.File.{File}
use Rattle.pdh_answers.specs.declared.file.File.TheVariants.{Line, Script}
use Rattle.pdh_answers.specs.declared.answer.Stop.{Stop}
use Rattle.pdh_runner.specs.Lines.{frames_of, line_of}
use Rattle.pdh_shape.specs.OwnNumbers.{most_frames}
use Rattle.pdh_runner.specs.Operation.{Operation, all_held, one_name, reaches_outputs, Files, bytes_in}
use Rattle.pdh_answers.specs.declared.answer.Done.TheVariants.{Line as TextLine}
use Rattle.pdh_answers.specs.declared.answer.Done.{Done}
use Rattle.pdh_chain.specs.Chains.{name_of as name_of_chain}

-- the files that it reads, in order
abbrev pub disturb_inputs : List File
disturb_inputs = Line ∷ Script ∷ []

-- the rows of a script's text for a line of so many bytes, or why it is refused
unfoldable pub script_rows : ℕ → List ℕ → Result (List Row) Stop
script_rows bytes text = script_or_stop (script_of (8 * bytes) text)

-- the bits of the disturbed line, all of them
unfoldable pub bent_bits : List ℕ → List Row → List Bool
bent_bits line rows = disturbed (bits_of line) rows

-- what it says of so many bits
abbrev pub disturb_says : Chain → ℕ → Done
disturb_says chain bits = TextLine (codes "disturb " ++ name_of_chain chain ++ codes ": bits " ++ decimal bits ++ codes "\n")

-- how many they are
abbrev pub bent : Chain → List ℕ → List Row → Answer
bent chain line rows = Ok (disturb_says chain (length (bent_bits line rows)))

-- the script's rows, where its text has no fault
abbrev pub script_in : Files → List Row
script_in files = result_unwrap_or (script_rows (length (bytes_in files line_name)) (bytes_in files script_name)) []

-- what the output holds: the whole bytes of the disturbed line
unfoldable pub bent_bytes : List ℕ → List Row → List ℕ
bent_bytes line rows = bytes_of (bent_bits line rows)

-- ---- the command

-- the line, and then the script
abbrev pub disturb_input : ℕ → List ℕ
disturb_input zero = line_name
disturb_input (suc _) = script_name

abbrev pub disturb_comes : Chain → Files → Answer
disturb_comes chain files =
    and_then (all_held disturb_inputs files) (λ _. and_then (line_of Line chain (files line_name)) (λ line. and_then (script_rows (length line) (bytes_in files script_name)) (bent chain line)))

-- the line is read in the run
abbrev pub disturb_in_run : File → Bool
disturb_in_run Line = true
disturb_in_run file = false

-- the script is read where both are held, the line has no more frames than a line may have, and its text isn't too long
abbrev pub disturb_due : Chain → File → Files → Bool
disturb_due chain Script files = is_ok (all_held disturb_inputs files) && (nat_le (frames_of chain (bytes_in files line_name)) most_frames && nat_le (length (bytes_in files script_name)) most_script_bytes)
disturb_due chain file files = reaches_outputs (disturb_comes chain files)

abbrev pub disturbing : Chain → Operation
disturbing chain = record {
  inputs = record { count = 2; name = disturb_input };
  outputs = one_name bent_name;
  bytes = λ files _. bent_bytes (bytes_in files line_name) (script_in files);
  comes_to = disturb_comes chain;
  reads_in_run = disturb_in_run;
  is_due = disturb_due chain;
  shows = None;
  tells = None;
}
