-- What the steps of `disturb` before its output come to.
use Rattle.std.proofs.Common.{◌≡◌, ℕ, zero, suc, ◌*◌, ◌/◌, ◌<◌, ◌≤◌, nat_lt, List, [], Option, None, Some, Ok, Err, true, false, length, refl, ap, sym, subst, ◌∙◌, arith, lit<}
use Rattle.std.specs.Prelude.{is_none, nat_le, unwrap_or}
use Rattle.std.proofs.lemmas.Bool.Decides.{nat_tests}
use Rattle.pdh_edge.specs.Files.{ShelfState, Looks, Holds}
use Rattle.pdh_edge.specs.Files.Told.{Known}
use Rattle.pdh_script.specs.declared.fault.ScriptFault.{ScriptFault}
use Rattle.pdh_script.specs.declared.fault.ScriptFault.TheVariants.{TooLong, BadRow as RowIsBad, PastEnd as EndIsPast, Memory as NoMemory}
use Rattle.pdh_script.specs.Scripts.{Row}
use Rattle.pdh_script.specs.ScriptText.{most_script_bytes, script_of, Fails}
use Rattle.pdh_answers.specs.Names.{line_name, script_name}
use Rattle.pdh_answers.specs.Answer.{Answer, and_then, script_or_stop, stop_of_script}
use Rattle.pdh_runner.specs.Lines.{line_of, frames_of}
use Rattle.pdh_recorded.specs.Disturb.{disturb_inputs, script_rows, bent, disturbing}
use Rattle.pdh_recorded.specs.DisturbSteps.{HasSizes, ScriptIs}
use Rattle.pdh_runner.specs.Reading.{HasLength, IsSizeStop, IsReadStop}
use Rattle.pdh_runner.specs.Operation.{AreTold, OfInputs, AreHeld, IsReadDue, all_held, Files, bytes_in}
use Rattle.pdh_runner.specs.Performing.{Comes}
use Rattle.pdh_runner.specs.Refusing.{Refuses}
use Rattle.pdh_recorded.specs.declared.disturbing.Sizes.{Sizes}
use Rattle.pdh_answers.specs.declared.file.File.TheVariants.{Line, Script}
use Rattle.pdh_answers.specs.declared.answer.Stop.{Stop}
use Rattle.pdh_answers.specs.declared.answer.Stop.TheVariants.{Missing, LongScript, ManyFrames}
use Rattle.pdh_runner.proofs.Touching.{has_length_still, looks_then}
use Rattle.pdh_runner.proofs.Refusing.{size_refuses, read_refuses, refuses_since}
use Rattle.pdh_runner.proofs.Lengths.{is_held, length_is}
use Rattle.pdh_runner.proofs.OneInput.{held_of}
use Rattle.pdh_chain.specs.declared.chain.Chain.{Chain}
use Rattle.pdh_chain.specs.Chains.{frame_bytes_of}
use Rattle.pdh_shape.specs.OwnNumbers.{most_frames}

-- ---- the inputs as they are told

pub line_told : (chain : Chain) (a : ShelfState) (files : Files) → AreTold (disturbing chain) a.told files → a.told line_name ≡ Known (files line_name)
line_told chain a files told = told 0 (lit< tt)

script_told : (chain : Chain) (a : ShelfState) (files : Files) → AreTold (disturbing chain) a.told files → a.told script_name ≡ Known (files script_name)
script_told chain a files told = told 1 (lit< tt)

-- ---- inputs that aren't held

no_line : (files : Files) → files line_name ≡ None → all_held disturb_inputs files ≡ Err (Missing Line)
no_line files none = let e : is_none (files line_name) ≡ true = ap is_none none in rw e refl

no_script : (files : Files) → is_none (files line_name) ≡ false → files script_name ≡ None → all_held disturb_inputs files ≡ Err (Missing Script)
no_script files line none = let e : is_none (files script_name) ≡ true = ap is_none none in rw (line, e) refl

both_held : (files : Files) → is_none (files line_name) ≡ false → is_none (files script_name) ≡ false → all_held disturb_inputs files ≡ Ok tt
both_held files line script = rw (line, script) refl

-- what is left to do where both are held
abbrev goes : Chain → Files → Answer
goes chain files = and_then (line_of Line chain (files line_name)) (λ line. and_then (script_rows (length line) (bytes_in files script_name)) (bent chain line))

not_held : (chain : Chain) (files : Files) (stop : Stop) → all_held disturb_inputs files ≡ Err stop → ◌≡◌ {A = Answer} (Err stop) ((disturbing chain).comes_to files)
not_held chain files stop e = sym (ap (λ r. and_then r (λ _. goes chain files)) e)

are_held : (chain : Chain) (files : Files) → all_held disturb_inputs files ≡ Ok tt → (disturbing chain).comes_to files ≡ goes chain files
are_held chain files e = ap (λ r. and_then r (λ _. goes chain files)) e

pub line_size_refuses : (chain : Chain) (a b : ShelfState) (stop : Stop) → IsSizeStop Line a b stop → Refuses (disturbing chain) a b stop
line_size_refuses chain a b stop cause =
    size_refuses (disturbing chain) Line 0 a b stop (lit< tt) refl (λ files told i h. absurd (omega arith))
    (λ missing files told. not_held chain files (Missing Line) (no_line files (missing (files line_name) (line_told chain a files told)))) cause

line_held : (chain : Chain) (a : ShelfState) (bytes : ℕ) (files : Files) → HasLength line_name bytes a → AreTold (disturbing chain) a.told files → is_none (files line_name) ≡ false
line_held chain a bytes files known told = is_held a line_name bytes (files line_name) known (line_told chain a files told)

script_held : (chain : Chain) (a : ShelfState) (bytes : ℕ) (files : Files) → HasLength script_name bytes a → AreTold (disturbing chain) a.told files → is_none (files script_name) ≡ false
script_held chain a bytes files known told = is_held a script_name bytes (files script_name) known (script_told chain a files told)

first_held : (chain : Chain) (a : ShelfState) (bytes : ℕ) → HasLength line_name bytes a → OfInputs (disturbing chain) a (AreHeld (disturbing chain) 1)
first_held chain a bytes known files told zero h = line_held chain a bytes files known told
first_held chain a bytes known files told (suc i) h = absurd (omega arith)

inputs_held : (chain : Chain) (a : ShelfState) (bytes long : ℕ) → HasLength line_name bytes a → HasLength script_name long a → OfInputs (disturbing chain) a (AreHeld (disturbing chain) 2)
inputs_held chain a bytes long line script files told zero h = line_held chain a bytes files line told
inputs_held chain a bytes long line script files told (suc i) h = script_held chain a long files script told

pub script_size_refuses : (chain : Chain) (a s b : ShelfState) (bytes : ℕ) (stop : Stop) → Looks a s → s.counts ≡ a.counts → HasLength line_name bytes s → IsSizeStop Script s b stop → Refuses (disturbing chain) a b stop
script_size_refuses chain a s b bytes stop looks same known cause =
    refuses_since (disturbing chain) a s b stop looks same
    (size_refuses (disturbing chain) Script 1 s b stop (lit< tt) refl (first_held chain s bytes known)
    (λ missing files told. not_held chain files (Missing Script) (no_script files (line_held chain s bytes files known told) (missing (files script_name) (script_told chain s files told)))) cause)

-- ---- the line

-- the line and the text as they are told
pub record AreFound (files : Files) (bytes long : ℕ) : Type 0 where
  pub line : List ℕ
  pub line_is : files line_name ≡ Some line
  pub line_len : length line ≡ bytes
  pub held : all_held disturb_inputs files ≡ Ok tt
  pub script_len : length (bytes_in files script_name) ≡ long

are_found : (chain : Chain) (a : ShelfState) (bytes long : ℕ) (files : Files) → HasLength line_name bytes a → HasLength script_name long a → AreTold (disturbing chain) a.told files → AreFound files bytes long
are_found chain a bytes long files line script told =
    let held = held_of bytes (files line_name) (line.told (files line_name) (line_told chain a files told)) in
    record {
      line = held.0;
      line_is = held.1;
      line_len = held.2;
      held = both_held files (line_held chain a bytes files line told) (script_held chain a long files script told);
      script_len = length_is a script_name long files script (script_told chain a files told);
    }

long_line : (chain : Chain) (files : Files) (bytes long : ℕ) → AreFound files bytes long → most_frames < bytes / frame_bytes_of chain → goes chain files ≡ Err (ManyFrames (bytes / frame_bytes_of chain))
long_line chain files bytes long found many =
    let same : frames_of chain found.line ≡ bytes / frame_bytes_of chain = ap (λ (k : ℕ). k / frame_bytes_of chain) found.line_len in
    let test : nat_lt most_frames (frames_of chain found.line) ≡ true = grind (arith, nat_tests) in
    let refused : line_of Line chain (Some found.line) ≡ Err (ManyFrames (bytes / frame_bytes_of chain)) = rw test (ap (λ (k : ℕ). Err (ManyFrames k)) same) in
    ap (λ h. and_then (line_of Line chain h) (λ line. and_then (script_rows (length line) (bytes_in files script_name)) (bent chain line))) found.line_is
    ∙ ap (λ r. and_then r (λ line. and_then (script_rows (length line) (bytes_in files script_name)) (bent chain line))) refused

pub many_refused : (chain : Chain) (a s b : ShelfState) (bytes long frames : ℕ) → Looks a s → Looks s b → b.counts ≡ a.counts → HasLength line_name bytes s → HasLength script_name long b → frames ≡ bytes / frame_bytes_of chain → most_frames < frames →
    Refuses (disturbing chain) a b (ManyFrames frames)
many_refused chain a s b bytes long frames first second same line script is many =
    refuses_since (disturbing chain) a b b (ManyFrames frames) (looks_then a s b first second) same
    (λ files told.
    let found = are_found chain b bytes long files (has_length_still line_name s b bytes second line) script told in
    sym (are_held chain files found.held ∙ long_line chain files bytes long found (subst (λ n. most_frames < n) is many) ∙ ap (λ (k : ℕ). Err (ManyFrames k)) (sym is)))

-- a line that isn't too long
few_frames : (chain : Chain) (files : Files) (bytes long : ℕ) (found : AreFound files bytes long) → bytes / frame_bytes_of chain ≤ most_frames → goes chain files ≡ and_then (script_rows bytes (bytes_in files script_name)) (bent chain found.line)
few_frames chain files bytes long found few =
    let same : frames_of chain found.line ≡ bytes / frame_bytes_of chain = ap (λ (k : ℕ). k / frame_bytes_of chain) found.line_len in
    let test : nat_lt most_frames (frames_of chain found.line) ≡ false = grind (arith, nat_tests) in
    let served : line_of Line chain (Some found.line) ≡ Ok found.line = rw test refl in
    ap (λ h. and_then (line_of Line chain h) (λ line. and_then (script_rows (length line) (bytes_in files script_name)) (bent chain line))) found.line_is
    ∙ ap (λ r. and_then r (λ line. and_then (script_rows (length line) (bytes_in files script_name)) (bent chain line))) served
    ∙ ap (λ n. and_then (script_rows n (bytes_in files script_name)) (bent chain found.line)) found.line_len

-- ---- the script

-- the command comes to what the script's text comes to
script_decides : (chain : Chain) (a : ShelfState) (sizes : Sizes) (files : Files) → HasSizes chain sizes a → AreTold (disturbing chain) a.told files →
    (found : AreFound files sizes.line sizes.script) × ((disturbing chain).comes_to files ≡ and_then (script_rows sizes.line (bytes_in files script_name)) (bent chain found.line))
script_decides chain a sizes files has told =
    let found = are_found chain a sizes.line sizes.script files has.line has.script told in
    (found, are_held chain files found.held ∙ few_frames chain files sizes.line sizes.script found has.few)

refused_by : (chain : Chain) (a : ShelfState) (sizes : Sizes) (stop : Stop) → HasSizes chain sizes a → OfInputs (disturbing chain) a (λ files. script_rows sizes.line (bytes_in files script_name) ≡ Err stop) → Comes (disturbing chain) a (Err stop)
refused_by chain a sizes stop has said files told =
    let decided = script_decides chain a sizes files has told in
    sym (decided.1 ∙ ap (λ r. and_then r (bent chain decided.0.line)) (said files told))

long_text : (bytes : ℕ) (text : List ℕ) → most_script_bytes < length text → script_rows bytes text ≡ Err LongScript
unfolding script_rows script_of
long_text bytes text h = let test : nat_lt most_script_bytes (length text) ≡ true = grind (arith, nat_tests) in rw test refl

pub long_refused : (chain : Chain) (a : ShelfState) (sizes : Sizes) → HasSizes chain sizes a → most_script_bytes < sizes.script → Refuses (disturbing chain) a a LongScript
long_refused chain a sizes has long = refused_by chain a sizes LongScript has (λ files told.
    let len = length_is a script_name sizes.script files has.script (script_told chain a files told) in
    long_text sizes.line (bytes_in files script_name) (subst (λ n. most_script_bytes < n) (sym len) long))

text_due : (chain : Chain) (a : ShelfState) (sizes : Sizes) → HasSizes chain sizes a → sizes.script ≤ most_script_bytes → OfInputs (disturbing chain) a (IsReadDue (disturbing chain) Script)
text_due chain a sizes has short files told =
    let found = are_found chain a sizes.line sizes.script files has.line has.script told in
    let line : frames_of chain (bytes_in files line_name) ≡ sizes.line / frame_bytes_of chain = ap (λ n. n / frame_bytes_of chain) (length_is a line_name sizes.line files has.line (line_told chain a files told)) in
    let few : nat_le (frames_of chain (bytes_in files line_name)) most_frames ≡ true = let f = has.few in grind (arith, nat_tests) in
    let text : nat_le (length (bytes_in files script_name)) most_script_bytes ≡ true = let e = found.script_len in grind (arith, nat_tests) in
    rw (found.held, few, text) refl

pub text_unread : (chain : Chain) (a b : ShelfState) (sizes : Sizes) (stop : Stop) → HasSizes chain sizes a → sizes.script ≤ most_script_bytes → IsReadStop Script a b stop → Refuses (disturbing chain) a b stop
text_unread chain a b sizes stop has short cause = read_refuses (disturbing chain) Script 1 a b stop (lit< tt) refl refl (text_due chain a sizes has short) cause

-- the text that was read is the script's
text_is : (chain : Chain) (a : ShelfState) (read : List ℕ) (files : Files) → Holds (a.told script_name) read → AreTold (disturbing chain) a.told files → bytes_in files script_name ≡ read
text_is chain a read files holds told = ap (λ (h : Option (List ℕ)). unwrap_or h []) (holds (files script_name) (script_told chain a files told))

faulty : (bytes : ℕ) (text : List ℕ) (fault : ScriptFault) → script_of (8 * bytes) text ≡ Err fault → script_rows bytes text ≡ Err (stop_of_script fault)
unfolding script_rows
faulty bytes text fault e = ap script_or_stop e

fault_read : (chain : Chain) (a : ShelfState) (sizes : Sizes) (read : List ℕ) (fault : ScriptFault) → HasSizes chain sizes a → Holds (a.told script_name) read → script_of (8 * sizes.line) read ≡ Err fault → Comes (disturbing chain) a (Err (stop_of_script fault))
fault_read chain a sizes read fault has holds said =
    refused_by chain a sizes (stop_of_script fault) has (λ files told. ap (script_rows sizes.line) (text_is chain a read files holds told) ∙ faulty sizes.line read fault said)

pub fault_refuses : (chain : Chain) (a b : ShelfState) (sizes : Sizes) (read : List ℕ) (fault : ScriptFault) → HasSizes chain sizes a → Holds (a.told script_name) read → Fails fault (script_of (8 * sizes.line) read) → Refuses (disturbing chain) a b (stop_of_script fault)
fault_refuses chain a b sizes read NoMemory has holds said = tt
fault_refuses chain a b sizes read (TooLong len) has holds said = fault_read chain a sizes read (TooLong len) has holds said
fault_refuses chain a b sizes read (RowIsBad line) has holds said = fault_read chain a sizes read (RowIsBad line) has holds said
fault_refuses chain a b sizes read (EndIsPast line) has holds said = fault_read chain a sizes read (EndIsPast line) has holds said

pub rows_read : (a : ShelfState) (bytes : ℕ) (read : List ℕ) (rows : List Row) → Holds (a.told script_name) read → script_of (8 * bytes) read ≡ Ok rows → ScriptIs bytes a (Ok rows)
unfolding script_rows
rows_read a bytes read rows holds said text told = ap (λ (h : Option (List ℕ)). script_rows bytes (unwrap_or h [])) (holds (Some text) told) ∙ ap script_or_stop said

-- ---- the line with the script

-- the sizes are known still after the files were looked at again
pub sizes_since : (chain : Chain) (sizes : Sizes) (a b : ShelfState) → Looks a b → HasSizes chain sizes a → HasSizes chain sizes b
sizes_since chain sizes a b looks has = record {
  line = has_length_still line_name a b sizes.line looks has.line;
  script = has_length_still script_name a b sizes.script looks has.script;
  few = has.few;
}

-- the script's text has these rows
pub script_found : (chain : Chain) (a : ShelfState) (sizes : Sizes) (rows : List Row) (files : Files) → HasSizes chain sizes a → ScriptIs sizes.line a (Ok rows) → AreTold (disturbing chain) a.told files → script_rows sizes.line (bytes_in files script_name) ≡ Ok rows
script_found chain a sizes rows files has are told =
    let held = held_of sizes.script (files script_name) (has.script.told (files script_name) (script_told chain a files told)) in
    ap (λ (h : Option (List ℕ)). script_rows sizes.line (unwrap_or h [])) held.1 ∙ are held.0 (script_told chain a files told ∙ ap Known held.1)

-- and then nothing refuses the inputs
pub ready : (chain : Chain) (a : ShelfState) (sizes : Sizes) (rows : List Row) (files : Files) → HasSizes chain sizes a → ScriptIs sizes.line a (Ok rows) → AreTold (disturbing chain) a.told files →
    (found : AreFound files sizes.line sizes.script) × ((disturbing chain).comes_to files ≡ bent chain found.line rows)
ready chain a sizes rows files has are told =
    let decided = script_decides chain a sizes files has told in
    (decided.0, decided.1 ∙ ap (λ r. and_then r (bent chain decided.0.line)) (script_found chain a sizes rows files has are told))
