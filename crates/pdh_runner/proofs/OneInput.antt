-- A command that begins with one file, of which the length alone decides whether it is refused.
use Rattle.std.proofs.Common.{◌≡◌, ℕ, zero, suc, List, [], ◌∷◌, slice_get, Option, None, Some, Result, Ok, Err, false, length, refl, ap, sym, subst, ◌∙◌, arith}
use Rattle.std.specs.Prelude.{IfErr}
use Rattle.std.specs.Option.{option_map}
use Rattle.std.proofs.lemmas.Option.{none-some, same_Some}
use Rattle.pdh_edge.specs.Files.{ShelfState, Holds}
use Rattle.pdh_edge.specs.Files.Told.{Known}
use Rattle.pdh_answers.specs.Names.{name_of}
use Rattle.pdh_answers.specs.Answer.{Answer, and_then}
use Rattle.pdh_runner.specs.Reading.{HasLength, IsSizeStop, IsReadStop}
use Rattle.pdh_runner.specs.Operation.{Operation, AreTold, OfInputs, reaches_outputs, Files}
use Rattle.pdh_runner.specs.Performing.{Comes, GoesOn}
use Rattle.pdh_runner.specs.Refusing.{Refuses}
use Rattle.pdh_runner.specs.LineSteps.{Judge, BeginsWith}
use Rattle.pdh_answers.specs.declared.file.File.{File}
use Rattle.pdh_answers.specs.declared.answer.Stop.{Stop}
use Rattle.pdh_runner.specs.declared.port.Input.{Input}
use Rattle.pdh_runner.proofs.Refusing.{size_refuses, read_refuses}

-- of one input there is no other
pub only_input : (inputs : List Input) (one : Input) → inputs ≡ one ∷ [] → (k : ℕ) (input : Input) → slice_get inputs k ≡ Some input → input ≡ one
only_input inputs one is k input here = go k (ap (λ (all : List Input). slice_get all k) (sym is) ∙ here)
  where
    go : (k : ℕ) → slice_get (one ∷ []) k ≡ Some input → input ≡ one
    go zero here = sym (same_Some _ _ here)
    go (suc k) here = absurd (none-some input here)

-- all contents of so many bytes are refused, or none of them is
abbrev pub RefusesAll : Judge → ℕ → Stop → Type 0
RefusesAll judge bytes stop = (content : List ℕ) → length content ≡ bytes → judge (Some content) ≡ Err stop

abbrev pub ServesAll : Judge → ℕ → Type 0
ServesAll judge bytes = (content : List ℕ) → length content ≡ bytes → judge (Some content) ≡ Ok content

pub file_told : (operation : Operation) (file : File) (judge : Judge) (next : List ℕ → Answer) (a : ShelfState) (files : Files) → BeginsWith operation file judge next → AreTold operation a.told files → a.told (name_of file) ≡ Known (files (name_of file))
file_told operation file judge next a files begins told = subst (λ name. a.told name ≡ Known (files name)) (sym begins.first) (told 0 begins.some)

-- the file wasn't there, or its size wasn't told
pub missing_refuses : (operation : Operation) (file : File) (judge : Judge) (next : List ℕ → Answer) (a b : ShelfState) (stop : Stop) → BeginsWith operation file judge next → IsSizeStop file a b stop → Refuses operation a b stop
missing_refuses operation file judge next a b stop begins cause =
    size_refuses operation file 0 a b stop begins.some begins.first (λ files told i h. absurd (omega arith))
    (λ missing files told.
    let none : files (name_of file) ≡ None = missing (files (name_of file)) (file_told operation file judge next a files begins told) in
    sym (begins.comes files ∙ ap (λ h. and_then (judge h) next) none ∙ ap (λ r. and_then r next) begins.missing)) cause

-- a file of so many bytes that is held
pub held_of : (bytes : ℕ) (held : Option (List ℕ)) → Some bytes ≡ option_map length held → (content : List ℕ) × (held ≡ Some content) × (length content ≡ bytes)
held_of bytes None e = absurd (cc)
held_of bytes (Some content) e = (content, refl, let same : bytes ≡ length content = cc in sym same)

-- contents of that length are refused
pub length_refuses : (operation : Operation) (file : File) (judge : Judge) (next : List ℕ → Answer) (a : ShelfState) (bytes : ℕ) (stop : Stop) → BeginsWith operation file judge next → HasLength (name_of file) bytes a → RefusesAll judge bytes stop → Comes operation a (Err stop)
length_refuses operation file judge next a bytes stop begins known all files told =
    let held = held_of bytes (files (name_of file)) (known.told (files (name_of file)) (file_told operation file judge next a files begins told)) in
    sym (begins.comes files ∙ ap (λ h. and_then (judge h) next) held.1 ∙ ap (λ r. and_then r next) (all held.0 held.2))

-- or they aren't, and the command goes on
pub comes_on : (operation : Operation) (file : File) (judge : Judge) (next : List ℕ → Answer) (files : Files) (content : List ℕ) → BeginsWith operation file judge next → files (name_of file) ≡ Some content → judge (Some content) ≡ Ok content → operation.comes_to files ≡ next content
comes_on operation file judge next files content begins held served =
    begins.comes files ∙ ap (λ h. and_then (judge h) next) held ∙ ap (λ r. and_then r next) served

-- then its bytes, where they are read before the run, are read in their turn
pub reading_refuses : (operation : Operation) (file : File) (judge : Judge) (next : List ℕ → Answer) (a b : ShelfState) (bytes : ℕ) (stop : Stop) → BeginsWith operation file judge next → operation.reads_in_run file ≡ false → HasLength (name_of file) bytes a → ServesAll judge bytes → IsReadStop file a b stop → Refuses operation a b stop
reading_refuses operation file judge next a b bytes stop begins early known all cause =
    read_refuses operation file 0 a b stop begins.some begins.first early
    (λ files told.
    let held = held_of bytes (files (name_of file)) (known.told (files (name_of file)) (file_told operation file judge next a files begins told)) in
    begins.due files (ap reaches_outputs (comes_on operation file judge next files held.0 begins held.1 (all held.0 held.2)) ∙ begins.reaches held.0)) cause

-- what follows from a stop's cause
pub err_map : {T : Type 0} (P Q : Stop → Type 0) (r : Result T Stop) → ((stop : Stop) → P stop → Q stop) → IfErr r P → IfErr r Q
err_map P Q (Ok x) each cause = tt
err_map P Q (Err stop) each cause = each stop cause

-- ---- what it comes to by its bytes

pub comes_of_bytes : (operation : Operation) (file : File) (judge : Judge) (next : List ℕ → Answer) (a : ShelfState) (content : List ℕ) → BeginsWith operation file judge next → Holds (a.told (name_of file)) content → judge (Some content) ≡ Ok content → OfInputs operation a (λ files. operation.comes_to files ≡ next content)
comes_of_bytes operation file judge next a content begins holds served files told =
    comes_on operation file judge next files content begins (holds (files (name_of file)) (file_told operation file judge next a files begins told)) served

pub goes_on_by_bytes : (operation : Operation) (file : File) (judge : Judge) (next : List ℕ → Answer) (a : ShelfState) (content : List ℕ) → BeginsWith operation file judge next → Holds (a.told (name_of file)) content → judge (Some content) ≡ Ok content → GoesOn operation a
goes_on_by_bytes operation file judge next a content begins holds served files told =
    ap reaches_outputs (comes_of_bytes operation file judge next a content begins holds served files told) ∙ begins.reaches content

pub bytes_are : (operation : Operation) (file : File) (judge : Judge) (next : List ℕ → Answer) (a : ShelfState) (content : List ℕ) → BeginsWith operation file judge next → Holds (a.told (name_of file)) content → OfInputs operation a (λ files. files (name_of file) ≡ Some content)
bytes_are operation file judge next a content begins holds files told = holds (files (name_of file)) (file_told operation file judge next a files begins told)
