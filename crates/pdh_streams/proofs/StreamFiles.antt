-- A command that gives all bits of one file to a machine in its run, and writes what the machine puts: the port that is prepared
-- for it.
use Rattle.std.proofs.Common.{◌≡◌, ℕ, zero, suc, ◌*◌, ◌<◌, true, List, Bool, [], ◌∷◌, ◌++◌, length, map, take, Option, None, Some, slice_get, ap, sym, refl, subst, ◌∙◌, arith, lit<}
use Rattle.std.specs.Prelude.{unwrap_or}
use Rattle.std.proofs.lemmas.Option.{none-some, same_Some}
use Rattle.std.proofs.Math.Seq.{take-length}
use Rattle.pdh_bits.specs.Bits.{bits_of, bytes_of}
use Rattle.pdh_bits.proofs.BitsLemmas.{length-bits_of}
use Rattle.pdh_edge.specs.Files.{ShelfState, Looks}
use Rattle.pdh_edge.specs.Files.Told.{Known}
use Rattle.pdh_blocks.specs.Lists.{inputs_of}
use Rattle.pdh_blocks.specs.Held.{AllDiffer}
use Rattle.pdh_answers.specs.Names.{name_of}
use Rattle.pdh_answers.specs.Answer.{Answer}
use Rattle.pdh_answers.specs.declared.file.File.{File}
use Rattle.pdh_runner.specs.Reading.{HasLength}
use Rattle.pdh_runner.specs.Operation.{Operation, bytes_in, Files, AreTold, OfInputs, reaches_outputs, IsReadDue}
use Rattle.pdh_runner.specs.Performing.{GoesOn}
use Rattle.pdh_runner.specs.PortFiles.{HasBits, AreFiles, AreRead, opened_for, input_name}
use Rattle.pdh_runner.specs.Running.{IsAlone, ArePrepared}
use Rattle.pdh_runner.specs.LineSteps.{BeginsWith, Judge}
use Rattle.pdh_runner.specs.declared.port.Input.{Input}
use Rattle.pdh_runner.proofs.OneInput.{ServesAll, file_told, held_of, comes_on, only_input}
use Rattle.pdh_runner.proofs.Differing.{none_differ, one_more_differs}
use Rattle.pdh_runner.proofs.PortOpen.{open_for, long_has, told_read, left_read, holds_read, holds_written}
use Rattle.pdh_runner.proofs.Touching.{looks_same}
use Rattle.pdh_streams.specs.Steps.{CanStream, IsStreamPort}

-- A command begins with a file, of which it reads all bits in its run, and writes one file; the first isn't refused.
pub record StreamsFile (operation : Operation) (from to : File) (judge : Judge) (next : List ℕ → Answer) (far : List Bool → List Bool) (input : Input) (b : ShelfState) : Type 0 where
  pub begins : BeginsWith operation from judge next
  pub in_run : operation.reads_in_run from ≡ true
  pub one : operation.outputs.count ≡ 1
  pub named : operation.outputs.name 0 ≡ name_of to
  pub apart : name_of to ≡ name_of from → ⊥
  pub shows : operation.shows ≡ None
  pub file_is : input.file ≡ from
  pub octets : ℕ
  pub bits_are : input.bits ≡ 8 * octets
  pub long : HasLength (name_of from) octets b
  pub serves : ServesAll judge octets
  pub bytes : (files : Files) (content : List ℕ) → files (name_of from) ≡ Some content → length content ≡ octets → operation.bytes files 0 ≡ bytes_of (far (bits_of content))

module _ (operation : Operation) (from to : File) (judge : Judge) (next : List ℕ → Answer) (far : List Bool → List Bool) (input : Input) (b : ShelfState) (is : StreamsFile operation from to judge next far input b) where
  -- ---- whichever state it began with

  module _ (a : ShelfState) (looks : Looks a b) where
    -- the bytes of the file, where it is told
    held : (files : Files) → AreTold operation a.told files → (content : List ℕ) × (files (name_of from) ≡ Some content) × (length content ≡ is.octets)
    held files told = held_of is.octets (files (name_of from)) (is.long.told (files (name_of from)) (looks_same a b (name_of from) looks ∙ file_told operation from judge next a files is.begins told))

    comes : OfInputs operation a (λ files. operation.comes_to files ≡ next (bytes_in files (name_of from)))
    comes files told =
        let found = held files told in
        comes_on operation from judge next files found.0 is.begins found.1 (is.serves found.0 found.2) ∙ ap (λ (h : Option (List ℕ)). next (unwrap_or h [])) (sym found.1)

    goes_on : GoesOn operation a
    goes_on files told = ap reaches_outputs (comes files told) ∙ is.begins.reaches (bytes_in files (name_of from))

    long : OfInputs operation a (λ files. length (bits_of (bytes_in files (name_of from))) ≡ input.bits)
    long files told =
        let found = held files told in
        ap (λ (h : Option (List ℕ)). length (bits_of (unwrap_or h []))) found.1 ∙ length-bits_of found.0 ∙ ap (λ (n : ℕ). 8 * n) found.2 ∙ sym is.bits_are

    bytes : OfInputs operation a (λ files. operation.bytes files 0 ≡ bytes_of (far (bits_of (bytes_in files (name_of from)))))
    bytes files told =
        let found = held files told in
        is.bytes files found.0 found.1 found.2 ∙ ap (λ (h : Option (List ℕ)). bytes_of (far (bits_of (unwrap_or h [])))) (sym found.1)

  -- ---- the port

  module _ (reads : List Input) (one : reads ≡ input ∷ []) (writes : List File) (out : writes ≡ to ∷ []) where
    first : slice_get reads 0 ≡ Some input
    first = ap (λ (all : List Input). slice_get all 0) one

    the_input : (k : ℕ) (other : Input) → slice_get reads k ≡ Some other → other ≡ input
    the_input = only_input reads input one

    is_file : (k : ℕ) (other : Input) → slice_get reads k ≡ Some other → other.file ≡ from
    is_file k other here = ap (λ (other : Input). other.file) (the_input k other here) ∙ is.file_is

    apart : (k : ℕ) → slice_get (name_of to ∷ []) k ≡ Some (name_of input.file) → ⊥
    apart zero here = is.apart (same_Some _ _ here ∙ ap name_of is.file_is)
    apart (suc k) here = none-some (name_of input.file) here

    -- the file is there, and the other has another name
    files_are : AreFiles b reads writes
    files_are = record {
      has = λ k other here. subst (λ (other : Input). HasBits (input_name other) other.bits b) (sym (the_input k other here))
          (long_has (name_of input.file) is.octets input.bits b (subst (λ file. HasLength (name_of file) is.octets b) (sym is.file_is) is.long) (omega (arith, is.bits_are)));
      differ = subst (λ (reads : List Input). AllDiffer (map input_name reads ++ map name_of writes)) (sym one) (subst (λ (writes : List File). AllDiffer (name_of input.file ∷ map name_of writes)) (sym out)
          (one_more_differs (name_of input.file) (name_of to ∷ []) (one_more_differs (name_of to) [] none_differ (λ k here. none-some (name_of to) here)) apart));
      few = omega (arith, ap length one, ap length out);
    }

    -- it is read in the run, and due there
    one_read : (a : ShelfState) → Looks a b → AreRead operation a reads
    one_read a looks = record {
      input = λ k other here. (0, is.begins.some, ap name_of (is_file k other here) ∙ is.begins.first);
      in_run = λ k other here. subst (λ file. operation.reads_in_run file ≡ true) (sym (is_file k other here)) is.in_run;
      due = λ k other here files told. subst (λ file. IsReadDue operation file files) (sym (is_file k other here)) (is.begins.due files (goes_on a looks files told));
    }

    gives : (a : ShelfState) → Looks a b → OfInputs operation a (λ files. (inputs_of (opened_for b reads writes)).told 0 ≡ Some (bits_of (bytes_in files (name_of from))))
    gives a looks files told =
        let found = held a looks files told in
        let known : b.told (name_of input.file) ≡ Known (Some found.0) =
        ap (λ file. b.told (name_of file)) is.file_is ∙ looks_same a b (name_of from) looks ∙ file_told operation from judge next a files is.begins told ∙ ap Known found.1 in
        let whole : input.bits ≡ length (bits_of found.0) = is.bits_are ∙ ap (λ (n : ℕ). 8 * n) (sym found.2) ∙ sym (length-bits_of found.0) in
        told_read b reads writes 0 input found.0 first known
        ∙ ap (λ n. Some (take n (bits_of found.0))) whole ∙ ap Some (take-length (bits_of found.0)) ∙ ap (λ (h : Option (List ℕ)). Some (bits_of (unwrap_or h []))) (sym found.1)

    named : (k : ℕ) → k < operation.outputs.count → slice_get (map name_of writes) k ≡ Some (operation.outputs.name k)
    named zero low = ap (λ (all : List File). slice_get (map name_of all) 0) out ∙ ap Some (sym is.named)
    named (suc k) low = absurd (omega (arith, low, is.one))

    stream_port : (a : ShelfState) → Looks a b → b.counts ≡ a.counts → IsStreamPort operation (name_of from) far next input.bits a (opened_for b reads writes)
    stream_port a looks same = record {
      open_for = open_for operation a b reads writes looks same (goes_on a looks) (ap length out ∙ sym is.one) named;
      one = is.one;
      comes = comes a looks;
      gives = gives a looks;
      long = long a looks;
      bytes = bytes a looks;
    }

    pub stream_prepared : ArePrepared operation (CanStream input.bits) (IsStreamPort operation (name_of from) far next input.bits) b reads writes
    stream_prepared = record {
      files = files_are;
      port = record {
        fresh = refl;
        line = record { holds = holds_read b reads writes 0 1 (ap length one) (lit< tt); left = left_read b reads writes 0 input first };
        out = holds_written b reads writes 0 1 (ap length out) (lit< tt);
      };
      given = λ begun looks same. record { open_for = (stream_port begun looks same).open_for; due = one_read begun looks; alone = subst (λ shows. IsAlone shows operation reads) (sym is.shows) tt };
      lists = λ begun looks same. stream_port begun looks same;
    }
