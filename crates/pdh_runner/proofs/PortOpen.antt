-- A port is opened for files of a command.
use Rattle.std.proofs.Common.{◌≡◌, ℕ, ◌+◌, ◌-◌, ◌*◌, ◌/◌, ◌<◌, ◌≤◌, Bool, true, false, List, [], ◌∷◌, ◌++◌, length, map, take, Option, None, Some, slice_get, refl, ap, sym, subst, ◌∙◌, arith}
use Rattle.std.specs.Prelude.{IsTrue, if◌then◌else◌}
use Rattle.std.specs.Option.{option_map, option_and_then, option_map_or}
use Rattle.std.specs.declared.alloc.Global.{Global}
use Rattle.std.specs.declared.string.String.{String}
use Rattle.std.specs.String.{string_bytes}
use Rattle.std.proofs.lemmas.Bool.{lt-ltb, le-ltb}
use Rattle.std.proofs.Math.Dec.{ltb}
use Rattle.std.proofs.lemmas.Option.{none-some, same_Some, slice_get-map}
use Rattle.std.proofs.lemmas.List.{length-map}
use Rattle.pdh_bits.specs.Bits.{bits_of}
use Rattle.pdh_edge.specs.Files.{ShelfState, Looks, WhereTold}
use Rattle.pdh_edge.specs.Files.Told.{Known}
use Rattle.pdh_blocks.specs.declared.source.Source.{Source}
use Rattle.pdh_blocks.specs.Leaves.{Leaf, Output, IsReadable}
use Rattle.pdh_blocks.specs.State.{leaf_name, output_name}
use Rattle.pdh_blocks.specs.Lists.{inputs_of, outputs_of, rest_in, rest_of, left_of, put_in, appended}
use Rattle.pdh_blocks.specs.Held.{AllDiffer}
use Rattle.pdh_blocks.specs.Opened.{CanOpen, IsSource, HasBytesFor, opened, source_name, unread_leaf, unwritten}
use Rattle.pdh_answers.specs.Names.{name_of}
use Rattle.pdh_runner.specs.Reading.{HasLength}
use Rattle.pdh_runner.specs.Performing.{GoesOn}
use Rattle.pdh_runner.specs.PortFiles.{HasBits, AreFiles, AreSources, HasFiles, IsOpenFor, opened_for, unread_file, unwritten_file, input_name}
use Rattle.pdh_answers.specs.declared.file.File.{File}
use Rattle.pdh_runner.specs.declared.port.Input.{Input}
use Rattle.pdh_runner.specs.Operation.{Operation}

-- ---- mapped lists

read_names : (reads : List Input) → map leaf_name (map unread_file reads) ≡ map input_name reads
read_names [] = refl
read_names (input ∷ reads) = ap (λ all. input_name input ∷ all) (read_names reads)

written_names : (writes : List File) → map output_name (map unwritten_file writes) ≡ map name_of writes
written_names [] = refl
written_names (file ∷ writes) = ap (λ all. name_of file ∷ all) (written_names writes)

source_names : (sources : List Source) → map leaf_name (map unread_leaf sources) ≡ map source_name sources
source_names [] = refl
source_names (source ∷ sources) = ap (λ all. source_name source ∷ all) (source_names sources)

unwritten_names : (names : List (String Global)) → map output_name (map unwritten names) ≡ map string_bytes names
unwritten_names [] = refl
unwritten_names (name ∷ names) = ap (λ all. string_bytes name ∷ all) (unwritten_names names)

written_are : (names : List (String Global)) → map unwritten names ≡ map (λ (name : List ℕ). record { name = name; waiting = [] }) (map string_bytes names)
written_are [] = refl
written_are (name ∷ names) = ap (λ all. unwritten name ∷ all) (written_are names)

files_are : (writes : List File) → map unwritten_file writes ≡ map (λ (name : List ℕ). record { name = name; waiting = [] }) (map name_of writes)
files_are [] = refl
files_are (file ∷ writes) = ap (λ all. unwritten_file file ∷ all) (files_are writes)

-- ---- files

-- a file that is long enough has so many bits
pub long_has : (name : List ℕ) (bytes bits : ℕ) (state : ShelfState) → HasLength name bytes state → bits ≤ 8 * bytes → HasBits name bits state
long_has name bytes bits state known long = record {
  told = λ held told. has held (known.told held told);
  readable = λ at len within. known.readable at len (let within' : at + len ≤ (bits + 7) / 8 = within in omega arith);
}
  where
    has : (held : Option (List ℕ)) → Some bytes ≡ option_map length held → HasBytesFor bits held
    has None e = absurd (cc)
    has (Some content) e = let same : bytes ≡ length content = cc in omega arith

-- ---- the sources of a port

module _ (state : ShelfState) (reads : List Input) (writes : List File) (sources : List Source) (names : List (String Global)) (are : AreSources reads sources) (named : map string_bytes names ≡ map name_of writes) where
  same_names : map source_name sources ≡ map input_name reads
  same_names = sym (source_names sources) ∙ ap (map leaf_name) are ∙ read_names reads

  pub same_port : opened state sources names ≡ opened_for state reads writes
  same_port =
      let outputs_are : map unwritten names ≡ map unwritten_file writes = written_are names ∙ ap (map (λ (name : List ℕ). record { name = name; waiting = [] })) named ∙ sym (files_are writes) in
      ap (λ (leaves : List Leaf). record (opened state sources names) { leaves = leaves }) are ∙ ap (λ (outs : List Output). record (opened_for state reads writes) { outputs = outs }) outputs_are

  is_source : AreFiles state reads writes → (k : ℕ) (source : Source) → slice_get sources k ≡ Some source → IsSource state source
  is_source files k source here = go (slice_get reads k) refl
    where
      go : (found : Option Input) → slice_get reads k ≡ found → IsSource state source
      go None e =
          let wrong : Some (unread_leaf source) ≡ None = sym (slice_get-map unread_leaf sources k ∙ ap (option_map unread_leaf) here) ∙ ap (λ all. slice_get all k) are ∙ slice_get-map unread_file reads k ∙ ap (option_map unread_file) e in
          absurd (cc)
      go (Some input) e =
          let both : Some (unread_leaf source) ≡ Some (unread_file input) = sym (slice_get-map unread_leaf sources k ∙ ap (option_map unread_leaf) here) ∙ ap (λ all. slice_get all k) are ∙ slice_get-map unread_file reads k ∙ ap (option_map unread_file) e in
          let same : unread_leaf source ≡ unread_file input = same_Some _ _ both in
          let has = files.has k input e in
          let name : source_name source ≡ input_name input = ap leaf_name same in
          let bits : source.bits ≡ input.bits = ap (λ (leaf : Leaf). leaf.bits) same in
          record {
            readable = subst (λ n. IsReadable state n source.bits) (sym name) (subst (IsReadable state (input_name input)) (sym bits) has.readable);
            told = subst (λ n. WhereTold (state.told n) (HasBytesFor source.bits)) (sym name) (subst (λ b. WhereTold (state.told (input_name input)) (HasBytesFor b)) (sym bits) has.told);
          }

  pub can_open : AreFiles state reads writes → CanOpen state sources names
  can_open files = record {
    sources = is_source files;
    differ = subst (λ all. AllDiffer (all ++ map string_bytes names)) (sym same_names) (subst (λ all. AllDiffer (map input_name reads ++ all)) (sym named) files.differ);
    few = omega (arith, files.few, ap length same_names, ap length named, length-map sources source_name, length-map reads input_name, length-map names (string_bytes {Z = Global}), length-map writes name_of);
  }

-- ---- an opened port

module _ (state : ShelfState) (reads : List Input) (writes : List File) where
  pub has_files : HasFiles reads writes (opened_for state reads writes)
  has_files = record { reads_are = read_names reads; writes_are = written_names writes }

  leaf_at : (k : ℕ) (input : Input) → slice_get reads k ≡ Some input → slice_get (map unread_file reads) k ≡ Some (unread_file input)
  leaf_at k input here = slice_get-map unread_file reads k ∙ ap (option_map unread_file) here

  pub holds_read : (k : ℕ) (n : ℕ) → length reads ≡ n → k < n → IsTrue ((inputs_of (opened_for state reads writes)).holds k)
  holds_read k n count low = lt-ltb k (length (map unread_file reads)) (omega (arith, length-map reads unread_file, count, low))

  pub holds_written : (k : ℕ) (n : ℕ) → length writes ≡ n → k < n → IsTrue ((outputs_of (opened_for state reads writes)).holds k)
  holds_written k n count low = lt-ltb k (length (map unwritten_file writes)) (omega (arith, length-map writes unwritten_file, count, low))

  -- how many bits it has of a file
  pub left_read : (k : ℕ) (input : Input) → slice_get reads k ≡ Some input → (inputs_of (opened_for state reads writes)).left k ≡ input.bits
  left_read k input here = let none : input.bits - 0 ≡ input.bits = omega arith in ap (λ (found : Option Leaf). option_map_or left_of found 0) (leaf_at k input here) ∙ none

  -- and which, where the file is told
  pub told_read : (k : ℕ) (input : Input) (bytes : List ℕ) → slice_get reads k ≡ Some input → state.told (input_name input) ≡ Known (Some bytes) → (inputs_of (opened_for state reads writes)).told k ≡ Some (take input.bits (bits_of bytes))
  told_read k input bytes here known = ap (option_and_then (rest_in (opened_for state reads writes))) (leaf_at k input here) ∙ ap (λ told. rest_of told (unread_file input)) known

  -- nothing was put
  pub empty_written : (k : ℕ) (list : List Bool) → (outputs_of (opened_for state reads writes)).told k ≡ Some list → list ≡ []
  empty_written k list here = go (slice_get writes k) refl
    where
      put : (tells : Bool) (bits : List Bool) → bits ≡ [] → (if tells then Some bits else None) ≡ Some list → list ≡ []
      put true bits none e = let same : Some list ≡ Some bits = sym e in same_Some _ _ same ∙ none
      put false bits none e = absurd (none-some list e)

      none_waits : (file : File) → appended (opened_for state reads writes) k (unwritten_file file) ++ [] ≡ []
      none_waits file = let test : ltb k 0 ≡ false = le-ltb k 0 (omega arith) in rw test refl

      at : (found : Option File) → slice_get writes k ≡ found → slice_get (map unwritten_file writes) k ≡ option_map unwritten_file found
      at found e = slice_get-map unwritten_file writes k ∙ ap (option_map unwritten_file) e

      go : (found : Option File) → slice_get writes k ≡ found → list ≡ []
      go None e = absurd (none-some list (sym (ap (option_and_then (put_in (opened_for state reads writes) k)) (at None e)) ∙ here))
      go (Some file) e = put (state.tells_started (name_of file)) (appended (opened_for state reads writes) k (unwritten_file file) ++ []) (none_waits file) (sym (ap (option_and_then (put_in (opened_for state reads writes) k)) (at (Some file) e)) ∙ here)

-- it is open for a command of which these are the outputs
pub open_for : (operation : Operation) (a b : ShelfState) (reads : List Input) (writes : List File) → Looks a b → b.counts ≡ a.counts → GoesOn operation a → length writes ≡ operation.outputs.count
    → ((k : ℕ) → k < operation.outputs.count → slice_get (map name_of writes) k ≡ Some (operation.outputs.name k)) → IsOpenFor operation a (opened_for b reads writes)
open_for operation a b reads writes looks same goes_on count named = record {
  looks = looks;
  same = same;
  goes_on = goes_on;
  writes = record { count = length-map writes unwritten_file ∙ count; named = λ k low. ap (λ all. slice_get all k) (written_names writes) ∙ named k low };
  fresh = refl;
  unread = refl;
  unwritten = refl;
  empty = empty_written b reads writes;
}
