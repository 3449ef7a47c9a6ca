-- A command that reads all bits of one file in its run, and writes nothing: the port that is prepared for it, and what was given.
use Rattle.std.proofs.Common.{◌≡◌, ℕ, ◌*◌, ◌-◌, ◌^◌, ◌<◌, Bool, true, List, [], ◌∷◌, ◌++◌, length, map, take, Option, None, Some, slice_get, ap, sym, refl, subst, ◌∙◌, arith, lit<}
use Rattle.std.specs.Option.{option_map_or}
use Rattle.std.specs.Prelude.{unwrap_or}
use Rattle.std.proofs.lemmas.Option.{none-some, same_Some}
use Rattle.std.proofs.Math.Seq.{take-length, take-append_seam}
use Rattle.pdh_bits.specs.Bits.{bits_of}
use Rattle.pdh_bits.proofs.BitsLemmas.{length-bits_of}
use Rattle.pdh_edge.specs.Files.{ShelfState, Looks, TellsFailed}
use Rattle.pdh_edge.specs.Files.Told.{Known}
use Rattle.pdh_edge.specs.Ports.{Takes, IsPrefix}
use Rattle.pdh_chain.specs.Muxing.{as_line}
use Rattle.pdh_blocks.specs.Leaves.{Leaf, IsNextBlock}
use Rattle.pdh_blocks.specs.State.{PortState, Origin, origin_of}
use Rattle.pdh_blocks.specs.Lists.{inputs_of, left_of}
use Rattle.pdh_blocks.specs.Done.{IsUnread}
use Rattle.pdh_blocks.proofs.Places.{get_mapped}
use Rattle.pdh_blocks.specs.Held.{IsPort, AllDiffer}
use Rattle.pdh_blocks.specs.Kept.{Feeds}
use Rattle.pdh_watch.specs.declared.event.Event.{Event}
use Rattle.pdh_watch.specs.Monitors.{State, SawEach}
use Rattle.pdh_answers.specs.Names.{name_of}
use Rattle.pdh_answers.specs.Answer.{Answer}
use Rattle.pdh_runner.specs.Reading.{HasLength}
use Rattle.pdh_runner.specs.Operation.{Operation, View, bytes_in, Files, AreTold, OfInputs, reaches_outputs, IsReadDue, IsOfFile}
use Rattle.pdh_runner.specs.Operation.View.{EventsOfFile, EventsOfAll}
use Rattle.pdh_runner.specs.Performing.{GoesOn, SeeEvents}
use Rattle.pdh_runner.specs.PortFiles.{HasBits, AreFiles, AreRead, unread_file, opened_for, input_name}
use Rattle.pdh_runner.specs.Running.{IsAlone, ArePrepared, SeesBefore}
use Rattle.pdh_runner.specs.LineSteps.{BeginsWith, Judge, CanRead, IsLinePort}
use Rattle.pdh_answers.specs.declared.file.File.{File}
use Rattle.pdh_runner.specs.declared.port.Input.{Input}
use Rattle.pdh_runner.proofs.OneInput.{ServesAll, file_told, held_of, comes_on, only_input}
use Rattle.pdh_runner.proofs.Differing.{none_differ, one_more_differs}
use Rattle.pdh_runner.proofs.PortOpen.{open_for, long_has, told_read, left_read, holds_read}
use Rattle.pdh_runner.proofs.PortRun.{given_begins, all_given}
use Rattle.pdh_runner.proofs.Touching.{looks_same}

-- A command begins with a file, of which it reads all bits in its run, and writes nothing; the file isn't refused.
pub record ReadsWhole (operation : Operation) (file : File) (judge : Judge) (next : List ℕ → Answer) (line : Input) (b : ShelfState) : Type 0 where
  pub begins : BeginsWith operation file judge next
  pub in_run : operation.reads_in_run file ≡ true
  pub no_outputs : operation.outputs.count ≡ 0
  pub shows : (view : View) → operation.shows ≡ Some view → IsOfFile file view
  pub file_is : line.file ≡ file
  pub bytes : ℕ
  pub bits_are : line.bits ≡ 8 * bytes
  pub few : line.bits < 2 ^ 63
  pub long : HasLength (name_of file) bytes b
  pub serves : ServesAll judge bytes

module _ (operation : Operation) (file : File) (judge : Judge) (next : List ℕ → Answer) (line : Input) (b : ShelfState) (is : ReadsWhole operation file judge next line b) where
  -- ---- whichever state it began with

  module _ (a : ShelfState) (looks : Looks a b) where
    -- the bytes of the file, where it is told
    held : (files : Files) → AreTold operation a.told files → (content : List ℕ) × (files (name_of file) ≡ Some content) × (length content ≡ is.bytes)
    held files told = held_of is.bytes (files (name_of file)) (is.long.told (files (name_of file)) (looks_same a b (name_of file) looks ∙ file_told operation file judge next a files is.begins told))

    comes : OfInputs operation a (λ files. operation.comes_to files ≡ next (bytes_in files (name_of file)))
    comes files told =
        let found = held files told in
        comes_on operation file judge next files found.0 is.begins found.1 (is.serves found.0 found.2) ∙ ap (λ (h : Option (List ℕ)). next (unwrap_or h [])) (sym found.1)

    goes_on : GoesOn operation a
    goes_on files told = ap reaches_outputs (comes files told) ∙ is.begins.reaches (bytes_in files (name_of file))

    long : OfInputs operation a (λ files. length (bits_of (bytes_in files (name_of file))) ≡ line.bits)
    long files told =
        let found = held files told in
        ap (λ (h : Option (List ℕ)). length (bits_of (unwrap_or h []))) found.1 ∙ length-bits_of found.0 ∙ ap (λ (n : ℕ). 8 * n) found.2 ∙ sym is.bits_are

  -- ---- the port

  module _ (reads : List Input) (one : reads ≡ line ∷ []) (writes : List File) (none : writes ≡ []) where
    first : slice_get reads 0 ≡ Some line
    first = ap (λ (all : List Input). slice_get all 0) one

    the_line : (k : ℕ) (input : Input) → slice_get reads k ≡ Some input → input ≡ line
    the_line = only_input reads line one

    is_file : (k : ℕ) (input : Input) → slice_get reads k ≡ Some input → input.file ≡ file
    is_file k input here = ap (λ (input : Input). input.file) (the_line k input here) ∙ is.file_is

    -- the file is there
    files_are : AreFiles b reads writes
    files_are = record {
      has = λ k input here. subst (λ (input : Input). HasBits (input_name input) input.bits b) (sym (the_line k input here))
          (long_has (name_of line.file) is.bytes line.bits b (subst (λ file. HasLength (name_of file) is.bytes b) (sym is.file_is) is.long) (omega (arith, is.bits_are)));
      differ = subst (λ (reads : List Input). AllDiffer (map input_name reads ++ map name_of writes)) (sym one) (subst (λ (writes : List File). AllDiffer (name_of line.file ∷ map name_of writes)) (sym none)
          (one_more_differs (name_of line.file) [] none_differ (λ k here. none-some (name_of line.file) here)));
      few = omega (arith, ap length one, ap length none);
    }

    -- it is read in the run, and due there
    one_read : (a : ShelfState) → Looks a b → AreRead operation a reads
    one_read a looks = record {
      input = λ k input here. (0, is.begins.some, ap name_of (is_file k input here) ∙ is.begins.first);
      in_run = λ k input here. subst (λ file. operation.reads_in_run file ≡ true) (sym (is_file k input here)) is.in_run;
      due = λ k input here files told. subst (λ file. IsReadDue operation file files) (sym (is_file k input here)) (is.begins.due files (goes_on a looks files told));
    }

    gives : (a : ShelfState) → Looks a b → OfInputs operation a (λ files. (inputs_of (opened_for b reads writes)).told 0 ≡ Some (bits_of (bytes_in files (name_of file))))
    gives a looks files told =
        let found = held a looks files told in
        let known : b.told (name_of line.file) ≡ Known (Some found.0) =
        ap (λ file. b.told (name_of file)) is.file_is ∙ looks_same a b (name_of file) looks ∙ file_told operation file judge next a files is.begins told ∙ ap Known found.1 in
        let whole : line.bits ≡ length (bits_of found.0) = is.bits_are ∙ ap (λ (n : ℕ). 8 * n) (sym found.2) ∙ sym (length-bits_of found.0) in
        told_read b reads writes 0 line found.0 first known
        ∙ ap (λ n. Some (take n (bits_of found.0))) whole ∙ ap Some (take-length (bits_of found.0)) ∙ ap (λ (h : Option (List ℕ)). Some (bits_of (unwrap_or h []))) (sym found.1)

    line_port : (a : ShelfState) → Looks a b → b.counts ≡ a.counts → IsLinePort operation file next line a (opened_for b reads writes)
    line_port a looks same = record {
      open_for = open_for operation a b reads writes looks same (goes_on a looks) (ap length none ∙ sym is.no_outputs) (λ k low. absurd (omega (arith, low, is.no_outputs)));
      file_is = is.file_is;
      leaf = ap (λ (all : List Input). slice_get (map unread_file all) 0) one;
      comes = comes a looks;
      gives = gives a looks;
      long = long a looks;
    }

    alone : (view : Option View) → operation.shows ≡ view → IsAlone view operation reads
    alone None shows = tt
    alone (Some (EventsOfFile shown events_of)) shows = (is.no_outputs, λ k input here. is_file k input here ∙ is.shows (EventsOfFile shown events_of) shows)
    alone (Some (EventsOfAll events_of)) shows = is.no_outputs

    pub line_prepared : ArePrepared operation (CanRead line.bits) (IsLinePort operation file next line) b reads writes
    line_prepared = record {
      files = files_are;
      port = record { few = is.few; line = record { holds = holds_read b reads writes 0 1 (ap length one) (lit< tt); left = left_read b reads writes 0 line first } };
      given = λ begun looks same. record { open_for = (line_port begun looks same).open_for; due = one_read begun looks; alone = alone operation.shows refl };
      lists = λ begun looks same. line_port begun looks same;
    }

-- ---- the run

-- the first leaf of those of which these are the origins
first_leaf : (leaves : List Leaf) (origin : Origin) → slice_get (map origin_of leaves) 0 ≡ Some origin → (leaf : Leaf) × (slice_get leaves 0 ≡ Some leaf) × (origin_of leaf ≡ origin)
first_leaf [] origin here = absurd (none-some origin here)
first_leaf (leaf ∷ leaves) origin here = (leaf, refl, same_Some (origin_of leaf) origin here)

module _ {operation : Operation} {file : File} {next : List ℕ → Answer} {line : Input} {a : ShelfState} {p : PortState} (is : IsLinePort operation file next line a p) (q : PortState) where
  -- all bits of the file were given
  pub given_all : (given : List Bool) → length given ≡ line.bits → Takes (as_line given) (inputs_of p) (inputs_of q) → OfInputs operation a (λ files. given ≡ bits_of (bytes_in files (name_of file)))
  given_all given count takes files told = all_given ((inputs_of q).told 0) given (bits_of (bytes_in files (name_of file))) (sym (is.gives files told) ∙ takes.bits 0) (count ∙ sym (is.long files told))

  -- or the first ones were
  given_first : (given : List Bool) → Takes (as_line given) (inputs_of p) (inputs_of q) → OfInputs operation a (λ files. given ≡ take (length given) (bits_of (bytes_in files (name_of file))))
  given_first given takes files told =
      let begins : IsPrefix given (bits_of (bytes_in files (name_of file))) = given_begins ((inputs_of q).told 0) given (bits_of (bytes_in files (name_of file))) (sym (is.gives files told) ∙ takes.bits 0) in
      sym (ap (take (length given)) begins.1 ∙ take-append_seam given begins.0)

  -- the monitors saw the events of all bits
  pub all_seen : (events_of : List Bool → List Event) (before after : List State) (given : List Bool) → length given ≡ line.bits → Takes (as_line given) (inputs_of p) (inputs_of q) → SawEach before (events_of given) after
      → SeeEvents operation a (λ files. events_of (bits_of (bytes_in files (name_of file)))) before after
  all_seen events_of before after given count takes saw = (events_of given, saw, λ files told. ap events_of (given_all given count takes files told))

  module _ (fed : Feeds p q) (port : IsPort q) where
    -- the file as the port's leaf, in the end
    the_leaf : (leaf : Leaf) × (slice_get q.leaves 0 ≡ Some leaf) × (origin_of leaf ≡ origin_of (unread_file line))
    the_leaf = first_leaf q.leaves (origin_of (unread_file line)) (ap (λ (all : List Origin). slice_get all 0) fed.keeps.origins ∙ get_mapped origin_of p.leaves 0 (unread_file line) is.leaf)

    -- it has given as many bits as were taken
    given_is : (given : List Bool) → Takes (as_line given) (inputs_of p) (inputs_of q) → length given ≡ the_leaf.0.given
    given_is given takes =
        let was : (inputs_of p).left 0 ≡ line.bits - 0 = ap (λ (o : Option Leaf). option_map_or left_of o 0) is.leaf in
        let now : (inputs_of q).left 0 ≡ the_leaf.0.bits - the_leaf.0.given = ap (λ (o : Option Leaf). option_map_or left_of o 0) the_leaf.1 in
        let bits : the_leaf.0.bits ≡ line.bits = ap (λ (origin : Origin). origin.bits) the_leaf.2 in
        omega (arith, takes.counts 0, was, now, bits, (port.blocks.leaves 0 the_leaf.0 the_leaf.1).within)

    -- the monitors saw what came before the block of which the call failed
    pub first_seen : (events_of : List Bool → List Event) (before after : List State) (given : List Bool) → Takes (as_line given) (inputs_of p) (inputs_of q) → SawEach before (events_of given) after → IsUnread q 0
        → SeesBefore file events_of operation a q before after
    first_seen events_of before after given takes saw unread =
        let named : the_leaf.0.name ≡ name_of file = ap (λ (origin : Origin). origin.name) the_leaf.2 ∙ ap name_of is.file_is in
        record {
          bits = length given;
          range = unread.range;
          block = subst (λ (n : ℕ). IsNextBlock n unread.range) (sym (given_is given takes)) (unread.block the_leaf.0 the_leaf.1);
          asked = subst (λ (name : List ℕ). TellsFailed (q.shelf.tells_name name) unread.range q.shelf.failed_range) named (unread.asked the_leaf.0 the_leaf.1);
          seen = (events_of given, saw, λ files told. ap events_of (given_first given takes files told));
        }
