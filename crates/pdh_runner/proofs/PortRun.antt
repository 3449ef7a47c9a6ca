-- A command over a port of its files: what the port has come to tells how the command leaves the files.
use Rattle.std.proofs.Common.{◌≡◌, ◌⊎◌, ℕ, ◌+◌, ◌<◌, ◌≤◌, true, false, Bool, List, [], ◌∷◌, ◌++◌, length, take, map, Option, None, Some, Err, slice_get, refl, sym, ap, subst, ◌∙◌, inl, inr, append_assoc, arith}
use Rattle.std.specs.Prelude.{is_none, nat_eq}
use Rattle.std.specs.Option.{option_map}
use Rattle.std.proofs.lemmas.Option.{none-some, same_Some, slice_get_within, slice_get-map}
use Rattle.std.proofs.lemmas.List.{length-map, append-nil}
use Rattle.std.proofs.Math.Seq.{take-nil, take-length, take-append_seam}
use Rattle.std.proofs.lemmas.Bool.Decides.{nat_tests}
use Rattle.pdh_bits.specs.Bits.{bytes_of}
use Rattle.pdh_edge.specs.Counts.{one_more}
use Rattle.pdh_edge.specs.Files.{ShelfState, Counts, Told, Holds, HoldsPrefix, FailsToRead, with_read_fault, with_write_fault}
use Rattle.pdh_edge.specs.Files.Told.{Untold, Known}
use Rattle.pdh_edge.specs.declared.shelf.Call.TheVariants.{Read as ReadCall}
use Rattle.pdh_edge.specs.Ports.{Outputs, IsPrefix, PrefixOf, PutsPart, nothing, before, after}
use Rattle.pdh_blocks.specs.State.{PortState, leaf_name, output_name, output_names, names}
use Rattle.pdh_blocks.specs.Lists.{outputs_of}
use Rattle.pdh_blocks.specs.Held.{IsPort}
use Rattle.pdh_blocks.specs.Kept.{Keeps, IsReady, IsRefused, IsOutput as IsPortOutput}
use Rattle.pdh_blocks.specs.Opened.{IsWritten}
use Rattle.pdh_blocks.specs.laws.PortLaws.{same_outputs, read_faults_none, read_faults_one, write_faults_none, write_faults_one}
use Rattle.pdh_blocks.proofs.FileLaws.{whole_file, front_of_file, fresh_files}
use Rattle.pdh_blocks.proofs.Names.{output_at}
use Rattle.pdh_blocks.proofs.Places.{get_left}
use Rattle.pdh_answers.specs.Names.{name_of}
use Rattle.pdh_runner.specs.Operation.{Operation, IsOutput}
use Rattle.pdh_runner.specs.Performing.{AreWhole, AreBegun, StopsAtStart, StopsAtAppend, ChangesOnly, Performs}
use Rattle.pdh_runner.specs.PortFiles.{HasFiles, IsStopAt, IsStopOf, AreRead, IsOpenFor, PutsAll, PutsFront, IsFrontOf, input_name}
use Rattle.pdh_answers.specs.declared.file.File.{File}
use Rattle.pdh_runner.specs.declared.port.Input.{Input}
use Rattle.pdh_answers.specs.declared.answer.Stop.{Stop}
use Rattle.pdh_answers.specs.declared.answer.Stop.TheVariants.{Memory, Read, Write}

-- ---- equal parts

same_counts : (x y : Counts) → x.read_faults ≡ y.read_faults → x.write_faults ≡ y.write_faults → x.misses ≡ y.misses → x ≡ y
same_counts x y reads writes misses =
    ap (λ (n : ℕ). record { read_faults = n; write_faults = x.write_faults; misses = x.misses }) reads
    ∙ ap (λ (n : ℕ). record { read_faults = y.read_faults; write_faults = n; misses = x.misses }) writes
    ∙ ap (λ (n : ℕ). record { read_faults = y.read_faults; write_faults = y.write_faults; misses = n }) misses

-- ---- prefixes

pub prefix_join : (xs ys zs : List Bool) → IsPrefix xs ys → IsPrefix ys zs → IsPrefix xs zs
prefix_join xs ys zs p q = (p.0 ++ q.0, q.1 ∙ ap (λ l. l ++ q.0) p.1 ∙ append_assoc xs p.0 q.0)

-- ---- what was given

-- a list that gave bits began with them
pub given_begins : (rest : Option (List Bool)) (given bits : List Bool) → Some bits ≡ before given rest → IsPrefix given bits
given_begins None given bits told = absurd (cc)
given_begins (Some rest) given bits told = (rest, let whole : bits ≡ given ++ rest = cc in whole)

-- a list that gave as many bits as it has gave all
pub all_given : (rest : Option (List Bool)) (given bits : List Bool) → Some bits ≡ before given rest → length given ≡ length bits → given ≡ bits
all_given None given bits told long = absurd (cc)
all_given (Some rest) given bits told long =
    let whole : bits ≡ given ++ rest = cc in
    let front : take (length given) bits ≡ given = ap (take (length given)) whole ∙ take-append_seam given rest in
    sym front ∙ ap (λ n. take n bits) long ∙ take-length bits

-- ---- names

named_of : (names : List (List ℕ)) (f : ℕ → List ℕ) (n k : ℕ) (name : List ℕ) → length names ≡ n → ((k : ℕ) → k < n → slice_get names k ≡ Some (f k)) → slice_get names k ≡ Some name → (k < n) × (name ≡ f k)
named_of names f n k name count each here =
    let low : k < n = subst (λ n. k < n) count (slice_get_within names k name here) in
    (low, same_Some _ _ (sym here ∙ each k low))

-- a port of which a call has failed names it
none_failed : (failed : Option ℕ) (n : ℕ) → failed ≡ None → is_none failed ≡ nat_eq n 0 → 0 < n → ⊥
none_failed failed n none says some =
    let test : nat_eq n 0 ≡ false = grind (arith, nat_tests) in
    let wrong : true ≡ false = ap is_none (sym none) ∙ says ∙ test in
    cc

-- ---- files

-- a started output's file holds these bytes, where they are those of its list
holds_all : (port : PortState) → IsPort port → (k : ℕ) (name bytes : List ℕ) → k < port.started → slice_get (output_names port) k ≡ Some name → IsWritten port → ((list : List Bool) → (outputs_of port).told k ≡ Some list → bytes_of list ≡ bytes) → Holds (port.shelf.told name) bytes
holds_all port is k name bytes begun here written same = go ((outputs_of port).told k) refl
  where
    file : (list : List Bool) → ((told : List Bool) → (outputs_of port).told k ≡ Some told → told ≡ list) → Holds (port.shelf.told name) (bytes_of list)
    file list all = whole_file port is k name here begun written list all

    go : (list : Option (List Bool)) → (outputs_of port).told k ≡ list → Holds (port.shelf.told name) bytes
    go None e = λ held known.
        let none = file [] (λ told at. absurd (none-some told (sym e ∙ at))) held known in
        let one = file (false ∷ false ∷ false ∷ false ∷ false ∷ false ∷ false ∷ false ∷ []) (λ told at. absurd (none-some told (sym e ∙ at))) held known in
        absurd (let wrong : ◌≡◌ {A = Option (List ℕ)} (Some []) (Some (0 ∷ [])) = sym none ∙ one in cc)
    go (Some list) e = subst (Holds (port.shelf.told name)) (same list e) (file list (λ told at. same_Some told list (sym at ∙ e)))

-- it holds a prefix of them, where its list is one of what makes them
holds_front : (port : PortState) → IsPort port → (k : ℕ) (name bytes : List ℕ) → k < port.started → slice_get (output_names port) k ≡ Some name → ((list : List Bool) → (outputs_of port).told k ≡ Some list → IsFrontOf list bytes) → HoldsPrefix (port.shelf.told name) bytes
holds_front port is k name bytes begun here front = go ((outputs_of port).told k) refl
  where
    file : (list : List Bool) → ((told : List Bool) → (outputs_of port).told k ≡ Some told → IsPrefix told list) → HoldsPrefix (port.shelf.told name) (bytes_of list)
    file list part = front_of_file port is k name here begun list part

    go : (list : Option (List Bool)) → (outputs_of port).told k ≡ list → HoldsPrefix (port.shelf.told name) bytes
    go None e =
        let none = file [] (λ told at. absurd (none-some told (sym e ∙ at))) in
        (0, λ held known. none.1 held known ∙ ap Some (take-nil none.0))
    go (Some list) e =
        let whole = front list e in
        subst (HoldsPrefix (port.shelf.told name)) whole.2 (file whole.0 (λ told at. subst (λ l. IsPrefix l whole.0) (same_Some list told (sym e ∙ at)) whole.1))

-- where not all outputs are started, each that is holds nothing
empty_holds : (port : PortState) → IsPort port → (k : ℕ) (name : List ℕ) → port.started < length port.outputs → k < port.started → slice_get (output_names port) k ≡ Some name → Holds (port.shelf.told name) []
empty_holds port is k name some begun here = go (port.shelf.tells_started name) refl
  where
    go : (tells : Bool) → port.shelf.tells_started name ≡ tells → Holds (port.shelf.told name) []
    go true e held known = let same : Known held ≡ Known (Some []) = sym known ∙ is.blocks.empty some k name here begun e in cc
    go false e held known = absurd (let wrong : Known held ≡ Untold = sym known ∙ is.blocks.untold k name here begun e in cc)

module _ (operation : Operation) (a : ShelfState) (p q : PortState) (open_for : IsOpenFor operation a p) (port : IsPort q) (kept : Keeps p q) where
  named : (k : ℕ) → k < operation.outputs.count → slice_get (output_names q) k ≡ Some (operation.outputs.name k)
  named k low = ap (λ names. slice_get names k) kept.outputs ∙ open_for.writes.named k low

  is_output : (name : List ℕ) → IsPortOutput p name → IsOutput operation name
  is_output name here =
      let found = named_of (output_names p) operation.outputs.name operation.outputs.count here.0 name (length-map p.outputs output_name ∙ open_for.writes.count) open_for.writes.named here.1 in
      (here.0, found.0, found.1)

  -- as many names as outputs
  all : length (output_names q) ≡ operation.outputs.count
  all = length-map q.outputs output_name ∙ same_outputs kept ∙ open_for.writes.count

  -- all other files are as before
  pub others : ChangesOnly (IsOutput operation) a q.shelf
  others name not = kept.others.told name (λ here. not (is_output name here)) ∙ ap (λ (told : List ℕ → Told). told name) open_for.looks.told

  -- ---- counts

  misses_are : q.shelf.counts.misses ≡ a.counts.misses
  misses_are = kept.misses ∙ ap (λ (c : Counts). c.misses) open_for.same

  reads_none : q.feed_faults ≡ 0 → q.shelf.counts.read_faults ≡ a.counts.read_faults
  reads_none none = read_faults_none kept open_for.unread none ∙ ap (λ (c : Counts). c.read_faults) open_for.same

  reads_one : q.feed_faults ≡ 1 → q.shelf.counts.read_faults ≡ one_more a.counts.read_faults
  reads_one one = read_faults_one kept open_for.unread one ∙ ap (λ (c : Counts). one_more c.read_faults) open_for.same

  writes_none : q.drain_faults ≡ 0 → q.shelf.counts.write_faults ≡ a.counts.write_faults
  writes_none none = write_faults_none kept open_for.unwritten none ∙ ap (λ (c : Counts). c.write_faults) open_for.same

  writes_one : q.drain_faults ≡ 1 → q.shelf.counts.write_faults ≡ one_more a.counts.write_faults
  writes_one one = write_faults_one kept open_for.unwritten one ∙ ap (λ (c : Counts). one_more c.write_faults) open_for.same

  -- where no call failed
  pub unfailed : q.feed_faults ≡ 0 → q.drain_faults ≡ 0 → q.shelf.counts ≡ a.counts
  unfailed unread unwritten = same_counts q.shelf.counts a.counts (reads_none unread) (writes_none unwritten) misses_are

  read_counted : q.feed_faults ≡ 1 → q.drain_faults ≡ 0 → q.shelf.counts ≡ with_read_fault a.counts
  read_counted one unwritten = same_counts q.shelf.counts (with_read_fault a.counts) (reads_one one) (writes_none unwritten) misses_are

  write_counted : q.feed_faults ≡ 0 → q.drain_faults ≡ 1 → q.shelf.counts ≡ with_write_fault a.counts
  write_counted unread one = same_counts q.shelf.counts (with_write_fault a.counts) (reads_none unread) (writes_one one) misses_are

  -- ---- files

  started : IsReady q → (k : ℕ) → k < operation.outputs.count → k < q.started
  started ready k low = omega (arith, ready.all, sym open_for.writes.count, same_outputs kept, low)

  -- each output has all its bytes
  pub whole : IsReady q → IsWritten q → PutsAll operation a (outputs_of q) → AreWhole operation a q.shelf
  whole ready written put k low files told = holds_all q port k (operation.outputs.name k) (operation.bytes files k) (started ready k low) (named k low) written (λ list here. put k list low here files told)

  -- each output has a prefix of them
  pub begun : IsReady q → PutsFront operation a (outputs_of q) → AreBegun operation a q.shelf
  begun ready put k low files told = holds_front q port k (operation.outputs.name k) (operation.bytes files k) (started ready k low) (named k low) (λ list here. put k list low here files told)

  -- ---- how a command ends

  -- memory was wanting before the port was started
  pub out_of_memory : q.fresh ≡ true → q.feed_faults ≡ 0 → Performs operation a q.shelf (Err Memory)
  out_of_memory fresh unread = record {
    cause = tt;
    outputs = fresh_files p q kept fresh port ∙ open_for.looks.told;
    others = others;
    counted = unfailed unread (port.blocks.fresh fresh).1;
  }

  -- the name of number i, where it is of a file that is read
  read_name : (reads : List Input) (writes : List File) (i : ℕ) (input : Input) → HasFiles reads writes q → slice_get reads i ≡ Some input → slice_get (names q) i ≡ Some (input_name input)
  read_name reads writes i input files here =
      get_left (map leaf_name q.leaves) (output_names q) i (input_name input) (ap (λ (all : List (List ℕ)). slice_get all i) files.reads_are ∙ slice_get-map input_name reads i ∙ ap (option_map input_name) here)

  -- the call that failed is one that reads, of one of these files
  pub read_failed : (reads : List Input) (writes : List File) (stop : Stop) → HasFiles reads writes q → IsStopOf reads writes q stop → q.feed_faults ≡ 1 → q.drain_faults ≡ 0
      → (i : ℕ) × (input : Input) × (slice_get reads i ≡ Some input) × (stop ≡ Read input.file) × FailsToRead ReadCall (input_name input) a q.shelf
  read_failed reads writes stop files is one unwritten = go q.failed refl
    where
      stopped : (i : ℕ) → q.failed ≡ Some i → IsStopAt reads writes i stop → (i : ℕ) × (input : Input) × (slice_get reads i ≡ Some input) × (stop ≡ Read input.file) × FailsToRead ReadCall (input_name input) a q.shelf
      stopped i e (inl at) =
          let last = port.blocks.failed.named i e in
          let low : i < length q.leaves = last.fed unwritten in
          (i, at.0, at.1, at.2, record { counts = read_counted one unwritten; last = last.source low (input_name at.0) (read_name reads writes i at.0 files at.1) })
      stopped i e (inr at) =
          let low : i < length q.leaves = (port.blocks.failed.named i e).fed unwritten in
          let count : length q.leaves ≡ length reads = sym (length-map q.leaves leaf_name) ∙ ap length files.reads_are ∙ length-map reads input_name in
          absurd (omega (arith, low, count, at.2))

      go : (failed : Option ℕ) → q.failed ≡ failed → (i : ℕ) × (input : Input) × (slice_get reads i ≡ Some input) × (stop ≡ Read input.file) × FailsToRead ReadCall (input_name input) a q.shelf
      go None e = absurd (none_failed q.failed (q.feed_faults + q.drain_faults) e port.blocks.failed.none (omega (arith, one)))
      go (Some i) e = stopped i e (is i e)

  -- it ends the command in its run
  pub reading_stops : (reads : List Input) (writes : List File) (stop : Stop) → HasFiles reads writes q → IsStopOf reads writes q stop → AreRead operation a reads → q.feed_faults ≡ 1 → q.drain_faults ≡ 0 → AreBegun operation a q.shelf
      → Performs operation a q.shelf (Err stop)
  reading_stops reads writes stop files is due one unwritten begins =
      let failed = read_failed reads writes stop files is one unwritten in
      let at = due.input failed.0 failed.1 failed.2 in
      subst (λ stop. Performs operation a q.shelf (Err stop)) (sym failed.3) (record {
        cause = record { at = at.0; known = at.1; named = at.2; how = inr (failed.4, due.due failed.0 failed.1 failed.2) };
        outputs = inr (record { in_run = due.in_run failed.0 failed.1 failed.2; fails = failed.4 }, begins);
        others = others;
        counted = read_counted one unwritten;
      })

  -- the call that failed is one that writes, to output k
  pub write_failed : (reads : List Input) (writes : List File) (stop : Stop) → HasFiles reads writes q → IsStopOf reads writes q stop → q.feed_faults ≡ 0 → q.drain_faults ≡ 1
      → (i : ℕ) × (k : ℕ) × (file : File) × (q.failed ≡ Some i) × (i ≡ length q.leaves + k) × (k < operation.outputs.count) × (name_of file ≡ operation.outputs.name k) × (stop ≡ Write file)
  write_failed reads writes stop files is unread one = go q.failed refl
    where
      count : length q.leaves ≡ length reads
      count = sym (length-map q.leaves leaf_name) ∙ ap length files.reads_are ∙ length-map reads input_name

      stopped : (i : ℕ) → q.failed ≡ Some i → IsStopAt reads writes i stop
          → (i : ℕ) × (k : ℕ) × (file : File) × (q.failed ≡ Some i) × (i ≡ length q.leaves + k) × (k < operation.outputs.count) × (name_of file ≡ operation.outputs.name k) × (stop ≡ Write file)
      stopped i e (inl at) =
          let high : length q.leaves ≤ i = (port.blocks.failed.named i e).drained unread in
          absurd (omega (arith, high, count, slice_get_within reads i at.0 at.1))
      stopped i e (inr at) =
          let name : slice_get (output_names q) at.0 ≡ Some (name_of at.1) = ap (λ (all : List (List ℕ)). slice_get all at.0) files.writes_are ∙ slice_get-map name_of writes at.0 ∙ ap (option_map name_of) at.3 in
          let found = named_of (output_names q) operation.outputs.name operation.outputs.count at.0 (name_of at.1) all named name in
          (i, at.0, at.1, e, omega (arith, at.2, count), found.0, found.1, at.4)

      go : (failed : Option ℕ) → q.failed ≡ failed
          → (i : ℕ) × (k : ℕ) × (file : File) × (q.failed ≡ Some i) × (i ≡ length q.leaves + k) × (k < operation.outputs.count) × (name_of file ≡ operation.outputs.name k) × (stop ≡ Write file)
      go None e = absurd (none_failed q.failed (q.feed_faults + q.drain_faults) e port.blocks.failed.none (omega (arith, one)))
      go (Some i) e = stopped i e (is i e)

  -- it was the start of an output, or an append behind the start of all
  pub writing_stops : (reads : List Input) (writes : List File) (stop : Stop) → HasFiles reads writes q → IsStopOf reads writes q stop → q.feed_faults ≡ 0 → q.drain_faults ≡ 1
      → ((IsReady q × PutsFront operation a (outputs_of q)) ⊎ IsRefused q) ⊎ (operation.outputs.count ≡ 0) → Performs operation a q.shelf (Err stop)
  writing_stops reads writes stop files is unread one how =
      let found = write_failed reads writes stop files is unread one in
      subst (λ stop. Performs operation a q.shelf (Err stop)) (sym found.7) (record {
        cause = open_for.goes_on;
        outputs = record { at = found.1; known = found.5; named = found.6; how = cut found.0 found.1 found.3 found.4 found.5 how };
        others = others;
        counted = write_counted unread one;
      })
    where
      -- the name of number i, where it is of output k
      write_name : (i k : ℕ) → i ≡ length q.leaves + k → k < operation.outputs.count → slice_get (names q) i ≡ Some (operation.outputs.name k)
      write_name i k far low = ap (slice_get (names q)) far ∙ output_at q k ∙ named k low

      -- an append to output k failed
      at_append : (i k : ℕ) → q.failed ≡ Some i → i ≡ length q.leaves + k → k < operation.outputs.count → IsReady q → PutsFront operation a (outputs_of q) → StopsAtAppend operation k a q.shelf
      at_append i k e far low ready put =
          let last = port.blocks.failed.named i e in record {
            fails = record { counts = write_counted unread one; last = last.ready (omega (arith, far)) ready.said (operation.outputs.name k) (write_name i k far low) };
            begun = begun ready put;
          }

      -- the start of output k failed
      at_start : (k : ℕ) → k ≡ q.started → k < operation.outputs.count → IsRefused q → StopsAtStart operation k a q.shelf
      at_start k is_k low refused = record {
        fails = record { counts = write_counted unread one; last = refused.last (operation.outputs.name k) (ap (slice_get (output_names q)) (sym is_k) ∙ named k low) };
        before = λ i less. empty_holds q port i (operation.outputs.name i) refused.among (omega (arith, is_k)) (named i (omega (arith, low)));
        here = elim (kept.unstarted k (operation.outputs.name k) (named k low) (omega (arith, is_k))) [
          | inl same ↦ inl (same ∙ ap (λ (told : List ℕ → Told). told (operation.outputs.name k)) open_for.looks.told)
          | inr empty ↦ inr empty
        ];
        later = λ i above inside. kept.uncalled i (operation.outputs.name i) (named i inside) (omega (arith, refused.called, is_k)) ∙ ap (λ (told : List ℕ → Told). told (operation.outputs.name i)) open_for.looks.told;
      }

      cut : (i k : ℕ) → q.failed ≡ Some i → i ≡ length q.leaves + k → k < operation.outputs.count → ((IsReady q × PutsFront operation a (outputs_of q)) ⊎ IsRefused q) ⊎ (operation.outputs.count ≡ 0)
          → StopsAtStart operation k a q.shelf ⊎ StopsAtAppend operation k a q.shelf
      cut i k e far low (inl (inl begins)) = inr (at_append i k e far low begins.0 begins.1)
      cut i k e far low (inl (inr refused)) =
          let both : Some i ≡ Some (length q.leaves + q.started) = sym e ∙ refused.failed in
          let same : i ≡ length q.leaves + q.started = same_Some _ _ both in
          inl (at_start k (omega (arith, same, far)) low refused)
      cut i k e far low (inr none) = absurd (omega (arith, low, none))

-- ---- what was put

-- all of it is a prefix of it
pub front_of_all : (operation : Operation) (a : ShelfState) (lists : Outputs) → PutsAll operation a lists → PutsFront operation a lists
front_of_all operation a lists all k list low here files told = (list, ([], sym (append-nil list)), all k list low here files told)

-- the same lists
pub all_still : (operation : Operation) (a : ShelfState) (lists now : Outputs) → now ≡ lists → PutsAll operation a lists → PutsAll operation a now
all_still operation a lists now same all = subst (PutsAll operation a) (sym same) all

-- a prefix of a prefix
pub front_still : (operation : Operation) (a : ShelfState) (lists now : Outputs) → PutsPart nothing lists now → PutsFront operation a lists → PutsFront operation a now
front_still operation a lists now part front k list low here files told = go (lists.told k) refl (subst (PrefixOf [] (lists.told k)) here (part k))
  where
    go : (was : Option (List Bool)) → lists.told k ≡ was → PrefixOf [] (lists.told k) (Some list) → IsFrontOf list (operation.bytes files k)
    go None e part = absurd (subst (λ was. PrefixOf [] was (Some list)) e part)
    go (Some before) e part =
        let cut : IsPrefix list (before ++ []) = subst (λ was. PrefixOf [] was (Some list)) e part in
        let was = front k before low e files told in
        (was.0, prefix_join list before was.0 (subst (IsPrefix list) (append-nil before) cut) was.1, was.2)

module _ (operation : Operation) (a : ShelfState) (p : PortState) (open_for : IsOpenFor operation a p) (now : Outputs) (k : ℕ) (bits list : List Bool) (here : now.told k ≡ Some list) where
  -- what was put to a list that was empty
  pub put_is : now.told k ≡ after bits ((outputs_of p).told k) → list ≡ bits
  put_is put = go ((outputs_of p).told k) refl
    where
      go : (was : Option (List Bool)) → (outputs_of p).told k ≡ was → list ≡ bits
      go None e = absurd (let wrong : Some list ≡ None = sym here ∙ put ∙ ap (after bits) e in cc)
      go (Some old) e =
          let whole : Some list ≡ Some (old ++ bits) = sym here ∙ put ∙ ap (after bits) e in
          same_Some list (old ++ bits) whole ∙ ap (λ l. l ++ bits) (open_for.empty k old e)

  pub put_begins : PrefixOf bits ((outputs_of p).told k) (now.told k) → IsPrefix list bits
  put_begins put = go ((outputs_of p).told k) refl (subst (PrefixOf bits ((outputs_of p).told k)) here put)
    where
      go : (was : Option (List Bool)) → (outputs_of p).told k ≡ was → PrefixOf bits ((outputs_of p).told k) (Some list) → IsPrefix list bits
      go None e put = absurd (subst (λ was. PrefixOf bits was (Some list)) e put)
      go (Some old) e put = subst (λ old. IsPrefix list (old ++ bits)) (open_for.empty k old e) (subst (λ was. PrefixOf bits was (Some list)) e put)
