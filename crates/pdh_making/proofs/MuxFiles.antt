-- What `mux` comes to where no step refuses its inputs, and the port that it opens then.
use Rattle.std.proofs.Common.{◌≡◌, ℕ, zero, suc, ◌+◌, ◌*◌, ◌/◌, ◌<◌, ◌≤◌, nat_lt, List, [], ◌∷◌, ◌++◌, true, false, Option, None, Some, Ok, Err, length, map, take, slice_get, refl, ap, sym, subst, ◌∙◌, arith, lit<}
use Rattle.std.specs.Prelude.{All, IfSome, slice_index, unwrap_or}
use Rattle.std.specs.List.{range_with_len}
use Rattle.std.specs.Option.{option_map_or}
use Rattle.std.proofs.lemmas.Bool.Decides.{nat_tests}
use Rattle.std.proofs.lemmas.List.FromFn.{length-map-range_with_len}
use Rattle.std.proofs.lemmas.Simd.{map-map}
use Rattle.pdh_bits.specs.Bits.{bits_of}
use Rattle.pdh_edge.specs.Files.{ShelfState, Told, Looks}
use Rattle.pdh_edge.specs.Files.Told.{Known}
use Rattle.pdh_shape.specs.declared.place.Place.{Place}
use Rattle.pdh_line.specs.Events.{Event, Kind}
use Rattle.pdh_line.specs.Events.Kind.{Overflow as StoreOverflow, Underflow as StoreUnderflow}
use Rattle.pdh_chain.specs.Chains.{leaves_of, levels_of}
use Rattle.pdh_chain.specs.Muxes.{place_of}
use Rattle.pdh_chain.specs.declared.chain.Chain.{Chain}
use Rattle.pdh_chain.proofs.ChainLaws.{few_leaves}
use Rattle.pdh_clock.specs.Row.{Row}
use Rattle.pdh_clock.specs.Contents.{IsRowOf}
use Rattle.pdh_blocks.specs.Lists.{inputs_of}
use Rattle.pdh_blocks.specs.Held.{AllDiffer}
use Rattle.pdh_blocks.specs.Opened.{HasBytesFor}
use Rattle.pdh_answers.specs.Names.{leaf_name, line_name, schedule_name, name_of}
use Rattle.pdh_making.specs.Schedules.{rows_of, frames_in}
use Rattle.pdh_making.specs.Mux.{short_node, bits_held, bits_needed, stop_of_kind, stop_of_event, event_of, Job, run_answer, muxed, making_line, mux_says}
use Rattle.pdh_making.specs.Mux.Job.{Plainly, WithSlips}
use Rattle.pdh_runner.specs.Operation.{AreTold, OfInputs, reaches_outputs, IsReadDue, Files, bytes_in}
use Rattle.pdh_runner.specs.Performing.{GoesOn}
use Rattle.pdh_runner.specs.PortFiles.{HasBits, AreFiles, AreRead, opened_for, input_name}
use Rattle.pdh_runner.specs.Running.{ArePrepared}
use Rattle.pdh_making.specs.MuxSteps.{AreSizes, AllHeld, HasRows, AreEnough, IsPlanned, AreLeafInputs, CanSend, CanMake, IsMuxPort, entering}
use Rattle.pdh_answers.specs.declared.file.File.{File}
use Rattle.pdh_answers.specs.declared.file.File.TheVariants.{Line, Leaf as LeafFile}
use Rattle.pdh_making.specs.declared.muxing.InputSizes.{InputSizes}
use Rattle.pdh_making.specs.declared.muxing.Plan.{Plan}
use Rattle.pdh_runner.specs.declared.port.Input.{Input}
use Rattle.pdh_making.proofs.MuxComes.{comes_muxed, no_short_leaf, leaf_told}
use Rattle.pdh_runner.proofs.Differing.{numbered, numbered_at, numbered_differ, last_differs}
use Rattle.pdh_answers.proofs.FileNames.{same_leaf, leaf_is_not_line}
use Rattle.pdh_runner.proofs.PortOpen.{open_for, long_has, told_read, left_read, holds_read, holds_written}
use Rattle.pdh_shape.specs.OwnNumbers.{most_frames}

told_now : (chain : Chain) (job : Job) (a b : ShelfState) (files : Files) → Looks a b → AreTold (making_line chain job) a.told files → AreTold (making_line chain job) b.told files
told_now chain job a b files looks told = subst (λ (t : List ℕ → Told). AreTold (making_line chain job) t files) (sym looks.told) told

-- ---- the answer

runs_to : (chain : Chain) (job : Job) (files : Files) (rows : List Row) → frames_in rows ≤ most_frames → short_node chain rows ≡ None → ((i : ℕ) → i < leaves_of chain → nat_lt (bits_held files i) (bits_needed chain rows i) ≡ false) → muxed chain job files rows ≡ run_answer chain job rows
runs_to chain job files rows few scheduled long =
    let test : nat_lt most_frames (frames_in rows) ≡ false = grind (arith, nat_tests) in
    rw (test, scheduled, no_short_leaf chain files rows long) refl

-- a file that has so many bits is long enough
has_long : (bits : ℕ) (held : Option (List ℕ)) → HasBytesFor bits held → nat_lt (8 * length (unwrap_or held [])) bits ≡ false
has_long bits None has = absurd has
has_long bits (Some bytes) has = let few : (bits + 7) / 8 ≤ length bytes = has in grind (arith, nat_tests)

pub planned_comes : (chain : Chain) (job : Job) (plan : Plan) (b : ShelfState) (files : Files) → IsPlanned chain plan b → AreTold (making_line chain job) b.told files → (making_line chain job).comes_to files ≡ run_answer chain job plan.clock.rows
planned_comes chain job plan b files is told =
    comes_muxed chain job b plan.clock.rows files is.held is.rows_are told
    ∙ runs_to chain job files plan.clock.rows (let e = is.scheduled.frames_are in omega (arith, is.scheduled.few)) is.scheduled.enough
    (λ i low. has_long (bits_needed chain plan.clock.rows i) (files (leaf_name i)) ((is.leaves_have i low).told (files (leaf_name i)) (leaf_told chain job b files i low told)))

pub kind_reaches : (kind : Kind) (place : Place) → reaches_outputs (Err (stop_of_kind kind place)) ≡ true
kind_reaches StoreOverflow place = refl
kind_reaches StoreUnderflow place = refl

event_reaches : (chain : Chain) (event : Option Event) (n : ℕ) → reaches_outputs (option_map_or (λ event. Err (stop_of_event event)) event (Ok (mux_says chain n))) ≡ true
event_reaches chain None n = refl
event_reaches chain (Some event) n = kind_reaches event.kind (place_of event)

-- whatever the line is made for
reaches : (chain : Chain) (job : Job) (rows : List Row) → reaches_outputs (run_answer chain job rows) ≡ true
reaches chain (Plainly feac) rows = event_reaches chain (event_of chain rows) (frames_in rows)
reaches chain WithSlips rows = refl

-- ---- the plan

pub is_planned : (chain : Chain) (plan : Plan) (sizes : InputSizes) (b : ShelfState) → plan.clock.levels ≡ levels_of chain → All (IsRowOf (levels_of chain)) plan.clock.rows → AllHeld chain b → HasRows chain b plan.clock.rows → AreSizes chain sizes b → AreEnough chain plan.clock.rows sizes plan.frames → IsPlanned chain plan b
is_planned chain plan sizes b levels sound held rows sizes_are enough = record {
  scheduled = record { levels_are = levels; sound = sound; frames_are = enough.frames_are; few = enough.few; enough = enough.scheduled };
  held = held;
  rows_are = rows;
  leaves_have = λ k low. long_has (leaf_name k) (slice_index sizes.leaves k) (bits_needed chain plan.clock.rows k) b (sizes_are.leaf k low) (enough.long k low);
}

-- ---- the port

abbrev leaf_input : (chain : Chain) (rows : List Row) → ℕ → Input
leaf_input chain rows k = record { file = LeafFile k; bits = bits_needed chain rows k }

module _ (chain : Chain) (rows : List Row) (reads : List Input) (are : AreLeafInputs chain rows reads) where
  -- leaf k's input
  pub leaf_at : (k : ℕ) → k < leaves_of chain → slice_get reads k ≡ Some (record { file = LeafFile k; bits = bits_needed chain rows k })
  leaf_at k low = ap (λ all. slice_get all k) are ∙ numbered_at (λ k. record { file = LeafFile k; bits = bits_needed chain rows k }) 0 (leaves_of chain) k k low (omega arith)

  leaf_of : (k : ℕ) (input : Input) → slice_get reads k ≡ Some input → (k < leaves_of chain) × (input ≡ record { file = LeafFile k; bits = bits_needed chain rows k })
  leaf_of k input here =
      let found = numbered (λ k. record { file = LeafFile k; bits = bits_needed chain rows k }) 0 (leaves_of chain) k input (ap (λ all. slice_get all k) (sym are) ∙ here) in
      let same : 0 + k ≡ k = omega arith in
      (found.0, found.1 ∙ ap (λ k. record { file = LeafFile k; bits = bits_needed chain rows k }) same)

  count : length reads ≡ leaves_of chain
  count = ap length are ∙ length-map-range_with_len (λ k. record { file = LeafFile k; bits = bits_needed chain rows k }) 0 (leaves_of chain)

  names_are : map input_name reads ≡ map leaf_name (range_with_len 0 (leaves_of chain))
  names_are = ap (map input_name) are ∙ map-map input_name (λ k. record { file = LeafFile k; bits = bits_needed chain rows k }) (range_with_len 0 (leaves_of chain))

  -- the files are there, and their names differ
  pub mux_files : (plan : Plan) (b : ShelfState) (writes : List File) → plan.clock.rows ≡ rows → writes ≡ Line ∷ [] → IsPlanned chain plan b → AreFiles b reads writes
  mux_files plan b writes rows_are writes_are is = record {
    has = λ k input here.
        let at = leaf_of k input here in
        subst (λ (input : Input). HasBits (input_name input) input.bits b) (sym at.1) (subst (λ rows. HasBits (leaf_name k) (bits_needed chain rows k) b) rows_are (is.leaves_have k at.0));
    differ = subst (λ all. AllDiffer (all ++ map name_of writes)) (sym names_are) (subst (λ (writes : List File). AllDiffer (map leaf_name (range_with_len 0 (leaves_of chain)) ++ map name_of writes)) (sym writes_are)
        (last_differs (map leaf_name (range_with_len 0 (leaves_of chain))) line_name
        (numbered_differ leaf_name (leaves_of chain) (λ x y lx ly e. same_leaf x y (omega (arith, few_leaves chain)) (omega (arith, few_leaves chain)) e))
        (λ k here. let at = numbered leaf_name 0 (leaves_of chain) k line_name here in leaf_is_not_line (0 + k) (sym at.1))));
    few = omega (arith, count, ap length writes_are, few_leaves chain);
  }

  -- they are read in the run, and due there
  pub mux_reads : (job : Job) (a : ShelfState) → GoesOn (making_line chain job) a → AreRead (making_line chain job) a reads
  mux_reads job a goes_on = record {
    input = λ k input here. let at = leaf_of k input here in (suc k, omega (arith, at.0), ap input_name at.1);
    in_run = λ k input here. subst (λ (input : Input). (making_line chain job).reads_in_run input.file ≡ true) (sym (leaf_of k input here).1) refl;
    due = λ k input here. subst (λ (input : Input). OfInputs (making_line chain job) a (IsReadDue (making_line chain job) input.file)) (sym (leaf_of k input here).1) goes_on;
  }

  -- the port is open for `mux`
  pub mux_port : (job : Job) (plan : Plan) (a b : ShelfState) (writes : List File) → plan.clock.rows ≡ rows → writes ≡ Line ∷ [] → Looks a b → b.counts ≡ a.counts → IsPlanned chain plan b → IsMuxPort chain job rows a (opened_for b reads writes)
  mux_port job plan a b writes rows_are writes_are looks same is = record {
    open_for = open_for (making_line chain job) a b reads writes looks same goes_on (ap length writes_are) named;
    rows_are = λ files told. subst (λ rows. rows_of chain (bytes_in files schedule_name) ≡ Ok rows) rows_are (is.rows_are files (told_now chain job a b files looks told));
    comes = comes;
    gives = λ files told k low. told_leaf files k low (leaf_told chain job b files k low (told_now chain job a b files looks told));
  }
    where
      comes : OfInputs (making_line chain job) a (λ files. (making_line chain job).comes_to files ≡ run_answer chain job rows)
      comes files told = planned_comes chain job plan b files is (told_now chain job a b files looks told) ∙ ap (run_answer chain job) rows_are

      goes_on : GoesOn (making_line chain job) a
      goes_on files told = ap reaches_outputs (comes files told) ∙ reaches chain job rows

      named : (k : ℕ) → k < 1 → slice_get (map name_of writes) k ≡ Some line_name
      named zero low = ap (λ (all : List File). slice_get (map name_of all) 0) writes_are
      named (suc k) low = absurd (omega arith)

      told_leaf : (files : Files) (k : ℕ) → k < leaves_of chain → b.told (leaf_name k) ≡ Known (files (leaf_name k)) → (inputs_of (opened_for b reads writes)).told k ≡ Some (entering chain rows files k)
      told_leaf files k low known = go (files (leaf_name k)) refl
        where
          go : (held : Option (List ℕ)) → files (leaf_name k) ≡ held → (inputs_of (opened_for b reads writes)).told k ≡ Some (entering chain rows files k)
          go None e = absurd ((is.leaves_have k low).told None (known ∙ ap Known e))
          go (Some bytes) e =
              told_read b reads writes k (leaf_input chain rows k) bytes (leaf_at k low) (known ∙ ap Known e)
              ∙ ap (λ (held : Option (List ℕ)). Some (take (bits_needed chain rows k) (bits_of (unwrap_or held [])))) (sym e)

  -- it can send the line
  pub mux_can_send : (plan : Plan) (b : ShelfState) (writes : List File) → plan.clock.rows ≡ rows → IsPlanned chain plan b → CanSend chain rows plan.frames (inputs_of (opened_for b reads writes))
  mux_can_send plan b writes rows_are is = record {
    frames_are = is.scheduled.frames_are ∙ ap frames_in rows_are;
    scheduled = ap (short_node chain) (sym rows_are) ∙ is.scheduled.enough;
    holds = λ k low. holds_read b reads writes k (leaves_of chain) count low;
    long = λ k low. omega (arith, left_read b reads writes k (leaf_input chain rows k) (leaf_at k low));
  }

-- the port that a plan asks for
pub mux_prepared : (chain : Chain) (job : Job) (feac : Option ℕ) (plan : Plan) (reads : List Input) → AreLeafInputs chain plan.clock.rows reads → (writes : List File) → writes ≡ Line ∷ [] → (b : ShelfState) → IsPlanned chain plan b → IfSome feac (λ code. code < 64)
    → ArePrepared (making_line chain job) (CanMake chain feac plan) (IsMuxPort chain job plan.clock.rows) b reads writes
mux_prepared chain job feac plan reads are writes out b is code = record {
  files = mux_files chain plan.clock.rows reads are plan b writes refl out is;
  port = record {
    fresh = refl;
    levels = is.scheduled.levels_are;
    few = is.scheduled.few;
    code = code;
    sends = mux_can_send chain plan.clock.rows reads are plan b writes refl is;
    line = holds_written b reads writes 0 1 (ap length out) (lit< tt);
  };
  given = λ begun looks same.
      let port = mux_port chain plan.clock.rows reads are job plan begun b writes refl out looks same is in
      record { open_for = port.open_for; due = mux_reads chain plan.clock.rows reads are job begun port.open_for.goes_on; alone = tt };
  lists = λ begun looks same. mux_port chain plan.clock.rows reads are job plan begun b writes refl out looks same is;
}
