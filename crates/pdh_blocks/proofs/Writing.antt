-- What a call that writes to the file of one output leaves.
use mathlib.Core.Path.{fun_ext}
use Rattle.std.proofs.Common.{◌≡◌, ℕ, ◌+◌, ◌<◌, ◌≤◌, Bool, true, false, List, [], ◌++◌, length, map, Option, Some, None, slice_get, inl, inr, refl, sym, ap, ◌∙◌, subst, arith}
use Rattle.std.specs.Option.{option_and_then}
use Rattle.std.proofs.lemmas.Bool.{cases_eq}
use Rattle.std.proofs.lemmas.Option.{slice_get_within}
use Rattle.std.proofs.lemmas.List.{length-map}
use Rattle.pdh_edge.specs.declared.shelf.Call.TheVariants.{Start, Append}
use Rattle.pdh_edge.specs.Counts.{one_more}
use Rattle.pdh_edge.specs.Files.{ShelfState, Touches, Succeeds, FailsToWrite}
use Rattle.pdh_edge.specs.Files.Told.{Untold, Known}
use Rattle.pdh_blocks.specs.Leaves.{Leaf, Output}
use Rattle.pdh_blocks.specs.State.{PortState, names, output_names, leaf_name, output_name}
use Rattle.pdh_blocks.specs.Lists.{inputs_of, rest_of, rest_in}
use Rattle.pdh_blocks.specs.Held.{IsLeaf, HoldsBlocks, HoldsBytes, AllDiffer, NamesFailed}
use Rattle.pdh_blocks.specs.Kept.{Drains, IsAsBeforeOrEmpty}
use Rattle.pdh_blocks.proofs.Places.{get_mapped, same_at}
use Rattle.pdh_blocks.proofs.Names.{output_at, source_at}
use Rattle.pdh_blocks.proofs.Named.{still_named, start_named, append_named}
use Rattle.pdh_blocks.proofs.Counted.{CountsAlike}

-- what is told of the file of an output, once it is started, and while not all are
pub record IsStartedFile (s : ShelfState) (name : List ℕ) (k started all : ℕ) : Type 0 where
  pub held : k < started → s.tells_started name ≡ true → HoldsBytes (s.told name)
  pub untold : k < started → s.tells_started name ≡ false → s.told name ≡ Untold
  pub empty : started < all → k < started → s.tells_started name ≡ true → s.told name ≡ Known (Some [])

-- ---- a call with the name of an output

module _ (a : PortState) (s : ShelfState) (k : ℕ) (name : List ℕ) (port : HoldsBlocks a) (here : slice_get (output_names a) k ≡ Some name) (touched : Touches name a.shelf s) where
  pub place : slice_get (names a) (length a.leaves + k) ≡ Some name
  place = output_at a k ∙ here

  leaf_differs : (j : ℕ) (leaf : Leaf) → slice_get a.leaves j ≡ Some leaf → leaf.name ≡ name → ⊥
  leaf_differs j leaf at same =
      let mine : slice_get (names a) j ≡ Some name = source_at a j leaf at ∙ ap Some same in
      let twice : j ≡ length a.leaves + k = port.differ j (length a.leaves + k) name mine place in
      absurd (omega (arith, twice, slice_get_within a.leaves j leaf at))

  output_differs : (j : ℕ) (other : List ℕ) → slice_get (output_names a) j ≡ Some other → (j ≡ k → ⊥) → other ≡ name → ⊥
  output_differs j other at ne same =
      let mine : slice_get (names a) (length a.leaves + j) ≡ Some name = output_at a j ∙ at ∙ ap Some same in
      let twice : length a.leaves + j ≡ length a.leaves + k = port.differ (length a.leaves + j) (length a.leaves + k) name mine place in
      ne (omega (arith, twice))

  -- the files of the leaves, and of the other outputs, are as before
  leaf_told : (j : ℕ) (leaf : Leaf) → slice_get a.leaves j ≡ Some leaf → s.told leaf.name ≡ a.shelf.told leaf.name
  leaf_told j leaf at = touched.told leaf.name (leaf_differs j leaf at)

  pub other_told : (j : ℕ) (output : Output) → slice_get a.outputs j ≡ Some output → (j ≡ k → ⊥) → s.told output.name ≡ a.shelf.told output.name
  other_told j output at ne = touched.told output.name (output_differs j output.name (get_mapped output_name a.outputs j output at) ne)

  rest_same : (j : ℕ) (found : Option Leaf) → slice_get a.leaves j ≡ found → option_and_then (rest_in (record a { shelf = s })) found ≡ option_and_then (rest_in a) found
  rest_same j None at = refl
  rest_same j (Some leaf) at = ap (λ told. rest_of told leaf) (leaf_told j leaf at)

  inputs_same : inputs_of (record a { shelf = s }) ≡ inputs_of a
  inputs_same = ap (λ (t : ℕ → Option (List Bool)). record { holds = (inputs_of a).holds; left = (inputs_of a).left; told = t }) (fun_ext (λ j. rest_same j (slice_get a.leaves j) refl))

  leaves_kept : (j : ℕ) (leaf : Leaf) → slice_get a.leaves j ≡ Some leaf → IsLeaf s leaf
  leaves_kept j leaf at = let is = port.leaves j leaf at in record {
    within = is.within;
    whole = is.whole;
    readable = λ from len inside. touched.readable leaf.name from len (leaf_differs j leaf at) (is.readable from len inside);
    told = λ bytes known. is.told bytes (sym (leaf_told j leaf at) ∙ known);
  }

  -- the outputs' blocks change, and how far they have come
  module _ (os : List Output) (called started faults : ℕ) (fresh : Bool) (failed : Option ℕ) (same : map output_name os ≡ output_names a) (later : a.called ≤ called) (more : a.started ≤ started) (reached : k < called) where
    abbrev pub written : PortState
    written = record a { shelf = s; outputs = os; called = called; started = started; fresh = fresh; drain_faults = faults; failed = failed }

    at_old : (j : ℕ) (other : List ℕ) → slice_get (map output_name os) j ≡ Some other → slice_get (output_names a) j ≡ Some other
    at_old j other at = ap (λ all. slice_get all j) (sym same) ∙ at

    told_else : (j : ℕ) (other : List ℕ) → slice_get (map output_name os) j ≡ Some other → (j ≡ k → ⊥) → s.told other ≡ a.shelf.told other
    told_else j other at ne = touched.told other (output_differs j other (at_old j other at) ne)

    name_here : (j : ℕ) (other : List ℕ) → slice_get (map output_name os) j ≡ Some other → j ≡ k → other ≡ name
    name_here j other at is = same_at (output_names a) j k other name (at_old j other at) here is

    tells_as : (other : List ℕ) (tells : Bool) → s.tells_started other ≡ tells → a.shelf.tells_started other ≡ tells
    tells_as other tells is = ap (λ (f : List ℕ → Bool). f other) (sym touched.tells_started) ∙ is

    pub drains : CountsAlike a.shelf.counts s.counts a.feed_faults a.feed_faults a.drain_faults faults → (started ≤ k → IsAsBeforeOrEmpty name a.shelf s) → Drains a written
    drains counts was = record {
      keeps = record {
        reads = counts.reads;
        writes = counts.writes;
        misses = counts.misses;
        origins = refl;
        outputs = same;
        others = record {
          told = λ other no. touched.told other (λ is. no (k, here ∙ ap Some (sym is)));
          readable = λ other from len no can. touched.readable other from len (λ is. no (k, here ∙ ap Some (sym is))) can;
          tells_name = touched.tells_name;
          tells_started = touched.tells_started;
        };
        called = later;
        started = more;
        uncalled = λ j other at late. told_else j other at (λ is. omega arith);
        unstarted = λ j other at late. elim (cases_eq j k) [
          | inl is ↦ subst (λ n. IsAsBeforeOrEmpty n a.shelf s) (sym (name_here j other at is)) (was (omega (arith, is)))
          | inr ne ↦ inl (told_else j other at ne)
        ];
        ready = λ ready. ready;
      };
      inputs = inputs_same;
      leaves = refl;
      feed_faults = refl;
    }

    pub same_names : names written ≡ names a
    same_names = ap (λ all. map leaf_name a.leaves ++ all) same

    same_count : length os ≡ length a.outputs
    same_count = sym (length-map os output_name) ∙ ap length same ∙ length-map a.outputs output_name

    pub holds : called ≤ started + 1 → started ≤ called → called ≤ length a.outputs → (fresh ≡ true → ⊥) → ((j : ℕ) → j < started → (j ≡ k → ⊥) → j < a.started) → IsStartedFile s name k started (length a.outputs) → NamesFailed written → HoldsBlocks written
    holds in_order begun among unfresh before file names_failed = record {
      differ = subst AllDiffer (sym same_names) port.differ;
      few = omega (arith, ap length same_names, port.few);
      leaves = leaves_kept;
      in_order = in_order;
      begun = begun;
      among = omega (arith, among, same_count);
      fresh = λ yes. absurd (unfresh yes);
      ready = λ yes. let all : length a.outputs ≤ a.started = port.ready yes in omega (arith, all, more, same_count);
      held = λ j other at early tells. elim (cases_eq j k) [
        | inl is ↦
            let this : other ≡ name = name_here j other at is in
            subst (λ n. HoldsBytes (s.told n)) (sym this) (file.held (omega (arith, is)) (ap s.tells_started (sym this) ∙ tells))
        | inr ne ↦ subst HoldsBytes (sym (told_else j other at ne)) (port.held j other (at_old j other at) (before j early ne) (tells_as other true tells))
      ];
      untold = λ j other at early tells. elim (cases_eq j k) [
        | inl is ↦
            let this : other ≡ name = name_here j other at is in
            ap s.told this ∙ file.untold (omega (arith, is)) (ap s.tells_started (sym this) ∙ tells)
        | inr ne ↦ told_else j other at ne ∙ port.untold j other (at_old j other at) (before j early ne) (tells_as other false tells)
      ];
      empty = λ some j other at early tells. elim (cases_eq j k) [
        | inl is ↦
            let this : other ≡ name = name_here j other at is in
            ap s.told this ∙ file.empty (omega (arith, some, same_count)) (omega (arith, is)) (ap s.tells_started (sym this) ∙ tells)
        | inr ne ↦ told_else j other at ne ∙ port.empty (omega (arith, some, same_count, more)) j other (at_old j other at) (before j early ne) (tells_as other true tells)
      ];
      failed = names_failed;
    }

    -- the call succeeded
    pub named_same : faults ≡ a.drain_faults → failed ≡ a.failed → Succeeds a.shelf s → NamesFailed written
    named_same uncounted none succeeds = still_named a written same_names touched.tells_name succeeds.last refl refl uncounted none (λ i is late yes. yes) port.failed

    place_now : slice_get (names written) (length a.leaves + k) ≡ Some name
    place_now = ap (λ all. slice_get all (length a.leaves + k)) same_names ∙ place

    -- it failed
    module _ (counted : faults ≡ one_more a.drain_faults) (which : failed ≡ Some (length a.leaves + k)) where
      pub named_start : a.started < length a.outputs → FailsToWrite Start name a.shelf s → NamesFailed written
      named_start some fails = start_named written (length a.leaves + k) name place_now which (omega arith) (omega (arith, counted)) (λ yes. let all : length a.outputs ≤ a.started = port.ready yes in omega (arith, all, some)) fails.last

      pub named_append : FailsToWrite Append name a.shelf s → NamesFailed written
      named_append fails = append_named written (length a.leaves + k) name place_now which (omega arith) (omega (arith, counted)) fails.last
