-- A block of a leaf is read.
use mathlib.Core.Path.{fun_ext}
use Rattle.std.proofs.Common.{◌≡◌, ℕ, ◌+◌, ◌%◌, ◌^◌, ◌<◌, Bool, true, false, List, [], ◌∷◌, ◌++◌, length, map, Option, Some, None, slice_get, slice_set, inl, inr, refl, sym, ap, ◌∙◌, subst, arith}
use Rattle.std.specs.Prelude.{nat_lt}
use Rattle.std.specs.Option.{option_and_then, option_map_or}
use Rattle.std.proofs.lemmas.Bool.{cases_eq, lt-ltb}
use Rattle.std.proofs.lemmas.Option.{same_Some, slice_get_within}
use Rattle.std.proofs.lemmas.List.{length-set}
use Rattle.pdh_edge.specs.declared.shelf.Call.TheVariants.{Read}
use Rattle.pdh_edge.specs.Counts.{one_more}
use Rattle.pdh_edge.specs.Files.{ShelfState, Told, Looks, Succeeds, FailsToRead}
use Rattle.pdh_edge.specs.Files.Told.{Untold, Known}
use Rattle.pdh_blocks.specs.Leaves.{Leaf, with_waiting, IsBlockRead}
use Rattle.pdh_blocks.specs.State.{PortState, names, leaf_name, origin_of, output_names}
use Rattle.pdh_blocks.specs.Lists.{inputs_of, outputs_of, left_of, rest_of, rest_in}
use Rattle.pdh_blocks.specs.Held.{IsLeaf, IsPort, AllDiffer, NamesFailed, HoldsBytes}
use Rattle.pdh_blocks.specs.Kept.{Feeds}
use Rattle.pdh_blocks.specs.Done.{ReadsAtMost, HasWaiting}
use Rattle.pdh_blocks.proofs.Places.{get_set_same, get_set_other, get_left, get_mapped, map_kept}
use Rattle.pdh_blocks.proofs.Named.{still_named, read_named}
use Rattle.pdh_blocks.proofs.Counted.{CountsAlike, counts_none, counts_read}

-- what waits changes no list
rest_waiting : (told : Told) (waiting : List Bool) (leaf : Leaf) → rest_of told (with_waiting waiting leaf) ≡ rest_of told leaf
rest_waiting Untold waiting leaf = refl
rest_waiting (Known None) waiting leaf = refl
rest_waiting (Known (Some bytes)) waiting leaf = refl

-- a leaf after its next block was read
pub read_leaf : (shelf : ShelfState) (old new : Leaf) → IsLeaf shelf old → old.waiting ≡ [] → old.given < old.bits → IsBlockRead shelf old new → IsLeaf shelf new
read_leaf shelf old new is none more read =
    let empty : length old.waiting ≡ 0 = ap length none in
    let own : IsLeaf shelf (with_waiting new.waiting old) = record {
      within = omega (arith, read.count, more);
      whole = λ less. let whole : (old.given + length old.waiting) % 32768 ≡ 0 = is.whole (omega (arith, empty, more)) in omega (arith, whole, empty, read.count, less);
      readable = is.readable;
      told = λ bytes known. record { long = (is.told bytes known).long; next = read.told bytes known };
    } in
    subst (IsLeaf shelf) (sym read.leaf) own

module _ (a : PortState) (s : ShelfState) (k : ℕ) (old : Leaf) (waiting : List Bool) (port : IsPort a) (at : slice_get a.leaves k ≡ Some old) (looks : Looks a.shelf s) (is : IsLeaf a.shelf (with_waiting waiting old)) where
  abbrev new : Leaf
  new = with_waiting waiting old

  abbrev leaves : List Leaf
  leaves = slice_set a.leaves k new

  new_here : slice_get leaves k ≡ Some new
  new_here = get_set_same a.leaves k new (slice_get_within a.leaves k old at)

  told_is : (name : List ℕ) → s.told name ≡ a.shelf.told name
  told_is name = ap (λ (f : List ℕ → Told). f name) looks.told

  tells_is : (name : List ℕ) → s.tells_started name ≡ a.shelf.tells_started name
  tells_is name = ap (λ (f : List ℕ → Bool). f name) looks.tells_started

  looked : (leaf : Leaf) → IsLeaf a.shelf leaf → IsLeaf s leaf
  looked leaf was = record {
    within = was.within;
    whole = was.whole;
    readable = λ from len inside. looks.readable leaf.name from len tt (was.readable from len inside);
    told = λ bytes known. was.told bytes (sym (told_is leaf.name) ∙ known);
  }

  same_names : map leaf_name leaves ++ output_names a ≡ names a
  same_names = ap (λ all. all ++ output_names a) (map_kept leaf_name a.leaves k old new at refl)

  leaves_held : (j : ℕ) (leaf : Leaf) → slice_get leaves j ≡ Some leaf → IsLeaf s leaf
  leaves_held j leaf found = elim (cases_eq j k) [
    | inl same ↦
        let this : new ≡ leaf = same_Some new leaf (sym new_here ∙ ap (slice_get leaves) (sym same) ∙ found) in
        subst (IsLeaf s) this (looked new is)
    | inr ne ↦ looked leaf (port.blocks.leaves j leaf (sym (get_set_other a.leaves k j new ne) ∙ found))
  ]

  module _ (faults : ℕ) (failed : Option ℕ) where
    abbrev after : PortState
    after = record a { shelf = s; leaves = leaves; feed_faults = faults; failed = failed }

    holds_now : NamesFailed after → IsPort after
    holds_now named = record {
      blocks = record {
        differ = subst AllDiffer (sym same_names) port.blocks.differ;
        few = omega (arith, ap length same_names, port.blocks.few);
        leaves = leaves_held;
        in_order = port.blocks.in_order;
        begun = port.blocks.begun;
        among = port.blocks.among;
        fresh = port.blocks.fresh;
        ready = port.blocks.ready;
        held = λ j name here early tells. subst HoldsBytes (sym (told_is name)) (port.blocks.held j name here early (sym (tells_is name) ∙ tells));
        untold = λ j name here early tells. told_is name ∙ port.blocks.untold j name here early (sym (tells_is name) ∙ tells);
        empty = λ some j name here early tells. told_is name ∙ port.blocks.empty some j name here early (sym (tells_is name) ∙ tells);
        failed = named;
      };
      room = port.room;
    }

    outputs_same : outputs_of after ≡ outputs_of a
    outputs_same =
        ap (λ (t : List ℕ → Told). outputs_of (record after { shelf = record s { told = t } })) looks.told
        ∙ ap (λ (t : List ℕ → Bool). outputs_of (record after { shelf = record s { told = a.shelf.told; tells_started = t } })) looks.tells_started

    feeds_now : CountsAlike a.shelf.counts s.counts a.feed_faults faults a.drain_faults a.drain_faults → Feeds a after
    feeds_now counts = record {
      keeps = record {
        reads = counts.reads;
        writes = counts.writes;
        misses = counts.misses;
        origins = map_kept origin_of a.leaves k old new at refl;
        outputs = refl;
        others = record {
          told = λ name no. told_is name;
          readable = λ name from len no can. looks.readable name from len tt can;
          tells_name = looks.tells_name;
          tells_started = looks.tells_started;
        };
        called = omega arith;
        started = omega arith;
        uncalled = λ j name here late. told_is name;
        unstarted = λ j name here late. inl (told_is name);
        ready = λ ready. ready;
      };
      outputs = outputs_same;
      drain_faults = refl;
      fresh = refl;
    }

    -- no list changes
    left_at : (j : ℕ) → option_map_or left_of (slice_get leaves j) 0 ≡ option_map_or left_of (slice_get a.leaves j) 0
    left_at j = elim (cases_eq j k) [
      | inl same ↦
          let P : ℕ → Type 0 = λ v. option_map_or left_of (slice_get leaves v) 0 ≡ option_map_or left_of (slice_get a.leaves v) 0 in
          let here : P k = ap (λ (o : Option Leaf). option_map_or left_of o 0) new_here ∙ sym (ap (λ (o : Option Leaf). option_map_or left_of o 0) at) in
          subst P (sym same) here
      | inr ne ↦ ap (λ (o : Option Leaf). option_map_or left_of o 0) (get_set_other a.leaves k j new ne)
    ]

    rest_found : (found : Option Leaf) → option_and_then (rest_in after) found ≡ option_and_then (rest_in a) found
    rest_found None = refl
    rest_found (Some leaf) = ap (λ told. rest_of told leaf) (told_is leaf.name)

    told_at : (j : ℕ) → option_and_then (rest_in after) (slice_get leaves j) ≡ option_and_then (rest_in a) (slice_get a.leaves j)
    told_at j = elim (cases_eq j k) [
      | inl same ↦
          let P : ℕ → Type 0 = λ v. option_and_then (rest_in after) (slice_get leaves v) ≡ option_and_then (rest_in a) (slice_get a.leaves v) in
          let here : P k = ap (option_and_then (rest_in after)) new_here ∙ ap (λ told. rest_of told new) (told_is old.name) ∙ rest_waiting (a.shelf.told old.name) waiting old ∙ sym (ap (option_and_then (rest_in a)) at) in
          subst P (sym same) here
      | inr ne ↦ ap (option_and_then (rest_in after)) (get_set_other a.leaves k j new ne) ∙ rest_found (slice_get a.leaves j)
    ]

    inputs_same : inputs_of after ≡ inputs_of a
    inputs_same =
        ap (λ (n : ℕ). record { holds = λ j. nat_lt j n; left = (inputs_of after).left; told = (inputs_of after).told }) (length-set a.leaves k new)
        ∙ ap (λ (l : ℕ → ℕ). record { holds = (inputs_of a).holds; left = l; told = (inputs_of after).told }) (fun_ext left_at)
        ∙ ap (λ (t : ℕ → Option (List Bool)). record { holds = (inputs_of a).holds; left = (inputs_of a).left; told = t }) (fun_ext told_at)

  pub read_done : Succeeds a.shelf s → ReadsAtMost a (record a { shelf = s; leaves = leaves })
  read_done succeeds = record {
    port = holds_now a.feed_faults a.failed (still_named a (after a.feed_faults a.failed) same_names looks.tells_name succeeds.last (length-set a.leaves k new) refl refl refl (λ i which late yes. yes) port.blocks.failed);
    feeds = feeds_now a.feed_faults a.failed (counts_none a.shelf.counts s.counts a.feed_faults a.drain_faults succeeds.counts);
    inputs = inputs_same a.feed_faults a.failed;
    outputs = refl;
  }

  pub waits_now : 0 < length waiting → HasWaiting k (record a { shelf = s; leaves = leaves })
  waits_now some leaf found =
      let this : new ≡ leaf = same_Some new leaf (sym new_here ∙ found) in
      omega (arith, some, ap (λ (leaf : Leaf). length leaf.waiting) this)

  pub read_failed : (faults : ℕ) (failed : Option ℕ) → a.feed_faults < 2 ^ 64 → a.shelf.counts.read_faults < 2 ^ 64 → faults ≡ one_more a.feed_faults → failed ≡ Some k → FailsToRead Read old.name a.shelf s
      → ReadsAtMost a (record a { shelf = s; leaves = leaves; feed_faults = faults; failed = failed })
  read_failed faults failed fit fits counted which fails =
      let name_at : slice_get (map leaf_name leaves ++ output_names a) k ≡ Some old.name = get_left (map leaf_name leaves) (output_names a) k old.name (get_mapped leaf_name leaves k new new_here) in
      record {
        port = holds_now faults failed (read_named (after faults failed) k old.name name_at which (slice_get_within leaves k new new_here) (omega (arith, counted)) fails.last);
        feeds = feeds_now faults failed (counts_read a.shelf.counts s.counts a.feed_faults a.drain_faults faults fit fits counted fails.counts);
        inputs = inputs_same faults failed;
        outputs = refl;
      }

-- no bit waits
pub nothing_waits : (waiting : List Bool) → nat_lt 0 (length waiting) ≡ false → waiting ≡ []
nothing_waits [] none = refl
nothing_waits (bit ∷ bits) none = absurd (let both : true ≡ false = sym (lt-ltb 0 (length (bit ∷ bits)) (omega arith)) ∙ none in cc)
