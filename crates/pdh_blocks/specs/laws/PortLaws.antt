-- What holds of all that a port may do.
use Rattle.std.proofs.Common.{◌≡◌, ℕ, ◌<◌, ◌≤◌, cond, Bool, List, [], length, map, take, drop, Option, Some, None, slice_get, inl, inr, refl, sym, ap, ◌∙◌, arith}
use Rattle.std.specs.Prelude.{nat_lt}
use Rattle.std.specs.Option.{option_and_then, option_map_or}
use Rattle.std.proofs.lemmas.Option.{none-some, same_Some}
use Rattle.std.proofs.lemmas.List.{length-map, length-take, length-drop}
use Rattle.pdh_bits.specs.Bits.{bits_of}
use Rattle.pdh_bits.proofs.BitsLemmas.{length-bits_of}
use Rattle.pdh_edge.specs.Counts.{one_more}
use Rattle.pdh_edge.specs.Files.{ShelfState, Told, TouchesOnly, Rose, told_empty}
use Rattle.pdh_edge.specs.Files.Told.{Untold, Known}
use Rattle.pdh_blocks.specs.Leaves.{Leaf}
use Rattle.pdh_blocks.specs.State.{PortState, origin_of, output_name, output_names}
use Rattle.pdh_blocks.specs.Lists.{inputs_of, outputs_of, left_of, rest_of, rest_in, waiting_of, waits_in}
use Rattle.pdh_blocks.specs.Held.{IsLeaf, IsPort}
use Rattle.pdh_blocks.specs.Kept.{Keeps, Feeds, Drains, IsReady, IsOutput, IsAsBeforeOrEmpty}
use Rattle.pdh_blocks.specs.laws.Counting.{rise_none, rise_join, no_fewer, shelf_no_fewer, shelf_rose, none_counted, one_counted}

-- ---- as many lists

same_count : {X Y : Type 0} (f : X → Y) (xs ys : List X) → map f ys ≡ map f xs → length ys ≡ length xs
same_count f xs ys same = sym (length-map ys f) ∙ ap length same ∙ length-map xs f

module _ {a b : PortState} (kept : Keeps a b) where
  pub same_leaves : length b.leaves ≡ length a.leaves
  same_leaves = same_count origin_of a.leaves b.leaves kept.origins

  pub same_outputs : length b.outputs ≡ length a.outputs
  same_outputs = same_count output_name a.outputs b.outputs kept.outputs

  holds_inputs : (inputs_of b).holds ≡ (inputs_of a).holds
  holds_inputs = ap (λ n k. nat_lt k n) same_leaves

  holds_outputs : (outputs_of b).holds ≡ (outputs_of a).holds
  holds_outputs = ap (λ n k. nat_lt k n) same_outputs

  pub keeps_holds : ((inputs_of b).holds ≡ (inputs_of a).holds) × ((outputs_of b).holds ≡ (outputs_of a).holds)
  keeps_holds = (holds_inputs, holds_outputs)

  pub keeps_ready : IsReady a → IsReady b
  keeps_ready ready = record { said = kept.ready ready.said; all = omega (arith, same_outputs, ready.all, kept.started) }

pub feeds_holds : {a b : PortState} → Feeds a b → (inputs_of b).holds ≡ (inputs_of a).holds
feeds_holds p = (keeps_holds p.keeps).0

pub drains_holds : {a b : PortState} → Drains a b → (outputs_of b).holds ≡ (outputs_of a).holds
drains_holds p = (keeps_holds p.keeps).1

-- ---- counts

module _ {a b : PortState} (kept : Keeps a b) where
  -- no count of the port falls
  pub feed_faults_later : a.feed_faults ≤ b.feed_faults
  feed_faults_later = no_fewer kept.reads

  pub drain_faults_later : a.drain_faults ≤ b.drain_faults
  drain_faults_later = no_fewer kept.writes

  -- nor one of its shelf
  pub read_faults_later : a.shelf.counts.read_faults ≤ b.shelf.counts.read_faults
  read_faults_later = shelf_no_fewer kept.reads

  pub write_faults_later : a.shelf.counts.write_faults ≤ b.shelf.counts.write_faults
  write_faults_later = shelf_no_fewer kept.writes

  -- the shelf's rose where the port's did
  pub read_faults_rose : a.feed_faults < b.feed_faults → Rose a.shelf.counts.read_faults b.shelf.counts.read_faults
  read_faults_rose = shelf_rose kept.reads

  pub write_faults_rose : a.drain_faults < b.drain_faults → Rose a.shelf.counts.write_faults b.shelf.counts.write_faults
  write_faults_rose = shelf_rose kept.writes

-- from a port on that had counted none, the shelf counted as many as the port, at none and at one
module _ {a b : PortState} (kept : Keeps a b) (none : a.feed_faults ≡ 0) where
  pub read_faults_none : b.feed_faults ≡ 0 → b.shelf.counts.read_faults ≡ a.shelf.counts.read_faults
  read_faults_none = none_counted kept.reads none

  pub read_faults_one : b.feed_faults ≡ 1 → b.shelf.counts.read_faults ≡ one_more a.shelf.counts.read_faults
  read_faults_one = one_counted kept.reads none

module _ {a b : PortState} (kept : Keeps a b) (none : a.drain_faults ≡ 0) where
  pub write_faults_none : b.drain_faults ≡ 0 → b.shelf.counts.write_faults ≡ a.shelf.counts.write_faults
  write_faults_none = none_counted kept.writes none

  pub write_faults_one : b.drain_faults ≡ 1 → b.shelf.counts.write_faults ≡ one_more a.shelf.counts.write_faults
  write_faults_one = one_counted kept.writes none

-- ---- the same

pub keeps_same : (a : PortState) → Keeps a a
keeps_same a = record {
  reads = rise_none a.feed_faults a.shelf.counts.read_faults a.shelf.counts.read_faults refl;
  writes = rise_none a.drain_faults a.shelf.counts.write_faults a.shelf.counts.write_faults refl;
  misses = refl;
  origins = refl;
  outputs = refl;
  others = record { told = λ name no. refl; readable = λ name at len no can. can; tells_name = refl; tells_started = refl };
  called = omega arith;
  started = omega arith;
  uncalled = λ k name here late. refl;
  unstarted = λ k name here late. inl refl;
  ready = λ ready. ready;
}

pub feeds_same : (a : PortState) → Feeds a a
feeds_same a = record { keeps = keeps_same a; outputs = refl; drain_faults = refl; fresh = refl }

pub drains_same : (a : PortState) → Drains a a
drains_same a = record { keeps = keeps_same a; inputs = refl; leaves = refl; feed_faults = refl }

-- ---- one after another

module _ {a b c : PortState} (p : Keeps a b) (q : Keeps b c) where
  is_output : (name : List ℕ) → IsOutput b name → IsOutput a name
  is_output name here = (here.0, ap (λ names. slice_get names here.0) (sym p.outputs) ∙ here.1)

  join_others : TouchesOnly (IsOutput a) a.shelf c.shelf
  join_others = record {
    told = λ name no. q.others.told name (λ here. no (is_output name here)) ∙ p.others.told name no;
    readable = λ name at len no can. q.others.readable name at len (λ here. no (is_output name here)) (p.others.readable name at len no can);
    tells_name = q.others.tells_name ∙ p.others.tells_name;
    tells_started = q.others.tells_started ∙ p.others.tells_started;
  }

  -- the names of outputs in the middle
  named : (k : ℕ) (name : List ℕ) → slice_get (output_names c) k ≡ Some name → slice_get (output_names b) k ≡ Some name
  named k name here = ap (λ names. slice_get names k) (sym q.outputs) ∙ here

  empty_still : (name : List ℕ) → told_empty c.shelf name ≡ told_empty b.shelf name
  empty_still name = ap (λ (tells : List ℕ → Bool). cond (tells name) (Known (Some [])) Untold) q.others.tells_started

  join_unstarted : (k : ℕ) (name : List ℕ) → slice_get (output_names c) k ≡ Some name → c.started ≤ k → IsAsBeforeOrEmpty name a.shelf c.shelf
  join_unstarted k name here late = elim (q.unstarted k name here late) [
    | inl same ↦ elim (p.unstarted k name (named k name here) (omega (arith, q.started))) [
      | inl first ↦ inl (same ∙ first)
      | inr empty ↦ inr (same ∙ empty ∙ sym (empty_still name))
    ]
    | inr empty ↦ inr empty
  ]

  pub keeps_join : Keeps a c
  keeps_join = record {
    reads = rise_join p.reads q.reads;
    writes = rise_join p.writes q.writes;
    misses = q.misses ∙ p.misses;
    origins = q.origins ∙ p.origins;
    outputs = q.outputs ∙ p.outputs;
    others = join_others;
    called = omega (arith, p.called, q.called);
    started = omega (arith, p.started, q.started);
    uncalled = λ k name here late. q.uncalled k name here late ∙ p.uncalled k name (named k name here) (omega (arith, q.called));
    unstarted = join_unstarted;
    ready = λ ready. q.ready (p.ready ready);
  }

pub feeds_join : {a b c : PortState} → Feeds a b → Feeds b c → Feeds a c
feeds_join p q = record {
  keeps = keeps_join p.keeps q.keeps;
  outputs = q.outputs ∙ p.outputs;
  drain_faults = q.drain_faults ∙ p.drain_faults;
  fresh = q.fresh ∙ p.fresh;
}

pub drains_join : {a b c : PortState} → Drains a b → Drains b c → Drains a c
drains_join p q = record {
  keeps = keeps_join p.keeps q.keeps;
  inputs = q.inputs ∙ p.inputs;
  leaves = q.leaves ∙ p.leaves;
  feed_faults = q.feed_faults ∙ p.feed_faults;
}

-- ---- a list that is told

rest_long : (shelf : ShelfState) (leaf : Leaf) (told : Told) (bits : List Bool) → shelf.told leaf.name ≡ told → IsLeaf shelf leaf → rest_of told leaf ≡ Some bits → left_of leaf ≡ length bits
rest_long shelf leaf Untold bits at is here = absurd (none-some bits here)
rest_long shelf leaf (Known None) bits at is here = absurd (none-some bits here)
rest_long shelf leaf (Known (Some bytes)) bits at is here =
    let has = is.told bytes at in
    let all = length-bits_of bytes in
    let some = length-take leaf.bits (bits_of bytes) in
    let rest = length-drop leaf.given (take leaf.bits (bits_of bytes)) in
    let same : length (drop leaf.given (take leaf.bits (bits_of bytes))) ≡ length bits = ap length (same_Some _ _ here) in
    omega (arith, has.long, all, some, rest, same)

list_long : (a : PortState) (k : ℕ) (found : Option Leaf) (bits : List Bool) → slice_get a.leaves k ≡ found → ((leaf : Leaf) → slice_get a.leaves k ≡ Some leaf → IsLeaf a.shelf leaf) → option_and_then (rest_in a) found ≡ Some bits → option_map_or left_of found 0 ≡ length bits
list_long a k None bits at is here = absurd (none-some bits here)
list_long a k (Some leaf) bits at is here = rest_long a.shelf leaf (a.shelf.told leaf.name) bits refl (is leaf at) here

pub left_is : (a : PortState) (k : ℕ) (bits : List Bool) → IsPort a → (inputs_of a).told k ≡ Some bits → (inputs_of a).left k ≡ length bits
left_is a k bits port here = list_long a k (slice_get a.leaves k) bits refl (port.blocks.leaves k) here

-- ---- what waits

few_wait : (shelf : ShelfState) (found : Option Leaf) → ((leaf : Leaf) → found ≡ Some leaf → IsLeaf shelf leaf) → option_map_or waiting_of found 0 ≤ option_map_or left_of found 0
few_wait shelf None is = omega arith
few_wait shelf (Some leaf) is = omega (arith, (is leaf refl).within)

pub waits_left : (a : PortState) (k : ℕ) → IsPort a → waits_in a.leaves k ≤ (inputs_of a).left k
waits_left a k port = few_wait a.shelf (slice_get a.leaves k) (port.blocks.leaves k)
