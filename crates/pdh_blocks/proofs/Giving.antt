-- Bits that wait are given.
use Rattle.std.proofs.Common.{◌≡◌, ℕ, ◌+◌, ◌-◌, ◌%◌, ◌≤◌, Bool, List, [], ◌++◌, length, map, take, drop, Option, Some, None, slice_get, slice_set, cond, inl, inr, refl, sym, ap, ◌∙◌, subst, arith}
use Rattle.std.specs.Option.{option_and_then, option_map_or}
use Rattle.std.proofs.lemmas.Bool.{cases_eq, eq-eqb, ne_eqb}
use Rattle.std.proofs.lemmas.Option.{same_Some, slice_get_within}
use Rattle.std.proofs.lemmas.List.{length-set, length-take-le, length-drop, take-append-drop, take-take, drop-take, drop-drop}
use Rattle.pdh_bits.specs.Bits.{bits_of}
use Rattle.pdh_edge.specs.Files.{ShelfState, Told}
use Rattle.pdh_edge.specs.Files.Told.{Untold, Known}
use Rattle.pdh_edge.specs.Ports.{Inputs, Takes, for_leaf, nothing, before}
use Rattle.pdh_blocks.specs.Leaves.{Leaf, after_giving}
use Rattle.pdh_blocks.specs.State.{PortState, names, leaf_name, origin_of, output_names}
use Rattle.pdh_blocks.specs.Lists.{inputs_of, left_of, rest_of, rest_in}
use Rattle.pdh_blocks.specs.Held.{IsLeaf, IsPort, AllDiffer}
use Rattle.pdh_blocks.specs.Kept.{Feeds}
use Rattle.pdh_blocks.specs.laws.Counting.{rise_none}
use Rattle.pdh_blocks.proofs.Named.{still_named}
use Rattle.pdh_blocks.proofs.Places.{get_set_same, get_set_other, map_kept}

-- ---- a leaf

-- the next bits but some
next_but : (waiting bits : List Bool) (given n : ℕ) → n ≤ length waiting → waiting ≡ take (length waiting) (drop given bits) → drop n waiting ≡ take (length (drop n waiting)) (drop (given + n) bits)
next_but waiting bits given n few next =
    let m : ℕ = length waiting - n in
    let cut : length waiting ≡ n + m = omega arith in
    let left : length (drop n waiting) ≡ m = length-drop n waiting in
    ap (drop n) (next ∙ ap (λ v. take v (drop given bits)) cut) ∙ drop-take n m (drop given bits) ∙ ap (take m) (drop-drop n given bits) ∙ ap (λ v. take v (drop (given + n) bits)) (sym left)

-- the first of what is left are those that wait
rest_split : (waiting bits : List Bool) (all given n : ℕ) → n ≤ length waiting → given + length waiting ≤ all → waiting ≡ take (length waiting) (drop given bits) → drop given (take all bits) ≡ take n waiting ++ drop (given + n) (take all bits)
rest_split waiting bits all given n few within next =
    let m : ℕ = all - given in
    let cut : all ≡ given + m = omega arith in
    let rest : List Bool = drop given (take all bits) in
    let is : rest ≡ take m (drop given bits) = ap (λ v. drop given (take v bits)) cut ∙ drop-take given m bits in
    let front : take n rest ≡ take n waiting = ap (take n) is ∙ take-take n m (drop given bits) (omega arith) ∙ sym (ap (take n) next ∙ take-take n (length waiting) (drop given bits) few) in
    sym (take-append-drop n rest) ∙ ap (λ v. v ++ drop n rest) front ∙ ap (λ v. take n waiting ++ v) (drop-drop n given (take all bits))

given_leaf : (shelf : ShelfState) (leaf : Leaf) (n : ℕ) → n ≤ length leaf.waiting → IsLeaf shelf leaf → IsLeaf shelf (after_giving n leaf)
given_leaf shelf leaf n few is =
    let left = length-drop n leaf.waiting in
    record {
      within = omega (arith, left, is.within);
      whole = λ less. let was : (leaf.given + length leaf.waiting) % 32768 ≡ 0 = is.whole (omega (arith, left, less)) in omega (arith, was, left);
      readable = is.readable;
      told = λ bytes known. let has = is.told bytes known in record { long = has.long; next = next_but leaf.waiting (bits_of bytes) leaf.given n few has.next };
    }

-- its list gives them
rest_given : (shelf : ShelfState) (leaf : Leaf) (n : ℕ) (told : Told) → shelf.told leaf.name ≡ told → n ≤ length leaf.waiting → IsLeaf shelf leaf → rest_of told leaf ≡ before (take n leaf.waiting) (rest_of told (after_giving n leaf))
rest_given shelf leaf n Untold known few is = refl
rest_given shelf leaf n (Known None) known few is = refl
rest_given shelf leaf n (Known (Some bytes)) known few is = ap Some (rest_split leaf.waiting (bits_of bytes) leaf.bits leaf.given n few is.within (is.told bytes known).next)

-- ---- a port

for_same : (t : ℕ) (bits : List Bool) → for_leaf t bits t ≡ bits
for_same t bits = ap (λ v. cond v bits []) (eq-eqb t t refl)

for_other : (t : ℕ) (bits : List Bool) (k : ℕ) → (k ≡ t → ⊥) → for_leaf t bits k ≡ []
for_other t bits k ne = ap (λ v. cond v bits []) (ne_eqb k t ne)

before_none : (o : Option (List Bool)) → before [] o ≡ o
before_none None = refl
before_none (Some l) = refl

pub takes_none : (a b : Inputs) → b ≡ a → Takes nothing a b
takes_none a b same = record {
  counts = λ k. omega (arith, ap (λ (lists : Inputs). lists.left k) same);
  bits = λ k. sym (before_none (b.told k) ∙ ap (λ (lists : Inputs). lists.told k) same);
}

pub takes_after : (bits : ℕ → List Bool) (a b c : Inputs) → b ≡ a → Takes bits b c → Takes bits a c
takes_after bits a b c same takes = subst (λ (lists : Inputs). Takes bits lists c) same takes

module _ (a : PortState) (k : ℕ) (old : Leaf) (n : ℕ) (port : IsPort a) (at : slice_get a.leaves k ≡ Some old) (few : n ≤ length old.waiting) where
  abbrev new : Leaf
  new = after_giving n old

  abbrev leaves : List Leaf
  leaves = slice_set a.leaves k new

  abbrev b : PortState
  b = record a { leaves = leaves }

  new_here : slice_get leaves k ≡ Some new
  new_here = get_set_same a.leaves k new (slice_get_within a.leaves k old at)

  same_names : map leaf_name leaves ++ output_names a ≡ names a
  same_names = ap (λ all. all ++ output_names a) (map_kept leaf_name a.leaves k old new at refl)

  is : IsLeaf a.shelf old
  is = port.blocks.leaves k old at

  leaves_held : (j : ℕ) (leaf : Leaf) → slice_get leaves j ≡ Some leaf → IsLeaf a.shelf leaf
  leaves_held j leaf found = elim (cases_eq j k) [
    | inl same ↦
        let this : new ≡ leaf = same_Some new leaf (sym new_here ∙ ap (slice_get leaves) (sym same) ∙ found) in
        subst (IsLeaf a.shelf) this (given_leaf a.shelf old n few is)
    | inr ne ↦ port.blocks.leaves j leaf (sym (get_set_other a.leaves k j new ne) ∙ found)
  ]

  pub give_port : IsPort b
  give_port = record {
    blocks = record {
      differ = subst AllDiffer (sym same_names) port.blocks.differ;
      few = omega (arith, ap length same_names, port.blocks.few);
      leaves = leaves_held;
      in_order = port.blocks.in_order;
      begun = port.blocks.begun;
      among = port.blocks.among;
      held = port.blocks.held;
      fresh = port.blocks.fresh;
      ready = port.blocks.ready;
      untold = port.blocks.untold;
      empty = port.blocks.empty;
      failed = still_named a b same_names refl refl (length-set a.leaves k new) refl refl refl (λ i which late yes. yes) port.blocks.failed;
    };
    room = port.room;
  }

  pub give_feeds : Feeds a b
  give_feeds = record {
    keeps = record {
      reads = rise_none a.feed_faults a.shelf.counts.read_faults a.shelf.counts.read_faults refl;
      writes = rise_none a.drain_faults a.shelf.counts.write_faults a.shelf.counts.write_faults refl;
      misses = refl;
      origins = map_kept origin_of a.leaves k old new at refl;
      outputs = refl;
      others = record { told = λ name no. refl; readable = λ name from len no can. can; tells_name = refl; tells_started = refl };
      called = omega arith;
      started = omega arith;
      uncalled = λ j name here late. refl;
      unstarted = λ j name here late. inl refl;
      ready = λ ready. ready;
    };
    outputs = refl;
    drain_faults = refl;
    fresh = refl;
  }

  count_at : (j : ℕ) → option_map_or left_of (slice_get a.leaves j) 0 ≡ length (for_leaf k (take n old.waiting) j) + option_map_or left_of (slice_get leaves j) 0
  count_at j = elim (cases_eq j k) [
    | inl same ↦
        let P : ℕ → Type 0 = λ v. option_map_or left_of (slice_get a.leaves v) 0 ≡ length (for_leaf k (take n old.waiting) v) + option_map_or left_of (slice_get leaves v) 0 in
        let was : option_map_or left_of (slice_get a.leaves k) 0 ≡ old.bits - old.given = ap (λ (o : Option Leaf). option_map_or left_of o 0) at in
        let now : option_map_or left_of (slice_get leaves k) 0 ≡ old.bits - (old.given + n) = ap (λ (o : Option Leaf). option_map_or left_of o 0) new_here in
        let long : length (for_leaf k (take n old.waiting) k) ≡ n = ap length (for_same k (take n old.waiting)) ∙ length-take-le n old.waiting few in
        let here : P k = omega (arith, was, now, long, is.within, few) in
        subst P (sym same) here
    | inr ne ↦
        let kept : option_map_or left_of (slice_get leaves j) 0 ≡ option_map_or left_of (slice_get a.leaves j) 0 = ap (λ (o : Option Leaf). option_map_or left_of o 0) (get_set_other a.leaves k j new ne) in
        let none : length (for_leaf k (take n old.waiting) j) ≡ 0 = ap length (for_other k (take n old.waiting) j ne) in
        omega (arith, kept, none)
  ]

  bits_at : (j : ℕ) → option_and_then (rest_in a) (slice_get a.leaves j) ≡ before (for_leaf k (take n old.waiting) j) (option_and_then (rest_in b) (slice_get leaves j))
  bits_at j = elim (cases_eq j k) [
    | inl same ↦
        let P : ℕ → Type 0 = λ v. option_and_then (rest_in a) (slice_get a.leaves v) ≡ before (for_leaf k (take n old.waiting) v) (option_and_then (rest_in b) (slice_get leaves v)) in
        let was : option_and_then (rest_in a) (slice_get a.leaves k) ≡ rest_in a old = ap (option_and_then (rest_in a)) at in
        let now : option_and_then (rest_in b) (slice_get leaves k) ≡ rest_in a new = ap (option_and_then (rest_in b)) new_here in
        let here : P k = was ∙ rest_given a.shelf old n (a.shelf.told old.name) refl few is ∙ sym (ap (before (for_leaf k (take n old.waiting) k)) now ∙ ap (λ l. before l (rest_in a new)) (for_same k (take n old.waiting))) in
        subst P (sym same) here
    | inr ne ↦
        sym (ap (λ l. before l (option_and_then (rest_in b) (slice_get leaves j))) (for_other k (take n old.waiting) j ne) ∙ before_none (option_and_then (rest_in b) (slice_get leaves j)) ∙ ap (option_and_then (rest_in a)) (get_set_other a.leaves k j new ne))
  ]

  pub give_takes : Takes (for_leaf k (take n old.waiting)) (inputs_of a) (inputs_of b)
  give_takes = record { counts = count_at; bits = bits_at }
