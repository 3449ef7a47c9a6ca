-- Bits are put to an output, whose block they fill at most.
use Rattle.std.proofs.Common.{◌≡◌, ℕ, ◌+◌, ◌<◌, ◌≤◌, Bool, true, false, cond, List, ◌++◌, length, map, Some, None, slice_get, slice_set, inl, inr, refl, sym, ap, ◌∙◌, subst, append_assoc, arith}
use Rattle.std.specs.Prelude.{Ok}
use Rattle.std.specs.Option.{option_and_then, option_map_or}
use Rattle.std.proofs.lemmas.Bool.{cases_eq}
use Rattle.std.proofs.lemmas.Option.{same_Some, slice_get_within}
use Rattle.std.proofs.lemmas.List.{length-set, length-append}
use Rattle.pdh_edge.specs.Ports.{Puts, for_leaf, after}
use Rattle.pdh_blocks.specs.Leaves.{Output, to_wait}
use Rattle.pdh_blocks.specs.State.{PortState, names, leaf_name, output_name}
use Rattle.pdh_blocks.specs.Lists.{outputs_of, put_in, appended, room_of, room_in}
use Rattle.pdh_blocks.specs.Held.{HoldsBlocks, AllDiffer, HasRoom, HasRoomBut, IsPort}
use Rattle.pdh_blocks.specs.Kept.{Drains}
use Rattle.pdh_blocks.specs.Done.{PutsBits}
use Rattle.pdh_blocks.specs.laws.Counting.{rise_none}
use Rattle.pdh_blocks.proofs.Places.{get_set_same, get_set_other, map_kept}
use Rattle.pdh_blocks.proofs.Named.{still_named}
use Rattle.pdh_blocks.proofs.Taking.{puts_at, same_told}

-- its list with more bits that wait
put_more : (tells : Bool) (file waiting more : List Bool) → cond tells (Some (file ++ (waiting ++ more))) None ≡ after more (cond tells (Some (file ++ waiting)) None)
put_more true file waiting more = ap Some (sym (append_assoc file waiting more))
put_more false file waiting more = refl

module _ (a : PortState) (k : ℕ) (old : Output) (more : List Bool) (port : HoldsBlocks a) (at : slice_get a.outputs k ≡ Some old) where
  abbrev new : Output
  new = to_wait (old.waiting ++ more) old

  abbrev b : PortState
  b = record a { outputs = slice_set a.outputs k new }

  same_names : map output_name (slice_set a.outputs k new) ≡ map output_name a.outputs
  same_names = map_kept output_name a.outputs k old new at refl

  all_names : names b ≡ names a
  all_names = ap (λ all. map leaf_name a.leaves ++ all) same_names

  new_here : slice_get (slice_set a.outputs k new) k ≡ Some new
  new_here = get_set_same a.outputs k new (slice_get_within a.outputs k old at)

  pub put_holds : HoldsBlocks b
  put_holds = record {
    differ = subst AllDiffer (sym all_names) port.differ;
    few = omega (arith, ap length all_names, port.few);
    leaves = port.leaves;
    in_order = port.in_order;
    begun = port.begun;
    among = omega (arith, port.among, length-set a.outputs k new);
    held = λ j name here early tells. port.held j name (ap (λ all. slice_get all j) (sym same_names) ∙ here) early tells;
    fresh = port.fresh;
    ready = λ yes. let all = port.ready yes in omega (arith, all, length-set a.outputs k new);
    untold = λ j name here early tells. port.untold j name (ap (λ all. slice_get all j) (sym same_names) ∙ here) early tells;
    empty = λ some j name here early tells. port.empty (omega (arith, some, length-set a.outputs k new)) j name (ap (λ all. slice_get all j) (sym same_names) ∙ here) early tells;
    failed = still_named a b all_names refl refl refl refl refl refl (λ i is late yes. yes) port.failed;
  }

  pub put_drains : Drains a b
  put_drains = record {
    keeps = record {
      reads = rise_none a.feed_faults a.shelf.counts.read_faults a.shelf.counts.read_faults refl;
      writes = rise_none a.drain_faults a.shelf.counts.write_faults a.shelf.counts.write_faults refl;
      misses = refl;
      origins = refl;
      outputs = same_names;
      others = record { told = λ name no. refl; readable = λ name from len no can. can; tells_name = refl; tells_started = refl };
      called = omega arith;
      started = omega arith;
      uncalled = λ j name here late. refl;
      unstarted = λ j name here late. inl refl;
      ready = λ ready. ready;
    };
    inputs = refl;
    leaves = refl;
    feed_faults = refl;
  }

  pub put_puts : Puts (for_leaf k more) (outputs_of a) (outputs_of b)
  put_puts =
      let others : (j : ℕ) → (j ≡ k → ⊥) → (outputs_of b).told j ≡ (outputs_of a).told j = λ j ne. same_told a b j refl refl (get_set_other a.outputs k j new ne) (λ output found. refl) in
      let now : (outputs_of b).told k ≡ put_in b k new = ap (option_and_then (put_in b k)) new_here in
      let before : (outputs_of a).told k ≡ put_in a k old = ap (option_and_then (put_in a k)) at in
      puts_at a b k others more (now ∙ put_more (a.shelf.tells_started old.name) (appended a k old) old.waiting more ∙ ap (after more) (sym before))

  pub put_room_but : HasRoom a → HasRoomBut k b
  put_room_but room j output found ne = room j output (sym (get_set_other a.outputs k j new ne) ∙ found)

  pub put_room : HasRoom a → length old.waiting + length more < 32768 → HasRoom b
  put_room room few j output found = elim (cases_eq j k) [
    | inl same ↦
        let is : new ≡ output = same_Some new output (sym new_here ∙ ap (slice_get (slice_set a.outputs k new)) (sym same) ∙ found) in
        omega (arith, few, ap (λ (output : Output). length output.waiting) is, length-append old.waiting more)
    | inr ne ↦ put_room_but room j output found ne
  ]

-- an output takes bits for which there is room, and its block isn't full then
pub room_at : (a : PortState) (k : ℕ) (output : Output) → slice_get a.outputs k ≡ Some output → room_in a k ≡ room_of output
room_at a k output at = ap (λ found. option_map_or room_of found 0) at

pub fewer : (a : PortState) (k : ℕ) (old : Output) (more : List Bool) → slice_get a.outputs k ≡ Some old → HasRoom a → length more ≤ room_in a k → length old.waiting + length more < 32768
fewer a k old more at room fits = omega (arith, room_at a k old at, room k old at, fits)

-- a block isn't full yet
pub put_more_done : {T E : Type 0} (a : PortState) (k : ℕ) (old : Output) (more : List Bool) (done : T) → IsPort a → slice_get a.outputs k ≡ Some old → length old.waiting + length more < 32768
    → PutsBits {T = T} {E = E} (for_leaf k more) a (record a { outputs = slice_set a.outputs k (to_wait (old.waiting ++ more) old) }) (Ok done)
put_more_done a k old more done port at few = record {
  port = record { blocks = put_holds a k old more port.blocks at; room = put_room a k old more port.blocks at port.room few };
  drains = put_drains a k old more port.blocks at;
  ok = put_puts a k old more port.blocks at;
  err = tt;
  cause = refl;
}

-- ---- a port that isn't fresh any more

module _ (a : PortState) where
  abbrev pub used : PortState
  used = record a { fresh = false }

  pub used_port : IsPort a → IsPort used
  used_port port = record {
    blocks = record {
      differ = port.blocks.differ;
      few = port.blocks.few;
      leaves = port.blocks.leaves;
      in_order = port.blocks.in_order;
      begun = port.blocks.begun;
      among = port.blocks.among;
      held = port.blocks.held;
      fresh = λ yes. absurd (no yes);
      ready = port.blocks.ready;
      untold = port.blocks.untold;
      empty = port.blocks.empty;
      failed = still_named a used refl refl refl refl refl refl refl (λ i is late yes. yes) port.blocks.failed;
    };
    room = port.room;
  }
    where
      no : false ≡ true → ⊥
      no h = cc

  pub used_drains : Drains a used
  used_drains = record {
    keeps = record {
      reads = rise_none a.feed_faults a.shelf.counts.read_faults a.shelf.counts.read_faults refl;
      writes = rise_none a.drain_faults a.shelf.counts.write_faults a.shelf.counts.write_faults refl;
      misses = refl;
      origins = refl;
      outputs = refl;
      others = record { told = λ name no. refl; readable = λ name from len no can. can; tells_name = refl; tells_started = refl };
      called = omega arith;
      started = omega arith;
      uncalled = λ j name here late. refl;
      unstarted = λ j name here late. inl refl;
      ready = λ ready. ready;
    };
    inputs = refl;
    leaves = refl;
    feed_faults = refl;
  }
