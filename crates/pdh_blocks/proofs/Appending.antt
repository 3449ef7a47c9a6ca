-- The whole bytes that wait for an output are appended.
use Rattle.std.proofs.Common.{◌≡◌, ℕ, ◌+◌, ◌*◌, ◌/◌, ◌^◌, ◌<◌, ◌≤◌, Bool, true, false, cond, All, List, [], ◌++◌, length, map, take, drop, Option, Some, None, Ok, Err, slice_get, slice_set, inl, inr, refl, sym, ap, ◌∙◌, subst, append_assoc, arith}
use Rattle.std.specs.Option.{option_and_then}
use Rattle.std.proofs.lemmas.Bool.{cases_eq, lt-ltb}
use Rattle.std.proofs.lemmas.Option.{same_Some, slice_get_within}
use Rattle.std.proofs.lemmas.List.{append-nil, length-set, length-drop, length-take-le, take_all, take-append-drop}
use Rattle.std.proofs.lemmas.List.Elements.{All-append}
use Rattle.pdh_bits.specs.Bits.{bits_of, bytes_of}
use Rattle.pdh_bits.proofs.BitsLemmas.{bits_of-append, length-bytes_of, bytes_of-take, bits_of-bytes_of, All-bytes_of}
use Rattle.pdh_edge.specs.Counts.{one_more}
use Rattle.pdh_edge.specs.Files.{ShelfState, Told, Touches, Grows, GrowsInPart}
use Rattle.pdh_edge.specs.Files.Told.{Untold, Known}
use Rattle.pdh_edge.specs.Ports.{PrefixOf, IsPrefix, PutsPart}
use Rattle.pdh_blocks.specs.Leaves.{Output, to_wait, past_bytes, IsAppended, IsEmptied}
use Rattle.pdh_blocks.specs.State.{PortState, output_name}
use Rattle.pdh_blocks.specs.Lists.{outputs_of, put_in, bits_in}
use Rattle.pdh_blocks.specs.Held.{HoldsBlocks, HasRoom, HasRoomBut, WaitsAtMost, ChangesOnly, HoldsBytes}
use Rattle.pdh_blocks.specs.Done.{AppendsWaiting}
use Rattle.pdh_blocks.proofs.Places.{get_set_same, get_set_other, get_mapped, map_kept}
use Rattle.pdh_blocks.proofs.Writing.{IsStartedFile, drains, holds, named_same, named_append, other_told}
use Rattle.pdh_blocks.proofs.Counted.{counts_none, counts_write}
use Rattle.pdh_blocks.proofs.Taking.{all_same, part_at, none_for, same_told}

-- ---- bits and their whole bytes

-- the bits of the whole bytes, and then those that fill no byte
pub whole : (w : List Bool) → bits_of (bytes_of w) ++ past_bytes w ≡ w
whole w =
    let n : ℕ = length w / 8 in
    let front : List Bool = take (8 * n) w in
    let long : length front ≡ 8 * n = length-take-le (8 * n) w (omega arith) in
    let all : take n (bytes_of w) ≡ bytes_of w = take_all n (bytes_of w) (omega (arith, length-bytes_of w)) in
    let same : bytes_of w ≡ bytes_of front = sym (bytes_of-take n w ∙ all) in
    let back : bits_of (bytes_of front) ≡ front = bits_of-bytes_of front (omega (arith, long)) in
    ap (λ bits. bits ++ drop (8 * n) w) (ap bits_of same ∙ back) ∙ take-append-drop (8 * n) w

pub past_short : (w : List Bool) → length (past_bytes w) ≤ 7
past_short w = omega (arith, length-drop (8 * (length w / 8)) w)

-- ---- one output

-- its list after its bytes were appended
appended_put : (tells : Bool) (told told' : Told) (w : List Bool) → (tells ≡ true → HoldsBytes told) → Grows tells told (bytes_of w) told' → cond tells (Some (bits_in told' ++ past_bytes w)) None ≡ cond tells (Some (bits_in told ++ w)) None
appended_put false told told' w held grows = refl
appended_put true Untold told' w held grows = absurd (held refl)
appended_put true (Known None) told' w held grows = absurd grows
appended_put true (Known (Some bytes)) told' w held grows =
    ap (λ v. Some (bits_in v ++ past_bytes w)) grows ∙ ap (λ v. Some (v ++ past_bytes w)) (bits_of-append bytes (bytes_of w)) ∙ ap Some (append_assoc (bits_of bytes) (bits_of (bytes_of w)) (past_bytes w) ∙ ap (λ v. bits_of bytes ++ v) (whole w))

-- its list after a prefix of them was
part_eq : (bytes : List ℕ) (w : List Bool) (n : ℕ) → (bits_of bytes ++ w) ++ [] ≡ (bits_of (bytes ++ take n (bytes_of w)) ++ []) ++ (bits_of (drop n (bytes_of w)) ++ past_bytes w)
part_eq bytes w n =
    let B : List ℕ = bytes_of w in
    let first : List Bool = bits_of (take n B) in
    let rest : List Bool = bits_of (drop n B) in
    let split : first ++ rest ≡ bits_of B = sym (bits_of-append (take n B) (drop n B)) ∙ ap bits_of (take-append-drop n B) in
    let right : (bits_of (bytes ++ take n B) ++ []) ++ (rest ++ past_bytes w) ≡ bits_of bytes ++ w =
    ap (λ v. v ++ (rest ++ past_bytes w)) (append-nil (bits_of (bytes ++ take n B)) ∙ bits_of-append bytes (take n B)) ∙ append_assoc (bits_of bytes) first (rest ++ past_bytes w)
    ∙ ap (λ v. bits_of bytes ++ v) (sym (append_assoc first rest (past_bytes w)) ∙ ap (λ v. v ++ past_bytes w) split ∙ whole w) in
    append-nil (bits_of bytes ++ w) ∙ sym right

emptied_put : (tells : Bool) (told told' : Told) (w : List Bool) → (tells ≡ true → HoldsBytes told) → GrowsInPart told (bytes_of w) told' → PrefixOf [] (cond tells (Some (bits_in told ++ w)) None) (cond tells (Some (bits_in told' ++ [])) None)
emptied_put false told told' w held grows = tt
emptied_put true Untold told' w held grows = absurd (held refl)
emptied_put true (Known None) told' w held grows = absurd (held refl)
emptied_put true (Known (Some bytes)) told' w held grows =
    subst (λ (now : Told). IsPrefix (bits_in now ++ []) ((bits_of bytes ++ w) ++ [])) (sym grows.1) (bits_of (drop grows.0 (bytes_of w)) ++ past_bytes w, part_eq bytes w grows.0)

-- its file is held still, or not told still
held_whole : (told told' : Told) (w : List Bool) → HoldsBytes told → Grows true told (bytes_of w) told' → HoldsBytes told'
held_whole Untold told' w held grows = absurd held
held_whole (Known None) told' w held grows = absurd held
held_whole (Known (Some old)) told' w held grows = subst HoldsBytes (sym grows) (All-append (λ byte. byte < 256) old (bytes_of w) held (All-bytes_of w))

held_part : (told told' : Told) (w : List Bool) → HoldsBytes told → GrowsInPart told (bytes_of w) told' → HoldsBytes told'
held_part Untold told' w held grows = absurd held
held_part (Known None) told' w held grows = absurd held
held_part (Known (Some old)) told' w held grows =
    let part : All (λ byte. byte < 256) (take grows.0 (bytes_of w)) = subst (All (λ byte. byte < 256)) (bytes_of-take grows.0 w) (All-bytes_of (take (8 * grows.0) w)) in
    subst HoldsBytes (sym grows.1) (All-append (λ byte. byte < 256) old (take grows.0 (bytes_of w)) held part)

untold_whole : (tells : Bool) (told told' : Told) (bytes : List ℕ) → told ≡ Untold → Grows tells told bytes told' → told' ≡ Untold
untold_whole tells told told' bytes is grows = let at : Grows tells Untold bytes told' = subst (λ t. Grows tells t bytes told') is grows in at

untold_part : (told told' : Told) (bytes : List ℕ) → told ≡ Untold → GrowsInPart told bytes told' → told' ≡ Untold
untold_part told told' bytes is grows = let at : GrowsInPart Untold bytes told' = subst (λ t. GrowsInPart t bytes told') is grows in at

-- ---- a port

module _ (a : PortState) (s : ShelfState) (k : ℕ) (old : Output) (waiting : List Bool) (port : HoldsBlocks a) (at : slice_get a.outputs k ≡ Some old) (touched : Touches old.name a.shelf s) (all : a.started ≡ length a.outputs) (begun : k < a.started) (room : HasRoomBut k a) (few : length waiting < 32768) where
  abbrev new : Output
  new = to_wait waiting old

  abbrev now_outputs : List Output
  now_outputs = slice_set a.outputs k new

  named : slice_get (map output_name a.outputs) k ≡ Some old.name
  named = get_mapped output_name a.outputs k old at

  same_names : map output_name now_outputs ≡ map output_name a.outputs
  same_names = map_kept output_name a.outputs k old new at refl

  reached : k < a.called
  reached = omega (arith, begun, port.begun)

  new_here : slice_get now_outputs k ≡ Some new
  new_here = get_set_same a.outputs k new (slice_get_within a.outputs k old at)

  tells_is : s.tells_started old.name ≡ a.shelf.tells_started old.name
  tells_is = ap (λ (f : List ℕ → Bool). f old.name) touched.tells_started

  -- it is held, where it is told once it is started
  was_held : a.shelf.tells_started old.name ≡ true → HoldsBytes (a.shelf.told old.name)
  was_held telling = port.held k old.name named begun telling

  was_untold : a.shelf.tells_started old.name ≡ false → a.shelf.told old.name ≡ Untold
  was_untold silent = port.untold k old.name named begun silent

  used : a.fresh ≡ true → ⊥
  used still = let none = (port.fresh still).0 in omega (arith, none, reached)

  before_is : (outputs_of a).told k ≡ cond (a.shelf.tells_started old.name) (Some (bits_in (a.shelf.told old.name) ++ old.waiting)) None
  before_is = ap (option_and_then (put_in a k)) at ∙ ap (λ v. cond (a.shelf.tells_started old.name) (Some (cond v (bits_in (a.shelf.told old.name)) [] ++ old.waiting)) None) (lt-ltb k a.started begun)

  pub keeps_others : (b : PortState) → b.outputs ≡ now_outputs → ChangesOnly k a b
  keeps_others b is j ne = ap (λ all. slice_get all j) is ∙ get_set_other a.outputs k j new ne

  pub waits_now : (b : PortState) (most : ℕ) → b.outputs ≡ now_outputs → length waiting ≤ most → WaitsAtMost most k b
  waits_now b most is short output found =
      let same : new ≡ output = same_Some new output (sym new_here ∙ ap (λ all. slice_get all k) (sym is) ∙ found) in
      omega (arith, short, ap (λ (output : Output). length output.waiting) same)

  has_room : (b : PortState) → b.outputs ≡ now_outputs → HasRoom b
  has_room b is j output found = elim (cases_eq j k) [
    | inl same ↦ (let short : length output.waiting ≤ 32767 = waits_now b 32767 is (omega (arith, few)) output (ap (slice_get b.outputs) (sym same) ∙ found) in omega (arith, short))
    | inr ne ↦ room j output (sym (keeps_others b is j ne) ∙ found) ne
  ]

  module _ (faults : ℕ) (failed : Option ℕ) where
    abbrev after : PortState
    after = record a { shelf = s; outputs = now_outputs; drain_faults = faults; failed = failed }

    others : (j : ℕ) → (j ≡ k → ⊥) → (outputs_of after).told j ≡ (outputs_of a).told j
    others j ne = same_told a after j touched.tells_started refl (get_set_other a.outputs k j new ne) (λ output found. other_told a s k old.name port named touched j output found ne)

    now_is : (outputs_of after).told k ≡ cond (a.shelf.tells_started old.name) (Some (bits_in (s.told old.name) ++ waiting)) None
    now_is = ap (option_and_then (put_in after k)) new_here ∙ ap (λ v. cond (s.tells_started old.name) (Some (cond v (bits_in (s.told old.name)) [] ++ waiting)) None) (lt-ltb k a.started begun)
        ∙ ap (λ v. cond v (Some (bits_in (s.told old.name) ++ waiting)) None) tells_is

  pub append_done : {T E : Type 0} (done : T) → waiting ≡ past_bytes old.waiting → IsAppended old new a.shelf s → AppendsWaiting {T = T} {E = E} a (record a { shelf = s; outputs = now_outputs }) (Ok done)
  append_done done rest appended =
      let later : a.called ≤ a.called = omega arith in
      let up : a.started ≤ a.started = omega arith in
      let grows : Bool → Type 0 = λ tells. Grows tells (a.shelf.told old.name) (bytes_of old.waiting) (s.told old.name) in
      let grown : grows (a.shelf.tells_started old.name) = subst grows tells_is appended.file.told in
      let exact : cond (a.shelf.tells_started old.name) (Some (bits_in (s.told old.name) ++ waiting)) None ≡ cond (a.shelf.tells_started old.name) (Some (bits_in (a.shelf.told old.name) ++ old.waiting)) None =
      ap (λ w. cond (a.shelf.tells_started old.name) (Some (bits_in (s.told old.name) ++ w)) None) rest ∙ appended_put (a.shelf.tells_started old.name) (a.shelf.told old.name) (s.told old.name) old.waiting was_held grown in
      let file : IsStartedFile s old.name k a.started (length a.outputs) = record {
        held = λ less yes. held_whole (a.shelf.told old.name) (s.told old.name) old.waiting (was_held (sym tells_is ∙ yes)) (subst grows yes appended.file.told);
        untold = λ less no. untold_whole (s.tells_started old.name) (a.shelf.told old.name) (s.told old.name) (bytes_of old.waiting) (was_untold (sym tells_is ∙ no)) appended.file.told;
        empty = λ some less yes. absurd (omega (arith, some, all));
      } in
      record {
        port = record {
          blocks = holds a s k old.name port named touched now_outputs a.called a.started a.drain_faults a.fresh a.failed same_names later up reached
              port.in_order port.begun port.among used (λ j less ne. less) file
              (named_same a s k old.name port named touched now_outputs a.called a.started a.drain_faults a.fresh a.failed same_names later up reached refl refl appended.file.succeeds);
          room = has_room (after a.drain_faults a.failed) refl;
        };
        drains = drains a s k old.name port named touched now_outputs a.called a.started a.drain_faults a.fresh a.failed same_names later up reached
            (counts_none a.shelf.counts s.counts a.feed_faults a.drain_faults appended.file.succeeds.counts) (λ late. absurd (omega (arith, late, begun)));
        ok = all_same a (after a.drain_faults a.failed) k (others a.drain_faults a.failed) (now_is a.drain_faults a.failed ∙ exact ∙ sym before_is) (length-set a.outputs k new);
        err = tt;
        cause = refl;
      }

  pub append_failed : {T E : Type 0} (why : E) (faults : ℕ) (failed : Option ℕ) → waiting ≡ [] → a.drain_faults < 2 ^ 64 → a.shelf.counts.write_faults < 2 ^ 64 → faults ≡ one_more a.drain_faults → failed ≡ Some (length a.leaves + k) → IsEmptied old new a.shelf s
      → AppendsWaiting {T = T} {E = E} a (record a { shelf = s; outputs = now_outputs; drain_faults = faults; failed = failed }) (Err why)
  append_failed why faults failed none fit fits counted which emptied =
      let later : a.called ≤ a.called = omega arith in
      let up : a.started ≤ a.started = omega arith in
      let cut = emptied_put (a.shelf.tells_started old.name) (a.shelf.told old.name) (s.told old.name) old.waiting was_held emptied.file.told in
      let at_none = subst (λ (w : List Bool). PrefixOf [] (cond (a.shelf.tells_started old.name) (Some (bits_in (a.shelf.told old.name) ++ old.waiting)) None) (cond (a.shelf.tells_started old.name) (Some (bits_in (s.told old.name) ++ w)) None)) (sym none) cut in
      let at_now = subst (PrefixOf [] (cond (a.shelf.tells_started old.name) (Some (bits_in (a.shelf.told old.name) ++ old.waiting)) None)) (sym (now_is faults failed)) at_none in
      let here : PrefixOf [] ((outputs_of a).told k) ((outputs_of (after faults failed)).told k) = subst (λ (o : Option (List Bool)). PrefixOf [] o ((outputs_of (after faults failed)).told k)) (sym before_is) at_now in
      let file : IsStartedFile s old.name k a.started (length a.outputs) = record {
        held = λ less yes. held_part (a.shelf.told old.name) (s.told old.name) old.waiting (was_held (sym tells_is ∙ yes)) emptied.file.told;
        untold = λ less no. untold_part (a.shelf.told old.name) (s.told old.name) (bytes_of old.waiting) (was_untold (sym tells_is ∙ no)) emptied.file.told;
        empty = λ some less yes. absurd (omega (arith, some, all));
      } in
      record {
        port = record {
          blocks = holds a s k old.name port named touched now_outputs a.called a.started faults a.fresh failed same_names later up reached
              port.in_order port.begun port.among used (λ j less ne. less) file
              (named_append a s k old.name port named touched now_outputs a.called a.started faults a.fresh failed same_names later up reached counted which emptied.file.fails);
          room = has_room (after faults failed) refl;
        };
        drains = drains a s k old.name port named touched now_outputs a.called a.started faults a.fresh failed same_names later up reached
            (counts_write a.shelf.counts s.counts a.feed_faults a.drain_faults faults fit fits counted emptied.file.fails.counts) (λ late. absurd (omega (arith, late, begun)));
        ok = tt;
        err = subst (λ (bits : ℕ → List Bool). PutsPart bits (outputs_of a) (outputs_of (after faults failed))) (none_for k) (part_at a (after faults failed) k (others faults failed) [] here);
        cause = counted;
      }
