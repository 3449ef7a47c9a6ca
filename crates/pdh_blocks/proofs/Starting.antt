-- An output is started.
use Rattle.std.proofs.Common.{◌≡◌, ℕ, ◌+◌, ◌^◌, ◌<◌, ◌≤◌, Bool, true, false, cond, List, [], ◌++◌, length, map, Option, Some, None, Result, slice_get, inl, inr, refl, sym, ap, ◌∙◌, subst, arith}
use Rattle.std.specs.Prelude.{nat_lt}
use Rattle.std.specs.Option.{option_and_then}
use Rattle.std.proofs.lemmas.Bool.{cases_lt, lt-ltb, le-ltb}
use Rattle.std.proofs.lemmas.List.Elements.{All-nil}
use Rattle.std.proofs.lemmas.Option.{same_Some}
use Rattle.pdh_edge.specs.declared.shelf.Call.TheVariants.{Start}
use Rattle.pdh_edge.specs.Counts.{one_more}
use Rattle.pdh_edge.specs.Files.{ShelfState, Told, Touches, Starts, FailsToStart}
use Rattle.pdh_edge.specs.Files.Told.{Untold, Known}
use Rattle.pdh_edge.specs.Ports.{HasCause}
use Rattle.pdh_blocks.specs.Leaves.{Output}
use Rattle.pdh_blocks.specs.State.{PortState, output_name}
use Rattle.pdh_blocks.specs.Lists.{outputs_of, put_in, bits_in}
use Rattle.pdh_blocks.specs.Held.{IsPort, HoldsBytes, IsLastCall}
use Rattle.pdh_blocks.specs.Kept.{IsRefused}
use Rattle.pdh_blocks.specs.Done.{StartsAtMost}
use Rattle.pdh_blocks.proofs.Places.{get_mapped}
use Rattle.pdh_blocks.proofs.Writing.{IsStartedFile, drains, holds, named_same, named_start, other_told}
use Rattle.pdh_blocks.proofs.Counted.{counts_none, counts_write}
use Rattle.pdh_blocks.proofs.Taking.{all_same, same_told}

lt_more : (j n : ℕ) → (j ≡ n → ⊥) → nat_lt j (n + 1) ≡ nat_lt j n
lt_more j n ne = elim (cases_lt j n) [
  | inl less ↦ lt-ltb j (n + 1) (omega arith) ∙ sym (lt-ltb j n less)
  | inr more ↦ le-ltb j (n + 1) (omega (arith, more, ne)) ∙ sym (le-ltb j n more)
]

-- nothing is in a file that was made empty
empty_put : (tells : Bool) (told : Told) (waiting : List Bool) → told ≡ cond tells (Known (Some [])) Untold → cond tells (Some (bits_in told ++ waiting)) None ≡ cond tells (Some waiting) None
empty_put true told waiting is = ap (λ v. Some (bits_in v ++ waiting)) is
empty_put false told waiting is = refl

module _ (a : PortState) (s : ShelfState) (output : Output) (port : IsPort a) (at : slice_get a.outputs a.started ≡ Some output) (touched : Touches output.name a.shelf s) where
  here : slice_get (map output_name a.outputs) a.started ≡ Some output.name
  here = get_mapped output_name a.outputs a.started output at

  none_before : nat_lt a.started a.started ≡ false
  none_before = le-ltb a.started a.started (omega arith)

  others_told : (b : PortState) → b.shelf ≡ s → (j : ℕ) → (j ≡ a.started → ⊥) → (other : Output) → slice_get a.outputs j ≡ Some other → b.shelf.told other.name ≡ a.shelf.told other.name
  others_told b is j ne other found = ap (λ (s : ShelfState). s.told other.name) is ∙ other_told a s a.started output.name port.blocks here touched j other found ne

  -- what is told of it before, and after where it wasn't started
  before_is : (outputs_of a).told a.started ≡ cond (a.shelf.tells_started output.name) (Some output.waiting) None
  before_is = ap (option_and_then (put_in a a.started)) at ∙ ap (λ v. cond (a.shelf.tells_started output.name) (Some (cond v (bits_in (a.shelf.told output.name)) [] ++ output.waiting)) None) none_before

  tells_is : s.tells_started output.name ≡ a.shelf.tells_started output.name
  tells_is = ap (λ (f : List ℕ → Bool). f output.name) touched.tells_started

  pub start_done : {T E : Type 0} (result : Result T E) → HasCause a.drain_faults a.drain_faults result → a.started < length a.outputs → Starts output.name a.shelf s
      → StartsAtMost a (record a { shelf = s; called = a.started + 1; started = a.started + 1; fresh = false }) result
  start_done result cause more starts =
      let later : a.called ≤ a.started + 1 = port.blocks.in_order in
      let up : a.started ≤ a.started + 1 = omega arith in
      let reached : a.started < a.started + 1 = omega arith in
      let b : PortState = record a { shelf = s; called = a.started + 1; started = a.started + 1; fresh = false } in
      let now : (outputs_of b).told a.started ≡ cond (s.tells_started output.name) (Some output.waiting) None =
      ap (option_and_then (put_in b a.started)) at ∙ ap (λ v. cond (s.tells_started output.name) (Some (cond v (bits_in (s.told output.name)) [] ++ output.waiting)) None) (lt-ltb a.started (a.started + 1) reached)
      ∙ empty_put (s.tells_started output.name) (s.told output.name) output.waiting starts.told in
      let same_here : (outputs_of b).told a.started ≡ (outputs_of a).told a.started = now ∙ ap (λ v. cond v (Some output.waiting) None) tells_is ∙ sym before_is in
      let others : (j : ℕ) → (j ≡ a.started → ⊥) → (outputs_of b).told j ≡ (outputs_of a).told j = λ j ne. same_told a b j touched.tells_started (lt_more j a.started ne) refl (others_told b refl j ne) in
      let none : s.tells_started output.name ≡ true → s.told output.name ≡ Known (Some []) = λ yes. starts.told ∙ ap (λ v. cond v (Known (Some [])) Untold) yes in
      let file : IsStartedFile s output.name a.started (a.started + 1) (length a.outputs) = record {
        held = λ less yes. subst HoldsBytes (sym (none yes)) (All-nil (λ byte. byte < 256));
        untold = λ less no. starts.told ∙ ap (λ v. cond v (Known (Some [])) Untold) no;
        empty = λ some less yes. none yes;
      } in
      record {
        port = record {
          blocks = holds a s a.started output.name port.blocks here touched a.outputs (a.started + 1) (a.started + 1) a.drain_faults false a.failed refl later up reached
              (omega arith) (omega arith) (omega (arith, more)) (λ yes. absurd (cc)) (λ j less ne. omega (arith, less, ne)) file
              (named_same a s a.started output.name port.blocks here touched a.outputs (a.started + 1) (a.started + 1) a.drain_faults false a.failed refl later up reached refl refl starts.succeeds);
          room = port.room;
        };
        drains = drains a s a.started output.name port.blocks here touched a.outputs (a.started + 1) (a.started + 1) a.drain_faults false a.failed refl later up reached
            (counts_none a.shelf.counts s.counts a.feed_faults a.drain_faults starts.succeeds.counts) (λ late. absurd (omega (arith, late)));
        lists = all_same a b a.started others same_here refl;
        outputs = refl;
        cause = cause;
      }

  module _ (faults : ℕ) (failed : Option ℕ) (more : a.started < length a.outputs) (which : failed ≡ Some (length a.leaves + a.started)) (fails : FailsToStart output.name a.shelf s) where
    abbrev b : PortState
    b = record a { shelf = s; called = a.started + 1; fresh = false; drain_faults = faults; failed = failed }

    pub start_failed : {T E : Type 0} (result : Result T E) → HasCause a.drain_faults faults result → a.drain_faults < 2 ^ 64 → a.shelf.counts.write_faults < 2 ^ 64 → faults ≡ one_more a.drain_faults → StartsAtMost a b result
    start_failed result cause fit fits counted =
        let later : a.called ≤ a.started + 1 = port.blocks.in_order in
        let up : a.started ≤ a.started = omega arith in
        let reached : a.started < a.started + 1 = omega arith in
        let now : (outputs_of b).told a.started ≡ cond (s.tells_started output.name) (Some output.waiting) None =
        ap (option_and_then (put_in b a.started)) at ∙ ap (λ v. cond (s.tells_started output.name) (Some (cond v (bits_in (s.told output.name)) [] ++ output.waiting)) None) none_before in
        let same_here : (outputs_of b).told a.started ≡ (outputs_of a).told a.started = now ∙ ap (λ v. cond v (Some output.waiting) None) tells_is ∙ sym before_is in
        let others : (j : ℕ) → (j ≡ a.started → ⊥) → (outputs_of b).told j ≡ (outputs_of a).told j = λ j ne. same_told a b j touched.tells_started refl refl (others_told b refl j ne) in
        let file : IsStartedFile s output.name a.started a.started (length a.outputs) = record {
          held = λ less yes. absurd (omega (arith, less));
          untold = λ less no. absurd (omega (arith, less));
          empty = λ some less yes. absurd (omega (arith, less));
        } in
        record {
          port = record {
            blocks = holds a s a.started output.name port.blocks here touched a.outputs (a.started + 1) a.started faults false failed refl later up reached
                (omega arith) (omega arith) (omega (arith, more)) (λ yes. absurd (cc)) (λ j less ne. less) file
                (named_start a s a.started output.name port.blocks here touched a.outputs (a.started + 1) a.started faults false failed refl later up reached counted which more fails.fails);
            room = port.room;
          };
          drains = drains a s a.started output.name port.blocks here touched a.outputs (a.started + 1) a.started faults false failed refl later up reached
              (counts_write a.shelf.counts s.counts a.feed_faults a.drain_faults faults fit fits counted fails.fails.counts) (λ late. fails.told);
          lists = all_same a b a.started others same_here refl;
          outputs = refl;
          cause = cause;
        }

    pub start_refused : IsRefused b
    start_refused = record {
      failed = which;
      called = refl;
      among = more;
      last = λ name found. subst (IsLastCall s Start) (same_Some output.name name (sym here ∙ found)) fails.fails.last;
    }
