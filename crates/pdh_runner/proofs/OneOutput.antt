-- How a command with one output leaves the files.
use Rattle.std.proofs.Common.{◌≡◌, ◌⊎◌, ℕ, zero, suc, ◌<◌, Bool, true, false, List, [], ◌++◌, take, None, Some, Ok, Err, refl, ap, sym, subst, ◌∙◌, inl, inr, arith, lit<}
use Rattle.pdh_edge.specs.declared.shelf.Call.TheVariants.{Start as StartCall, Append as AppendCall}
use Rattle.pdh_edge.specs.Files.{ShelfState, Told, Looks, Touches, Holds, HoldsPrefix, Starts, Appends, FailsToWrite, Grows, GrowsInPart, with_write_fault, told_empty}
use Rattle.pdh_edge.specs.Files.Told.{Untold, Known}
use Rattle.pdh_answers.specs.Names.{name_of}
use Rattle.pdh_runner.specs.Writing.{IsStartStop, IsAppendStop}
use Rattle.pdh_runner.specs.Operation.{Operation, IsOutput, AreTold, Files}
use Rattle.pdh_runner.specs.Performing.{Comes, AreWhole, ChangesOnly, Performs, GoesOn}
use Rattle.pdh_answers.specs.declared.file.File.{File}
use Rattle.pdh_answers.specs.declared.answer.Done.{Done}
use Rattle.pdh_answers.specs.declared.answer.Stop.{Stop}
use Rattle.pdh_runner.proofs.Touching.{write_fails_since, touches_then, started_holds}

-- ---- one file

-- what a file holds after an append, by what it held
grows_holds : (tells : Bool) (old new : Told) (bytes held : List ℕ) → Grows tells old bytes new → Holds old held → Holds new (held ++ bytes)
grows_holds tells Untold new bytes held grows holds now told = absurd (cc)
grows_holds false (Known was) new bytes held grows holds now told = absurd (cc)
grows_holds true (Known None) new bytes held grows holds now told = absurd grows
grows_holds true (Known (Some was)) new bytes held grows holds now told =
    let same : Some was ≡ Some held = holds (Some was) refl in
    let bytes_same : was ≡ held = cc in
    let now_is : now ≡ Some (was ++ bytes) = cc in
    now_is ∙ ap (λ x. Some (x ++ bytes)) bytes_same

-- and after one that failed
grows_part_holds : (old new : Told) (bytes : List ℕ) → GrowsInPart old bytes new → Holds old [] → HoldsPrefix new bytes
grows_part_holds Untold new bytes grows holds = (0, λ now told. absurd (cc))
grows_part_holds (Known None) new bytes grows holds = absurd (let e : None ≡ Some [] = holds None refl in cc)
grows_part_holds (Known (Some was)) new bytes grows holds =
    let same : Some was ≡ Some [] = holds (Some was) refl in
    let empty : was ≡ [] = cc in (
      grows.0,
      λ now told.
          let now_is : now ≡ Some (was ++ take grows.0 bytes) = cc in
          now_is ∙ ap (λ x. Some (x ++ take grows.0 bytes)) empty,
    )

-- ---- one output

-- the file is the one output
pub record HasOutput (operation : Operation) (file : File) : Type 0 where
  pub count : operation.outputs.count ≡ 1
  pub name : operation.outputs.name 0 ≡ name_of file

-- the steps before the output have looked at the files, none refuses, and these are the bytes to write
pub record Writes (operation : Operation) (a b : ShelfState) (bytes : List ℕ) : Type 0 where
  pub looks : Looks a b
  pub same : b.counts ≡ a.counts
  pub goes_on : GoesOn operation a
  pub content : (files : Files) → AreTold operation a.told files → bytes ≡ operation.bytes files 0

first_output : (i : ℕ) → i < 1 → i ≡ 0
first_output zero h = refl
first_output (suc i) h = absurd (omega arith)

pub touches_again : (name : List ℕ) (b c d : ShelfState) → Touches name b c → Touches name c d → Touches name b d
touches_again name b c d first then_ = touches_then (λ other. other ≡ name) name b c d refl first then_

pub others : (operation : Operation) (file : File) (a b d : ShelfState) → HasOutput operation file → Looks a b → Touches (name_of file) b d → ChangesOnly (IsOutput operation) a d
others operation file a b d output looks touches name out =
    touches.told name (λ e. out (0, subst (λ n. 0 < n) (sym output.count) (lit< tt), e ∙ sym output.name)) ∙ ap (λ (t : List ℕ → Told). t name) looks.told

pub start_refused : (operation : Operation) (file : File) (a b c : ShelfState) (stop : Stop) → HasOutput operation file → Looks a b → b.counts ≡ a.counts → GoesOn operation a → Touches (name_of file) b c → IsStartStop file b c stop → Performs operation a c (Err stop)
start_refused operation file a b c stop output looks same goes_on touches cause = subst (λ stop. Performs operation a c (Err stop)) (sym cause.0) (record {
  cause = goes_on;
  outputs = record {
    at = 0;
    known = subst (λ n. 0 < n) (sym output.count) (lit< tt);
    named = sym output.name;
    how = inl (record {
      fails = subst (λ name. FailsToWrite StartCall name a c) (sym output.name) (write_fails_since StartCall (name_of file) a b c same cause.1.fails);
      before = λ i lt. absurd (omega arith);
      here = subst (λ name. (c.told name ≡ a.told name) ⊎ (c.told name ≡ told_empty c name)) (sym output.name)
          (elim cause.1.told [ inl still ↦ inl (still ∙ ap (λ (t : List ℕ → Told). t (name_of file)) looks.told) | inr empty ↦ inr empty ]);
      later = λ i lt low. absurd (let one = output.count in omega arith);
    });
  };
  others = others operation file a b c output looks touches;
  counted = cause.1.fails.counts ∙ ap with_write_fault same;
})

pub append_refused : (operation : Operation) (file : File) (a b c d : ShelfState) (bytes : List ℕ) (stop : Stop) → HasOutput operation file → Writes operation a b bytes → Touches (name_of file) b c → Starts (name_of file) b c →
    Touches (name_of file) c d → IsAppendStop file bytes c d stop → Performs operation a d (Err stop)
append_refused operation file a b c d bytes stop output writes starts started appends cause =
    let same : c.counts ≡ a.counts = started.succeeds.counts ∙ writes.same in
    subst (λ stop. Performs operation a d (Err stop)) (sym cause.0) (record {
      cause = writes.goes_on;
      outputs = record {
        at = 0;
        known = subst (λ n. 0 < n) (sym output.count) (lit< tt);
        named = sym output.name;
        how = inr (record {
          fails = subst (λ name. FailsToWrite AppendCall name a d) (sym output.name) (write_fails_since AppendCall (name_of file) a c d same cause.1.fails);
          begun = λ i low files told.
              let first : i ≡ 0 = first_output i (subst (λ n. i < n) output.count low) in
              subst (λ i. HoldsPrefix (d.told (operation.outputs.name i)) (operation.bytes files i)) (sym first)
              (subst (λ name. HoldsPrefix (d.told name) (operation.bytes files 0)) (sym output.name) (subst (HoldsPrefix (d.told (name_of file))) (writes.content files told) (grows_part_holds _ _ bytes cause.1.told (started_holds (name_of file) b c started))));
        });
      };
      others = others operation file a b d output writes.looks (touches_again (name_of file) b c d starts appends);
      counted = cause.1.fails.counts ∙ ap with_write_fault same;
    })

-- the whole output stands
pub whole : (operation : Operation) (file : File) (a b c d : ShelfState) (bytes : List ℕ) → HasOutput operation file → Writes operation a b bytes → Starts (name_of file) b c → Appends (name_of file) bytes c d → AreWhole operation a d
whole operation file a b c d bytes output writes started appends i low files told =
    let first : i ≡ 0 = first_output i (subst (λ n. i < n) output.count low) in
    subst (λ i. Holds (d.told (operation.outputs.name i)) (operation.bytes files i)) (sym first)
    (subst (λ name. Holds (d.told name) (operation.bytes files 0)) (sym output.name) (subst (Holds (d.told (name_of file))) (writes.content files told) (grows_holds (d.tells_started (name_of file)) _ _ bytes [] appends.told (started_holds (name_of file) b c started))))

pub writing_done : (operation : Operation) (file : File) (a b c d : ShelfState) (bytes : List ℕ) (done : Done) → HasOutput operation file → Writes operation a b bytes → Touches (name_of file) b c → Starts (name_of file) b c →
    Touches (name_of file) c d → Appends (name_of file) bytes c d → Comes operation a (Ok done) → Performs operation a d (Ok done)
writing_done operation file a b c d bytes done output writes starts started touches appends comes = record {
  cause = comes;
  outputs = whole operation file a b c d bytes output writes started appends;
  others = others operation file a b d output writes.looks (touches_again (name_of file) b c d starts touches);
  counted = appends.succeeds.counts ∙ started.succeeds.counts ∙ writes.same;
}
