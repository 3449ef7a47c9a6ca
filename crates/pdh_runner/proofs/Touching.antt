-- Calls that follow each other.
use Rattle.std.proofs.Common.{◌≡◌, ℕ, Bool, true, false, cond, List, [], Some, refl, ap, sym, subst, ◌∙◌, inl, inr}
use Rattle.pdh_edge.specs.declared.shelf.Call.{Call}
use Rattle.pdh_edge.specs.declared.shelf.Call.TheVariants.{Start as StartCall}
use Rattle.pdh_edge.specs.Files.{ShelfState, Counts, Told, Holds, Starts, Looks, HasSize, TouchesOnly, Touches, FailsToRead, FailsToWrite, with_read_fault, with_write_fault}
use Rattle.pdh_edge.specs.Files.Told.{Untold, Known}
use Rattle.pdh_runner.specs.Performing.{with_stop, StopsAtStart}
use Rattle.pdh_answers.specs.declared.answer.Stop.{Stop}
use Rattle.pdh_runner.specs.Reading.{HasLength}
use Rattle.pdh_runner.specs.Operation.{Operation}

pub touches_none : (P : List ℕ → Type 0) (a : ShelfState) → TouchesOnly P a a
touches_none P a = record {
  told = λ name out. refl;
  readable = λ name at len out was. was;
  tells_name = refl;
  tells_started = refl;
}

pub touches_then : (P : List ℕ → Type 0) (name : List ℕ) (a b c : ShelfState) → P name → TouchesOnly P a b → Touches name b c → TouchesOnly P a c
touches_then P name a b c may first then_ = record {
  told = λ other out. then_.told other (λ e. out (subst P (sym e) may)) ∙ first.told other out;
  readable = λ other at len out was. then_.readable other at len (λ e. out (subst P (sym e) may)) (first.readable other at len out was);
  tells_name = then_.tells_name ∙ first.tells_name;
  tells_started = then_.tells_started ∙ first.tells_started;
}

-- a failure to write, since an earlier state with the same counts
pub write_fails_since : (call : Call) (name : List ℕ) (a b c : ShelfState) → b.counts ≡ a.counts → FailsToWrite call name b c → FailsToWrite call name a c
write_fails_since call name a b c same fails = record { counts = fails.counts ∙ ap with_write_fault same; last = fails.last }

-- a failure to read, since an earlier state with the same counts
pub read_fails_since : (call : Call) (name : List ℕ) (a b c : ShelfState) → b.counts ≡ a.counts → FailsToRead call name b c → FailsToRead call name a c
read_fails_since call name a b c same fails = record { counts = fails.counts ∙ ap with_read_fault same; last = fails.last }

-- what a step counted that stopped, since an earlier state with the same counts
pub counted_since : (x y z : Counts) (stop : Stop) → y ≡ x → z ≡ with_stop stop y → z ≡ with_stop stop x
counted_since x y z stop same counted = counted ∙ ap (with_stop stop) same

-- an output of which the start failed, since an earlier state with the same files and counts
pub starts_since : (operation : Operation) (k : ℕ) (a b c : ShelfState) → Looks a b → b.counts ≡ a.counts → StopsAtStart operation k b c → StopsAtStart operation k a c
starts_since operation k a b c looks same cut = record {
  fails = write_fails_since StartCall (operation.outputs.name k) a b c same cut.fails;
  before = cut.before;
  here = elim cut.here [ inl still ↦ inl (still ∙ ap (λ (t : List ℕ → Told). t (operation.outputs.name k)) looks.told) | inr none ↦ inr none ];
  later = λ i lt low. cut.later i lt low ∙ ap (λ (t : List ℕ → Told). t (operation.outputs.name i)) looks.told;
}

pub looks_same : (a b : ShelfState) (name : List ℕ) → Looks a b → b.told name ≡ a.told name
looks_same a b name looks = ap (λ (t : List ℕ → Told). t name) looks.told

-- a file of which the size was answered
pub has_length : (name asked : List ℕ) (a b : ShelfState) (bytes : ℕ) → asked ≡ name → Looks a b → HasSize asked a b (Some bytes) → HasLength name bytes b
has_length name asked a b bytes e looks size = record {
  told = λ held told. size.told held (ap a.told e ∙ sym (looks_same a b name looks) ∙ told);
  readable = λ at len h. subst (λ n. b.readable n at len ≡ true) e (size.readable bytes at len refl h);
}

-- it is known after the files were looked at again
pub has_length_still : (name : List ℕ) (a b : ShelfState) (bytes : ℕ) → Looks a b → HasLength name bytes a → HasLength name bytes b
has_length_still name a b bytes looks known = record {
  told = λ held told. known.told held (sym (looks_same a b name looks) ∙ told);
  readable = λ at len h. looks.readable name at len tt (known.readable at len h);
}

pub looks_then : (a b c : ShelfState) → Looks a b → Looks b c → Looks a c
looks_then a b c first then_ = record {
  told = then_.told ∙ first.told;
  readable = λ name at len any was. then_.readable name at len any (first.readable name at len any was);
  tells_name = then_.tells_name ∙ first.tells_name;
  tells_started = then_.tells_started ∙ first.tells_started;
}

pub looks_none : (a : ShelfState) → Looks a a
looks_none a = record { told = refl; readable = λ name at len any was. was; tells_name = refl; tells_started = refl }

-- a file that was made empty holds nothing, where it is told
told_empty_holds : (tells : Bool) (told : Told) → told ≡ cond tells (Known (Some [])) Untold → Holds told []
told_empty_holds true told is held known = let same : Known held ≡ Known (Some []) = sym known ∙ is in cc
told_empty_holds false told is held known = absurd (let no : Known held ≡ Untold = sym known ∙ is in cc)

pub started_holds : (name : List ℕ) (a b : ShelfState) → Starts name a b → Holds (b.told name) []
started_holds name a b starts = told_empty_holds (b.tells_started name) (b.told name) starts.told
