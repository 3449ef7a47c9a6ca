-- A step that refuses ends its command.
use Rattle.std.proofs.Common.{◌≡◌, ◌⊎◌, ℕ, ◌<◌, false, List, None, Err, ap, sym, subst, refl, inl, inr}
use Rattle.pdh_edge.specs.declared.shelf.Call.TheVariants.{Size as SizeCall, Read as ReadCall}
use Rattle.pdh_edge.specs.Files.{ShelfState, Told, Looks, WhereTold, FailsToRead}
use Rattle.pdh_answers.specs.Names.{name_of}
use Rattle.pdh_answers.specs.Answer.{Answer}
use Rattle.pdh_runner.specs.Reading.{IsSizeStop, IsReadStop}
use Rattle.pdh_runner.specs.Operation.{Operation, AreTold, OfInputs, IsOutput, AreHeld, IsReadDue, Files}
use Rattle.pdh_runner.specs.Performing.{Comes, FailsInTurn, FailsEarly, with_stop, Performs}
use Rattle.pdh_runner.specs.Refusing.{Refuses}
use Rattle.pdh_answers.specs.declared.file.File.{File}
use Rattle.pdh_answers.specs.declared.answer.Stop.{Stop}
use Rattle.pdh_answers.specs.declared.answer.Stop.TheVariants.{Memory, Usage, Read, Write, Missing, Overflow, Underflow, NoAlignment, Unheard}
use Rattle.pdh_runner.proofs.Touching.{read_fails_since}
use Rattle.pdh_runner.proofs.Causes.{looks_others}

-- what holds of the inputs as they are told now held of them as they were told
pub of_inputs_before : (operation : Operation) (P : Files → Type 0) (a b : ShelfState) → Looks a b → OfInputs operation b P → OfInputs operation a P
of_inputs_before operation P a b looks holds files told = holds files (subst (λ (t : List ℕ → Told). AreTold operation t files) (sym looks.told) told)

comes_before : (operation : Operation) (a b : ShelfState) (answer : Answer) → Looks a b → Comes operation b answer → Comes operation a answer
comes_before operation a b answer looks comes = of_inputs_before operation (λ files. answer ≡ operation.comes_to files) a b looks comes

fails_in_turn_since : (operation : Operation) (file : File) (a b c : ShelfState) → Looks a b → b.counts ≡ a.counts → FailsInTurn operation file b c → FailsInTurn operation file a c
fails_in_turn_since operation file a b c looks same fails = record {
  at = fails.at;
  known = fails.known;
  named = fails.named;
  how = elim fails.how [
    | inl size ↦ inl (read_fails_since SizeCall (name_of file) a b c same size.0, of_inputs_before operation (AreHeld operation fails.at) a b looks size.1)
    | inr bytes ↦ inr (read_fails_since ReadCall (name_of file) a b c same bytes.0, of_inputs_before operation (IsReadDue operation file) a b looks bytes.1)
  ];
}

fails_early_since : (operation : Operation) (file : File) (a b c : ShelfState) → b.counts ≡ a.counts → FailsEarly operation file b c → FailsEarly operation file a c
fails_early_since operation file a b c same early = elim early [
  | inl size ↦ inl (read_fails_since SizeCall (name_of file) a b c same size)
  | inr unread ↦ inr unread
]

-- ---- a step that refuses

-- a refusal, since an earlier state
pub refuses_since : (operation : Operation) (a b c : ShelfState) (stop : Stop) → Looks a b → b.counts ≡ a.counts → Refuses operation b c stop → Refuses operation a c stop
refuses_since operation a b c Memory looks same cause = tt
refuses_since operation a b c Usage looks same cause = absurd cause
refuses_since operation a b c (Read file) looks same cause = (fails_in_turn_since operation file a b c looks same cause.0, fails_early_since operation file a b c same cause.1)
refuses_since operation a b c (Write file) looks same cause = absurd cause
refuses_since operation a b c (Overflow p) looks same cause = absurd cause
refuses_since operation a b c (Underflow p) looks same cause = absurd cause
refuses_since operation a b c (NoAlignment n) looks same cause = absurd cause
refuses_since operation a b c Unheard looks same cause = absurd cause
refuses_since operation a b c stop looks same cause = comes_before operation a b _ looks cause

-- it ends the command
pub refuses_performs : (operation : Operation) (a b : ShelfState) (stop : Stop) → Looks a b → Refuses operation a b stop → b.counts ≡ with_stop stop a.counts → Performs operation a b (Err stop)
refuses_performs operation a b Memory looks cause counted = record { cause = tt; outputs = looks.told; others = looks_others (IsOutput operation) a b looks; counted = counted }
refuses_performs operation a b Usage looks cause counted = absurd cause
refuses_performs operation a b (Read file) looks cause counted = record { cause = cause.0; outputs = inl (cause.1, looks.told); others = looks_others (IsOutput operation) a b looks; counted = counted }
refuses_performs operation a b (Write file) looks cause counted = absurd cause
refuses_performs operation a b (Overflow p) looks cause counted = absurd cause
refuses_performs operation a b (Underflow p) looks cause counted = absurd cause
refuses_performs operation a b (NoAlignment n) looks cause counted = absurd cause
refuses_performs operation a b Unheard looks cause counted = absurd cause
refuses_performs operation a b stop looks cause counted = record { cause = cause; outputs = looks.told; others = looks_others (IsOutput operation) a b looks; counted = counted }

-- ---- why a size isn't known, and why bytes aren't read

pub size_stop : (file : File) (a b : ShelfState) (stop : Stop) → IsSizeStop file a b stop →
    ((stop ≡ Missing file) × WhereTold (a.told (name_of file)) (λ held. held ≡ None)) ⊎ ((stop ≡ Read file) × FailsToRead SizeCall (name_of file) a b)
size_stop file a b (Missing missed) cause = inl (ap Missing cause.0, cause.1)
size_stop file a b (Read failed) cause = inr (ap Read cause.0, cause.1)
size_stop file a b stop cause = absurd cause

pub read_stop : (file : File) (a b : ShelfState) (stop : Stop) → IsReadStop file a b stop → (stop ≡ Memory) ⊎ ((stop ≡ Read file) × FailsToRead ReadCall (name_of file) a b)
read_stop file a b Memory cause = inl refl
read_stop file a b (Read failed) cause = inr (ap Read cause.0, cause.1)
read_stop file a b stop cause = absurd cause

-- input k wasn't there, or its size wasn't told, in its turn
pub size_refuses : (operation : Operation) (file : File) (k : ℕ) (a b : ShelfState) (stop : Stop) → k < operation.inputs.count → name_of file ≡ operation.inputs.name k → OfInputs operation a (AreHeld operation k)
    → (WhereTold (a.told (name_of file)) (λ held. held ≡ None) → Comes operation a (Err (Missing file))) → IsSizeStop file a b stop → Refuses operation a b stop
size_refuses operation file k a b stop known named held missing cause = elim (size_stop file a b stop cause) [
  | inl none ↦ subst (Refuses operation a b) (sym none.0) (missing none.1)
  | inr fails ↦ subst (Refuses operation a b) (sym fails.0) (record { at = k; known = known; named = named; how = inl (fails.1, held) }, inl fails.1)
]

-- the bytes of input k, which are read before the run, weren't read, in their turn
pub read_refuses : (operation : Operation) (file : File) (k : ℕ) (a b : ShelfState) (stop : Stop) → k < operation.inputs.count → name_of file ≡ operation.inputs.name k → operation.reads_in_run file ≡ false → OfInputs operation a (IsReadDue operation file) → IsReadStop file a b stop → Refuses operation a b stop
read_refuses operation file k a b stop known named early due cause = elim (read_stop file a b stop cause) [
  | inl none ↦ subst (Refuses operation a b) (sym none) tt
  | inr fails ↦ subst (Refuses operation a b) (sym fails.0) (record { at = k; known = known; named = named; how = inr (fails.1, due) }, inr early)
]
