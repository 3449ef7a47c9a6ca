-- Why the step that asks for the line's size stops, and the commands that begin with it.
use Rattle.std.proofs.Common.{◌≡◌, ℕ, List, Result, Err, refl, ap, sym, subst, ◌∙◌, inl, inr, arith}
use Rattle.pdh_edge.specs.declared.shelf.Call.TheVariants.{Size as SizeCall}
use Rattle.pdh_edge.specs.Files.{ShelfState, WhereTold, FailsToRead}
use Rattle.pdh_edge.specs.Files.Told.{Known}
use Rattle.pdh_answers.specs.Names.{name_of}
use Rattle.pdh_answers.specs.Answer.{Answer, and_then}
use Rattle.pdh_runner.specs.Lines.{line_of}
use Rattle.pdh_runner.specs.Reading.{IsSizeStop}
use Rattle.pdh_runner.specs.LineSteps.{BeginsWith}
use Rattle.pdh_runner.specs.Operation.{Operation, AreTold, Files}
use Rattle.pdh_runner.specs.Performing.{FailsInTurn, FailsEarly}
use Rattle.pdh_runner.specs.Refusing.{Refuses}
use Rattle.pdh_runner.specs.Lines.{IsLineCause}
use Rattle.pdh_answers.specs.declared.file.File.{File}
use Rattle.pdh_answers.specs.declared.answer.Stop.{Stop}
use Rattle.pdh_answers.specs.declared.answer.Stop.TheVariants.{Read, Missing, ManyFrames}
use Rattle.pdh_runner.proofs.Refusing.{size_stop}
use Rattle.pdh_chain.specs.declared.chain.Chain.{Chain}

-- ---- the step

pub size_stops : (file : File) (chain : Chain) (a b : ShelfState) (stop : Stop) → IsSizeStop file a b stop → IsLineCause file chain a b stop
size_stops file chain a b stop cause = elim (size_stop file a b stop cause) [
  | inl none ↦ subst (IsLineCause file chain a b) (sym none.0) (λ held told. ap (line_of file chain) (none.1 held told))
  | inr fails ↦ subst (IsLineCause file chain a b) (sym fails.0) (refl, fails.1)
]

-- ---- a command that begins with the line of a file

pub line_told : (file : File) (chain : Chain) (operation : Operation) (next : List ℕ → Answer) (a : ShelfState) (files : Files) → BeginsWith operation file (line_of file chain) next → AreTold operation a.told files → a.told (name_of file) ≡ Known (files (name_of file))
line_told file chain operation next a files begins told = subst (λ name. a.told name ≡ Known (files name)) (sym begins.first) (told 0 begins.some)

-- it is refused as the line is
refused : (file : File) (chain : Chain) (operation : Operation) (next : List ℕ → Answer) (a : ShelfState) (stop : Stop) → BeginsWith operation file (line_of file chain) next → WhereTold (a.told (name_of file)) (λ held. line_of file chain held ≡ Err stop) →
    (files : Files) → AreTold operation a.told files → ◌≡◌ {A = Answer} (Err stop) (operation.comes_to files)
refused file chain operation next a stop begins refuses files told =
    sym (begins.comes files ∙ ap (λ (r : Result (List ℕ) Stop). and_then r next) (refuses (files (name_of file)) (line_told file chain operation next a files begins told)))

-- and a call for its size fails in its turn
fails_in_turn : (file : File) (chain : Chain) (operation : Operation) (next : List ℕ → Answer) (a b : ShelfState) → BeginsWith operation file (line_of file chain) next → FailsToRead SizeCall (name_of file) a b → FailsInTurn operation file a b × FailsEarly operation file a b
fails_in_turn file chain operation next a b begins size = (
  record { at = 0; known = begins.some; named = begins.first; how = inl (size, λ files told i h. absurd (omega arith)) },
  inl size,
)

pub line_refuses : (file : File) (chain : Chain) (operation : Operation) (next : List ℕ → Answer) (a b : ShelfState) (stop : Stop) → BeginsWith operation file (line_of file chain) next → IsLineCause file chain a b stop → Refuses operation a b stop
line_refuses file chain operation next a b (Read failed) begins cause = subst (λ f. FailsInTurn operation f a b × FailsEarly operation f a b) (sym cause.0) (fails_in_turn file chain operation next a b begins cause.1)
line_refuses file chain operation next a b (Missing missed) begins cause = refused file chain operation next a (Missing missed) begins cause
line_refuses file chain operation next a b (ManyFrames n) begins cause = refused file chain operation next a (ManyFrames n) begins cause
line_refuses file chain operation next a b stop begins cause = absurd cause
