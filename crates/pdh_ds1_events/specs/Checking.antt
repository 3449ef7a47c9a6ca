-- What is kept to check the superframes of a line, piece by piece of its tracking.
use Rattle.std.specs.Prelude.{ℕ, Bool, ◌==◌, if◌then◌else◌, Option, None, List, [], ◌∷◌}
use Rattle.pdh_watch.specs.declared.kind.Kind.{Kind}
use Rattle.pdh_watch.specs.declared.kind.TheConstants.Kind.{ALIGNED, LOST}
use Rattle.pdh_line.specs.Tracking.{Piece}
use Rattle.pdh_align.specs.declared.step.Step.{Step}
use Rattle.pdh_align.specs.declared.step.Step.TheVariants.{Aligned, Lost}
use Rattle.pdh_ds1.specs.declared.plan.SuperframePlan.{SuperframePlan}
use Rattle.pdh_ds1.specs.Receiving.{judgements, last_word}

-- the verdicts on pieces, behind one with this word
abbrev pub checked : SuperframePlan → Option ℕ → List Piece → List Bool
checked plan word pieces = (if plan.frames == 24 then judgements 24 word pieces else [])

-- the word behind them
abbrev pub word_behind_all : SuperframePlan → Option ℕ → List Piece → Option ℕ
word_behind_all plan word pieces = (if plan.frames == 24 then last_word 24 word pieces else word)

-- what a step of the alignment machine shows of the alignment
abbrev pub step_kinds : Step → List Kind
step_kinds Aligned = ALIGNED ∷ []
step_kinds Lost = LOST ∷ []
step_kinds _ = []

-- the word behind the pieces that a step brings: a lost alignment leaves none
abbrev pub word_after : SuperframePlan → Option ℕ → Step → List Piece → Option ℕ
word_after plan word Lost pieces = None
word_after plan word _ pieces = word_behind_all plan word pieces
