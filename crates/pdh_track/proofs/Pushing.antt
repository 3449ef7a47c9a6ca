-- What is kept with one mark more.
use Rattle.std.proofs.Common.{◌≡◌, List, [], ◌∷◌, ◌++◌, sym, ap, ◌∙◌, subst, append-nil}
use Rattle.pdh_spans.specs.declared.spans.Spans.{Spans}
use Rattle.pdh_spans.specs.Times.{Turn, ended}
use Rattle.pdh_spans.specs.Sums.{Fits}
use Rattle.pdh_spans.specs.Standing.{StandsFor as SpansStandFor}
use Rattle.pdh_timeline.specs.declared.state.State.{State}
use Rattle.pdh_timeline.specs.Marks.{Mark, turn_of, turns_of}
use Rattle.pdh_timeline.proofs.Adding.{turns_push}

-- the turns of a state that the mark has
pub spans_push : (state : State) (spans : Spans) (marks : List Mark) (mark : Mark) (turns : List Turn) → turns ≡ turn_of state mark
    → SpansStandFor spans (turns_of state marks ++ turns) → SpansStandFor spans (turns_of state (marks ++ mark ∷ []))
spans_push state spans marks mark turns is stands =
    subst (λ (l : List Turn). SpansStandFor spans l) (ap (λ (t : List Turn). turns_of state marks ++ t) is ∙ sym (turns_push state marks mark)) stands

pub fits_push : (state : State) (marks : List Mark) (mark : Mark) (turns : List Turn) → turns ≡ turn_of state mark
    → Fits (ended (turns_of state (marks ++ mark ∷ []))) → Fits (ended (turns_of state marks ++ turns))
fits_push state marks mark turns is fits =
    subst (λ (l : List Turn). Fits (ended l)) (turns_push state marks mark ∙ ap (λ (t : List Turn). turns_of state marks ++ t) (sym is)) fits

-- a mark that is no turn
pub spans_same : (state : State) (spans : Spans) (marks : List Mark) (mark : Mark) → turn_of state mark ≡ [] → SpansStandFor spans (turns_of state marks) → SpansStandFor spans (turns_of state (marks ++ mark ∷ []))
spans_same state spans marks mark none stands =
    spans_push state spans marks mark [] (sym none) (subst (λ (l : List Turn). SpansStandFor spans l) (sym (append-nil (turns_of state marks))) stands)
