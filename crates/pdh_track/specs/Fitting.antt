-- The times of a line's states fit their sums.
use Rattle.std.specs.Prelude.{List}
use Rattle.pdh_spans.specs.Times.{ended}
use Rattle.pdh_spans.specs.Sums.{Fits}
use Rattle.pdh_timeline.specs.declared.state.State.{State}
use Rattle.pdh_timeline.specs.Marks.{Mark, turns_of}

-- those that have ended, of each state
abbrev pub AllFit : List Mark → Type 0
AllFit marks = (state : State) → Fits (ended (turns_of state marks))
