-- What is kept of what came at a line's bits.
use Rattle.std.specs.Prelude.{◌≡◌, ℕ, suc, ◌*◌, ◌<◌, ◌&&◌, List, [], ◌∷◌}
use Rattle.std.specs.List.{list_any}
use Rattle.pdh_spans.specs.Times.{stands_after}
use Rattle.pdh_seconds.specs.Standing.{StandsFor as SecondsStandFor}
use Rattle.pdh_timeline.specs.declared.state.State.{State}
use Rattle.pdh_timeline.specs.declared.state.State.TheVariants.{Out, Ais, Alarm}
use Rattle.pdh_timeline.specs.declared.touch.Touch.{Touch}
use Rattle.pdh_timeline.specs.declared.timeline.Timeline.{Timeline}
use Rattle.pdh_timeline.specs.Marks.{Mark, place_of, is_in, by_start, turns_of, begins, blocks_in, is_told, whole_seconds}

-- all of these come before a bit
abbrev pub AreBefore : ℕ → List Mark → Type 0
AreBefore place [] = Unit {0}
AreBefore place (mark ∷ marks) = (place_of mark < place) × AreBefore place marks

-- what is kept of a state for second s
pub record TouchIs (state : State) (rate s : ℕ) (touch : Touch) (marks : List Mark) : Type 0 where
  pub stands_is : touch.stands ≡ stands_after (turns_of state marks)
  pub start_is : touch.start ≡ stands_after (turns_of state (by_start rate s marks))
  pub begun_is : touch.begun ≡ list_any (λ mark. begins state mark && is_in rate s mark) marks

-- what is kept stands for what came, up to the second that runs
pub record StandsFor (kept : Timeline) (marks : List Mark) : Type 0 where
  pub some : 0 < kept.rate
  pub before : AreBefore (suc kept.second * kept.rate) marks
  pub out_is : TouchIs Out kept.rate kept.second kept.out marks
  pub ais_is : TouchIs Ais kept.rate kept.second kept.ais marks
  pub alarm_is : TouchIs Alarm kept.rate kept.second kept.alarm marks
  pub blocks_are : kept.blocks ≡ blocks_in kept.rate kept.second marks
  pub far_is : kept.far ≡ is_told kept.rate kept.second marks
  pub seconds_are : SecondsStandFor kept.seconds (whole_seconds kept.block kept.rate marks kept.second)
