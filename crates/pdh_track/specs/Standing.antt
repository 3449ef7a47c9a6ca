-- What is kept of what came at a line's bits.
use Rattle.std.specs.Prelude.{ℕ, List}
use Rattle.pdh_spans.specs.Standing.{StandsFor as SpansStandFor}
use Rattle.pdh_timeline.specs.declared.state.State.TheVariants.{Out, Ais, Alarm}
use Rattle.pdh_timeline.specs.Marks.{Mark, turns_of}
use Rattle.pdh_timeline.specs.Standing.{StandsFor as TimelineStandsFor}
use Rattle.pdh_track.specs.declared.track.Track.{Track}

-- the bits of a second and of a block, and the second that runs
abbrev pub rate_of : Track → ℕ
rate_of track = track.timeline.rate

abbrev pub block_of : Track → ℕ
block_of track = track.timeline.block

abbrev pub second_of : Track → ℕ
second_of track = track.timeline.second

-- what is kept stands for what came
pub record StandsFor (track : Track) (marks : List Mark) : Type 0 where
  pub out_is : SpansStandFor track.out (turns_of Out marks)
  pub ais_is : SpansStandFor track.ais (turns_of Ais marks)
  pub alarm_is : SpansStandFor track.alarm (turns_of Alarm marks)
  pub timeline_is : TimelineStandsFor track.timeline marks
