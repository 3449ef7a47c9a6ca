-- What is kept of the course of a node.
use Rattle.std.specs.Prelude.{◌≡◌, ℕ, ◌+◌, ◌-◌, ◌/◌, ◌^◌, ◌<◌, ◌≤◌, min, Bool, Option, Some, None, List, map, filter, count_by, sum_by, length}
use Rattle.pdh_spans.specs.Times.{Turn, ended, begun_after, times}
use Rattle.pdh_spans.specs.Sums.{span_length}
use Rattle.pdh_timeline.specs.declared.state.State.{State}
use Rattle.pdh_timeline.specs.declared.state.State.TheVariants.{Out, Ais, Alarm}
use Rattle.pdh_timeline.specs.Marks.{Mark, place_of, is_errored, is_far, turns_of}
use Rattle.pdh_track.specs.declared.track.Track.{Track}
use Rattle.pdh_track.specs.Standing.{rate_of, block_of, second_of, StandsFor as TrackStandsFor}
use Rattle.pdh_cells.specs.declared.cell.Code.{Code}
use Rattle.pdh_cells.specs.declared.cells.Cells.{Cells}
use Rattle.pdh_cells.specs.Lanes.{Lanes, with_time}
use Rattle.pdh_cells.specs.Standing.{StandsFor as CellsStandFor}
use Rattle.pdh_health.specs.declared.errors.Errors.{Errors}
use Rattle.pdh_health.specs.declared.course.Course.{Course}
use Rattle.pdh_health.specs.Marking.{last_of}

-- ---- what is shown in cells

abbrev pub places_of : (Mark → Bool) → List Mark → List ℕ
places_of test marks = map place_of (filter test marks)

-- the times that have ended, and the errors and codes
abbrev pub lanes_so_far : List Mark → List Code → Lanes
lanes_so_far marks codes = record {
  out = ended (turns_of Out marks);
  ais = ended (turns_of Ais marks);
  alarm = ended (turns_of Alarm marks);
  near = places_of is_errored marks;
  far = places_of is_far marks;
  codes = codes;
}

-- all of them, where the line has so many bits
abbrev pub lanes_of : ℕ → List Mark → List Code → Lanes
lanes_of bits marks codes = record {
  out = times (turns_of Out marks) bits;
  ais = times (turns_of Ais marks) bits;
  alarm = times (turns_of Alarm marks) bits;
  near = places_of is_errored marks;
  far = places_of is_far marks;
  codes = codes;
}

-- ---- what is kept

abbrev pub errors_of : (Mark → Bool) → List Mark → Errors
errors_of test marks = record { count = min (count_by test marks) (2 ^ 64 - 1); last = last_of test marks }

-- where the time that goes on began, or a place
abbrev pub begun_or : ℕ → Option ℕ → ℕ
begun_or place None = place
begun_or place (Some from) = from

-- a state's times lie before a place, one behind the other
pub record LieBefore (place : ℕ) (turns : List Turn) : Type 0 where
  pub ended_are : sum_by span_length (ended turns) ≤ begun_or place (begun_after turns)
  pub begun_is : begun_or place (begun_after turns) ≤ place

-- what is kept stands for these marks and codes, on a line with so many bits in a second and in a block; none of them comes
-- behind a place
pub record StandsFor (course : Course) (rate block : ℕ) (marks : List Mark) (codes : List Code) (place : ℕ) : Type 0 where
  pub track_stands : TrackStandsFor course.track marks
  pub rate_is : rate_of course.track ≡ rate
  pub block_is : block_of course.track ≡ block
  pub reached : (later : ℕ) → place ≤ later → second_of course.track ≤ later / rate
  pub cells_stand : CellsStandFor course.cells (lanes_so_far marks codes) (place + 1)
  pub near_are : course.near ≡ errors_of is_errored marks
  pub far_are : course.far ≡ errors_of is_far marks
  pub times_lie : (state : State) → LieBefore place (turns_of state marks)

-- where what is kept stood for marks and codes before a place, it now stands for more of them up to that place
abbrev pub GoesOn : Course → ℕ → (List Mark → List Mark) → (List Code → List Code) → Course → Type 0
GoesOn old place more_marks more_codes new =
    (rate block : ℕ) (marks : List Mark) (codes : List Code) (before : ℕ) → StandsFor old rate block marks codes before → before ≤ place → length marks ≤ 2 ^ 63
    → StandsFor new rate block (more_marks marks) (more_codes codes) place

-- with the time that goes on, if there is one, up to a place
abbrev pub with_open : State → Option ℕ → ℕ → Lanes → Lanes
with_open state None place lanes = lanes
with_open state (Some from) place lanes = with_time state (record { from = from; to = place }) lanes

-- where cells stood for what had come, they now stand for it with a state's time that goes on, up to a place
abbrev pub Closes : Track → Cells → State → ℕ → Cells → Type 0
Closes track old state place new =
    (marks : List Mark) (lanes : Lanes) (end now : ℕ) → TrackStandsFor track marks → CellsStandFor old lanes end → end ≤ now → begun_or 0 (begun_after (turns_of state marks)) < now → place ≤ now
    → CellsStandFor new (with_open state (begun_after (turns_of state marks)) place lanes) now
