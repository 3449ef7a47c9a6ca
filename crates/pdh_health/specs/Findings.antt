-- What is found of a course.
use Rattle.std.specs.Prelude.{◌≡◌, ℕ, List, count_by}
use Rattle.pdh_spans.specs.Times.{times}
use Rattle.pdh_spans.specs.Sums.{sum_of}
use Rattle.pdh_seconds.specs.Availability.{told}
use Rattle.pdh_seconds.specs.Counting.{tally_of}
use Rattle.pdh_timeline.specs.declared.state.State.TheVariants.{Out, Ais, Alarm}
use Rattle.pdh_timeline.specs.Marks.{Mark, is_errored, is_far, turns_of, seconds_of}
use Rattle.pdh_cells.specs.declared.cell.Code.{Code}
use Rattle.pdh_cells.specs.Pictures.{ArePicture}
use Rattle.pdh_health.specs.declared.node_health.CourseHealth.{CourseHealth}
use Rattle.pdh_health.specs.Courses.{lanes_of}

-- what was found by these marks and codes, on a line of so many bits with so many in a second and in a block
pub record IsFound (rate block bits : ℕ) (marks : List Mark) (codes : List Code) (found : CourseHealth) : Type 0 where
  pub out_is : found.out ≡ sum_of (times (turns_of Out marks) bits)
  pub ais_is : found.ais ≡ sum_of (times (turns_of Ais marks) bits)
  pub alarm_is : found.alarm ≡ sum_of (times (turns_of Alarm marks) bits)
  pub blocks_are : found.errored_blocks ≡ count_by is_errored marks
  pub far_are : found.far_errors ≡ count_by is_far marks
  pub seconds_are : found.seconds ≡ tally_of (told (seconds_of block rate bits marks))
  pub cells_are : ArePicture bits (lanes_of bits marks codes) found.cells
