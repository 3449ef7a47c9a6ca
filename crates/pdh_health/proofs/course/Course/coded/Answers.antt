use Rattle.std.proofs.Common.{◌+◌, arith}
use Rattle.pdh_timeline.specs.Marks.{turns_of}
use Rattle.pdh_health.proofs.Lying.{lie_later}
use Rattle.pdh_health.proofs.course.Course.coded.Goals as goal

pub returns : goal.returns
returns c rate block marks codes before stands le few = record {
  track_stands = stands.track_stands;
  rate_is = stands.rate_is;
  block_is = stands.block_is;
  reached = λ later behind. stands.reached later (omega (arith, le, behind));
  cells_stand = c.coded.ensures _ (before + 1) stands.cells_stand (omega (arith, le));
  near_are = stands.near_are;
  far_are = stands.far_are;
  times_lie = λ state. lie_later before c.args.code.place (turns_of state marks) le (stands.times_lie state);
}
