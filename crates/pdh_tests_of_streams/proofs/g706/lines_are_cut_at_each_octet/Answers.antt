use Rattle.std.proofs.Common.{ap, ◌∙◌}
use Rattle.pdh_tests_of_streams.proofs.g706.lines_are_cut_at_each_octet.Goals as goal

pub loop-place-preserved : goal.loop-place-preserved
loop-place-preserved g c = record {
  stands = c.in_ok-take_all.ensures.stands;
  list = ap (λ h. h 0) c.take_all.ensures.holds ∙ c.loop-place.invariant.list;
}
