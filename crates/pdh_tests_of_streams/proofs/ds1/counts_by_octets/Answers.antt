use Rattle.std.proofs.Common.{ap, ◌∙◌}
use Rattle.pdh_tests_of_streams.proofs.ds1.counts_by_octets.Goals as goal

pub loop-place-preserved : goal.loop-place-preserved
loop-place-preserved c = record {
  stands = c.in_ok-take_all.ensures.stands;
  list = ap (λ h. h 0) c.take_all.ensures.holds ∙ c.loop-place.invariant.list;
}
