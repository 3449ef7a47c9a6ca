use Rattle.std.proofs.Common.{◌∙◌, arith}
use Rattle.pdh_timeline.proofs.timeline.Timeline.reach.Goals as goal

pub loop-self-preserved : goal.loop-self-preserved
loop-self-preserved c =
    let so_far = c.loop-self.invariant in
    record {
      stands = λ marks stands. c.next_second.ensures.stands marks (so_far.stands marks stands);
      within = λ before. omega (arith, c.next_second.ensures.second, c.loop-self-test.true);
      rate = c.next_second.ensures.rate ∙ so_far.rate;
      block = c.next_second.ensures.block ∙ so_far.block;
    }
