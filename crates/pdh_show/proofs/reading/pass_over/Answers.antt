use Rattle.std.proofs.Common.{ap, ◌∙◌, arith}
use Rattle.pdh_bits.specs.BitOut.{BoundedBits}
use Rattle.pdh_packed.specs.Gaining.{gained}
use Rattle.pdh_show.proofs.Taking.{some_more}
use Rattle.pdh_show.proofs.reading.pass_over.Goals as goal

pub loop-passed-preserved : goal.loop-passed-preserved
loop-passed-preserved g c =
    let inv = c.loop-passed.invariant in
    let ok = c.in_ok-take_bits.ensures in
    record {
      within = omega (arith, inv.within, c.loop-passed-test.true, c.min-most.ensures);
      capacity = ok.grown.capacity ∙ ap (λ (b : BoundedBits). b.capacity) c.clear.ensures ∙ inv.capacity;
      takes = some_more c.loop-passed.passed c.min-most.result (gained c.clear.new.self c.take_bits.new.into) _ _ _ ok.ok inv.takes ok.takes;
      unfailed = ok.cause ∙ inv.unfailed;
      fed = g.met.F.Feed.fed_join _ _ _ inv.fed ok.fed;
    }
