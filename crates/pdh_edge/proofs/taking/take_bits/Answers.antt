use Rattle.std.proofs.Common.{refl, ap, ◌∙◌, arith}
use Rattle.pdh_packed.proofs.GainingLaws.{grown_long}
use Rattle.pdh_edge.proofs.Taken.{took_none, took_more}
use Rattle.pdh_edge.proofs.taking.take_bits.Goals as goal

pub loop-taken-init : goal.loop-taken-init
loop-taken-init g c = record {
  upto = omega arith;
  took = took_none c.args.leaf c.args.into.now (g.F.Feed.inputs c.args.feed.now);
  unfailed = refl;
  fed = g.met.F.Feed.fed_same c.args.feed.now;
}

pub bits-requires-clause-held : goal.bits-requires-clause-held
bits-requires-clause-held g c = ap (λ h. h c.args.leaf) (g.met.F.Feed.fed_holds _ _ c.loop-taken.invariant.fed) ∙ c.requires.held

pub bits-requires-clause-room : goal.bits-requires-clause-room
bits-requires-clause-room g c =
    let grown = c.loop-taken.invariant.took.grown in
    omega (arith, grown_long c.args.into.now c.loop-taken.into c.loop-taken.taken grown, grown.capacity, c.loop-taken.invariant.upto, c.requires.room, c.loop-taken-test.true)

pub loop-taken-preserved : goal.loop-taken-preserved
loop-taken-preserved g c =
    let inv = c.loop-taken.invariant in
    let ok = c.in-Ok.ensures in
    record {
      upto = omega (arith, inv.upto, ok.count, c.loop-taken-test.true);
      took = took_more c.args.leaf c.args.into.now c.loop-taken.into c.bits.new.into c.loop-taken.taken c.in-Ok.more _ _ _ inv.took ok.grown ok.ok;
      unfailed = ok.cause ∙ inv.unfailed;
      fed = g.met.F.Feed.fed_join _ _ _ inv.fed ok.fed;
    }
