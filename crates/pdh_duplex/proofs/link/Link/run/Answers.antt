use Rattle.std.proofs.Common.{◌≡◌, ◌+◌, suc, refl, arith}
use Rattle.pdh_duplex.proofs.Going.{link_at, next_of}
use Rattle.pdh_duplex.proofs.link.Link.run.Goals as goal

pub tick-requires-clause-next : goal.tick-requires-clause-next
tick-requires-clause-next g c =
    let r = c.requires.ready in
    let n = c.loop-tick.tick in
    (r.0, n, r.1, r.2, next_of r.0 c.args.clock.now n c.args.len c.args.frames _ r.3 c.loop-tick-test.true refl, c.loop-tick.invariant.ticked r.0 r.1 r.2 r.3 r.4)

pub loop-tick-preserved : goal.loop-tick-preserved
loop-tick-preserved g c =
    let n = c.loop-tick.tick in
    let up : suc n ≡ n + 1 = omega arith in
    record {
      ticked = λ z west east ready link.
          link_at g.T.Tx g.R.Rx g.W.Watch g.E.Watch z c.args.clock.now (suc n) (n + 1) west east _ up
          (c.tick.ensures.ticked z n west east (next_of z c.args.clock.now n c.args.len c.args.frames _ ready c.loop-tick-test.true refl) (c.loop-tick.invariant.ticked z west east ready link));
      room = omega (arith, c.tick.ensures.room, c.loop-tick.invariant.room);
    }

pub returns : goal.returns
returns g c =
    let n = c.loop-tick.tick in
    let over : n ≡ c.args.frames = omega (arith, c.loop-tick-test.false, c.loop-tick.auto.tick-end) in
    record { ran = λ z west east ready link. link_at g.T.Tx g.R.Rx g.W.Watch g.E.Watch z c.args.clock.now n c.args.frames west east _ over (c.loop-tick.invariant.ticked z west east ready link) }
