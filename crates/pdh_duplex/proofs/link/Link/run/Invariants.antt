use Rattle.std.proofs.Common.{◌≤◌}
use Rattle.pdh_duplex.specs.Session.{Setting}
use Rattle.pdh_duplex.specs.Links.{IsLink, IsReady}
use Rattle.pdh_duplex.proofs.link.Link.run.Given as goal

-- so many ticks are over
abbrev pub invariant-loop-tick : goal.invariant-loop-tick
invariant-loop-tick g l = record {
  ticked : (z : Setting) (west : g.row.W.Denot) (east : g.row.E.Denot) → IsReady z l.clock l.len l.frames
      → IsLink g.T.Tx g.R.Rx g.W.Watch g.E.Watch z l.clock 0 west east l.initial.self
      → IsLink g.T.Tx g.R.Rx g.W.Watch g.E.Watch z l.clock l.tick west east l.self;
  room : l.len ≤ l.frame.capacity;
}
