use Rattle.std.proofs.Common.{◌≡◌, ◌<◌, ◌++◌, List, map, take}
use Rattle.pdh_line.specs.Tracking.{Piece}
use Rattle.pdh_line.specs.Tracking.Piece.{Delivered}
use Rattle.pdh_events.specs.Acts.{frames_acts}
use Rattle.pdh_events.specs.Keeping.{Remembers}
use Rattle.pdh_rx.specs.Node.{ActedWhole}
use Rattle.pdh_rx.proofs.frames.deliver_all.Given as goal

-- so many of the frames were delivered
abbrev pub invariant-loop-done : goal.invariant-loop-done
invariant-loop-done g l = record {
  acted : (pieces : List Piece) → Remembers g.S.Shape.shape l.fn.teller pieces → ActedWhole g.C.Rx g.D.Drain g.W.Watch (frames_acts g.S.Shape.shape l.at.path l.at.number pieces (take l.done l.fn.aligner.ready)) l.fn.children l.children l.fn.drain l.drain l.fn.watch l.watch;
  remembers : (pieces : List Piece) → Remembers g.S.Shape.shape l.fn.teller pieces → Remembers g.S.Shape.shape l.teller (pieces ++ map Delivered (take l.done l.fn.aligner.ready));
  aligner : l.aligner ≡ record l.fn.aligner { ready = l.aligner.ready };
  ready : l.done < l.frames → l.aligner ≡ l.fn.aligner;
}
