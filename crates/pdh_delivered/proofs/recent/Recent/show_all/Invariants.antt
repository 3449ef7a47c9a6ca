use Rattle.std.proofs.Common.{◌≡◌, map, take}
use Rattle.std.specs.Prelude.{fold}
use Rattle.pdh_line.specs.Tracking.Piece.{Delivered}
use Rattle.pdh_delivered.specs.Deliveries.{deliveries_behind, last_of}
use Rattle.pdh_delivered.proofs.recent.Recent.show_all.Given as goal

-- the frames so far were shown
abbrev pub invariant-loop-done : goal.invariant-loop-done
invariant-loop-done g l = record {
  shown : l.visitor ≡ fold g.V.Visitor.shown l.fn.visitor (deliveries_behind l.fn.self.last.bits (map Delivered (take l.done l.aligner.ready)));
  last : l.self.last.bits ≡ last_of l.fn.self.last.bits (map Delivered (take l.done l.aligner.ready));
}
