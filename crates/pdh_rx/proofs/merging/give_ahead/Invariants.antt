use Rattle.std.proofs.Common.{◌≡◌, length, map}
use Rattle.pdh_rx.specs.Places.{loaded_cell, loaded_places, loaded_bits}
use Rattle.pdh_rx.specs.Merging.{Begun}
use Rattle.pdh_rx.proofs.Keeping.{KeepsYet}
use Rattle.pdh_rx.proofs.merging.give_ahead.Given as goal

-- the first tributaries got what brings nothing
abbrev pub invariant-loop-trib : goal.invariant-loop-trib
invariant-loop-trib g l = record {
  frame : l.strip.frame ≡ l.fn.strip.frame;
  gap : l.strip.gap ≡ l.fn.strip.gap;
  room : length l.due ≡ length l.fn.due;
  begun : Begun g.C.Rx.stands (map g.C.Rx.meaning l.fn.children) g.S.Shape.shape.tribs (loaded_cell g.S.Shape.shape l.fn.strip.gap l.fn.strip.frame) (loaded_places g.S.Shape.shape l.fn.strip.gap) (loaded_bits g.S.Shape.shape l.fn.strip.gap l.fn.strip.frame) l.trib l.due l.fn.children l.children (g.D.Drain.outputs l.fn.drain) (g.D.Drain.outputs l.drain);
  kept : KeepsYet g.C.Rx.meaning g.D.Drain.drain_faults g.D.Drain.drained l.fn.children l.children l.fn.drain l.drain;
}
