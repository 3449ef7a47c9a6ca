use Rattle.std.proofs.Common.{◌≡◌, ◌≤◌, ℕ, map}
use Rattle.pdh_rx.specs.Node.{ChildFits}
use Rattle.pdh_rx.specs.Places.{loaded_bits, loaded_most}
use Rattle.pdh_rx.specs.Merging.{FirstGot}
use Rattle.pdh_rx.proofs.Keeping.{KeepsYet}
use Rattle.pdh_rx.proofs.merging.give_in_room.Given as goal

-- the first tributaries got their bits, and there is room for those of the others
abbrev pub invariant-loop-trib : goal.invariant-loop-trib
invariant-loop-trib g l = record {
  frame : l.strip.frame ≡ l.fn.strip.frame;
  gap : l.strip.gap ≡ l.fn.strip.gap;
  fits : (j : ℕ) → l.trib ≤ j → ChildFits g.C.Rx.fits l.children j (g.D.Drain.room l.drain) (loaded_most g.S.Shape.shape l.fn.strip.gap);
  given : FirstGot g.C.Rx.stands (map g.C.Rx.meaning l.fn.children) (loaded_bits g.S.Shape.shape l.fn.strip.gap l.fn.strip.frame) l.trib l.fn.children l.children (g.D.Drain.outputs l.fn.drain) (g.D.Drain.outputs l.drain);
  kept : KeepsYet g.C.Rx.meaning g.D.Drain.drain_faults g.D.Drain.drained l.fn.children l.children l.fn.drain l.drain;
}
