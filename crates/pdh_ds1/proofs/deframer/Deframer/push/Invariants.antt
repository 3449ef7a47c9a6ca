use Rattle.std.proofs.Common.{◌≡◌, ◌*◌, ◌≤◌, ◌++◌, List, length, map, take}
use Rattle.pdh_line.specs.Tracking.{Piece}
use Rattle.pdh_line.specs.Tracking.Piece.{Delivered}
use Rattle.pdh_ds1.specs.Machine.{Judges}
use Rattle.pdh_ds1.proofs.MachineLaws.{payload_of_all}
use Rattle.pdh_ds1.proofs.deframer.Deframer.push.Given as goal

-- so many of the ready superframes are gathered
abbrev pub invariant-loop-done : goal.invariant-loop-done
invariant-loop-done g l = record {
  aligner : l.self.aligner ≡ l.initial.self.aligner;
  superframes : l.self.superframes ≡ l.initial.self.superframes;
  room : l.self.superframe.capacity ≡ g.P.InSuperframe.PLAN.len;
  payload : l.self.payload ≡ record { capacity = 576 * g.P.InSuperframe.PLAN.frames; bits = payload_of_all g.P.InSuperframe.PLAN.frames (take l.done l.self.aligner.ready) };
  long : length l.self.payload.bits ≡ 192 * g.P.InSuperframe.PLAN.frames * l.done;
  ready : l.ready ≡ length l.self.aligner.ready;
  few : l.ready ≤ 3;
  blocks : g.P.InSuperframe.PLAN.frames ≡ 24 → (pieces : List Piece) → Judges l.initial.self.blocks pieces → Judges l.self.blocks (pieces ++ map Delivered (take l.done l.self.aligner.ready));
}
