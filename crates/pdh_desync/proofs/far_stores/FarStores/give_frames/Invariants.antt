use Rattle.std.proofs.Common.{◌≡◌, ◌<◌, map, take}
use Rattle.pdh_desync.specs.FarStore.FarPiece.{Frame}
use Rattle.pdh_desync.specs.FarNode.{FarGives}
use Rattle.pdh_desync.proofs.far_stores.FarStores.give_frames.Given as goal

-- so many of the frames were given
abbrev pub invariant-loop-done : goal.invariant-loop-done
invariant-loop-done g l = record {
  given : FarGives g.S.Shape.shape (λ j. map Frame (take l.done l.fn.aligner.ready)) l.fn.self l.self (g.D.Drain.outputs l.fn.drain) (g.D.Drain.outputs l.drain);
  unfailed : g.D.Drain.drain_faults l.drain ≡ g.D.Drain.drain_faults l.fn.drain;
  drained : g.D.Drain.drained l.fn.drain l.drain;
  aligner : l.aligner ≡ record l.fn.aligner { ready = l.aligner.ready };
  ready : l.done < l.frames → l.aligner ≡ l.fn.aligner;
}
