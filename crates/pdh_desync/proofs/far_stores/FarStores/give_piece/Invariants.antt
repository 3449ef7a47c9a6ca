use Rattle.std.proofs.Common.{◌≡◌, ◌∷◌, []}
use Rattle.pdh_desync.specs.FarNode.{piece_of, first_pieces, FarGives}
use Rattle.pdh_desync.proofs.far_stores.FarStores.give_piece.Given as goal

-- the first tributaries were given the piece
abbrev pub invariant-loop-trib : goal.invariant-loop-trib
invariant-loop-trib g l = record {
  frame : l.strip.frame ≡ l.fn.strip.frame;
  gap : l.strip.gap ≡ l.fn.strip.gap;
  given : FarGives g.S.Shape.shape (first_pieces (piece_of l.fn.strip.gap l.fn.strip.frame ∷ []) l.trib) l.fn.self l.self (g.D.Drain.outputs l.fn.drain) (g.D.Drain.outputs l.drain);
  unfailed : g.D.Drain.drain_faults l.drain ≡ g.D.Drain.drain_faults l.fn.drain;
  drained : g.D.Drain.drained l.fn.drain l.drain;
}
