use Rattle.std.proofs.Common.{arith}
use Rattle.pdh_tx.proofs.sender.Sender.batch.Goals as goal

pub piece-requires-clause-piece : goal.piece-requires-clause-piece
piece-requires-clause-piece g c = record {
  some = c.requires.few.some;
  inside = omega (arith, c.requires.clear.1.inside, c.if-count-LEN.true, c.LEN.ensures, g.met.S.Shape.len_is);
}
