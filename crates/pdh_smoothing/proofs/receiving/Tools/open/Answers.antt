use Rattle.std.proofs.Common.{inl, ap, ◌∙◌, arith}
use Rattle.pdh_line.specs.Paths.{top}
use Rattle.pdh_bits.specs.BitOut.{BoundedBits}
use Rattle.pdh_desync.specs.Smooth.{smooth_meaning}
use Rattle.pdh_smoothing.proofs.receiving.Tools.open.Goals as goal

pub open-requires-clause-apart : goal.open-requires-clause-apart
open-requires-clause-apart g c = inl (omega arith)

pub returns-clause-node : goal.returns-clause-node
returns-clause-node g c = record {
  means = c.in_ok-open.ensures.meaning ∙ ap (λ n. smooth_meaning g.S.Shape.shape top 0 n) (omega (arith, g.met.S.Shape.tribs_is));
  begun = c.in_ok-open.ensures.stands;
}

pub returns-clause-buffer : goal.returns-clause-buffer
returns-clause-buffer g c = omega (arith, ap (λ (b : BoundedBits). b.capacity) c.in_ok-open-2.ensures)

pub returns-clause-row : goal.returns-clause-row
returns-clause-row g c = omega (arith, ap (λ (b : BoundedBits). b.capacity) c.in_ok-open-3.ensures)
