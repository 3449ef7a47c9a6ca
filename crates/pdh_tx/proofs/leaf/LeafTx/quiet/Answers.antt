use Rattle.std.proofs.Common.{cond, refl, ap, arith, eq-eqb, Some, None}
use Rattle.std.proofs.lemmas.Bool.{lt-leb}
use Rattle.pdh_tx.specs.declared.tx.TxStop.TheVariants.{Ended}
use Rattle.pdh_tx.proofs.leaf.LeafTx.quiet.Goals as goal

pub returns-clause-free : goal.returns-clause-free
returns-clause-free g c x stands = record {
  free = λ size fits y from to.
      let leaf = c.args.self.now.leaf in
      let holds = fits leaf (eq-eqb leaf leaf refl) in
      ap (λ b. cond b (Some (Ended leaf)) None) (lt-leb (size leaf) y (omega (arith, holds, to, c.left.ensures, c.min.ensures)));
  no_slip = λ y from to. refl;
}
