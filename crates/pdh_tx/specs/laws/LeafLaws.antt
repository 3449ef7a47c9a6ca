-- Laws of a leaf's line.
use Rattle.std.proofs.Common.{◌≡◌, ℕ, suc, ◌≤◌, ◌<◌, Bool, true, false, cond, Option, Some, None, nat_le, refl, sym, ap, ◌∙◌, arith}
use Rattle.std.proofs.lemmas.Bool.{leb-false, lt-leb}
use Rattle.pdh_tx.specs.declared.tx.TxStop.{TxStop}
use Rattle.pdh_tx.specs.declared.tx.TxStop.TheVariants.{Ended}
use Rattle.pdh_tx.specs.Meaning.{Plan, StaysFree}
use Rattle.pdh_tx.specs.Leaf.{leaf_meaning}

-- a longer line takes no fewer bits
pub leaf_grows : (leaf : ℕ) (plan : Plan) (x k : ℕ) → (leaf_meaning leaf).given plan x k ≤ (leaf_meaning leaf).given plan (suc x) k
leaf_grows leaf plan x k = omega arith

not_ended : (b : Bool) (stop : TxStop) → cond b (Some stop) None ≡ None → b ≡ false
not_ended true stop h = absurd (cc)
not_ended false stop h = refl

-- longer lists bring nothing into its way
pub leaf_longer : (leaf : ℕ) → StaysFree (leaf_meaning leaf)
leaf_longer leaf plan few more x le h =
    let left : x < few leaf = leb-false (few leaf) x (not_ended (nat_le (few leaf) x) (Ended leaf) h) in
    ap (λ b. cond b (Some (Ended leaf)) None) (lt-leb (more leaf) x (omega (arith, left, le leaf)))
