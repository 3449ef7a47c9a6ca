-- A leaf passes its list.
use Rattle.std.specs.Prelude.{ℕ, ◌==◌, nat_le, if◌then◌else◌, [], Some, None}
use Rattle.pdh_tx.specs.declared.tx.TxStop.TheVariants.{Ended}
use Rattle.pdh_tx.specs.Meaning.{Meaning}

abbrev pub leaf_meaning : ℕ → Meaning
leaf_meaning leaf = record {
  nodes = [];
  leaves = λ k. k == leaf;
  line = λ supply x. supply.lists leaf x;
  given = λ plan x k. x;
  begins = λ x. None;
  obstacle = λ plan size x. (if nat_le (size leaf) x then Some (Ended leaf) else None);
  slips = λ plan x. [];
}
