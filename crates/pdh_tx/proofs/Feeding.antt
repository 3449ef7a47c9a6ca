-- What the tributaries of a node are given stays theirs.
use Rattle.std.proofs.Common.{◌≡◌, ℕ, Bool, true, List, refl, sym, ◌∙◌, subst, Some, slice_get}
use Rattle.std.proofs.lemmas.Option.{slice_get-map}
use Rattle.std.specs.Prelude.{IsTrue}
use Rattle.pdh_edge.specs.Ports.{Inputs}
use Rattle.pdh_shape.specs.declared.shape.Shape as shape
use Rattle.pdh_shape.specs.declared.place.Path.{Path}
use Rattle.pdh_clock.specs.Contents.{Contents}
use Rattle.pdh_tx.specs.declared.tx.Tx.{Ghosts}
use Rattle.pdh_tx.specs.declared.tributaries.Tributaries.{Tributaries}
use Rattle.pdh_tx.specs.declared.tributary.Tributary.{Tributary}
use Rattle.pdh_tx.specs.Meaning.{Meaning}
use Rattle.pdh_tx.specs.Calls.{IsFed}
use Rattle.pdh_tx.specs.Tributary.{meaning_in}
use Rattle.pdh_tx.specs.Node.{any_leaf, EachInChain}
use Rattle.pdh_tx.specs.Tributaries.{meanings, AreFed}
use Rattle.pdh_tx.proofs.Moving.{leaf_of}

module _ {S C : Type 0} {shape : shape.Ghosts S} {tx : Ghosts C} where
  -- after calls that left the meanings and the leaves
  pub still_fed : (old new : Tributaries S C shape tx) (path : Path) (schedule : Contents) (a b : Inputs) → meanings new ≡ meanings old → b.holds ≡ a.holds → AreFed old path schedule a → AreFed new path schedule b
  still_fed old new path schedule a b same holds fed = record {
    lists = λ k leaf. subst (λ (h : ℕ → Bool). IsTrue (h k)) (sym holds) (fed.lists k (subst (λ (ms : List Meaning). any_leaf ms k ≡ true) same leaf));
    node = fed.node;
    nodes = subst (EachInChain schedule.levels) (sym same) fed.nodes;
  }

  -- and so is each of them
  pub fed_one : (ts : Tributaries S C shape tx) (path : Path) (schedule : Contents) (a : Inputs) (i : ℕ) (w : Tributary C) → slice_get ts.list.items i ≡ Some w → AreFed ts path schedule a → IsFed (meaning_in tx w) schedule a
  fed_one ts path schedule a i w here fed =
      let maker : slice_get (meanings ts) i ≡ Some (meaning_in tx w) = slice_get-map (meaning_in tx) ts.list.items i ∙ rw here refl in
      record { lists = λ k leaf. fed.lists k (leaf_of (meanings ts) i k (meaning_in tx w) maker leaf); nodes = fed.nodes i (meaning_in tx w) maker }
