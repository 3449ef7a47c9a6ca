-- A multiplexer without stores that has made no bit.
use Rattle.std.proofs.Common.{◌≡◌, ℕ, List, refl, subst, arith, Some, slice_get}
use Rattle.std.specs.Prelude.{All}
use Rattle.std.proofs.lemmas.Option.{get_or_from_slice_get}
use Rattle.pdh_shape.specs.declared.place.Path.{Path}
use Rattle.pdh_shape.specs.Frame.{FrameShape}
use Rattle.pdh_tx.specs.declared.tx.Tx.{Ghosts}
use Rattle.pdh_tx.specs.Meaning.{Plan, Supply, IsFresh}
use Rattle.pdh_tx.specs.Node.{below}
use Rattle.pdh_tx.specs.Locked.{locked_to}
use Rattle.pdh_tx.proofs.Moving.{inside}
use Rattle.pdh_locked.specs.Children.{Stands, StandsFor, Before, HoldTo}

module _ {C : Type 0} (tx : Ghosts C) (s : FrameShape) (path : Path) (children : List C) (fresh : All (IsFresh tx.stands_at tx.stands_for tx.says tx.is_stopped) children) where
  child_fresh : (j : ℕ) (c : C) → slice_get children j ≡ Some c → IsFresh tx.stands_at tx.stands_for tx.says tx.is_stopped c
  child_fresh j c e = subst (IsFresh tx.stands_at tx.stands_for tx.says tx.is_stopped) (get_or_from_slice_get children j c c e) (fresh j c (inside children j c e))

  none_read : (j : ℕ) → 0 ≡ locked_to s 0 0 j
  none_read j = omega arith

  pub opened_before : (plan : Plan) → Before tx s path plan children 0 0
  opened_before plan = record {
    made = λ j c e.
        let child = child_fresh j c e in
        subst (Stands tx c plan) (none_read j) (record { runs = child.runs; idles = child.idles; place = child.placed plan });
    scheduled = λ h. absurd (omega (arith, h));
    bounded = λ h. absurd (omega (arith, h));
  }

  pub opened_holds : (supply : Supply) → HoldTo tx s path supply.plan children 0 0 supply
  opened_holds supply j c e = subst (StandsFor tx c (below supply)) (none_read j) (record { quiet = λ n. refl; made_for = (child_fresh j c e).held (below supply) })
