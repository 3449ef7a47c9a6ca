-- What was gathered before a slot was gathered behind the slot before it.
use Rattle.std.proofs.Common.{◌≡◌, ℕ, suc, ◌<◌, sym, subst, arith}
use Rattle.pdh_shape.specs.declared.place.Path.{Path}
use Rattle.pdh_shape.specs.declared.shape.Shape as shape
use Rattle.pdh_shape.specs.Tributary.{HasTributaries}
use Rattle.pdh_tx.specs.declared.tx.Tx.{Ghosts}
use Rattle.pdh_tx.specs.Meaning.{Plan, Supply}
use Rattle.pdh_tx.specs.Node.{below}
use Rattle.pdh_tx.specs.Batches.{IsBefore}
use Rattle.pdh_tx.specs.Follows.{Follows}
use Rattle.pdh_tx.specs.laws.Each.{inside}
use Rattle.pdh_locked.specs.declared.children.Children.{Children}
use Rattle.pdh_locked.specs.Children.{locked_kind}
use Rattle.pdh_locked.specs.Gathered.{IsGathered, HoldsGathered, Gathered, HoldGathered}
use Rattle.pdh_locked.specs.laws.LockedLaws.{locked_follows}

module _ {S C : Type 0} {shape : shape.Ghosts S} {tx : Ghosts C} (has : HasTributaries shape.shape) (tribs : shape.shape.tribs ≡ shape.TRIBS) (b : Children S C shape tx) (path : Path) (plan : Plan) where
  pub gathered_follows : (end n t n' t' : ℕ) → Follows shape.shape n t n' t' → Gathered b path plan n (suc t) end → Gathered b path plan n' t' end
  gathered_follows end n t n' t' follows was =
      let before : (m u : ℕ) → IsBefore shape.shape n' t' end m u → IsBefore shape.shape n (suc t) end m u = λ m u is. record { inside = is.inside; from = omega (arith, is.from, follows.place); to = is.to } in
      record {
        made = λ j child queue here there.
            subst (λ k. IsGathered tx child queue plan ((locked_kind shape.shape).by path plan j end) k) (locked_follows shape.shape has n t n' t' follows j (omega (arith, inside b.list.items j child here, b.count, tribs)))
            (was.made j child queue here there);
        scheduled = λ h. subst (λ v. v < plan.frames path) (sym (follows.within h).0) (was.scheduled (omega arith));
        bounded = was.bounded;
        upto = omega (arith, was.upto, follows.place);
        size = was.size;
        slots = record { clear = λ m u is. was.slots.clear m u (before m u is); no_slip = λ m u is. was.slots.no_slip m u (before m u is) };
      }

  pub gathered_holds : (supply : Supply) (end n t n' t' : ℕ) → Follows shape.shape n t n' t' → HoldGathered b path plan supply n (suc t) end → HoldGathered b path plan supply n' t' end
  gathered_holds supply end n t n' t' follows was j child queue here there =
      subst (λ k. HoldsGathered tx child queue (below supply) ((locked_kind shape.shape).by path plan j end) k) (locked_follows shape.shape has n t n' t' follows j (omega (arith, inside b.list.items j child here, b.count, tribs)))
      (was j child queue here there)
