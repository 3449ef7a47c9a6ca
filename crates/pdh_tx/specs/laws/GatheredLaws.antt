-- What was gathered before a slot was gathered behind the slot before it.
use Rattle.std.proofs.Common.{◌≡◌, inl, inr, ℕ, suc, ◌+◌, ◌*◌, ◌<◌, ap, sym, subst, ◌∙◌, arith}
use Rattle.std.proofs.lemmas.Bool.{cases_lt}
use Rattle.pdh_shape.specs.declared.place.Path.{Path}
use Rattle.pdh_shape.specs.declared.shape.Shape as shape
use Rattle.pdh_shape.specs.Frame.{FrameShape, IsFrame}
use Rattle.pdh_shape.specs.OwnNumbers.{store_size}
use Rattle.pdh_shape.specs.Tributary.{HasTributaries}
use Rattle.pdh_line.specs.Sending.{HasStores, taken}
use Rattle.pdh_tx.specs.declared.tributaries.Tributaries.{Tributaries}
use Rattle.pdh_tx.specs.declared.tx.Tx.{Ghosts}
use Rattle.pdh_tx.specs.Meaning.{Plan, Supply}
use Rattle.pdh_tx.specs.Held.{Readout}
use Rattle.pdh_tx.specs.Slipping.{read_to, HoldsMost}
use Rattle.pdh_tx.specs.Node.{below, came_at}
use Rattle.pdh_tx.specs.Tributaries.{HaveDecided}
use Rattle.pdh_tx.specs.Batches.{IsBefore}
use Rattle.pdh_tx.specs.Gathered.{IsGathered, HoldsGathered, Gathered, HoldGathered}
use Rattle.pdh_tx.specs.Follows.{Follows}
use Rattle.pdh_tx.specs.laws.Each.{inside}
use Rattle.pdh_tx.specs.laws.Stepping.{taken_later, came_follows, read_follows}

module _ {S C : Type 0} {shape : shape.Ghosts S} {tx : Ghosts C} (frame : IsFrame shape.shape) (stores : HasStores shape.shape) (has : HasTributaries shape.shape) (tribs : shape.shape.tribs ≡ shape.TRIBS) (b : Tributaries S C shape tx) (path : Path) (plan : Plan) where
  abbrev s : FrameShape
  s = shape.shape

  module _ (n t n' t' : ℕ) (follows : Follows s n t n' t') where
    later : 0 < n' + t'
    later = elim (cases_lt 0 (n' + t')) [
      | inl more ↦ more
      | inr none ↦
          let first : n' ≡ 0 = omega (arith, none) in
          let whole : n' * s.len ≡ 0 = ap (λ m. m * s.len) first ∙ omega arith in
          absurd (omega (arith, follows.place, whole, none))
    ]

    same_came : (j : ℕ) → came_at s path plan n (suc t) j ≡ came_at s path plan n' t' j
    same_came j = came_follows s n t n' t' follows path plan j frame ∙ taken_later s path plan n' t' j later

    same_read : (j : ℕ) → j < s.tribs → read_to s path plan n (suc t) j ≡ read_to s path plan n' t' j
    same_read j known = read_follows s n t n' t' follows path plan j stores has known

  pub gathered_follows : (end n t n' t' : ℕ) → Follows s n t n' t' → Gathered b path plan n (suc t) end → Gathered b path plan n' t' end
  gathered_follows end n t n' t' follows was =
      let before : (m u : ℕ) → IsBefore s n' t' end m u → IsBefore s n (suc t) end m u = λ m u is. record { inside = is.inside; from = omega (arith, is.from, follows.place); to = is.to } in
      record {
        made = λ j w queue here there.
            let known : j < s.tribs = omega (arith, inside b.list.items j w here, b.count, tribs) in
            let e : ℕ = taken s (plan.counts path j) end in
            subst (λ (r : Readout). IsGathered tx w.child queue plan e (came_at s path plan n' t' j) r) (same_read n t n' t' follows j known)
            (subst (λ k. IsGathered tx w.child queue plan e k (read_to s path plan n (suc t) j)) (same_came n t n' t' follows j) (was.made j w queue here there));
        empty = was.empty;
        few = λ j known.
            subst (λ (r : Readout). HoldsMost r (came_at s path plan n' t' j) store_size) (same_read n t n' t' follows j known)
            (subst (λ k. HoldsMost (read_to s path plan n (suc t) j) k store_size) (same_came n t n' t' follows j) (was.few j known));
        decided = λ h. subst (λ v. HaveDecided b path plan v) (sym (follows.within h).0) (was.decided (omega arith));
        scheduled = λ h. subst (λ v. v < plan.frames path) (sym (follows.within h).0) (was.scheduled (omega arith));
        bounded = was.bounded;
        upto = omega (arith, was.upto, follows.place);
        some = was.some;
        size = was.size;
        slots = record { clear = λ m u is. was.slots.clear m u (before m u is); no_slip = λ m u is. was.slots.no_slip m u (before m u is) };
      }

  pub gathered_holds : (supply : Supply) (end n t n' t' : ℕ) → Follows s n t n' t' → HoldGathered b path plan supply n (suc t) end → HoldGathered b path plan supply n' t' end
  gathered_holds supply end n t n' t' follows was j w queue here there =
      let known : j < s.tribs = omega (arith, inside b.list.items j w here, b.count, tribs) in
      let e : ℕ = taken s (plan.counts path j) end in
      subst (λ (r : Readout). HoldsGathered tx w.child queue (below supply) e (came_at s path plan n' t' j) r) (same_read n t n' t' follows j known)
      (subst (λ k. HoldsGathered tx w.child queue (below supply) e k (read_to s path plan n (suc t) j)) (same_came n t n' t' follows j) (was j w queue here there))
