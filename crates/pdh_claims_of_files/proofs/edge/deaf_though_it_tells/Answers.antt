use Rattle.std.proofs.Common.{◌≡◌, ◌∙◌, inl, inr, Some, None, sym, ap}
use Rattle.std.proofs.lemmas.Bool.{cases_Bool}
use Rattle.pdh_edge.specs.Ports.{Outputs}
use Rattle.pdh_claims_of_files.proofs.edge.deaf_though_it_tells.Goals as goal

some_none : {X : Type 0} (x : X) → Some x ≡ None → ⊥
some_none x e = cc

pub returns : goal.returns
returns g c = elim (cases_Bool c.is_deaf.result) [
  | inl deaf ↦ absurd (some_none _ (sym c.requires ∙ ap (λ (outputs : Outputs). outputs.told 0) (c.is_deaf.ensures deaf)))
  | inr hears ↦ hears
]
