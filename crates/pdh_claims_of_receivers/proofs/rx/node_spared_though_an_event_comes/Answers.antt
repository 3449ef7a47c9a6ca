use Rattle.std.proofs.Common.{[], ◌∷◌, inl, inr}
use Rattle.std.proofs.lemmas.Bool.{cases_Bool}
use Rattle.pdh_claims_of_receivers.proofs.rx.node_spared_though_an_event_comes.Goals as goal

pub returns : goal.returns
returns g c = elim (cases_Bool c.is_deaf.result) [
  | inl deaf ↦ absurd (c.requires.3 ((c.is_deaf.ensures deaf).quiet c.requires.0 (c.requires.1 ∷ []) c.requires.2).0)
  | inr hears ↦ hears
]
