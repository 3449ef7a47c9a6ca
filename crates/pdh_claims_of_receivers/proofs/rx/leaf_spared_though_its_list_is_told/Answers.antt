use Rattle.std.proofs.Common.{◌≡◌, ◌∙◌, inl, inr, true, [], ◌∷◌, ◌++◌, cond, refl, Some, sym, ap, subst, eq-eqb}
use Rattle.std.proofs.lemmas.Bool.{cases_Bool}
use Rattle.std.proofs.lemmas.Option.{same_Some}
use Rattle.pdh_edge.specs.Ports.{after}
use Rattle.pdh_rx.specs.Meaning.{Meaning, Gains}
use Rattle.pdh_claims_of_receivers.proofs.rx.leaf_spared_though_its_list_is_told.Goals as goal

one_none : {X : Type 0} (x : X) → x ∷ [] ≡ [] → ⊥
one_none x e = cc

pub returns : goal.returns
returns g c = elim (cases_Bool c.is_deaf.result) [
  | inl deaf ↦
      let leaf = c.args.leaf in
      let outputs = g.D.Drain.outputs c.args.drain.now in
      let P : Meaning → Type 0 = λ m. Gains (m.got []) (m.got (true ∷ [])) outputs outputs in
      let gains = subst P c.new.ensures.meaning (((c.is_deaf.ensures deaf).taken (true ∷ [])).gains [] (c.new.ensures.stands [])) in
      let none : [] ≡ gains.more leaf = same_Some _ _ (sym c.requires ∙ gains.puts leaf ∙ ap (after (gains.more leaf)) c.requires) in
      let gained : true ∷ [] ≡ gains.more leaf = sym (ap (λ b. cond b (true ∷ []) []) (eq-eqb leaf leaf refl)) ∙ gains.gained leaf ∙ ap (λ b. cond b [] [] ++ gains.more leaf) (eq-eqb leaf leaf refl) in
      absurd (one_none true (gained ∙ sym none))
  | inr hears ↦ hears
]
