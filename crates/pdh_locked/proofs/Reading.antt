-- One child that gives its next bit.
use Rattle.std.proofs.Common.{◌≡◌, inl, inr, ℕ, suc, ◌+◌, ◌≤◌, Bool, true, false, List, [], ◌∷◌, length, map, refl, sym, ap, ◌∙◌, subst, arith, Some, slice_get, slice_set}
use Rattle.std.proofs.lemmas.Bool.{cases_Bool, cases_eq}
use Rattle.std.proofs.lemmas.Option.{slice_get-map}
use Rattle.pdh_edge.specs.Ports.{Inputs}
use Rattle.pdh_shape.specs.Frame.{FrameShape}
use Rattle.pdh_shape.specs.Tributary.{turned}
use Rattle.pdh_tx.specs.declared.tx.Tx.{Ghosts}
use Rattle.pdh_tx.specs.declared.tx.TxStop.{TxStop}
use Rattle.pdh_tx.specs.Meaning.{Meaning, Plan, Makes, Stops}
use Rattle.pdh_tx.specs.Held.{first_some}
use Rattle.pdh_tx.specs.Node.{line_of, obstacle_of, given_by, set_at, IsDisjoint, EachPlaced, Blocked}
use Rattle.pdh_tx.specs.laws.Growing.{given_more}
use Rattle.pdh_tx.proofs.Moving.{leaf_of, not_leaf, given_at, given_same, each_set, set_here, set_other, fit_one, stays_one}
use Rattle.pdh_tx.proofs.Lists.{some_same}
use Rattle.pdh_locked.specs.Children.{Stands, StandsFor, placed_in, held_in, Reads}

module _ {C : Type 0} (tx : Ghosts C) (plan : Plan) (old : List C) (i : ℕ) (w : C) (made : ℕ → ℕ) (dis : IsDisjoint (map tx.meaning old)) (at : slice_get old i ≡ Some w) where
  abbrev ms : List Meaning
  ms = map tx.meaning old

  abbrev next : ℕ → ℕ
  next = set_at made i (suc (made i))

  pub maker : slice_get ms i ≡ Some (tx.meaning w)
  maker = slice_get-map tx.meaning old i ∙ rw at refl

  pub next_more : (j : ℕ) → made j ≤ next j
  next_more j = elim (cases_eq j i) [
    | inl same ↦ (let P : ℕ → Type 0 = λ v. made v ≤ next v in subst P (sym same) (let e = set_here made i (suc (made i)) in omega arith))
    | inr other ↦ (let e = set_other made i (suc (made i)) j other in omega arith)
  ]

  -- it gave the bit
  pub reads_one : (s : FrameShape) (w' : C) (line bit : Bool) (a b : Inputs) → EachPlaced (placed_in tx) old plan made made → tx.says w' ≡ tx.says w → tx.is_stopped w' ≡ false → bit ≡ turned (s.inverted i) line
      → Makes (tx.meaning w) (tx.says w) (tx.stands_at w' plan) (tx.stands_for w) (tx.stands_for w') plan (made i) line a b
      → Reads tx s plan old (slice_set old i w') made i bit a b
  reads_one s w' line bit a b each same_says runs is makes =
      let was = each i w at in
      let m : Meaning = tx.meaning w in
      record {
        given = makes.given;
        takes = makes.takes;
        others = λ k h. makes.others k (not_leaf ms i k m maker h);
        exact = λ k h. elim (cases_Bool (m.leaves k)) [
          | inl leaf ↦
              let before' : given_by ms plan made k ≡ m.given plan (made i) k = given_at ms plan made i k m dis maker leaf in
              let after' : given_by ms plan next k ≡ m.given plan (suc (made i)) k = given_at ms plan next i k m dis maker leaf ∙ ap (λ v. m.given plan v k) (set_here made i (suc (made i))) in
              let e = makes.exact k leaf in
              omega arith
          | inr other ↦
              let none : length (makes.given k) ≡ 0 = ap length (makes.others k other) in
              let same : given_by ms plan made k ≡ given_by ms plan next k = given_same ms plan made next k
              (λ j n at' leaf. ap (λ v. n.given plan v k) (sym (set_other made i (suc (made i)) j (λ ji. differ (sym other ∙ ap (λ v. v.leaves k) (some_same (sym maker ∙ ap (slice_get ms) (sym ji) ∙ at')) ∙ leaf))))) in
              omega arith
        ];
        place = each_set (λ j c n. Stands tx c plan n) old i w' made (suc (made i)) each (record { runs = runs; idles = same_says ∙ was.idles; place = makes.place });
        free = λ size fit. ap (λ o. obstacle_of o plan size (made i)) maker ∙ makes.free size (fit_one (held_in tx) tx.meaning plan ms i m made a size dis maker fit);
        onward = λ supply plan_is held agrees.
            let own = held i w at in
            let both = makes.onward supply plan_is own.made_for (λ n e. own.quiet n ∙ sym was.idles)
            (λ k leaf n lt. agrees k (leaf_of ms i k m maker leaf) n lt ∙ ap (λ v. supply.lists k (v + n)) (given_at ms plan made i k m dis maker leaf)) in (
              is ∙ ap (turned (s.inverted i)) (both.0 ∙ ap (λ o. line_of o supply (made i)) (sym maker)),
              each_set (λ j c n. StandsFor tx c supply n) old i w' made (suc (made i)) held (record { quiet = own.quiet; made_for = both.1 }),
            );
      }
    where
      differ : false ≡ true → ⊥
      differ h = cc

  -- it stopped
  pub reads_stops : (stop : TxStop) (a b : Inputs) (f g : ℕ) → ((c : C) (x k : ℕ) → (tx.meaning c).given plan x k ≤ (tx.meaning c).given plan (suc x) k)
      → Stops (tx.meaning w) plan (made i) stop a b f g → Blocked ms plan made next (λ size. obstacle_of (slice_get ms i) plan size (made i) ∷ []) stop a b f g
  reads_stops stop a b f g grows stops = record {
    stays = stays_one (held_in tx) tx.meaning plan ms i (tx.meaning w) made next stop a b dis maker
        (λ k leaf. given_more tx.meaning plan old made next k (λ c n k. grows c n k) next_more)
        (record {
          given = stops.given;
          takes = stops.takes;
          others = stops.others;
          no_more = λ k leaf. (let p = stops.no_more k leaf in let e = ap (λ v. (tx.meaning w).given plan v k) (set_here made i (suc (made i))) in omega arith);
          used_up = stops.used_up;
        });
    met = record {
      counted = stops.met.counted;
      is_first = λ h size fit.
          ap (λ o. first_some (obstacle_of o plan size (made i) ∷ [])) maker
          ∙ ap (λ o. first_some (o ∷ [])) (stops.met.is_first h size (fit_one (held_in tx) tx.meaning plan ms i (tx.meaning w) made a size dis maker fit));
    };
  }
