-- One bit of a leaf.
use Rattle.std.proofs.Common.{◌≡◌, ℕ, ◌+◌, ◌<◌, Bool, false, [], ◌∷◌, length, cond, refl, sym, ap, ◌∙◌, arith, eq-eqb, None, Some}
use Rattle.std.proofs.lemmas.Bool.{lt-leb}
use Rattle.pdh_edge.specs.Ports.{Inputs, Takes, only}
use Rattle.pdh_tx.specs.declared.tx.TxStop.TheVariants.{Ended}
use Rattle.pdh_tx.specs.Meaning.{Supply, Plan, Makes}
use Rattle.pdh_shape.specs.Frame.{idle}
use Rattle.pdh_tx.specs.Leaf.{leaf_meaning}

own_bit : (leaf : ℕ) (bit : Bool) → only leaf bit leaf ≡ bit ∷ []
own_bit leaf bit = ap (λ b. cond b (bit ∷ []) []) (eq-eqb leaf leaf refl)

pub leaf_makes : (leaf : ℕ) (bit : Bool) (plan : Plan) (x : ℕ) (old new : Inputs) → Takes (only leaf bit) old new
    → Makes (leaf_meaning leaf) idle (λ (x : ℕ). Unit {0}) (λ (supply : Supply) (x : ℕ). Unit {0}) (λ (supply : Supply) (x : ℕ). Unit {0}) plan x bit old new
leaf_makes leaf bit plan x old new takes = record {
  given = only leaf bit;
  takes = takes;
  others = λ k h. ap (λ b. cond b (bit ∷ []) []) h;
  exact = λ k h. (let e : only leaf bit k ≡ bit ∷ [] = ap (λ b. cond b (bit ∷ []) []) h in let l : length (only leaf bit k) ≡ 1 = ap length e in omega arith);
  free = λ size fits.
      let here = fits leaf (eq-eqb leaf leaf refl) in
      let l : length (only leaf bit leaf) ≡ 1 = ap length (own_bit leaf bit) in
      let more : x < size leaf = omega (arith, takes.counts leaf) in
      ap (λ b. cond b (Some (Ended leaf)) None) (lt-leb _ _ more);
  place = tt;
  onward = λ supply plan stands says agrees.
      let l : length (only leaf bit leaf) ≡ 1 = ap length (own_bit leaf bit) in
      let at = agrees leaf (eq-eqb leaf leaf refl) 0 (omega arith) in
      let e : x + 0 ≡ x = omega arith in
      (sym (ap (λ xs. Rattle.std.specs.List.slice_index_or xs 0 false) (own_bit leaf bit)) ∙ at ∙ ap (supply.lists leaf) e, tt);
}
