-- Many bits of a leaf.
use Rattle.std.proofs.Common.{◌≡◌, ℕ, ◌+◌, ◌<◌, ◌≤◌, Bool, false, List, [], length, get_or, cond, refl, sym, ap, ◌∙◌, subst, eq-eqb, arith}
use Rattle.pdh_edge.specs.Ports.{Inputs, Takes, for_leaf}
use Rattle.pdh_shape.specs.declared.role.Service.{Service}
use Rattle.pdh_tx.specs.declared.tx.TxStop.TheVariants.{Failed}
use Rattle.pdh_tx.specs.Meaning.{Plan, Supply}
use Rattle.pdh_tx.specs.Leaf.{leaf_meaning}
use Rattle.pdh_tx.specs.Held.{Halts}
use Rattle.pdh_tx.specs.Making.{MakesAll}
use Rattle.pdh_tx.proofs.NodePieces.{part_of}

pub leaf_makes : {now : Service} (leaf : ℕ) (placed : ℕ → Type 0) (old new : Supply → ℕ → Type 0) (plan : Plan) (x to : ℕ) (bits : List Bool) (a b : Inputs) → placed to → ((supply : Supply) → new supply to) → x + length bits ≡ to → Takes (for_leaf leaf bits) a b
    → MakesAll (leaf_meaning leaf) now placed old new plan x to bits a b
leaf_makes leaf placed old new plan x to bits a b here stands count takes = record {
  given = for_leaf leaf bits;
  gives = record {
    takes = takes;
    others = λ k h. ap (λ b. cond b bits []) h;
    exact = λ k h. ap (λ b. x + length (cond b bits [])) h ∙ count;
  };
  count = count;
  place = here;
  onward = λ supply s.
      let is : for_leaf leaf bits leaf ≡ bits = ap (λ b. cond b bits []) (eq-eqb leaf leaf refl) in (
        part_of (supply.lists leaf) bits x false (λ v h.
            let P : List Bool → Type 0 = λ l. v < length l in
            ap (λ l. get_or l v false) (sym is) ∙ s.agrees leaf (eq-eqb leaf leaf refl) v (subst P (sym is) h)),
        stands supply,
      );
}

-- a call failed behind some of its bits
pub leaf_halts : (leaf : ℕ) (plan : Plan) (x to : ℕ) (bits : List Bool) (a b : Inputs) → x + length bits ≤ to → Takes (for_leaf leaf bits) a b → Halts (leaf_meaning leaf) plan x to Failed a b
leaf_halts leaf plan x to bits a b few takes = record {
  given = for_leaf leaf bits;
  takes = takes;
  others = λ k h. ap (λ (here : Bool). cond here bits []) h;
  no_more = λ k h. (let own : length (for_leaf leaf bits k) ≡ length bits = ap (λ (here : Bool). length (cond here bits [])) h in omega (arith, own, few));
  used_up = tt;
}
