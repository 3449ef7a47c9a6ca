-- Bits that are taken of one list and appended to another, one call after another.
use Rattle.std.proofs.Common.{◌≡◌, ℕ, ◌+◌, Bool, List, [], ◌++◌, length, refl, sym, ap, ◌∙◌, subst, arith, append_assoc, Some, None, Option}
use Rattle.std.proofs.lemmas.List.{length-append}
use Rattle.pdh_bits.specs.BitOut.{BoundedBits}
use Rattle.pdh_packed.specs.Gaining.{gained, IsGrown}
use Rattle.pdh_packed.proofs.GainingLaws.{grown_none, grown_then, gained_none, gained_then}
use Rattle.pdh_edge.specs.Ports.{Inputs, Takes, before, for_leaf}
use Rattle.pdh_edge.proofs.Runs.{for_leaf_none, for_leaf_then}

before_none : (t : Option (List Bool)) → t ≡ before [] t
before_none None = refl
before_none (Some list) = refl

before_then : (a b : List Bool) (t : Option (List Bool)) → before a (before b t) ≡ before (a ++ b) t
before_then a b None = refl
before_then a b (Some list) = ap Some (sym (append_assoc a b list))

takes_none : (leaf : ℕ) (x : Inputs) → Takes (for_leaf leaf []) x x
takes_none leaf x = record {
  counts = λ k. let none : length (for_leaf leaf [] k) ≡ 0 = ap length (sym (for_leaf_none leaf k)) in omega (arith, none);
  bits = λ k. before_none (x.told k) ∙ ap (λ bits. before bits (x.told k)) (for_leaf_none leaf k);
}

takes_then : (leaf : ℕ) (xs ys : List Bool) (x y z : Inputs) → Takes (for_leaf leaf xs) x y → Takes (for_leaf leaf ys) y z → Takes (for_leaf leaf (xs ++ ys)) x z
takes_then leaf xs ys x y z p q = record {
  counts = λ k.
      let both : length (for_leaf leaf (xs ++ ys) k) ≡ length (for_leaf leaf xs k) + length (for_leaf leaf ys k) =
      ap length (sym (for_leaf_then leaf xs ys k)) ∙ length-append (for_leaf leaf xs k) (for_leaf leaf ys k) in
      omega (arith, p.counts k, q.counts k, both);
  bits = λ k. p.bits k ∙ ap (before (for_leaf leaf xs k)) (q.bits k) ∙ before_then (for_leaf leaf xs k) (for_leaf leaf ys k) (z.told k) ∙ ap (λ bits. before bits (z.told k)) (for_leaf_then leaf xs ys k);
}

-- so many bits of a leaf's list were taken and appended
pub record Took (leaf : ℕ) (old new : BoundedBits) (count : ℕ) (x y : Inputs) : Type 0 where
  pub grown : IsGrown old new count
  pub takes : Takes (for_leaf leaf (gained old new)) x y

pub took_none : (leaf : ℕ) (list : BoundedBits) (x : Inputs) → Took leaf list list 0 x x
took_none leaf list x = record {
  grown = grown_none list;
  takes = subst (λ (bits : List Bool). Takes (for_leaf leaf bits) x x) (sym (gained_none list)) (takes_none leaf x);
}

pub took_more : (leaf : ℕ) (old mid new : BoundedBits) (count more : ℕ) (x y z : Inputs) → Took leaf old mid count x y → IsGrown mid new more → Takes (for_leaf leaf (gained mid new)) y z → Took leaf old new (count + more) x z
took_more leaf old mid new count more x y z before grown takes = record {
  grown = grown_then old mid new count more before.grown grown;
  takes = subst (λ (bits : List Bool). Takes (for_leaf leaf bits) x z) (sym (gained_then old mid new count more before.grown grown))
      (takes_then leaf (gained old mid) (gained mid new) x y z before.takes takes);
}
