-- Bits of a line that are made, where the leaves gave those of later bits too.
use Rattle.std.proofs.Common.{◌≡◌, ℕ, ◌+◌, ◌≤◌, Bool, List, [], ◌++◌, length, refl, sym, ap, ◌∙◌, subst, arith, Option}
use Rattle.std.proofs.lemmas.List.{length-append}
use Rattle.pdh_edge.specs.Ports.{Inputs}
use Rattle.pdh_shape.specs.declared.role.Service.{Service}
use Rattle.pdh_tx.specs.Meaning.{Meaning, Plan, Supply}
use Rattle.pdh_tx.specs.Held.{IsPart}
use Rattle.pdh_tx.specs.Making.{Gives, MakesAll, Stood}
use Rattle.pdh_tx.proofs.Passing.{part_then}

-- The bits between two places were made, and the leaves gave what the line takes up to bit `end`. `placed` tells how many bits the new
-- state has made, and `old` and `new` which supplies the states stand for.
pub record MakesAhead (m : Meaning) (now : Service) (placed : ℕ → Type 0) (old new : Supply → ℕ → Type 0) (plan : Plan) (from to end : ℕ) (bits : List Bool) (before after : Inputs) : Type 0 where
  pub given : ℕ → List Bool
  pub gives : Gives m plan from end given before after
  pub count : from + length bits ≡ to
  pub place : placed to
  pub onward : (supply : Supply) → Stood m now old plan from end given supply → IsPart (m.line supply) bits from × new supply to

-- no bit yet
pub ahead_none : (m : Meaning) (now : Service) (placed : ℕ → Type 0) (old new : Supply → ℕ → Type 0) (plan : Plan) (from to end : ℕ) (bits : List Bool) (given : ℕ → List Bool) (a b : Inputs) → bits ≡ [] → from ≡ to → Gives m plan from end given a b → placed from
    → ((supply : Supply) → Stood m now old plan from end given supply → new supply from) → MakesAhead m now placed old new plan from to end bits a b
ahead_none m now placed old new plan from to end bits given a b none same gives here onward =
    let made : MakesAhead m now placed old new plan from from end [] a b = record { given = given; gives = gives; count = omega arith; place = here; onward = λ supply stood. (refl, onward supply stood) } in
    subst (λ (l : List Bool). MakesAhead m now placed old new plan from to end l a b) (sym none) (subst (λ to. MakesAhead m now placed old new plan from to end [] a b) same made)

-- more bits, for which the leaves gave nothing then; `still` is what makes them
pub ahead_then : (m still : Meaning) (now now' : Service) (placed placed' : ℕ → Type 0) (old mid new : Supply → ℕ → Type 0) (plan : Plan) (from to last more end : ℕ) (xs ys zs : List Bool) (a b z : Inputs) → last ≡ more → still.line ≡ m.line → still.begins ≡ m.begins → ((k : ℕ) → still.given plan to k ≡ still.given plan more k)
    → now' ≡ now → more ≤ end → zs ≡ xs ++ ys → MakesAhead m now placed old mid plan from to end xs a b → MakesAll still now' placed' mid new plan to last ys z z → MakesAhead m now placed' old new plan from more end zs a b
ahead_then m still now now' placed placed' old mid new plan from to last more end xs ys zs a b z same line begins stays says upto all p made =
    let q : MakesAll still now' placed' mid new plan to more ys z z = subst (λ y. MakesAll still now' placed' mid new plan to y ys z z) same made in
    record {
      given = p.given;
      gives = p.gives;
      count = omega (arith, p.count, q.count, length-append xs ys, ap length all);
      place = q.place;
      onward = λ supply stood.
          let first = p.onward supply stood in
          let rest = q.onward supply (record {
            plan_is = stood.plan_is;
            said = λ y l h n e. stood.said y (omega (arith, p.count, l)) (omega (arith, h, upto)) n (ap (λ (f : ℕ → Option ℕ). f y) (sym begins) ∙ e) ∙ sym says;
            stands = first.1;
            agrees = λ k leaf i less. absurd (omega (arith, q.gives.exact k leaf, stays k, less));
          }) in
          let P : (Supply → ℕ → Bool) → Type 0 = λ bit. IsPart (bit supply) ys to in (
            subst (λ (l : List Bool). IsPart (m.line supply) l from) (sym all) (part_then (m.line supply) xs ys from to p.count first.0 (subst P line rest.0)),
            rest.1,
          );
    }

-- all of them
pub ahead_all : (m : Meaning) (now : Service) (placed placed' : ℕ → Type 0) (old mid new : Supply → ℕ → Type 0) (plan : Plan) (from to end : ℕ) (bits : List Bool) (a b : Inputs) → to ≡ end → (placed end → placed' end) → ((supply : Supply) → supply.plan ≡ plan → placed end → mid supply end → new supply end)
    → MakesAhead m now placed old mid plan from to end bits a b → MakesAll m now placed' old new plan from end bits a b
ahead_all m now placed placed' old mid new plan from to end bits a b done back into p =
    let all : MakesAhead m now placed old mid plan from end end bits a b = subst (λ to. MakesAhead m now placed old mid plan from to end bits a b) done p in
    record {
      given = all.given;
      gives = all.gives;
      count = all.count;
      place = back all.place;
      onward = λ supply stood. (let both = all.onward supply stood in (both.0, into supply stood.plan_is all.place both.1));
    }
