-- Bits of a line that are made, one call after another.
use Rattle.std.proofs.Common.{◌≡◌, ℕ, suc, ◌≤◌, Bool, List, [], ◌++◌, refl, sym, ap, subst, ◌∙◌, arith}
use Rattle.std.proofs.lemmas.List.{length-append}
use Rattle.pdh_edge.specs.Ports.{Inputs, nothing}
use Rattle.pdh_shape.specs.declared.role.Service.{Service}
use Rattle.pdh_tx.specs.declared.tx.TxStop.{TxStop}
use Rattle.pdh_tx.specs.Meaning.{Meaning, Plan, Supply}
use Rattle.pdh_tx.specs.Held.{Halts}
use Rattle.pdh_tx.specs.Making.{IsClear, MakesAll}
use Rattle.pdh_tx.proofs.Moving.{takes_join, takes_none, agrees_left, agrees_right}
use Rattle.pdh_tx.proofs.Gaining.{halts_more}
use Rattle.pdh_tx.proofs.Passing.{part_then}

pub all_none : {now : Service} (m : Meaning) (placed : ℕ → Type 0) (old : Supply → ℕ → Type 0) (plan : Plan) (a b : ℕ) (bits : List Bool) (x : Inputs) → a ≡ b → bits ≡ [] → placed a → MakesAll m now placed old old plan a b bits x x
all_none {now = now} m placed old plan a b bits x same none here =
    let made : MakesAll m now placed old old plan a a [] x x = record {
      given = nothing;
      gives = record { takes = takes_none x; others = λ k out. refl; exact = λ k leaf. omega arith };
      count = omega arith;
      place = here;
      onward = λ supply s. (refl, s.stands);
    } in
    subst (λ bits. MakesAll m now placed old old plan a b bits x x) (sym none) (subst (λ b. MakesAll m now placed old old plan a b [] x x) same made)

pub all_then : {now : Service} (m : Meaning) (placed placed' : ℕ → Type 0) (old mid new : Supply → ℕ → Type 0) (plan : Plan) (a b c : ℕ) (xs ys : List Bool) (x y z : Inputs) → MakesAll m now placed old mid plan a b xs x y
    → MakesAll m now placed' mid new plan b c ys y z → MakesAll m now placed' old new plan a c (xs ++ ys) x z
all_then {now = now} m placed placed' old mid new plan a b c xs ys x y z p q = record {
  given = λ k. p.given k ++ q.given k;
  gives = record {
    takes = takes_join p.given q.given x y z p.gives.takes q.gives.takes;
    others = λ k out. ap (λ v. v ++ q.given k) (p.gives.others k out) ∙ q.gives.others k out;
    exact = λ k leaf. omega (arith, p.gives.exact k leaf, q.gives.exact k leaf, length-append (p.given k) (q.given k));
  };
  count = omega (arith, length-append xs ys, p.count, q.count);
  place = q.place;
  onward = λ supply s.
      let first = p.onward supply (record { plan_is = s.plan_is; said = λ y l h. s.said y l (let e = q.count in omega arith); stands = s.stands; agrees = agrees_left m.leaves supply.lists (m.given plan a) p.given q.given s.agrees }) in
      let rest = q.onward supply (record { plan_is = s.plan_is; said = λ y l h. s.said y (let e = p.count in omega arith) h; stands = first.1; agrees = agrees_right m.leaves supply.lists (m.given plan a) (m.given plan b) p.given q.given p.gives.exact s.agrees }) in
      (part_then (m.line supply) xs ys a b p.count first.0 rest.0, rest.1);
}

-- nothing stands in the way of what follows
pub clear_rest : {now : Service} (m : Meaning) (placed : ℕ → Type 0) (old mid : Supply → ℕ → Type 0) (plan : Plan) (a b c to : ℕ) (xs : List Bool) (x y : Inputs) → MakesAll m now placed old mid plan a b xs x y → c ≤ to → IsClear m plan a to x → IsClear m plan b c y
clear_rest {now = now} m placed old mid plan a b c to xs x y p most clear = record {
  size = clear.size;
  fits = λ k leaf. omega (arith, clear.fits k leaf, p.gives.exact k leaf, p.gives.takes.counts k);
  clear = λ k from below. clear.clear k (omega (arith, p.count)) (omega arith);
  no_slip = λ k from below. clear.no_slip k (omega (arith, p.count)) (omega arith);
}

-- what was made before a call that failed, and what that call took
pub halts_after : {now : Service} (m : Meaning) (placed : ℕ → Type 0) (old mid : Supply → ℕ → Type 0) (plan : Plan) (a b c : ℕ) (xs : List Bool) (stop : TxStop) (x y z : Inputs) → MakesAll m now placed old mid plan a b xs x y → Halts m plan b c stop y z → Halts m plan a c stop x z
halts_after {now = now} m placed old mid plan a b c xs stop x y z p q = record {
  given = λ k. p.given k ++ q.given k;
  takes = takes_join p.given q.given x y z p.gives.takes q.takes;
  others = λ k out. ap (λ v. v ++ q.given k) (p.gives.others k out) ∙ q.others k out;
  no_more = λ k leaf. omega (arith, p.gives.exact k leaf, q.no_more k leaf, length-append (p.given k) (q.given k));
  used_up = q.used_up;
}

-- the same, where the later call's meaning, service bits, end and bits are these
pub all_more : {now now' : Service} (m m' : Meaning) (placed placed' : ℕ → Type 0) (old mid new : Supply → ℕ → Type 0) (plan : Plan) (a b c to : ℕ) (xs ys zs : List Bool) (x y z : Inputs) → m' ≡ m → now' ≡ now → c ≡ to → zs ≡ xs ++ ys
    → MakesAll m now placed old mid plan a b xs x y → MakesAll m' now' placed' mid new plan b c ys y z → MakesAll m now placed' old new plan a to zs x z
all_more {now = now} {now' = now'} m m' placed placed' old mid new plan a b c to xs ys zs x y z same says end all p q =
    let step : MakesAll m now placed' mid new plan b c ys y z = subst (λ now. MakesAll m now placed' mid new plan b c ys y z) says (subst (λ m. MakesAll m now' placed' mid new plan b c ys y z) same q) in
    subst (λ to. MakesAll m now placed' old new plan a to zs x z) end (subst (λ bits. MakesAll m now placed' old new plan a c bits x z) (sym all) (all_then m placed placed' old mid new plan a b c xs ys x y z p step))

pub clear_next : {now : Service} (m m' : Meaning) (placed : ℕ → Type 0) (old mid : Supply → ℕ → Type 0) (plan : Plan) (a b c to : ℕ) (xs : List Bool) (x y : Inputs) → m' ≡ m → MakesAll m now placed old mid plan a b xs x y → c ≤ to → IsClear m plan a to x → IsClear m' plan b c y
clear_next {now = now} m m' placed old mid plan a b c to xs x y same p most clear = subst (λ m. IsClear m plan b c y) (sym same) (clear_rest m placed old mid plan a b c to xs x y p most clear)

pub halts_within : {now : Service} (m m' : Meaning) (placed : ℕ → Type 0) (old mid : Supply → ℕ → Type 0) (plan : Plan) (a b c to : ℕ) (xs : List Bool) (stop : TxStop) (x y z : Inputs) → m' ≡ m → c ≤ to → ((n k : ℕ) → m.given plan n k ≤ m.given plan (suc n) k)
    → MakesAll m now placed old mid plan a b xs x y → Halts m' plan b c stop y z → Halts m plan a to stop x z
halts_within {now = now} m m' placed old mid plan a b c to xs stop x y z same most grows p q =
    halts_more m plan a c to stop x z grows most (halts_after m placed old mid plan a b c xs stop x y z p (subst (λ m. Halts m plan b c stop y z) same q))

pub all_end : {now : Service} (m : Meaning) (placed : ℕ → Type 0) (old new : Supply → ℕ → Type 0) (plan : Plan) (a b to : ℕ) (xs : List Bool) (x y : Inputs) → b ≡ to → MakesAll m now placed old new plan a b xs x y → MakesAll m now placed old new plan a to xs x y
all_end {now = now} m placed old new plan a b to xs x y end p = subst (λ to. MakesAll m now placed old new plan a to xs x y) end p
