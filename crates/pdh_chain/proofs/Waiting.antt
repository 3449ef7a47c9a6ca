-- Bits that are taken of what waits in the lists of a feed.
use Rattle.std.proofs.Common.{◌≡◌, ℕ, zero, suc, ◌+◌, Bool, List, [], ◌∷◌, ◌++◌, length, take, Option, Some, None, refl, sym, ap, ◌∙◌, arith}
use Rattle.std.specs.Option.{option_map}
use Rattle.std.proofs.lemmas.List.{take_all, take-append-le}
use Rattle.std.proofs.lemmas.Option.{same_Some}
use Rattle.pdh_shape.specs.declared.role.Service.{Service}
use Rattle.pdh_edge.specs.Ports.{Inputs, Takes, before, only_waiting, TakesWaiting}
use Rattle.pdh_tx.specs.Meaning.{Plan, Supply, Meaning}
use Rattle.pdh_tx.specs.Making.{MakesAll}

take_then : (xs ys : List Bool) (n m : ℕ) → n ≡ length xs + m → take n (xs ++ ys) ≡ xs ++ take m ys
take_then [] ys n m is = ap (λ v. take v ys) (omega (arith, is))
take_then (x ∷ xs) ys zero m is = absurd (omega (arith, is))
take_then (x ∷ xs) ys (suc n) m is = ap (λ v. x ∷ v) (take_then xs ys n m (omega (arith, is)))

-- the front of a list
front : (xs ys : List Bool) (n : ℕ) → n ≡ length xs → take n (xs ++ ys) ≡ xs
front xs ys n is = take-append-le n xs ys (omega (arith, is)) ∙ take_all n xs (omega (arith, is))

same_front : (xs ys more rest : List Bool) → length xs ≡ length ys → xs ++ more ≡ ys ++ rest → xs ≡ ys
same_front xs ys more rest long same = sym (front xs more (length xs) refl) ∙ ap (take (length xs)) same ∙ front ys rest (length xs) long

told_of : (taken given : List Bool) (old new : Option (List Bool)) (n m : ℕ) → old ≡ before taken new → length taken ≡ length given → n ≡ length taken + m
    → option_map (take n) old ≡ before given (option_map (take m) new) → old ≡ before given new
told_of taken given old None n m told long fewer part = told
told_of taken given old (Some rest) n m told long fewer part =
    let all : take n (taken ++ rest) ≡ given ++ take m rest = same_Some _ _ (sym (ap (option_map (take n)) told) ∙ part) in
    let same : taken ≡ given = same_front taken given (take m rest) (take m rest) long (sym (take_then taken rest n m fewer) ∙ all) in
    told ∙ ap (λ bits. Some (bits ++ rest)) same

waiting_taken : {a b : Inputs} {x y : ℕ → ℕ} {given : ℕ → List Bool} → TakesWaiting a b x y → Takes given (only_waiting a x) (only_waiting b y) → Takes given a b
waiting_taken {a} {b} {x} {y} {given} t p =
    let long : (k : ℕ) → length (t.given k) ≡ length (given k) = λ k. omega (arith, t.fewer k, p.counts k) in
    record {
      counts = λ k. omega (arith, t.takes.counts k, long k);
      bits = λ k. told_of (t.given k) (given k) (a.told k) (b.told k) (x k) (y k) (t.takes.bits k) (long k) (t.fewer k) (p.bits k);
    }

-- bits of a line that take what waits are bits of the line
pub made_of_waiting : (m : Meaning) (now : Service) (placed : ℕ → Type 0) (old new : Supply → ℕ → Type 0) (plan : Plan) (from to : ℕ) (bits : List Bool) {a b : Inputs} {x y : ℕ → ℕ} → TakesWaiting a b x y
    → MakesAll m now placed old new plan from to bits (only_waiting a x) (only_waiting b y) → MakesAll m now placed old new plan from to bits a b
made_of_waiting m now placed old new plan from to bits t p = record {
  given = p.given;
  gives = record { takes = waiting_taken t p.gives.takes; others = p.gives.others; exact = p.gives.exact };
  count = p.count;
  place = p.place;
  onward = p.onward;
}
