-- What waits in the lists of a feed, over calls, one after another.
use Rattle.std.specs.Prelude.{◌≡◌, ℕ, zero, suc, ◌+◌, ◌≤◌, ◌<◌, Bool, List, [], ◌∷◌, ◌++◌, length, take, Option, Some, None}
use Rattle.std.specs.Option.{option_map}
use Rattle.std.proofs.Common.{refl, sym, ap, ◌∙◌, arith, append_assoc}
use Rattle.std.proofs.lemmas.List.{length-append, length-take-le}
use Rattle.std.proofs.lemmas.Option.{same_Some, none-some}
use Rattle.pdh_edge.specs.Ports.{Inputs, Takes, before, nothing, only_waiting, TakesWaiting}

before_no : (o : Option (List Bool)) → o ≡ before [] o
before_no None = refl
before_no (Some bits) = refl

before_two : (xs ys : List Bool) (o : Option (List Bool)) → before xs (before ys o) ≡ before (xs ++ ys) o
before_two xs ys None = refl
before_two xs ys (Some bits) = ap Some (sym (append_assoc xs ys bits))

pub takes_none : (inputs : Inputs) (waits : ℕ → ℕ) → TakesWaiting inputs inputs waits waits
takes_none inputs waits = record {
  given = nothing;
  takes = record { counts = λ k. omega arith; bits = λ k. before_no (inputs.told k) };
  fewer = λ k. omega arith;
}

pub takes_both : {a b c : Inputs} {x y z : ℕ → ℕ} → TakesWaiting a b x y → TakesWaiting b c y z → TakesWaiting a c x z
takes_both {a} {b} {c} {x} {y} {z} p q = record {
  given = λ k. p.given k ++ q.given k;
  takes = record {
    counts = λ k. omega (arith, p.takes.counts k, q.takes.counts k, length-append (p.given k) (q.given k));
    bits = λ k. p.takes.bits k ∙ ap (before (p.given k)) (q.takes.bits k) ∙ before_two (p.given k) (q.given k) (c.told k);
  };
  fewer = λ k. omega (arith, p.fewer k, q.fewer k, length-append (p.given k) (q.given k));
}

told_long : (o : Option (List Bool)) (n : ℕ) (bits : List Bool) → ((all : List Bool) → o ≡ Some all → n ≤ length all) → option_map (take n) o ≡ Some bits → n ≡ length bits
told_long None n bits long told = absurd (cc)
told_long (Some all) n bits long told = sym (length-take-le n all (long all refl)) ∙ ap length (same_Some (take n all) bits told)

-- a list of which so many bits wait tells as many
pub waits_long : (inputs : Inputs) (waits : ℕ → ℕ) (k : ℕ) (bits : List Bool)
    → ((all : List Bool) → inputs.told k ≡ Some all → inputs.left k ≡ length all) → waits k ≤ inputs.left k
    → (only_waiting inputs waits).told k ≡ Some bits → waits k ≡ length bits
waits_long inputs waits k bits long within told = told_long (inputs.told k) (waits k) bits (λ all is. omega (arith, long all is, within)) told

take_then : (xs ys : List Bool) (n m : ℕ) → n ≡ length xs + m → take n (xs ++ ys) ≡ xs ++ take m ys
take_then [] ys n m is = ap (λ v. take v ys) (omega (arith, is))
take_then (x ∷ xs) ys zero m is = absurd (omega (arith, is))
take_then (x ∷ xs) ys (suc n) m is = ap (λ v. x ∷ v) (take_then xs ys n m (omega (arith, is)))

told_then : (given : List Bool) (old new : Option (List Bool)) (n m : ℕ) → old ≡ before given new → n ≡ length given + m → option_map (take n) old ≡ before given (option_map (take m) new)
told_then given old None n m told fewer = ap (option_map (take n)) told
told_then given old (Some rest) n m told fewer = ap (option_map (take n)) told ∙ ap Some (take_then given rest n m fewer)

-- bits that were taken of a list's waiting ones were taken of what waits
pub takes_waiting : {a b : Inputs} {x y : ℕ → ℕ} {given : ℕ → List Bool} → Takes given a b → ((k : ℕ) → x k ≡ length (given k) + y k) → Takes given (only_waiting a x) (only_waiting b y)
takes_waiting {a} {b} {x} {y} {given} p fewer = record {
  counts = fewer;
  bits = λ k. told_then (given k) (a.told k) (b.told k) (x k) (y k) (p.bits k) (fewer k);
}
