-- What logs were told joins.
use Rattle.std.proofs.Common.{ℕ, ◌≤◌, List, [], ◌++◌, sym, ap, ◌∙◌, arith, append_assoc}
use Rattle.std.proofs.lemmas.List.{append-nil}
use Rattle.pdh_slips.specs.declared.slip.Slip.{Slip}
use Rattle.pdh_slips.specs.Logs.{Kept, KeptFront}

pub as_many : (n : ℕ) → n ≤ n
as_many n = omega arith

up_to : (a b c : ℕ) → a ≤ b → b ≤ c → a ≤ c
up_to a b c p q = omega arith

pub kept_nothing : (list : List Slip) (count : ℕ) → Kept list count [] list count
kept_nothing list count = record { list = sym (append-nil list); counts = as_many count }

pub kept_joined : (old mid new : List Slip) (a b c : ℕ) (xs ys : List Slip) → Kept old a xs mid b → Kept mid b ys new c → Kept old a (xs ++ ys) new c
kept_joined old mid new a b c xs ys p q = record {
  list = q.list ∙ ap (λ l. l ++ ys) p.list ∙ append_assoc old xs ys;
  counts = up_to a b c p.counts q.counts;
}

pub front_joined : (old mid new : List Slip) (a b c : ℕ) (xs ys : List Slip) → Kept old a xs mid b → KeptFront mid b ys new c → KeptFront old a (xs ++ ys) new c
front_joined old mid new a b c xs ys p q = record {
  kept = xs ++ q.kept;
  last = q.last;
  all = ap (λ l. xs ++ l) q.all ∙ sym (append_assoc xs q.kept _);
  list = q.list ∙ ap (λ l. l ++ q.kept) p.list ∙ append_assoc old xs q.kept;
  counts = up_to a b c p.counts q.counts;
}
