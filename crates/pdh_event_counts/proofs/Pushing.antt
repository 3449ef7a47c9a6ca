-- A count with an event more.
use Rattle.std.proofs.Common.{◌≡◌, ℕ, ◌+◌, ◌-◌, ◌^◌, ◌++◌, ◌∷◌, [], Bool, true, false, cond, List, arith}
use Rattle.std.specs.Prelude.{min, count_by, if◌then◌else◌}
use Rattle.std.proofs.lemmas.List.Sums.{sum_by_push}
use Rattle.pdh_watch.specs.declared.kind.Kind.{Kind}
use Rattle.pdh_event_counts.specs.Counting.{is_kind, counted, count_with}

one_more : (own : Bool) (n m all : ℕ) → n ≡ min m (2 ^ 64 - 1) → all ≡ m + cond own 1 0 → (if own then min (n + 1) (2 ^ 64 - 1) else n) ≡ min all (2 ^ 64 - 1)
one_more true n m all is more = omega (arith, is, more)
one_more false n m all is more = omega (arith, is, more)

pub counted_push : (wanted kind : Kind) (kinds : List Kind) (number : ℕ) → number ≡ counted wanted kinds → count_with wanted number kind ≡ counted wanted (kinds ++ kind ∷ [])
counted_push wanted kind kinds number is =
    one_more (is_kind wanted kind) number (count_by (is_kind wanted) kinds) (count_by (is_kind wanted) (kinds ++ kind ∷ [])) is
    (sum_by_push (λ (k : Kind). cond (is_kind wanted k) 1 0) kinds kind)
