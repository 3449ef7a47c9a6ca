-- What is told of lists that are split between two ports, and of lists that take bits one after another.
use Rattle.std.proofs.Common.{◌≡◌, inl, inr, ℕ, zero, suc, ◌+◌, ◌-◌, ◌^◌, ◌<◌, ◌≤◌, cond, Bool, List, [], ◌++◌, length, replicate, slice_get, Option, Some, None, Result, Ok, Err, refl, sym, ap, subst, ◌∙◌, arith, append_assoc}
use Rattle.std.proofs.lemmas.Bool.{cases_lt, cases_eq, lt-ltb, le-ltb, eq-eqb, ne_eqb}
use Rattle.std.proofs.lemmas.List.{append-nil, length-append}
use Rattle.pdh_edge.specs.MemLists.{length_of}
use Rattle.pdh_edge.specs.Ports.{Outputs, Puts, PutsPart, HasCause, PrefixOf, after, for_leaf}
use Rattle.pdh_edge.specs.Files.{Rose}
use Rattle.pdh_chain.specs.Faults.{demux_writes}
use Rattle.pdh_chain.specs.declared.stop.DemuxStop.{DemuxStop}
use Rattle.pdh_chain.specs.declared.stop.DemuxStop.TheVariants.{Memory, Ended, ReadFailed, WriteFailed}
use Rattle.pdh_smoothing.specs.Split.{first_then, split_outputs, both_faults}

-- ---- lists of two ports

pub first_is : {X : Type 0} (from : ℕ) (a b : ℕ → X) (k : ℕ) → k < from → first_then from a b k ≡ a k
first_is from a b k below = ap (λ t. cond t (a k) (b (k - from))) (lt-ltb k from below)

pub second_is : {X : Type 0} (from : ℕ) (a b : ℕ → X) (j : ℕ) → first_then from a b (j + from) ≡ b j
second_is from a b j =
    let back : j + from - from ≡ j = omega arith in
    ap (λ t. cond t (a (j + from)) (b (j + from - from))) (le-ltb (j + from) from (omega arith)) ∙ ap b back

pub behind_is : {X : Type 0} (from : ℕ) (a b : ℕ → X) (k : ℕ) → from ≤ k → first_then from a b k ≡ b (k - from)
behind_is from a b k behind = ap (λ t. cond t (a k) (b (k - from))) (le-ltb k from behind)

-- ---- bits that are put, one call after another

pub after_none : (told : Option (List Bool)) → told ≡ after [] told
after_none None = refl
after_none (Some list) = ap Some (sym (append-nil list))

pub after_then : (xs ys : List Bool) (told : Option (List Bool)) → after ys (after xs told) ≡ after (xs ++ ys) told
after_then xs ys None = refl
after_then xs ys (Some list) = ap Some (append_assoc list xs ys)

pub prefix_then : (xs ys : List Bool) (told now : Option (List Bool)) → PrefixOf ys (after xs told) now → PrefixOf (xs ++ ys) told now
prefix_then xs ys None None h = h
prefix_then xs ys None (Some now) h = h
prefix_then xs ys (Some list) None h = h
prefix_then xs ys (Some list) (Some now) h = (h.0, sym (append_assoc list xs ys) ∙ h.1)

-- all of them are a prefix, and so is what was there
pub prefix_whole : (xs : List Bool) (told now : Option (List Bool)) → now ≡ after xs told → PrefixOf xs told now
prefix_whole xs told now is = subst (λ t. PrefixOf xs told t) (sym is) (go told)
  where
    go : (told : Option (List Bool)) → PrefixOf xs told (after xs told)
    go None = tt
    go (Some list) = ([], sym (append-nil (list ++ xs)))

pub prefix_none : (xs : List Bool) (told : Option (List Bool)) → PrefixOf xs told told
prefix_none xs None = tt
prefix_none xs (Some list) = (xs, refl)

-- a list that was empty holds no more than was to be put
pub held_few : (xs : List Bool) (now : Option (List Bool)) → PrefixOf xs (Some []) now → length_of now ≤ length xs
held_few xs None h = absurd h
held_few xs (Some list) h = omega (arith, ap length h.1, length-append list h.0)

pub empty_at : {X : Type 0} (n j : ℕ) (x : X) → j < n → slice_get (replicate n x) j ≡ Some x
empty_at zero j x less = absurd (omega (arith, less))
empty_at (suc n) zero x less = refl
empty_at (suc n) (suc j) x less = empty_at n j x (omega (arith, less))

-- ---- a call for a list of one of them

-- none of the bits of one list are for another
other_list : (leaf k : ℕ) (bits : List Bool) → (k ≡ leaf → ⊥) → for_leaf leaf bits k ≡ []
other_list leaf k bits other = ap (λ t. cond t bits []) (ne_eqb k leaf other)

-- those of a list behind a number, by its number from there
back_list : (from leaf k : ℕ) (bits : List Bool) → from ≤ leaf → from ≤ k → for_leaf (leaf - from) bits (k - from) ≡ for_leaf leaf bits k
back_list from leaf k bits h h' = ap (λ t. cond t bits []) (elim (cases_eq k leaf) [
  | inl same ↦ (let back : k - from ≡ leaf - from = omega (arith, same) in eq-eqb (k - from) (leaf - from) back ∙ sym (eq-eqb k leaf same))
  | inr other ↦ ne_eqb (k - from) (leaf - from) (λ e. other (omega (arith, e, h, h'))) ∙ sym (ne_eqb k leaf other)
])

-- `Q` says what bits do to what is told of a list: none leave it
module _ (Q : List Bool → Option (List Bool) → Option (List Bool) → Type 0) (still : (told : Option (List Bool)) → Q [] told told) (from leaf : ℕ) (bits : List Bool) where
  on_first : (a b other : Outputs) → leaf < from → ((k : ℕ) → Q (for_leaf leaf bits k) (a.told k) (b.told k))
      → (k : ℕ) → Q (for_leaf leaf bits k) ((split_outputs from a other).told k) ((split_outputs from b other).told k)
  on_first a b other below puts k = elim (cases_lt k from) [
    | inl inside ↦
        subst (λ now. Q (for_leaf leaf bits k) (first_then from a.told other.told k) now) (sym (first_is from b.told other.told k inside))
        (subst (λ was. Q (for_leaf leaf bits k) was (b.told k)) (sym (first_is from a.told other.told k inside)) (puts k))
    | inr behind ↦
        subst (λ now. Q (for_leaf leaf bits k) (first_then from a.told other.told k) now) (sym (behind_is from b.told other.told k behind))
        (subst (λ was. Q (for_leaf leaf bits k) was (other.told (k - from))) (sym (behind_is from a.told other.told k behind))
        (subst (λ xs. Q xs (other.told (k - from)) (other.told (k - from))) (sym (other_list leaf k bits (λ e. omega (arith, e, below, behind)))) (still (other.told (k - from)))))
  ]

  on_second : (a b other : Outputs) → from ≤ leaf → ((k : ℕ) → Q (for_leaf (leaf - from) bits k) (a.told k) (b.told k))
      → (k : ℕ) → Q (for_leaf leaf bits k) ((split_outputs from other a).told k) ((split_outputs from other b).told k)
  on_second a b other behind puts k = elim (cases_lt k from) [
    | inl inside ↦
        subst (λ now. Q (for_leaf leaf bits k) (first_then from other.told a.told k) now) (sym (first_is from other.told b.told k inside))
        (subst (λ was. Q (for_leaf leaf bits k) was (other.told k)) (sym (first_is from other.told a.told k inside))
        (subst (λ xs. Q xs (other.told k) (other.told k)) (sym (other_list leaf k bits (λ e. omega (arith, e, inside, behind)))) (still (other.told k))))
    | inr past ↦
        subst (λ now. Q (for_leaf leaf bits k) (first_then from other.told a.told k) now) (sym (behind_is from other.told b.told k past))
        (subst (λ was. Q (for_leaf leaf bits k) was (b.told (k - from))) (sym (behind_is from other.told a.told k past))
        (subst (λ xs. Q xs (a.told (k - from)) (b.told (k - from))) (back_list from leaf k bits behind past) (puts (k - from))))
  ]

pub puts_first : (from leaf : ℕ) (bits : List Bool) (a b other : Outputs) → leaf < from → Puts (for_leaf leaf bits) a b → Puts (for_leaf leaf bits) (split_outputs from a other) (split_outputs from b other)
puts_first from leaf bits a b other below puts = on_first (λ xs was now. now ≡ after xs was) after_none from leaf bits a b other below puts

pub part_first : (from leaf : ℕ) (bits : List Bool) (a b other : Outputs) → leaf < from → PutsPart (for_leaf leaf bits) a b → PutsPart (for_leaf leaf bits) (split_outputs from a other) (split_outputs from b other)
part_first from leaf bits a b other below puts = on_first PrefixOf (prefix_none []) from leaf bits a b other below puts

pub puts_second : (from leaf : ℕ) (bits : List Bool) (a b other : Outputs) → from ≤ leaf → Puts (for_leaf (leaf - from) bits) a b → Puts (for_leaf leaf bits) (split_outputs from other a) (split_outputs from other b)
puts_second from leaf bits a b other behind puts = on_second (λ xs was now. now ≡ after xs was) after_none from leaf bits a b other behind puts

pub part_second : (from leaf : ℕ) (bits : List Bool) (a b other : Outputs) → from ≤ leaf → PutsPart (for_leaf (leaf - from) bits) a b → PutsPart (for_leaf leaf bits) (split_outputs from other a) (split_outputs from other b)
part_second from leaf bits a b other behind puts = on_second PrefixOf (prefix_none []) from leaf bits a b other behind puts

-- ---- counts

pub first_cause : {T E : Type 0} (r : Result T E) (a b k : ℕ) → HasCause a b r → HasCause (both_faults a k) (both_faults b k) r
first_cause (Ok x) a b k is = ap (λ n. both_faults n k) is
first_cause (Err e) a b k is = omega (arith, is)

pub second_cause : {T E : Type 0} (r : Result T E) (a k l : ℕ) → HasCause k l r → HasCause (both_faults a k) (both_faults a l) r
second_cause (Ok x) a k l is = ap (both_faults a) is
second_cause (Err e) a k l is = omega (arith, is)

-- where none of the second's calls failed, the first's count is the one of both
pub writes_of : {T : Type 0} (r : Result T DemuxStop) (a b k l : ℕ) → k ≡ 0 → l ≡ 0 → both_faults b l ≡ demux_writes r (both_faults a k) → a < 2 ^ 64 → b < 2 ^ 64 → b ≡ demux_writes r a
writes_of (Ok x) a b k l none none' is few few' = omega (arith, is, none, none', few, few')
writes_of (Err Memory) a b k l none none' is few few' = omega (arith, is, none, none', few, few')
writes_of (Err Ended) a b k l none none' is few few' = omega (arith, is, none, none', few, few')
writes_of (Err ReadFailed) a b k l none none' is few few' = omega (arith, is, none, none', few, few')
writes_of (Err WriteFailed) a b k l none none' is few few' = omega (arith, is, none, none', few, few')

pub rose_of_both : (a b k l : ℕ) → k ≡ 0 → l ≡ 0 → Rose (both_faults a k) (both_faults b l) → Rose a b
rose_of_both a b k l none none' rose = omega (arith, rose, none, none')
