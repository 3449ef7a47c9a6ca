-- Bits that are put to one list, one after another.
use Rattle.std.proofs.Common.{◌≡◌, ℕ, ◌+◌, ◌==◌, ◌<◌, Bool, true, false, cond, List, [], ◌∷◌, ◌++◌, length, take, drop, get_or, refl, sym, ap, subst, ◌∙◌, arith, append_assoc, Some, None, Option, Result, Err}
use Rattle.std.proofs.lemmas.List.{append-nil, take-append-drop, take_more}
use Rattle.pdh_edge.specs.declared.port.FeedStop.{FeedStop}
use Rattle.pdh_edge.specs.declared.port.FeedStop.TheVariants.{Failed, Ended}
use Rattle.pdh_edge.specs.Counts.{one_more}
use Rattle.pdh_edge.specs.Files.{Rose}
use Rattle.pdh_edge.specs.Ports.{Outputs, Puts, PutsPart, IsPrefix, PrefixOf, HasCause, faults_fed, after, for_leaf}

after_none : (t : Option (List Bool)) → t ≡ after [] t
after_none None = refl
after_none (Some list) = ap Some (sym (append-nil list))

after_then : (a b : List Bool) (t : Option (List Bool)) → after b (after a t) ≡ after (a ++ b) t
after_then a b None = refl
after_then a b (Some list) = ap Some (append_assoc list a b)

when_none : (here : Bool) → [] ≡ cond {A = List Bool} here [] []
when_none true = refl
when_none false = refl

when_then : (xs ys : List Bool) (here : Bool) → cond here xs [] ++ cond here ys [] ≡ cond here (xs ++ ys) []
when_then xs ys true = refl
when_then xs ys false = refl

pub for_leaf_none : (t k : ℕ) → [] ≡ for_leaf t [] k
for_leaf_none t k = when_none (k == t)

pub for_leaf_then : (t : ℕ) (xs ys : List Bool) (k : ℕ) → for_leaf t xs k ++ for_leaf t ys k ≡ for_leaf t (xs ++ ys) k
for_leaf_then t xs ys k = when_then xs ys (k == t)

pub puts_begin : (t : ℕ) (x : Outputs) → Puts (for_leaf t []) x x
puts_begin t x k = after_none (x.told k) ∙ ap (λ bits. after bits (x.told k)) (when_none (k == t))

pub puts_then : (t : ℕ) (xs ys : List Bool) (x y z : Outputs) → Puts (for_leaf t xs) x y → Puts (for_leaf t ys) y z → Puts (for_leaf t (xs ++ ys)) x z
puts_then t xs ys x y z p q k =
    q k ∙ ap (after (for_leaf t ys k)) (p k) ∙ after_then (for_leaf t xs k) (for_leaf t ys k) (x.told k) ∙ ap (λ bits. after bits (x.told k)) (for_leaf_then t xs ys k)

prefix_then : (a b : List Bool) (s t : Option (List Bool)) → PrefixOf b (after a s) t → PrefixOf (a ++ b) s t
prefix_then a b None None h = h
prefix_then a b None (Some new) h = h
prefix_then a b (Some old) None h = h
prefix_then a b (Some old) (Some new) h = (h.0, sym (append_assoc old a b) ∙ h.1)

prefix_longer : (a b : List Bool) (s t : Option (List Bool)) → IsPrefix a b → PrefixOf a s t → PrefixOf b s t
prefix_longer a b None None more h = h
prefix_longer a b None (Some new) more h = h
prefix_longer a b (Some old) None more h = h
prefix_longer a b (Some old) (Some new) more h =
    (h.0 ++ more.0, ap (λ v. old ++ v) more.1 ∙ sym (append_assoc old a more.0) ∙ ap (λ v. v ++ more.0) h.1 ∙ append_assoc new h.0 more.0)

when_prefix : (xs zs : List Bool) (here : Bool) → IsPrefix xs zs → IsPrefix (cond here xs []) (cond here zs [])
when_prefix xs zs true h = h
when_prefix xs zs false h = ([], refl)

pub puts_part : (t : ℕ) (xs ys zs : List Bool) (x y z : Outputs) → Puts (for_leaf t xs) x y → PutsPart (for_leaf t ys) y z → IsPrefix (xs ++ ys) zs → PutsPart (for_leaf t zs) x z
puts_part t xs ys zs x y z p q h k =
    prefix_longer (for_leaf t (xs ++ ys) k) (for_leaf t zs k) (x.told k) (z.told k) (when_prefix (xs ++ ys) zs (k == t) h)
    (subst (λ bits. PrefixOf bits (x.told k) (z.told k)) (for_leaf_then t xs ys k)
    (prefix_then (for_leaf t xs k) (for_leaf t ys k) (x.told k) (z.told k) (subst (λ o. PrefixOf (for_leaf t ys k) o (z.told k)) (p k) (q k))))

-- one bit more of a list
pub puts_more : (t : ℕ) (xs : List Bool) (i : ℕ) (d : Bool) (x y z : Outputs) → i < length xs → Puts (for_leaf t (take i xs)) x y → Puts (for_leaf t (get_or xs i d ∷ [])) y z → Puts (for_leaf t (take (i + 1) xs)) x z
puts_more t xs i d x y z h p q =
    subst (λ bits. Puts (for_leaf t bits) x z) (sym (take_more xs i d h)) (puts_then t (take i xs) (get_or xs i d ∷ []) x y z p q)

pub puts_more_part : (t : ℕ) (xs : List Bool) (i : ℕ) (d : Bool) (x y z : Outputs) → i < length xs → Puts (for_leaf t (take i xs)) x y → PutsPart (for_leaf t (get_or xs i d ∷ [])) y z → PutsPart (for_leaf t xs) x z
puts_more_part t xs i d x y z h p q =
    puts_part t (take i xs) (get_or xs i d ∷ []) xs x y z p q
    (drop (i + 1) xs, sym (take-append-drop (i + 1) xs) ∙ ap (λ v. v ++ drop (i + 1) xs) (take_more xs i d h))

-- a failed call is the cause of what it ends
pub cause_since : {T E : Type 0} (r : Result T E) (e : E) (a b c : ℕ) → r ≡ Err e → b ≡ a → c ≡ one_more b → HasCause a c r
cause_since r e a b c is same counted = subst (HasCause a c) (sym is) (counted ∙ ap one_more same)

-- what was counted once rose
pub rose_of : (old now : ℕ) → now ≡ one_more old → Rose old now
rose_of old now counted = omega (arith, counted)

pub rose_of_feed : (why : FeedStop) (old now : ℕ) → now ≡ faults_fed why old → why ≡ Failed → Rose old now
rose_of_feed Failed old now counted e = rose_of old now counted
rose_of_feed Ended old now counted e = cc
