-- What is seen of a line's events joins.
use Rattle.std.specs.Prelude.{◌≡◌, ℕ, ◌+◌, List, [], ◌∷◌, ◌++◌, length}
use Rattle.std.proofs.Common.{sym, subst, arith, append_assoc}
use Rattle.std.proofs.lemmas.List.{append-nil, length-append}
use Rattle.pdh_placed.specs.declared.placed.Placed.{Placed}
use Rattle.pdh_health.specs.declared.health.Health.{Health}
use Rattle.pdh_health.specs.Lines.{RiseFrom, AreInOrder, StandsFor, Saw}

rise_front : (place : ℕ) (xs ys : List Placed) → RiseFrom place (xs ++ ys) → RiseFrom place xs
rise_front place [] ys rise = tt
rise_front place (x ∷ xs) ys rise = (rise.0, rise_front x.place xs ys rise.1)

-- events in order begin in order
front : (xs ys : List Placed) → AreInOrder (xs ++ ys) → AreInOrder xs
front xs ys order =
    let all : length (xs ++ ys) ≡ length xs + length ys = length-append xs ys in
    record { rise = rise_front 0 xs ys order.rise; few = omega (arith, all, order.few) }

pub saw_none : (a : Health) → Saw a [] a
saw_none a = λ rate plans past order stands. subst (StandsFor a rate plans) (sym (append-nil past)) stands

pub saw_joined : (a b c : Health) (xs ys : List Placed) → Saw a xs b → Saw b ys c → Saw a (xs ++ ys) c
saw_joined a b c xs ys f g = λ rate plans past order stands.
    let all = sym (append_assoc past xs ys) in
    let joined : AreInOrder ((past ++ xs) ++ ys) = subst AreInOrder all order in
    subst (StandsFor c rate plans) (append_assoc past xs ys) (g rate plans (past ++ xs) joined (f rate plans past (front (past ++ xs) ys joined) stands))
