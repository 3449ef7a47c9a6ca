-- What a watch that sees places saw joins.
use Rattle.std.specs.Prelude.{◌≡◌, ℕ, List, ◌++◌, map}
use Rattle.std.proofs.Common.{sym, subst}
use Rattle.std.proofs.lemmas.List.{map-append}
use Rattle.pdh_watch.specs.declared.event.Event.{Event}
use Rattle.pdh_placed.specs.declared.placed.Placed.{Placed}
use Rattle.pdh_placed.specs.Places.{at_place}

pub saw_joined : {W : Type 0} (saw : W → List Placed → W → Type 0) (joins : (a b c : W) (xs ys : List Placed) → saw a xs b → saw b ys c → saw a (xs ++ ys) c)
    (place now : ℕ) (a b c : W) (xs ys : List Event) → now ≡ place → saw a (map (at_place place) xs) b → saw b (map (at_place now) ys) c → saw a (map (at_place place) (xs ++ ys)) c
saw_joined saw joins place now a b c xs ys same f g =
    subst (λ (l : List Placed). saw a l c) (sym (map-append (at_place place) xs ys))
    (joins a b c (map (at_place place) xs) (map (at_place place) ys) f (subst (λ (n : ℕ). saw b (map (at_place n) ys) c) same g))
