-- What holds of each element of a list holds of each of its parts.
use Rattle.std.proofs.Common.{List, ◌++◌, length, All, subst, arith, ◌+◌, length-append}
use Rattle.std.proofs.lemmas.List.{get_or_append_left, get_or-append-add}

pub all_left : {X : Type 0} (P : X → Type 0) (xs ys : List X) → All P (xs ++ ys) → All P xs
all_left P xs ys all k d h = subst P (get_or_append_left xs ys d k h) (all k d (let e = length-append xs ys in omega arith))

pub all_right : {X : Type 0} (P : X → Type 0) (xs ys : List X) → All P (xs ++ ys) → All P ys
all_right P xs ys all k d h = subst P (get_or-append-add xs ys k d) (all (length xs + k) d (let e = length-append xs ys in omega arith))
