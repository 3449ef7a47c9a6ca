-- A list that is changed where nothing is seen of it.
use Rattle.std.proofs.Common.{◌≡◌, ℕ, zero, suc, ◌<◌, List, [], ◌∷◌, length, map, ap, get_or, slice_set, arith}
use Rattle.pdh_bits.specs.BitOut.{BoundedBits}

-- for how many bits in all a list has room
abbrev pub capacity_of : BoundedBits → ℕ
capacity_of list = list.capacity

pub map_set_same : {A B : Type 0} (f : A → B) (xs : List A) (i : ℕ) (y d : A) → i < length xs → f y ≡ f (get_or xs i d) → map f (slice_set xs i y) ≡ map f xs
map_set_same f [] i y d h same = absurd (omega arith)
map_set_same f (x ∷ xs) zero y d h same = ap (λ b. b ∷ map f xs) same
map_set_same f (x ∷ xs) (suc i) y d h same = ap (λ l. f x ∷ l) (map_set_same f xs i y d (omega arith) same)
