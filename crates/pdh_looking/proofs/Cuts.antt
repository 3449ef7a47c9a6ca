-- Bits of a list from a place on, as many as there are.
use Rattle.std.proofs.Common.{◌≡◌, inl, inr, ℕ, ◌-◌, List, length, take, drop, ap, sym, ◌∙◌, arith}
use Rattle.std.specs.Prelude.{min}
use Rattle.std.proofs.lemmas.Bool.{cases_lt}
use Rattle.std.proofs.lemmas.List.{take_min, drop_all, length-drop}

drop_within : {X : Type 0} (from : ℕ) (l : List X) → drop (min from (length l)) l ≡ drop from l
drop_within from l = elim (cases_lt from (length l)) [
  | inl inside ↦ let same : min from (length l) ≡ from = omega (arith, inside) in ap (λ n. drop n l) same
  | inr past ↦ drop_all (min from (length l)) l (omega (arith, past)) ∙ sym (drop_all from l past)
]

cut_within : {X : Type 0} (from most : ℕ) (l : List X) → take (min most (length l - min from (length l))) (drop (min from (length l)) l) ≡ take most (drop from l)
cut_within {X} from most l =
    let count : min most (length l - min from (length l)) ≡ min most (length (drop from l)) = omega (arith, length-drop {A = X} from l) in
    let moved : take (min most (length l - min from (length l))) (drop (min from (length l)) l) ≡ take (min most (length (drop from l))) (drop from l) =
    λ i. take (count i) (drop_within from l i) in
    moved ∙ take_min most (drop from l)

-- as many bits of a list as there are, of those that are wanted from a place on
pub cut_is : {X : Type 0} (from most begin count : ℕ) (l all : List X) → l ≡ all → begin ≡ min from (length l) → count ≡ min most (length l - begin)
    → take count (drop begin l) ≡ take most (drop from all)
cut_is {X} from most begin count l all is begins counts =
    let inside : count ≡ min most (length l - min from (length l)) = omega (arith, begins, counts) in
    ap (λ n. take n (drop begin l)) inside ∙ ap (λ n. take (min most (length l - min from (length l))) (drop n l)) begins ∙ cut_within from most l
    ∙ ap (λ (m : List X). take most (drop from m)) is
