use Rattle.std.proofs.Common.{◌≡◌, ℕ, zero, suc, ◌+◌, ◌≤◌, List, [], ◌∷◌, length, Some, slice_get, refl, ap, arith}
use Rattle.std.specs.Prelude.{min}
use Rattle.std.proofs.lemmas.Option.{none-some, same_Some}
use Rattle.pdh_edge.specs.Files.Told.{Untold, Known}
use Rattle.pdh_blocks.specs.Held.{AllDiffer}
use Rattle.pdh_tests_of_blocks.proofs.folder_port.open.Goals as goal

-- four names of which no two have one length, and the last is the longest
module _ (a b c d : List ℕ) (four : length a ≡ 4) (five : length b ≡ 5) (six : length c ≡ 6) (longest : 7 ≤ length d) where
  long : (i : ℕ) (name : List ℕ) → slice_get (a ∷ b ∷ c ∷ d ∷ []) i ≡ Some name → min (length name) 7 ≡ i + 4
  long zero name here = omega (arith, ap length (same_Some a name here), four)
  long (suc zero) name here = omega (arith, ap length (same_Some b name here), five)
  long (suc (suc zero)) name here = omega (arith, ap length (same_Some c name here), six)
  long (suc (suc (suc zero))) name here = omega (arith, ap length (same_Some d name here), longest)
  long (suc (suc (suc (suc i)))) name here = absurd (none-some name here)

  all_differ : AllDiffer (a ∷ b ∷ c ∷ d ∷ [])
  all_differ i j name p q = omega (arith, long i name p, long j name q)

pub open-requires : goal.open-requires
open-requires g c = record {
  sources = λ k source at. record { readable = λ from len inside. refl; told = λ held known. absurd (let no : Untold ≡ Known held = known in cc) };
  differ = all_differ _ _ _ _ (ap length c.in_ok-one.ensures.ok) (ap length c.in_ok-two.ensures.ok) (ap length c.in_ok-three.ensures.ok) (omega (arith, ap length c.in_ok-four.ensures.ok, c.requires));
  few = omega arith;
}
