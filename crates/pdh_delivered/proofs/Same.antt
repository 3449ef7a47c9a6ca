-- Lists that have the same bits.
use Rattle.std.proofs.Common.{◌≡◌, suc, Bool, true, false, List, [], ◌∷◌, length, refl, ap, ◌∙◌}
use Rattle.std.specs.Prelude.{◌&&◌}
use Rattle.std.specs.Bool.{beq}
use Rattle.pdh_delivered.specs.Alike.{same_bits}

never : (b : Bool) → (b && false) ≡ false
never true = refl
never false = refl

-- they are as many
pub other_lengths : (one other : List Bool) → (length one ≡ length other → ⊥) → same_bits one other ≡ false
other_lengths [] [] differ = absurd (differ refl)
other_lengths [] (y ∷ ys) differ = refl
other_lengths (x ∷ xs) [] differ = refl
other_lengths (x ∷ xs) (y ∷ ys) differ =
    let rest : same_bits xs ys ≡ false = other_lengths xs ys (λ same. differ (ap suc same)) in
    ap (λ (b : Bool). beq x y && b) rest ∙ never (beq x y)
