-- What a leaf receives grows with the line.
use Rattle.std.proofs.Common.{◌≡◌, ℕ, ◌/◌, ◌%◌, Bool, List, [], ◌∷◌, ◌++◌, refl, ap, subst, sym}
use Rattle.pdh_edge.specs.Ports.{IsPrefix}
use Rattle.pdh_shape.specs.Frame.{FrameShape}
use Rattle.pdh_line.specs.Receiving.{received}
use Rattle.pdh_nesting.specs.Chains.{width, AreFrames}
use Rattle.pdh_nesting.specs.Receiving.{far}
use Rattle.pdh_rx.specs.laws.Growth.{received_grows}

-- a leaf receives no less where more of the line comes
pub far_grows : (shapes : List FrameShape) (line more : List Bool) (k : ℕ) → AreFrames shapes → IsPrefix (far shapes line k) (far shapes (line ++ more) k)
unfolding far
far_grows [] line more k are = (more, refl)
far_grows (s ∷ below) line more k are =
    let part = received_grows s (k / width below) line more are.0 in
    subst (λ l. IsPrefix (far below (received s (k / width below) line) (k % width below)) (far below l (k % width below))) (sym part.1)
    (far_grows below (received s (k / width below) line) part.0 (k % width below) are.2)
