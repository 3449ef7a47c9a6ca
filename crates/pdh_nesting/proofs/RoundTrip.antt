-- What comes back of a front of a chain's line: a front of each leaf's own bits.
use Rattle.std.proofs.Common.{refl, ◌≡◌, ℕ, ◌+◌, ◌*◌, ◌/◌, ◌%◌, ◌<◌, Bool, List, [], ◌∷◌, length, ap, ◌∙◌, arith}
use Rattle.pdh_line.specs.Sending.Mode.{Plain}
use Rattle.pdh_shape.specs.declared.role.Service.{Service as Say}
use Rattle.pdh_shape.specs.Frame.{FrameShape, idle}
use Rattle.pdh_line.specs.Sending.{Source, front, given_back}
use Rattle.pdh_line.proofs.SentFrames.{length-front, received-front}
use Rattle.pdh_line.proofs.LeafNumbers.{leaf-tributary, leaf-below, leaf-number}
use Rattle.pdh_nesting.specs.Chains.{width, AreFrames}
use Rattle.pdh_line.specs.Nodes.{child, Counts}
use Rattle.pdh_nesting.specs.Sending.{chain_line}
use Rattle.pdh_nesting.specs.Receiving.{far, back_below}

-- Of the first x bits of a node's line each leaf below it gets the first of its own bits, whatever events there are: a
-- bit of the line is that at a place in the leaf's bits.
pub far_front : (chain : List FrameShape) (counts : Counts) (bits : ℕ → ℕ → Bool) (says : ℕ → Say) (path : List ℕ) (first x k : ℕ) → AreFrames chain → k < width chain
    → far chain (front (chain_line Plain chain counts bits says path first) x) k ≡ front (bits (first + k)) (back_below chain counts path x k)
unfolding far chain_line back_below
far_front [] counts bits says path first x k are h =
    let e : first ≡ first + k = omega arith in
    ap (λ i. front (bits i) x) e
far_front (s ∷ below) counts bits says path first x k are h =
    let w : ℕ = width below in
    let j : ℕ = k / w in
    let inputs : ℕ → ℕ → Bool = λ j. chain_line Plain below counts bits (λ n. idle) (child path j) (first + j * w) in
    let source : Source = record { mode = Plain; counts = counts path; inputs = inputs; says = says } in
    let back : ℕ = given_back s (counts path j) (x / s.len) in
    ap (λ line. far below line (k % w)) (received-front s source j x refl are.0 are.1 (leaf-tributary s.tribs w k h))
    ∙ far_front below counts bits (λ n. idle) (child path j) (first + j * w) back (k % w) are.2 (leaf-below s.tribs w k h)
    ∙ ap (λ i. front (bits i) (back_below below counts (child path j) back (k % w))) (leaf-number first w k)

-- that many bits come back
pub far-length : (chain : List FrameShape) (counts : Counts) (bits : ℕ → ℕ → Bool) (says : ℕ → Say) (path : List ℕ) (first x k : ℕ) → AreFrames chain → k < width chain
    → length (far chain (front (chain_line Plain chain counts bits says path first) x) k) ≡ back_below chain counts path x k
far-length chain counts bits says path first x k are h =
    ap length (far_front chain counts bits says path first x k are h) ∙ length-front (bits (first + k)) (back_below chain counts path x k)
