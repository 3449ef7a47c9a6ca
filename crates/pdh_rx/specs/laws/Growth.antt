-- What a longer received line gives begins with what the shorter one gave.
use Rattle.std.proofs.Common.{◌≡◌, ℕ, ◌+◌, ◌-◌, ◌*◌, ◌/◌, ◌≤◌, Bool, true, List, ◌++◌, sym, ap, ◌∙◌, arith, replicate}
use Rattle.std.proofs.lemmas.List.{replicate-append-replicate}
use Rattle.std.proofs.lemmas.Nat.{le-div}
use Rattle.std.proofs.Math.Nat.{mul-le-mul_right, div-mul-le_self}
use Rattle.pdh_edge.specs.Ports.{IsPrefix}
use Rattle.pdh_shape.specs.Frame.{FrameShape, IsFrame}
use Rattle.pdh_line.specs.Tracking.Piece.{Gap}
use Rattle.pdh_line.specs.Receiving.{piece_bits, received}
use Rattle.pdh_align.proofs.PieceGrowth.{pieces_grow}

prefix_ones : (a b : ℕ) → a ≤ b → IsPrefix (replicate a true) (replicate b true)
prefix_ones a b le =
    let e : b ≡ a + (b - a) = omega arith in
    (replicate (b - a) true, ap (λ k. replicate k true) e ∙ sym (replicate-append-replicate a (b - a) true))

-- a longer gap gives at least as many ones
gap_gives : (s : FrameShape) (j n m : ℕ) → IsFrame s → n ≤ m → IsPrefix (piece_bits s j (Gap n)) (piece_bits s j (Gap m))
unfolding piece_bits
gap_gives s j n m shape le =
    let quotient : n / s.len ≤ m / s.len = le-div (n / s.len) m s.len shape.some_slots (omega (arith, div-mul-le_self n s.len)) in
    let fewer : n / s.len * s.low ≤ m / s.len * s.low = mul-le-mul_right s.low quotient in
    prefix_ones (n / s.len * s.low) (m / s.len * s.low) fewer

-- the received line of a tributary grows with its node's
pub received_grows : (s : FrameShape) (j : ℕ) (line more : List Bool) → IsFrame s → IsPrefix (received s j line) (received s j (line ++ more))
unfolding received
received_grows s j line more shape = pieces_grow (piece_bits s j) s line more (λ n m le. gap_gives s j n m shape le) shape
