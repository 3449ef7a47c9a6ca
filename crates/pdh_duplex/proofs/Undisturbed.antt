-- A line that nothing disturbs is delivered whole.
use Rattle.std.proofs.Common.{◌≡◌, ℕ, ◌+◌, ◌*◌, ◌/◌, ◌<◌, ◌≤◌, Bool, cond, List, [], ◌∷◌, length, map, ap, ◌∙◌, arith}
use Rattle.std.specs.Prelude.{count_by}
use Rattle.std.specs.List.{range_with_len}
use Rattle.std.proofs.lemmas.List.Sums.{sum_by-cons}
use Rattle.std.proofs.lemmas.Nat.{div-mul-add}
use Rattle.pdh_shape.specs.declared.role.Service.{Service}
use Rattle.pdh_shape.specs.Frame.{FrameShape, IsFrame}
use Rattle.pdh_line.specs.Nodes.{Counts}
use Rattle.pdh_line.specs.Sending.Mode.{Plain}
use Rattle.pdh_line.specs.Sending.{Source, front, line_bit}
use Rattle.pdh_line.specs.Tracking.{Piece, frame_of, frames_in, is_delivered, frames_delivered}
use Rattle.pdh_line.specs.Tracking.Piece.{Gap, Delivered}
use Rattle.pdh_line.proofs.DeliveredLaws.{count_frames}
use Rattle.pdh_line.proofs.Ranges.{length-range}
use Rattle.pdh_line.proofs.RightLines.{track-right}
use Rattle.pdh_line.proofs.SentFrames.{front-right, length-front}
use Rattle.pdh_nesting.specs.Chains.{top_len, AreFrames}
use Rattle.pdh_nesting.specs.Sending.{chain_line}
use Rattle.pdh_chain.specs.Chains.{shapes_of}
use Rattle.pdh_chain.specs.Demuxes.{top_delivered}
use Rattle.pdh_chain.specs.declared.chain.Chain.{Chain}
use Rattle.pdh_chain.specs.declared.chain.Chain.TheVariants.{E12, E23, E34, E13, E24, E14, M12, M23, M13, C13}
use Rattle.pdh_chain.proofs.ChainLaws.{are_frames}
use Rattle.pdh_duplex.specs.Session.{Setting, line_upto}

abbrev one_count : Piece → ℕ
one_count piece = cond (is_delivered piece) 1 0

-- a front of three frames or more of a sent line is delivered whole
front_delivered : (s : FrameShape) (source : Source) (n : ℕ) → IsFrame s → 3 ≤ n → frames_delivered s (front (line_bit s source) (n * s.len)) ≡ n
unfolding frames_delivered
front_delivered s source n frame three =
    let line : List Bool = front (line_bit s source) (n * s.len) in
    let more : n * s.len ≡ n * s.len + 0 = omega arith in
    let whole : frames_in s line ≡ n = ap (λ x. x / s.len) (length-front (line_bit s source) (n * s.len) ∙ more) ∙ div-mul-add n s.len 0 frame.some_slots in
    let frames : List Piece = map (λ k. Delivered (frame_of s line k)) (range_with_len 0 (frames_in s line)) in
    ap (count_by is_delivered) (track-right s line frame (omega (arith, whole, three)) (front-right s source (n * s.len) frame)) ∙ sum_by-cons one_count (Gap 0) frames
    ∙ ap (λ n. 0 + n) (count_frames (frame_of s line) (range_with_len 0 (frames_in s line)) ∙ length-range 0 (frames_in s line) ∙ whole) ∙ omega arith

chain_delivered : (shapes : List FrameShape) (counts : Counts) (bits : ℕ → ℕ → Bool) (says : ℕ → Service) (n : ℕ) → AreFrames shapes → 0 < length shapes → 3 ≤ n
    → top_delivered shapes (front (chain_line Plain shapes counts bits says [] 0) (n * top_len shapes)) ≡ n
unfolding chain_line
chain_delivered [] counts bits says n are some three = absurd (omega arith)
chain_delivered (s ∷ below) counts bits says n are some three = front_delivered s _ n are.0 three

some_level : (chain : Chain) → 0 < length (shapes_of chain)
some_level E12 = omega arith
some_level E23 = omega arith
some_level E34 = omega arith
some_level E13 = omega arith
some_level E24 = omega arith
some_level E14 = omega arith
some_level M12 = omega arith
some_level M23 = omega arith
some_level M13 = omega arith
some_level C13 = omega arith

-- all frames of an end's line are delivered
pub line_delivered : (z : Setting) (says : List Service) (n : ℕ) → 3 ≤ n → top_delivered (shapes_of z.chain) (line_upto z says n) ≡ n
line_delivered z says n three = chain_delivered (shapes_of z.chain) _ _ _ n (are_frames z.chain) (some_level z.chain) three
