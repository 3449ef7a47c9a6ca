-- The pieces that each step of the alignment machine brings to the far stores; so the pieces of a longer received line begin with
-- those of the shorter one.
use Rattle.std.proofs.Common.{◌≡◌, inl, inr, ℕ, suc, ◌+◌, ◌-◌, ◌*◌, ◌/◌, ◌%◌, ◌<◌, ◌≤◌, ◌==◌, Bool, cond, List, [], ◌∷◌, ◌++◌, length, map, replicate, refl, sym, ap, ◌∙◌, arith, append_assoc}
use Rattle.std.specs.Prelude.{flat_map}
use Rattle.std.proofs.lemmas.Bool.{ne_eqb}
use Rattle.std.proofs.lemmas.List.{append-nil, replicate-append-replicate}
use Rattle.std.proofs.lemmas.Grind.{flat_map-append}
use Rattle.std.proofs.lemmas.Nat.{div-mul-add, le-div}
use Rattle.std.proofs.Math.Nat.{zero-div, div-mul-le_self}
use Rattle.pdh_shape.specs.Frame.{FrameShape, IsFrame}
use Rattle.pdh_line.specs.Tracking.{Piece, track}
use Rattle.pdh_line.specs.Tracking.Piece.{Gap, Delivered}
use Rattle.pdh_align.specs.declared.step.Step.{Step}
use Rattle.pdh_align.specs.declared.step.Step.TheVariants.{Nothing, Rejected, Aligned, Frame as FrameStep, Lost}
use Rattle.pdh_align.specs.Aligning.{Grows, Held, Passes}
use Rattle.pdh_align.proofs.PieceGrowth.{Begins, GapsGrow, pieces_grow}
use Rattle.pdh_rx.specs.Node.{gap_after, IsGap}
use Rattle.pdh_rx.proofs.GapSteps.{gap_step}
use Rattle.pdh_desync.specs.FarStore.{FarPiece, far_pieces, pieces_of}
use Rattle.pdh_desync.specs.FarStore.FarPiece.{Ones, Frame}
use Rattle.pdh_desync.specs.FarNode.{far_steps}

pub pieces_are : (s : FrameShape) (line : List Bool) → pieces_of s line ≡ flat_map (far_pieces s) (track s line)
unfolding pieces_of
pieces_are s line = refl

-- the pieces of a line that ends with a gap
ends_with_gap : (s : FrameShape) (others : List Piece) (n : ℕ) → flat_map (far_pieces s) (others ++ Gap n ∷ []) ≡ flat_map (far_pieces s) others ++ replicate (n / s.len) Ones
ends_with_gap s others n = flat_map-append (far_pieces s) others (Gap n ∷ []) ∙ ap (λ x. flat_map (far_pieces s) others ++ x) (append-nil (replicate (n / s.len) Ones))

-- ---- a step

-- one position more brings a frame of ones where it completes a frame's length
gap_more : (s : FrameShape) (n gap : ℕ) (ready : List (List Bool)) → IsFrame s → gap ≡ n % s.len → replicate (suc n / s.len) Ones ≡ replicate (n / s.len) Ones ++ far_steps Rejected ready (gap_after s Rejected gap)
gap_more s n gap ready shape is = elim (gap_step s n gap shape is) [
  | inl whole ↦
      let more : suc (n / s.len) ≡ n / s.len + 1 = omega arith in
      ap (λ v. replicate v Ones) (whole.1 ∙ more) ∙ sym (replicate-append-replicate (n / s.len) 1 Ones)
      ∙ ap (λ v. replicate (n / s.len) Ones ++ cond (v == 0) (Ones ∷ []) []) (sym whole.0)
  | inr part ↦
      ap (λ v. replicate v Ones) part.1 ∙ sym (append-nil (replicate (n / s.len) Ones))
      ∙ ap (λ b. replicate (n / s.len) Ones ++ cond b (Ones ∷ []) []) (sym (ap (λ v. v == 0) part.0 ∙ ne_eqb (suc gap) 0 (λ e. omega arith)))
]

delivered_far : (s : FrameShape) (ready : List (List Bool)) → flat_map (far_pieces s) (map Delivered ready) ≡ map Frame ready
delivered_far s [] = refl
delivered_far s (x ∷ rest) = ap (λ y. Frame x ∷ y) (delivered_far s rest)

-- what a step brings
pub far_step : (s : FrameShape) (step : Step) (ready : List (List Bool)) (before after : List Piece) (gap : ℕ) → IsFrame s → IsGap s gap before → Grows step ready before after
    → flat_map (far_pieces s) after ≡ flat_map (far_pieces s) before ++ far_steps step ready (gap_after s step gap)
far_step s Nothing ready before after gap shape is g = ap (flat_map (far_pieces s)) g.1 ∙ sym (append-nil (flat_map (far_pieces s) before))
far_step s Rejected ready before after gap shape is g =
    let others : List FarPiece = flat_map (far_pieces s) g.0 in
    let more : List FarPiece = far_steps Rejected ready (gap_after s Rejected gap) in
    ap (flat_map (far_pieces s)) g.4 ∙ ends_with_gap s g.0 (suc g.1) ∙ ap (λ x. others ++ x) (gap_more s g.1 gap ready shape (is g.0 g.1 g.3))
    ∙ sym (append_assoc others (replicate (g.1 / s.len) Ones) more) ∙ ap (λ x. x ++ more) (sym (ap (flat_map (far_pieces s)) g.3 ∙ ends_with_gap s g.0 g.1))
far_step s Aligned ready before after gap shape is g =
    ap (flat_map (far_pieces s)) g.4 ∙ flat_map-append (far_pieces s) before (map Delivered ready) ∙ ap (λ v. flat_map (far_pieces s) before ++ v) (delivered_far s ready)
far_step s FrameStep ready before after gap shape is g =
    ap (flat_map (far_pieces s)) g.4 ∙ flat_map-append (far_pieces s) before (map Delivered ready) ∙ ap (λ v. flat_map (far_pieces s) before ++ v) (delivered_far s ready)
far_step s Lost ready before after gap shape is g =
    ap (flat_map (far_pieces s)) g.4 ∙ ends_with_gap s before 0 ∙ ap (λ n. flat_map (far_pieces s) before ++ replicate n Ones) (zero-div s.len)

-- positions of a gap that are passed over at once, short of a whole frame's length of it, bring nothing
pub far_passed : (s : FrameShape) (after : Held) (bits line : List Bool) (gap : ℕ) → IsGap s gap (track s line) → Passes s after bits line → gap + length bits < s.len → pieces_of s (line ++ bits) ≡ pieces_of s line
far_passed s after bits line gap is passes short =
    let n : ℕ = passes.gap in
    let q : ℕ = n / s.len in
    let gap_is : gap ≡ n % s.len = is passes.others n passes.was in
    let place : q * s.len + gap ≡ n = (let whole : n / s.len * s.len + n % s.len ≡ n = omega arith in ap (λ v. q * s.len + v) gap_is ∙ whole) in
    let next : n + length bits ≡ q * s.len + (gap + length bits) = omega (arith, place) in
    let quotient : (n + length bits) / s.len ≡ q = ap (λ v. v / s.len) next ∙ div-mul-add q s.len (gap + length bits) short in
    pieces_are s (line ++ bits) ∙ ap (flat_map (far_pieces s)) passes.is ∙ ends_with_gap s passes.others (n + length bits)
    ∙ ap (λ v. flat_map (far_pieces s) passes.others ++ replicate v Ones) quotient
    ∙ sym (pieces_are s line ∙ ap (flat_map (far_pieces s)) passes.was ∙ ends_with_gap s passes.others n)

-- ---- a longer line

-- a longer gap brings no fewer frames of ones
gaps_grow : (s : FrameShape) → IsFrame s → GapsGrow (far_pieces s)
gaps_grow s shape n m le =
    let fewer : n / s.len ≤ m / s.len = le-div (n / s.len) m s.len shape.some_slots (omega (arith, div-mul-le_self n s.len)) in
    let more : ℕ = m / s.len - n / s.len in
    let whole : m / s.len ≡ n / s.len + more = omega arith in
    (replicate more Ones, ap (λ k. replicate k Ones) whole ∙ sym (replicate-append-replicate (n / s.len) more Ones))

-- the pieces of a longer line begin with those of the shorter one
pub far_grow : (s : FrameShape) (line more : List Bool) → IsFrame s → Begins (pieces_of s line) (pieces_of s (line ++ more))
unfolding pieces_of
far_grow s line more shape = pieces_grow (far_pieces s) s line more (gaps_grow s shape) shape
