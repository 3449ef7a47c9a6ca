-- Where the tracking of a line ends in an open gap, the search began at the gap's first bit.
use Rattle.std.proofs.Common.{◌≡◌, ℕ, Bool, List, [], ◌∷◌, ◌++◌, length, drop, sym, ap, ◌∙◌, subst}
use Rattle.std.proofs.lemmas.List.{drop_at, same_from_push}
use Rattle.pdh_shape.specs.Frame.{FrameShape, IsFrame}
use Rattle.pdh_line.specs.Tracking.{Piece, positions, track}
use Rattle.pdh_line.specs.Tracking.Piece.{Gap, Delivered}
use Rattle.pdh_align.specs.OpenGap.{covered, EndsInGap}
use Rattle.pdh_align.specs.Searching.{Sought, Searches}
use Rattle.pdh_align.specs.Aligning.{Phase, Held, Follows, SearchesSince, StandsFor}
use Rattle.pdh_align.specs.Aligning.Phase.{Searching, Tracking}
use Rattle.pdh_align.proofs.AligningLaws.{stands_now, track_searching, line_ends_with_frame}

-- a gap is no delivered frame
abbrev is_gap : Piece → Type 0
is_gap (Gap n) = Unit {0}
is_gap (Delivered frame) = ⊥

since_gap : (s : FrameShape) (search : Sought) (phase : Phase) (line : List Bool) (q : ℕ) → IsFrame s → (f : Follows s phase line) → SearchesSince s search phase f.since → EndsInGap s line q
    → (held : List Bool) × Searches s search held (drop q line)
since_gap s search (Searching held) line q shape f kept ends =
    let is : track s line ≡ f.settled ++ Gap (positions s f.since) ∷ [] = stands_now s (Searching held) line f ∙ ap (λ x. f.settled ++ x) (track_searching s f.since f.describes.0) in
    let same : f.settled ≡ ends.before = (same_from_push f.settled ends.before (Gap (positions s f.since)) (Gap ends.gap) (sym is ∙ ends.ends)).0 in
    let count : length f.front ≡ q = f.covers ∙ ap (covered s) same ∙ ends.from in
    let rest : drop q line ≡ f.since = ap (drop q) f.parts ∙ drop_at f.front f.since q count in
    (held, subst (Searches s search held) (sym rest) kept)
since_gap s search (Tracking a b c part) line q shape f kept ends =
    let (others, last, is) = line_ends_with_frame s a b c part line shape f in
    absurd (subst is_gap (sym (same_from_push others ends.before (Delivered last) (Gap ends.gap) (sym is ∙ ends.ends)).1) tt)

-- what an aligner's search keeps stands for the bits from there on
pub searches_gap : (s : FrameShape) (held : Held) (line : List Bool) (q : ℕ) → IsFrame s → StandsFor s held line → EndsInGap s line q → (bits : List Bool) × Searches s held.search bits (drop q line)
searches_gap s held line q shape h ends = since_gap s held.search held.phase line q shape h.follows h.searches ends
