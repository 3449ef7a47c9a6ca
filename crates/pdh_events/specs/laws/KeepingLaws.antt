-- What is kept of a line goes on with the line: a gap, a delivered frame.
use Rattle.std.proofs.Common.{◌≡◌, ℕ, Bool, Some, None, List, [], ◌∷◌, ◌++◌, refl, sym, ap, ◌∙◌}
use Rattle.std.proofs.lemmas.List.{append-nil}
use Rattle.std.proofs.lemmas.List.Elements.{filter_map-append}
use Rattle.std.proofs.lemmas.List.Sums.{fold-append}
use Rattle.pdh_shape.specs.Frame.{FrameShape}
use Rattle.pdh_line.specs.Tracking.{Piece}
use Rattle.pdh_line.specs.Tracking.Piece.{Gap, Delivered}
use Rattle.pdh_events.specs.Duties.{piece_frame, frames_of, last_frame, alarm_after, odd_before, is_odd, parity_kinds}
use Rattle.pdh_events.specs.Keeping.{Kept, Remembers}

-- a gap is no frame,
pub frames_gap : (pieces : List Piece) (n : ℕ) → frames_of (pieces ++ Gap n ∷ []) ≡ frames_of pieces
frames_gap pieces n = filter_map-append piece_frame pieces (Gap n ∷ []) ∙ append-nil (frames_of pieces)

-- and ends an alignment
pub last_gap : (pieces : List Piece) (n : ℕ) → last_frame (pieces ++ Gap n ∷ []) ≡ None
last_gap pieces n = fold-append (λ last piece. piece_frame piece) None pieces (Gap n ∷ [])

pub odd_gap : (s : FrameShape) (pieces : List Piece) (n : ℕ) → odd_before s (pieces ++ Gap n ∷ []) ≡ None
odd_gap s pieces n = rw (last_gap pieces n) refl

pub frames_more : (pieces : List Piece) (frame : List Bool) → frames_of (pieces ++ Delivered frame ∷ []) ≡ frames_of pieces ++ frame ∷ []
frames_more pieces frame = filter_map-append piece_frame pieces (Delivered frame ∷ [])

pub last_more : (pieces : List Piece) (frame : List Bool) → last_frame (pieces ++ Delivered frame ∷ []) ≡ Some frame
last_more pieces frame = fold-append (λ last piece. piece_frame piece) None pieces (Delivered frame ∷ [])

pub odd_more : (s : FrameShape) (pieces : List Piece) (frame : List Bool) → odd_before s (pieces ++ Delivered frame ∷ []) ≡ Some (is_odd s frame)
odd_more s pieces frame = rw (last_more pieces frame) refl

-- a gap that grows changes nothing
pub remembers_gap : (s : FrameShape) (kept : Kept) (others : List Piece) (n m : ℕ) → Remembers s kept (others ++ Gap n ∷ []) → Remembers s kept (others ++ Gap m ∷ [])
remembers_gap s kept others n m is =
    let same : frames_of (others ++ Gap n ∷ []) ≡ frames_of (others ++ Gap m ∷ []) = frames_gap others n ∙ sym (frames_gap others m) in
    record {
      alarm_is = is.alarm_is ∙ ap (alarm_after s) same;
      odd_is = λ frame. is.odd_is frame ∙ ap (λ odd. parity_kinds s odd frame) (odd_gap s others n ∙ sym (odd_gap s others m));
      channel_is = rw (← same) is.channel_is;
    }
