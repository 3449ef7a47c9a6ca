-- Worked rows, computed by the checker.
use Rattle.std.specs.Prelude.{◌≡◌, ℕ, Bool, true, false, List, [], ◌∷◌, ◌++◌, map, replicate, refl}
use Rattle.std.specs.List.{range_with_len}
use Rattle.pdh_shape.specs.Frame.{is_right, wrong}
use Rattle.pdh_shape.specs.Tributary.{stripped}
use Rattle.pdh_eframes.specs.Sets.{set_role, set_mark, four_wrong}
use Rattle.pdh_eframes.specs.Plans.{e2, e2_signal}
use Rattle.pdh_eframes.proofs.Worked.{zeros_frame}
use Rattle.pdh_line.specs.Least.{least_below}
use Rattle.pdh_line.specs.Tracking.{track, track_within, one_search, is_lost, after_loss, delivered, gap_of, completes_loss}
use Rattle.pdh_line.specs.Receiving.{received, piece_bits}
use Rattle.pdh_desync.specs.FarStore.{pieces_of, start_fill, reads, smooth}

abbrev pub four : {X : Type 0} → X → List X
four x = x ∷ x ∷ x ∷ x ∷ []

abbrev pub each : {X : Type 0} → (ℕ → X) → List X
each f = map f (0 ∷ 1 ∷ 2 ∷ 3 ∷ [])

-- three frames of 206 zeros of each tributary: 206 in each piece are read,
unfoldable pub three_frames : List Bool
three_frames = zeros_frame ++ zeros_frame ++ zeros_frame

pub three_reads : each (λ j. map (reads e2 j (pieces_of e2 three_frames)) (range_with_len 0 3)) ≡ four (206 ∷ 206 ∷ 206 ∷ [])
unfolding three_frames pieces_of start_fill zeros_frame track track_within one_search is_lost after_loss delivered gap_of completes_loss least_below is_right wrong set_role set_mark four_wrong
three_reads = refl

-- and all but the first 48 are put out
pub three_smooth : each (λ j. smooth e2 j three_frames) ≡ four (replicate 570 false)
unfolding smooth three_frames pieces_of start_fill received piece_bits stripped zeros_frame track track_within one_search is_lost after_loss delivered gap_of completes_loss least_below is_right wrong set_role set_mark four_wrong
three_smooth = refl

-- zeros behind the signal, with the control bits 111, by which the frame carries 205 bits of each tributary
unfoldable pub justified_frame : List Bool
justified_frame =
    e2_signal ++ false ∷ true ∷ replicate 200 false ++ replicate 4 true ++ replicate 208 false
    ++ replicate 4 true ++ replicate 208 false ++ replicate 4 true ++ replicate 208 false

-- a frame of 206 and two of 205: the third piece is the first with 205
unfoldable pub justified_frames : List Bool
justified_frames = zeros_frame ++ justified_frame ++ justified_frame

pub justified_reads : each (λ j. map (reads e2 j (pieces_of e2 justified_frames)) (range_with_len 0 3)) ≡ four (206 ∷ 206 ∷ 205 ∷ [])
unfolding justified_frames justified_frame pieces_of start_fill zeros_frame track track_within one_search is_lost after_loss delivered gap_of completes_loss least_below is_right wrong set_role set_mark four_wrong
justified_reads = refl

-- two frames are not confirmed, and give no piece
pub two_pieces : pieces_of e2 (zeros_frame ++ zeros_frame) ≡ []
unfolding pieces_of zeros_frame track track_within one_search is_lost after_loss delivered gap_of completes_loss least_below is_right wrong set_role set_mark four_wrong
two_pieces = refl
