-- Worked examples of received lines of E2 frames, computed by the checker.
use Rattle.std.specs.Prelude.{◌≡◌, Bool, true, false, List, [], ◌∷◌, ◌++◌, map, replicate, refl}
use Rattle.pdh_shape.specs.Frame.{is_right, wrong}
use Rattle.pdh_shape.specs.Tributary.{stripped}
use Rattle.pdh_eframes.specs.Sets.{set_role, set_mark, four_wrong}
use Rattle.pdh_eframes.specs.Plans.{e2}
use Rattle.pdh_eframes.proofs.Worked.{zeros_frame, bad_frame, four_bad_signals}
use Rattle.pdh_line.specs.Least.{least_below}
use Rattle.pdh_line.specs.Tracking.{track, track_within, one_search, is_lost, after_loss, delivered, gap_of, completes_loss}
use Rattle.pdh_line.specs.Tracking.Piece.{Gap, Delivered}
use Rattle.pdh_line.specs.Receiving.{received, piece_bits}

-- three frames of zeros: no gap, and the three frames
pub three_frames : track e2 (zeros_frame ++ zeros_frame ++ zeros_frame) ≡ Gap 0 ∷ Delivered zeros_frame ∷ Delivered zeros_frame ∷ Delivered zeros_frame ∷ []
unfolding zeros_frame track track_within one_search is_lost after_loss delivered gap_of completes_loss least_below is_right wrong set_role set_mark four_wrong
three_frames = refl

-- they give 618 zeros to each tributary
pub three_received : map (λ j. received e2 j (zeros_frame ++ zeros_frame ++ zeros_frame)) (0 ∷ 3 ∷ []) ≡ replicate 2 (replicate 618 false)
unfolding received piece_bits stripped zeros_frame track track_within one_search is_lost after_loss delivered gap_of completes_loss least_below is_right wrong set_role set_mark four_wrong
three_received = refl

-- two frames are not confirmed
pub two_frames : track e2 (zeros_frame ++ zeros_frame) ≡ Gap 0 ∷ []
unfolding zeros_frame track track_within one_search is_lost after_loss delivered gap_of completes_loss least_below is_right wrong set_role set_mark four_wrong
two_frames = refl

-- a search over four positions
pub after_four_bits : track e2 (replicate 4 true ++ zeros_frame ++ zeros_frame ++ zeros_frame) ≡ Gap 4 ∷ Delivered zeros_frame ∷ Delivered zeros_frame ∷ Delivered zeros_frame ∷ []
unfolding zeros_frame track track_within one_search is_lost after_loss delivered gap_of completes_loss least_below is_right wrong set_role set_mark four_wrong
after_four_bits = refl

-- a line of twelve frames with four bad signals that follow each other: six frames, a gap of one frame, five frames
pub four_bad_track : track e2 four_bad_signals ≡ Gap 0 ∷ Delivered zeros_frame ∷ Delivered zeros_frame ∷ Delivered zeros_frame ∷ Delivered bad_frame ∷ Delivered bad_frame ∷ Delivered bad_frame
    ∷ Gap 848 ∷ Delivered zeros_frame ∷ Delivered zeros_frame ∷ Delivered zeros_frame ∷ Delivered zeros_frame ∷ Delivered zeros_frame ∷ []
unfolding four_bad_signals zeros_frame bad_frame track track_within one_search is_lost after_loss delivered gap_of completes_loss least_below is_right wrong set_role set_mark four_wrong
four_bad_track = refl
