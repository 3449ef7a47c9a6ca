-- Received lines, computed by the checker.
use Rattle.std.specs.Prelude.{◌≡◌, Bool, false, List, [], ◌∷◌, ◌++◌, replicate, flat_map, refl}
use Rattle.pdh_shape.specs.Frame.{is_right, wrong}
use Rattle.pdh_line.specs.Least.{least_below}
use Rattle.pdh_line.specs.Tracking.{track, track_within, one_search, is_lost, after_loss, delivered, gap_of, completes_loss}
use Rattle.pdh_line.specs.Tracking.Piece.{Gap}
use Rattle.pdh_ds.specs.Loss.{window_wrong}
use Rattle.pdh_ds1.specs.Superframe.{superframe_role, superframe_mark}
use Rattle.pdh_ds1.specs.Plans.{ds1_sf, ds1_esf}
use Rattle.pdh_ds1.specs.Packing.{word_of, line_payload}
use Rattle.pdh_ds1.specs.Receiving.{ds1_far, judged, carried_word}
use Rattle.pdh_ds1.proofs.Worked.{bits, f_bits_with, zero_frame}

-- a superframe of zeros
unfoldable pub zeros_sf : List Bool
zeros_sf = flat_map zero_frame (bits (1 ∷ 0 ∷ 0 ∷ 0 ∷ 1 ∷ 1 ∷ 0 ∷ 1 ∷ 1 ∷ 1 ∷ 0 ∷ 0 ∷ []))

-- the same with its first two framing bits wrong
unfoldable pub bad_sf : List Bool
bad_sf = flat_map zero_frame (bits (0 ∷ 1 ∷ 0 ∷ 0 ∷ 1 ∷ 1 ∷ 0 ∷ 1 ∷ 1 ∷ 1 ∷ 0 ∷ 0 ∷ []))

-- two superframes are not confirmed
pub two_far : track ds1_sf (zeros_sf ++ zeros_sf) ≡ Gap 0 ∷ []
unfolding zeros_sf track track_within one_search is_lost after_loss delivered gap_of completes_loss least_below is_right wrong superframe_role superframe_mark window_wrong
two_far = refl

-- three are
pub three_far : ds1_far ds1_sf (zeros_sf ++ zeros_sf ++ zeros_sf) ≡ replicate 6912 false
unfolding ds1_far line_payload zeros_sf track track_within one_search is_lost after_loss delivered gap_of completes_loss least_below is_right wrong superframe_role superframe_mark window_wrong
three_far = refl

-- three extended superframes of zeros, of which the first sends 000000 and the others 000010
unfoldable pub zeros_esf : List Bool
zeros_esf = flat_map zero_frame (f_bits_with 0 ++ f_bits_with 2 ++ f_bits_with 2)

pub esf_far : ds1_far ds1_esf zeros_esf ≡ replicate 13824 false
unfolding ds1_far line_payload zeros_esf track track_within one_search is_lost after_loss delivered gap_of completes_loss least_below is_right wrong superframe_role superframe_mark window_wrong
esf_far = refl

pub esf_judged : judged ds1_esf zeros_esf ≡ false ∷ false ∷ []
unfolding judged carried_word word_of zeros_esf track track_within one_search is_lost after_loss delivered gap_of completes_loss least_below is_right wrong superframe_role superframe_mark window_wrong
esf_judged = refl

-- a superframe that completes a loss gives nothing, and the search finds the next one
pub lost_far : ds1_far ds1_sf (zeros_sf ++ zeros_sf ++ zeros_sf ++ bad_sf ++ zeros_sf ++ zeros_sf ++ zeros_sf ++ zeros_sf) ≡ replicate 16128 false
unfolding ds1_far line_payload zeros_sf bad_sf track track_within one_search is_lost after_loss delivered gap_of completes_loss least_below is_right wrong superframe_role superframe_mark window_wrong
lost_far = refl
