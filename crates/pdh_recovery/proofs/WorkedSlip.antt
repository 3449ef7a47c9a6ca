-- A worked line, computed by the checker: three right frames and 100 bits of a fourth, and then the sent line from eight bits later
-- on. It rejoins at (2644, 2652). The alignment goes on at places that are false now, and is lost in the fifth frame.
use Rattle.std.proofs.Common.{◌≡◌, ℕ, ◌+◌, ◌*◌, ◌%◌, Bool, true, List, [], ◌∷◌, ◌++◌, length, map, take, drop, refl, subst, arith}
use Rattle.pdh_shape.specs.Frame.{is_right, wrong}
use Rattle.pdh_eframes.specs.Sets.{set_role, set_mark, four_wrong}
use Rattle.pdh_eframes.specs.Plans.{e2}
use Rattle.pdh_eframes.proofs.Worked.{zeros_frame}
use Rattle.pdh_line.specs.Least.{least_below}
use Rattle.pdh_line.specs.Tracking.{track, track_within, one_search, is_lost, after_loss, delivered, gap_of, completes_loss}
use Rattle.pdh_line.specs.Tracking.Piece.{Delivered}
use Rattle.pdh_line.proofs.RightLines.{every_right}
use Rattle.pdh_recovery.specs.Recovering.{EndsInFrames, LosesAt, IsQuietFrom, RecoversAfter}
use Rattle.pdh_recovery.proofs.OnceLaws.{place_once}
use Rattle.pdh_recovery.proofs.RuleLaws.{e2_keeps, e2_is_frame}
use Rattle.pdh_recovery.proofs.Imitations.{begins_right, none_imitates, quiet_once_lost, right_again}

-- ---- the lines

unfoldable pub slip : List Bool
slip =
    zeros_frame ++ zeros_frame ++ zeros_frame ++ take 100 zeros_frame ++ drop 108 zeros_frame
    ++ zeros_frame ++ zeros_frame ++ zeros_frame ++ zeros_frame ++ zeros_frame ++ zeros_frame ++ zeros_frame ++ zeros_frame ++ zeros_frame

unfoldable pub sent : List Bool
sent =
    zeros_frame ++ zeros_frame ++ zeros_frame ++ zeros_frame ++ zeros_frame ++ zeros_frame ++ zeros_frame
    ++ zeros_frame ++ zeros_frame ++ zeros_frame ++ zeros_frame ++ zeros_frame ++ zeros_frame

sent_right : every_right e2 sent ≡ true
unfolding every_right sent zeros_frame is_right set_role
sent_right = refl

rejoined_bits : drop 2644 slip ≡ take 8372 (drop 2652 sent)
unfolding slip sent zeros_frame
rejoined_bits = refl

slip_length : length slip ≡ 11016
unfolding slip zeros_frame
slip_length = refl

sent_length : length sent ≡ 11024
unfolding sent zeros_frame
sent_length = refl

-- ---- where it is searched, no other place imitates the signal

all_fine : none_imitates e2 10 2644 2652 2537 5936 (drop 5936 slip) ≡ true
unfolding none_imitates begins_right slip zeros_frame set_role
all_fine = refl

-- ---- the tracking

frame : ℕ → List Bool
frame k = take 848 (drop (k * 848) slip)

-- at bit 2644 it is in the frames from bit 0 on,
three_frames : EndsInFrames e2 (take 2644 slip) 0
unfolding frame slip zeros_frame track track_within one_search is_lost after_loss delivered gap_of completes_loss least_below is_right wrong set_role set_mark four_wrong
three_frames = record { before = []; gap = 0; frames = map frame (0 ∷ 1 ∷ 2 ∷ []); some = omega arith; ends = refl; begins = refl }

-- which are lost after seven: the frame from bit 5936 on completes the loss
lost : LosesAt e2 slip 0 5936
unfolding frame slip zeros_frame track track_within one_search is_lost after_loss delivered gap_of completes_loss least_below is_right wrong set_role set_mark four_wrong
lost = record {
  before = [];
  gap = 0;
  frames = map frame (0 ∷ 1 ∷ 2 ∷ 3 ∷ 4 ∷ 5 ∷ 6 ∷ []);
  next_gap = 840;
  rest = map (λ k. Delivered (take 848 (drop (6776 + k * 848) slip))) (0 ∷ 1 ∷ 2 ∷ 3 ∷ 4 ∷ []);
  some = omega arith;
  pieces = refl;
  begins = refl;
  lost = refl;
}

-- within five frames, by bit 6884
lost_in_time : LosesAt e2 (take 6884 slip) 0 5936
unfolding frame slip zeros_frame track track_within one_search is_lost after_loss delivered gap_of completes_loss least_below is_right wrong set_role set_mark four_wrong
lost_in_time = record { before = []; gap = 0; frames = map frame (0 ∷ 1 ∷ 2 ∷ 3 ∷ 4 ∷ 5 ∷ 6 ∷ []); next_gap = 0; rest = []; some = omega arith; pieces = refl; begins = refl; lost = refl }

pub quiet : IsQuietFrom e2 slip 2644 2652 5
quiet = quiet_once_lost e2 10 2644 2652 5 2537 0 5936 slip e2_is_frame (omega arith) (omega arith) three_frames lost lost_in_time all_fine (omega (arith, slip_length))

-- so from bit 9428 on, frames at places of the sent ones are there, which begin before bit 6884
pub comes_back : RecoversAfter e2 slip 2644 2652 5
comes_back = right_again e2 2644 2652 5 11016 11024 slip sent e2_is_frame e2_keeps slip_length sent_length (omega arith) rejoined_bits sent_right quiet (omega arith)

-- It isn't enough that the false alignment is lost at some time: with one frame in place of the five, frames at true positions would
-- have to be there from bit 6036 on, where the tracking is still in the false ones.
false_frames : EndsInFrames e2 (take 6036 slip) 0
unfolding frame slip zeros_frame track track_within one_search is_lost after_loss delivered gap_of completes_loss least_below is_right wrong set_role set_mark four_wrong
false_frames = record { before = []; gap = 0; frames = map frame (0 ∷ 1 ∷ 2 ∷ 3 ∷ 4 ∷ 5 ∷ 6 ∷ []); some = omega arith; ends = refl; begins = refl }

pub not_sooner : RecoversAfter e2 slip 2644 2652 1 → ⊥
not_sooner back =
    let zero : back.place ≡ 0 = place_once e2 (take 6036 slip) back.place 0 (back.stays 6036 (omega arith) (omega (arith, slip_length))) false_frames in
    let position : (0 + 2652) % 848 ≡ 2644 % 848 = subst (λ p. (p + 2652) % 848 ≡ 2644 % 848) zero back.true_position in
    omega arith
