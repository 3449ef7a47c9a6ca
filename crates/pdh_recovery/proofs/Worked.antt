-- A worked line, computed by the checker: three right frames, four with a bad signal, and five right ones. The last error is bit
-- 5095, in the seventh frame, so the line rejoins at (5096, 5096), and one frame is enough.
use Rattle.std.proofs.Common.{◌≡◌, ◌+◌, ◌*◌, ◌≤◌, Bool, true, not, List, [], ◌∷◌, ◌++◌, length, map, take, drop, refl, subst, arith}
use Rattle.pdh_shape.specs.Frame.{is_right, wrong}
use Rattle.pdh_eframes.specs.Sets.{set_role, set_mark, four_wrong}
use Rattle.pdh_eframes.specs.Plans.{e2}
use Rattle.pdh_eframes.proofs.Worked.{zeros_frame, bad_frame, four_bad_signals}
use Rattle.pdh_line.specs.Least.{least_below}
use Rattle.pdh_line.specs.Tracking.{Piece, track, track_within, one_search, is_lost, after_loss, delivered, gap_of, completes_loss}
use Rattle.pdh_line.specs.Tracking.Piece.{Gap, Delivered}
use Rattle.pdh_line.proofs.RightLines.{every_right}
use Rattle.pdh_recovery.specs.Recovering.{EndsInFrames, IsTruePosition, IsQuietFrom, Recovers, RecoversAfter}
use Rattle.pdh_align.specs.OpenGap.{EndsInGap}
use Rattle.pdh_recovery.proofs.OnceLaws.{place_once, gap_or_frames}
use Rattle.pdh_recovery.proofs.RuleLaws.{e2_keeps, e2_is_frame}
use Rattle.pdh_recovery.proofs.Imitations.{begins_right, none_imitates, true_there, right_again}
use Rattle.pdh_recovery.proofs.SettleLaws.{confirmed_fits}

-- ---- the line that was sent

unfoldable sent : List Bool
sent =
    zeros_frame ++ zeros_frame ++ zeros_frame ++ zeros_frame ++ zeros_frame ++ zeros_frame
    ++ zeros_frame ++ zeros_frame ++ zeros_frame ++ zeros_frame ++ zeros_frame ++ zeros_frame

sent_right : every_right e2 sent ≡ true
unfolding every_right sent zeros_frame is_right set_role
sent_right = refl

rejoined_bits : drop 5096 four_bad_signals ≡ take 5080 (drop 5096 sent)
unfolding four_bad_signals sent zeros_frame bad_frame
rejoined_bits = refl

line_length : length four_bad_signals ≡ 10176
unfolding four_bad_signals zeros_frame bad_frame
line_length = refl

sent_length : length sent ≡ 10176
unfolding sent zeros_frame
sent_length = refl

-- ---- no other place imitates the signal

all_fine : none_imitates e2 10 5096 5096 5080 2553 (drop 2553 four_bad_signals) ≡ true
unfolding none_imitates begins_right four_bad_signals zeros_frame bad_frame set_role
all_fine = refl

-- ---- the tracking of its first bits, and of the whole

-- at bit 5096 it is in the six frames from bit 0 on, which are lost at bit 5088
six_frames : EndsInFrames e2 (take 5096 four_bad_signals) 0
unfolding four_bad_signals zeros_frame bad_frame track track_within one_search is_lost after_loss delivered gap_of completes_loss least_below is_right wrong set_role set_mark four_wrong
six_frames = record {
  before = [];
  gap = 0;
  frames = zeros_frame ∷ zeros_frame ∷ zeros_frame ∷ bad_frame ∷ bad_frame ∷ bad_frame ∷ [];
  some = omega arith;
  ends = refl;
  begins = refl;
}

pub quiet : IsQuietFrom e2 four_bad_signals 5096 5096 1
quiet = record {
  some = omega arith;
  no_other = λ q p searches from late confirmed.
      let fits : p + 3 * 848 ≤ length four_bad_signals = confirmed_fits e2 four_bad_signals p e2_is_frame.some_slots confirmed in
      true_there e2 10 5096 5096 5080 2553 p four_bad_signals (omega arith) all_fine (omega arith) (omega (arith, line_length)) confirmed;
  in_time = λ p open_frames not_true. absurd (not_true (subst (λ p. IsTruePosition e2 5096 5096 p) (place_once e2 (take 5096 four_bad_signals) 0 p six_frames open_frames) refl));
}

-- so from bit 8488 on, five frames that begin before bit 5944 are there
pub comes_back : RecoversAfter e2 four_bad_signals 5096 5096 1
comes_back = right_again e2 5096 5096 1 10176 10176 four_bad_signals sent e2_is_frame e2_keeps line_length sent_length (omega arith) rejoined_bits sent_right quiet (omega arith)

-- and not a frame earlier: by bit 7640 two of the three frames have come that confirm them, and the tracking is in a gap
searching : track e2 (take 7640 four_bad_signals) ≡ (Gap 0 ∷ map Delivered (zeros_frame ∷ zeros_frame ∷ zeros_frame ∷ bad_frame ∷ bad_frame ∷ bad_frame ∷ [])) ++ Gap 9 ∷ []
unfolding four_bad_signals zeros_frame bad_frame track track_within one_search is_lost after_loss delivered gap_of completes_loss least_below is_right wrong set_role set_mark four_wrong
searching = refl

open_gap : EndsInGap e2 (take 7640 four_bad_signals) 5088
open_gap = record { before = Gap 0 ∷ map Delivered (zeros_frame ∷ zeros_frame ∷ zeros_frame ∷ bad_frame ∷ bad_frame ∷ bad_frame ∷ []); gap = 9; ends = searching; from = refl }

pub not_earlier : Recovers e2 four_bad_signals 5096 5096 (5096 + (1 + 2) * 848) (5096 + 1 * 848) → ⊥
not_earlier early = gap_or_frames e2 (take 7640 four_bad_signals) 5088 early.place open_gap (early.stays 7640 (omega arith) (omega (arith, line_length)))

-- in fact the five frames from bit 5936 on are confirmed by the bit 8479, and not before
before_five : List Piece
before_five = Gap 0 ∷ map Delivered (zeros_frame ∷ zeros_frame ∷ zeros_frame ∷ bad_frame ∷ bad_frame ∷ bad_frame ∷ [])

pub confirmed : EndsInFrames e2 (take 8480 four_bad_signals) 5936
unfolding before_five four_bad_signals zeros_frame bad_frame track track_within one_search is_lost after_loss delivered gap_of completes_loss least_below is_right wrong set_role set_mark four_wrong
confirmed = record { before = before_five; gap = 848; frames = zeros_frame ∷ zeros_frame ∷ zeros_frame ∷ []; some = omega arith; ends = refl; begins = refl }

pub not_confirmed : EndsInGap e2 (take 8479 four_bad_signals) 5088
unfolding before_five four_bad_signals zeros_frame bad_frame track track_within one_search is_lost after_loss delivered gap_of completes_loss least_below is_right wrong set_role set_mark four_wrong
not_confirmed = record { before = before_five; gap = 848; ends = refl; from = refl }
