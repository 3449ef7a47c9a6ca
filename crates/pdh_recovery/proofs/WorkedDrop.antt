-- A worked line, computed by the checker: 20 frames of 34368 kbit/s, whose tributaries are lines of 8448 kbit/s of zeros, without the
-- 104 bits from bit 6344 on. It rejoins at (6344, 6448). The alignment goes on at false positions; four frames in a row are wrong,
-- so it is lost with the eighth frame, and the search from bit 12288 on finds the frame at bit 13720.
use Rattle.std.proofs.Common.{◌≡◌, ℕ, ◌+◌, Bool, true, false, not, List, [], ◌∷◌, ◌++◌, length, take, drop, replicate, refl, subst, arith}
use Rattle.std.proofs.lemmas.List.{take-append-drop, append-nil}
use Rattle.pdh_shape.specs.Frame.{is_right, wrong}
use Rattle.pdh_eframes.specs.Sets.{set_role, set_mark, four_wrong}
use Rattle.pdh_eframes.specs.Plans.{e3}
use Rattle.pdh_line.specs.Least.{least_below}
use Rattle.pdh_line.specs.Tracking.{is_found, is_lost, delivered, gap_of, completes_loss}
use Rattle.pdh_line.proofs.RightLines.{every_right}
use Rattle.pdh_recovery.specs.Recovering.{EndsInFrames, LosesAt, IsQuietFrom, RecoversAfter}
use Rattle.pdh_recovery.proofs.PieceLaws.{next_search, search_first, ends_in_frames, loses_at}
use Rattle.pdh_recovery.proofs.RuleLaws.{e3_keeps, e3_is_frame}
use Rattle.pdh_recovery.proofs.Imitations.{begins_right, none_imitates, quiet_once_lost, right_again}

-- ---- the lines

-- runs of equal bits, by turns of one value and of the other
unfoldable pub runs : Bool → List ℕ → List Bool
runs bit [] = []
runs bit (n ∷ ns) = replicate n bit ++ runs (not bit) ns

-- a frame in which no tributary has a bit 1
unfoldable pub plain : List Bool
plain = runs true (4 ∷ 1 ∷ 1 ∷ 5 ∷ 1 ∷ 1524 ∷ [])

unfoldable pub sent : List Bool
sent =
    (runs true (4 ∷ 1 ∷ 1 ∷ 5 ∷ 17 ∷ 4 ∷ 4 ∷ 20 ∷ 4 ∷ 1476 ∷ []))
    ++ plain
    ++ (runs true (4 ∷ 1 ∷ 1 ∷ 5 ∷ 1 ∷ 368 ∷ 4 ∷ 4 ∷ 12 ∷ 4 ∷ 4 ∷ 20 ∷ 4 ∷ 1104 ∷ []))
    ++ plain
    ++ (runs true (4 ∷ 1 ∷ 1 ∷ 5 ∷ 1 ∷ 740 ∷ 16 ∷ 8 ∷ 4 ∷ 20 ∷ 4 ∷ 732 ∷ []))
    ++ plain
    ++ (runs true (4 ∷ 1 ∷ 1 ∷ 5 ∷ 1 ∷ 1112 ∷ 16 ∷ 4 ∷ 4 ∷ 24 ∷ 4 ∷ 360 ∷ []))
    ++ plain
    ++ (runs true (4 ∷ 1 ∷ 1 ∷ 5 ∷ 1 ∷ 1484 ∷ 16 ∷ 4 ∷ 4 ∷ 16 ∷ []))
    ++ (runs true (4 ∷ 1 ∷ 1 ∷ 5 ∷ 1 ∷ 4 ∷ 4 ∷ 1516 ∷ []))
    ++ plain
    ++ (runs true (4 ∷ 1 ∷ 1 ∷ 5 ∷ 1 ∷ 328 ∷ 16 ∷ 4 ∷ 4 ∷ 24 ∷ 4 ∷ 1144 ∷ []))
    ++ plain
    ++ (runs true (4 ∷ 1 ∷ 1 ∷ 5 ∷ 1 ∷ 700 ∷ 16 ∷ 4 ∷ 4 ∷ 20 ∷ 4 ∷ 776 ∷ []))
    ++ plain
    ++ (runs true (4 ∷ 1 ∷ 1 ∷ 5 ∷ 1 ∷ 1072 ∷ 16 ∷ 4 ∷ 4 ∷ 20 ∷ 4 ∷ 404 ∷ []))
    ++ plain
    ++ (runs true (4 ∷ 1 ∷ 1 ∷ 5 ∷ 1 ∷ 1444 ∷ 16 ∷ 4 ∷ 4 ∷ 20 ∷ 4 ∷ 32 ∷ []))
    ++ plain
    ++ plain

unfoldable pub dropped : List Bool
dropped = take 6344 sent ++ drop 6448 sent

sent_right : every_right e3 sent ≡ true
unfolding every_right sent runs plain is_right set_role
sent_right = refl

rejoined_bits : drop 6344 dropped ≡ take 24272 (drop 6448 sent)
unfolding dropped sent runs plain
rejoined_bits = refl

dropped_length : length dropped ≡ 30616
unfolding dropped sent runs plain
dropped_length = refl

sent_length : length sent ≡ 30720
unfolding sent runs plain
sent_length = refl

-- ---- where it is searched, nothing imitates the signal

all_fine : none_imitates e3 10 6344 6448 13721 12288 (drop 12288 dropped) ≡ true
unfolding none_imitates begins_right dropped sent runs plain set_role
all_fine = refl

-- ---- the tracking

-- at bit 6344 it is in the frames from bit 0 on,
abbrev pub front : List Bool
front = take 6344 dropped

front_is : (is_found e3 (drop 0 front) ≡ true) × (is_lost e3 (drop 0 front) ≡ false) × (0 + gap_of e3 (drop 0 front) ≡ 0)
unfolding dropped sent runs plain is_lost delivered gap_of completes_loss least_below is_right wrong set_role set_mark four_wrong
front_is = (refl, refl, refl)

four_frames : EndsInFrames e3 front 0
four_frames = subst (EndsInFrames e3 front) front_is.2 (ends_in_frames e3 front 0 e3_is_frame (search_first e3 front) front_is.0 front_is.1)

-- which are lost within five frames, by bit 14024: the frame from bit 12288 on completes the loss
abbrev pub longer : List Bool
longer = take 14024 dropped

longer_is : (is_lost e3 (drop 0 longer) ≡ true) × (0 + gap_of e3 (drop 0 longer) ≡ 0) × (0 + next_search e3 (drop 0 longer) ≡ 12288)
unfolding dropped sent runs plain is_lost delivered gap_of completes_loss least_below is_right wrong set_role set_mark four_wrong
longer_is = (refl, refl, refl)

loses_after : (more : List Bool) → LosesAt e3 (longer ++ more) 0 12288
loses_after more =
    let loss : LosesAt e3 (longer ++ more) (0 + gap_of e3 (drop 0 longer)) (0 + next_search e3 (drop 0 longer)) = loses_at e3 longer more 0 e3_is_frame (search_first e3 longer) longer_is.0 in
    subst (LosesAt e3 (longer ++ more) 0) longer_is.2 (subst (λ p. LosesAt e3 (longer ++ more) p (0 + next_search e3 (drop 0 longer))) longer_is.1 loss)

lost_in_time : LosesAt e3 longer 0 12288
lost_in_time = subst (λ l. LosesAt e3 l 0 12288) (append-nil longer) (loses_after [])

lost_later : LosesAt e3 dropped 0 12288
lost_later = subst (λ l. LosesAt e3 l 0 12288) (take-append-drop 14024 dropped) (loses_after (drop 14024 dropped))

pub quiet : IsQuietFrom e3 dropped 6344 6448 5
quiet = quiet_once_lost e3 10 6344 6448 5 13721 0 12288 dropped e3_is_frame (omega arith) (omega arith) four_frames lost_later lost_in_time all_fine (omega (arith, dropped_length))

-- so from bit 18632 on, frames at true positions are there, which begin before bit 14024
pub comes_back : RecoversAfter e3 dropped 6344 6448 5
comes_back = right_again e3 6344 6448 5 30616 30720 dropped sent e3_is_frame e3_keeps dropped_length sent_length (omega arith) rejoined_bits sent_right quiet (omega arith)
