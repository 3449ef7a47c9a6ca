-- Worked lines, computed by the checker: four frames of zeros with one flipped control bit, and with two. The first tributary's
-- control bits are slots 212, 424 and 636 of a frame, so in the second frame they are bits 1060, 1272 and 1484 of the line.
use Rattle.std.proofs.Common.{◌≡◌, ℕ, ◌+◌, ◌<◌, ◌≤◌, Bool, true, not, eqb, List, [], ◌∷◌, ◌++◌, length, map, take, drop, refl, inl, arith}
use Rattle.std.specs.Prelude.{nat_le}
use Rattle.std.specs.List.{range_with_len, list_all}
use Rattle.std.proofs.lemmas.Bool.{eqb-true, leb-true}
use Rattle.pdh_shape.specs.Frame.{is_right, wrong}
use Rattle.pdh_shape.specs.Tributary.{stripped, control_ones}
use Rattle.pdh_eframes.specs.Sets.{set_role, set_mark, four_wrong}
use Rattle.pdh_eframes.specs.Plans.{e2}
use Rattle.pdh_eframes.proofs.Worked.{zeros_frame}
use Rattle.pdh_line.specs.Least.{least_below}
use Rattle.pdh_line.specs.Tracking.{frame_of, frames_in, track, track_within, one_search, is_lost, after_loss, delivered, gap_of, completes_loss}
use Rattle.pdh_line.specs.Receiving.{received, piece_bits}
use Rattle.pdh_line.proofs.Ranges.{list_all-at}
use Rattle.pdh_line.proofs.RightLines.{every_right, every_right-at}
use Rattle.pdh_recovery.specs.Flipped.{wrong_copies, IsOneAlignment, AreFewWrong, ReadsTheSame}
use Rattle.pdh_recovery.proofs.RuleLaws.{e2_is_frame}
use Rattle.pdh_recovery.proofs.FlippedLaws.{contained}

-- a line with this bit flipped
abbrev pub flipped : ℕ → List Bool → List Bool
flipped x line = take x line ++ map not (take 1 (drop x line)) ++ drop (x + 1) line

unfoldable pub sent : List Bool
sent = zeros_frame ++ zeros_frame ++ zeros_frame ++ zeros_frame

-- one of the first tributary's three copies is wrong in the second frame
unfoldable pub one_flip : List Bool
one_flip = flipped 1060 sent

-- two are
unfoldable pub two_flips : List Bool
two_flips = flipped 1272 one_flip

lengths : length one_flip ≡ length sent
unfolding one_flip sent zeros_frame
lengths = refl

four : frames_in e2 sent ≡ 4
unfolding sent zeros_frame
four = refl

sent_right : every_right e2 sent ≡ true
unfolding every_right sent zeros_frame is_right set_role
sent_right = refl

-- ---- one flipped copy

-- the frames are one alignment
one_alignment : IsOneAlignment e2 one_flip
unfolding one_flip sent zeros_frame track track_within one_search is_lost after_loss delivered gap_of completes_loss least_below is_right wrong set_role set_mark four_wrong
one_alignment = record { frames = map (frame_of e2 one_flip) (0 ∷ 1 ∷ 2 ∷ 3 ∷ []); some = omega arith; pieces = refl }

-- in each frame that was sent no control bit of a tributary is 1,
none_one : ℕ → ℕ → Bool
none_one j k = eqb (control_ones e2 j (frame_of e2 sent k)) 0

all_none : list_all (λ j. list_all (none_one j) (range_with_len 0 4)) (range_with_len 0 4) ≡ true
unfolding none_one sent zeros_frame set_role
all_none = refl

-- and in each that was received at most one copy of three is wrong
few_wrong : ℕ → ℕ → Bool
few_wrong j k = nat_le (wrong_copies e2 j (frame_of e2 one_flip k) (frame_of e2 sent k)) 1

all_few : list_all (λ j. list_all (few_wrong j) (range_with_len 0 4)) (range_with_len 0 4) ≡ true
unfolding few_wrong one_flip sent zeros_frame set_role
all_few = refl

at : (p : ℕ → ℕ → Bool) (j k : ℕ) → list_all (λ j. list_all (p j) (range_with_len 0 4)) (range_with_len 0 4) ≡ true → j < 4 → k < 4 → p j k ≡ true
at p j k all h h' = list_all-at (p j) 0 4 k (list_all-at (λ j. list_all (p j) (range_with_len 0 4)) 0 4 j all (omega arith) (omega arith)) (omega arith) (omega arith)

-- so each tributary gets the bits that it would have got, each from its own place
pub contained_flip : (j : ℕ) → j < 4 → ReadsTheSame e2 j one_flip sent
unfolding none_one few_wrong
contained_flip j h =
    contained e2 one_flip sent j e2_is_frame lengths one_alignment (λ k lt. every_right-at e2 sent k sent_right lt)
    (λ k lt. inl (eqb-true _ _ (at none_one j k all_none h (omega (arith, four)))))
    (λ stores k lt. leb-true _ _ (at few_wrong j k all_few h (omega (arith, four))))

-- ---- two flipped copies

-- two of the first tributary's copies are wrong in the second frame, which is more than the law asks for,
copies_two : wrong_copies e2 0 (frame_of e2 two_flips 1) (frame_of e2 sent 1) ≡ 2
unfolding two_flips one_flip sent zeros_frame set_role
copies_two = refl

two_and_one : (n : ℕ) → n ≡ 2 → n ≤ 1 → ⊥
two_and_one n h h' = omega arith

pub too_many : AreFewWrong e2 0 two_flips sent → ⊥
too_many few = two_and_one (wrong_copies e2 0 (frame_of e2 two_flips 1) (frame_of e2 sent 1)) copies_two (few refl 1 (omega (arith, four)))

-- and it gets a bit less: that frame is read as if it carried no additional bit
shorter : length (received e2 0 two_flips) ≡ 823
unfolding received piece_bits stripped two_flips one_flip sent zeros_frame track track_within one_search is_lost after_loss delivered gap_of completes_loss least_below is_right wrong set_role set_mark four_wrong
shorter = refl

all_bits : length (received e2 0 sent) ≡ 824
unfolding received piece_bits stripped sent zeros_frame track track_within one_search is_lost after_loss delivered gap_of completes_loss least_below is_right wrong set_role set_mark four_wrong
all_bits = refl

not_equal : (n m : ℕ) → n ≡ 823 → m ≡ 824 → n ≡ m → ⊥
not_equal n m a b same = omega arith

pub not_contained : ReadsTheSame e2 0 two_flips sent → ⊥
not_contained same = not_equal (length (received e2 0 two_flips)) (length (received e2 0 sent)) shorter all_bits same.same_length
