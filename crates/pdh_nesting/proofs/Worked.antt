-- Worked examples, computed by the checker.
use Rattle.std.specs.Prelude.{◌≡◌, Bool, true, false, List, [], ◌∷◌, ◌++◌, length, map, replicate, refl}
use Rattle.std.specs.List.{range_with_len}
use Rattle.pdh_shape.specs.Frame.{FrameShape, is_right, wrong}
use Rattle.pdh_shape.specs.Tributary.{stripped}
use Rattle.pdh_eframes.specs.Sets.{set_role, set_mark, four_wrong}
use Rattle.pdh_eframes.specs.Plans.{e2, e3, e4, e2_signal}
use Rattle.pdh_line.specs.Least.{least_below}
use Rattle.pdh_line.specs.Tracking.{track, track_within, one_search, is_lost, after_loss, delivered, gap_of, completes_loss}
use Rattle.pdh_line.specs.Receiving.{received, piece_bits}
use Rattle.pdh_nesting.specs.Chains.{width}
use Rattle.pdh_line.specs.Nodes.{delay_below}
use Rattle.pdh_nesting.specs.Sending.{delay}
use Rattle.pdh_nesting.specs.Receiving.{far}
use Rattle.pdh_nesting.proofs.KnownChains.{locked_e2}

abbrev chains : List (List FrameShape)
chains = (e2 ∷ []) ∷ (e3 ∷ []) ∷ (e4 ∷ []) ∷ (e3 ∷ e2 ∷ []) ∷ (e4 ∷ e3 ∷ []) ∷ (e4 ∷ e3 ∷ e2 ∷ []) ∷ []

pub leaves : map width chains ≡ 4 ∷ 4 ∷ 4 ∷ 16 ∷ 16 ∷ 64 ∷ []
leaves = refl

pub delays : map delay chains ≡ 478 ∷ 822 ∷ 1512 ∷ 890 ∷ 1578 ∷ 1096 ∷ []
unfolding delay_below
delays = refl

-- a node without stores keeps a tributary short by the bits of its frames alone
pub locked_delays : map delay ((locked_e2 ∷ []) ∷ (locked_e2 ∷ e2 ∷ []) ∷ (e2 ∷ locked_e2 ∷ []) ∷ []) ≡ 412 ∷ 890 ∷ 824 ∷ []
unfolding delay_below
locked_delays = refl

-- ---- three E3 frames of zeros: the signal 1111010000, no alarm, the national bit, and zeros in all other slots
unfoldable pub zeros : List Bool
zeros = e2_signal ++ false ∷ true ∷ replicate 1524 false

unfoldable pub three_zeros : List Bool
three_zeros = zeros ++ zeros ++ zeros

-- each E2 line below gets 1134 bits, fewer than three E2 frames, so that no leaf gets anything
pub zeros_received : map (λ j. length (received e3 j three_zeros)) (0 ∷ 1 ∷ 2 ∷ 3 ∷ []) ≡ replicate 4 1134
unfolding zeros three_zeros received piece_bits stripped track track_within one_search is_lost after_loss delivered gap_of completes_loss least_below is_right wrong set_role set_mark four_wrong
zeros_received = refl

pub zeros_far : map (far (e3 ∷ e2 ∷ []) three_zeros) (range_with_len 0 16) ≡ replicate 16 []
unfolding zeros three_zeros far received piece_bits stripped track track_within one_search is_lost after_loss delivered gap_of completes_loss least_below is_right wrong set_role set_mark four_wrong
zeros_far = refl
