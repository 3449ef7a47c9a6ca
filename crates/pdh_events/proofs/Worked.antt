-- Worked examples of events, computed by the checker.
use Rattle.std.specs.Prelude.{◌≡◌, ℕ, ◌%◌, Bool, true, false, List, [], ◌∷◌, ◌++◌, replicate, take, flat_map, refl}
use Rattle.std.specs.List.{slice_index_or}
use Rattle.pdh_shape.specs.declared.place.Path.{Path}
use Rattle.pdh_shape.specs.declared.role.Role.TheVariants.{Align, Service, Info}
use Rattle.pdh_shape.specs.declared.role.Duty.TheVariants.{Alarm, Parity, PathParity, Febe, Feac, Other}
use Rattle.pdh_shape.specs.Frame.{FrameShape, is_right, wrong}
use Rattle.pdh_shape.specs.Tributary.{stripped}
use Rattle.pdh_eframes.specs.Sets.{set_role, set_mark, set_service, set_duty, four_wrong}
use Rattle.pdh_eframes.specs.Plans.{e2}
use Rattle.pdh_eframes.proofs.Worked.{zeros_frame, bad_frame, four_bad_signals}
use Rattle.pdh_watch.specs.declared.kind.TheConstants.Kind.{ALIGNED, LOST, AIS_ON, AIS_OFF, ALARM_ON, ALARM_OFF, PARITY, PATH_PARITY, FEBE}
use Rattle.pdh_line.specs.Least.{least_below}
use Rattle.pdh_line.specs.Tracking.{track, track_within, one_search, is_lost, after_loss, delivered, gap_of, completes_loss}
use Rattle.pdh_line.specs.Tracking.Piece.{Gap, Delivered}
use Rattle.pdh_line.specs.Receiving.{received, piece_bits}
use Rattle.pdh_line.specs.Paths.{top}
use Rattle.pdh_cbit.specs.Feac.{word_of, ten_words, answers, answer_of}
use Rattle.pdh_events.specs.Telling.{event_of, ones_at_end}
use Rattle.pdh_events.specs.Duties.{alarm_says, alarm_after, duty_bits, is_odd, channel_bits, codes_answered, frame_events}
use Rattle.pdh_events.specs.Acts.{frame_acts, pieces_acts, bit_acts}
use Rattle.pdh_events.specs.Chain.{bit_events, chain_events}

-- a line with four bad signals is aligned with the last bit of frame 2, and lost with that of frame 6
pub aligned_at_2543 : bit_events (e2 ∷ []) top (take 2543 four_bad_signals) false ≡ event_of top 2543 ALIGNED ∷ []
unfolding bit_events bit_acts pieces_acts frame_acts frame_events codes_answered channel_bits duty_bits is_odd alarm_after alarm_says ones_at_end received piece_bits stripped four_bad_signals zeros_frame bad_frame track track_within one_search is_lost after_loss delivered gap_of completes_loss least_below is_right wrong set_role set_mark four_wrong
aligned_at_2543 = refl

pub lost_at_5935 : bit_events (e2 ∷ []) top (take 5935 four_bad_signals) false ≡ event_of top 5935 LOST ∷ []
unfolding bit_events bit_acts pieces_acts frame_acts frame_events codes_answered channel_bits duty_bits is_odd alarm_after alarm_says ones_at_end received piece_bits stripped four_bad_signals zeros_frame bad_frame track track_within one_search is_lost after_loss delivered gap_of completes_loss least_below is_right wrong set_role set_mark four_wrong
lost_at_5935 = refl

-- ---- a small shape: eight slots, the signal 110, an alarm bit, and two bits of each of two tributaries

abbrev small : FrameShape
small = record {
  len = 8;
  tribs = 2;
  copies = 0;
  low = 2;
  signal = 3;
  role = λ slot. slice_index_or (Align true ∷ Align true ∷ Align false ∷ Service 0 ∷ []) slot (Info (slot % 2));
  mark = set_mark 3;
  inverted = λ j. false;
  duty = set_duty;
  service = λ number say odd. set_service number say;
  loses = four_wrong;
}

-- a frame with this alarm bit
abbrev frame : Bool → List Bool
frame alarm = true ∷ true ∷ false ∷ alarm ∷ false ∷ false ∷ false ∷ false ∷ []

abbrev first_child : Path
first_child = record { depth = 1; first = 1; second = 0 }

abbrev second_child : Path
second_child = record { depth = 1; first = 2; second = 0 }

-- the alarm of the second and the third frame begins and ends with the bits that deliver them
pub alarms : chain_events (small ∷ []) (frame false ++ frame true ++ frame true ++ frame false) ≡ event_of top 23 ALIGNED ∷ event_of top 23 ALARM_ON ∷ event_of top 31 ALARM_OFF ∷ []
unfolding chain_events bit_events bit_acts pieces_acts frame_acts frame_events codes_answered channel_bits duty_bits is_odd alarm_after alarm_says ones_at_end received piece_bits stripped track track_within one_search is_lost after_loss delivered gap_of completes_loss least_below is_right wrong set_mark four_wrong
alarms = refl

-- A gap of 32 positions gives each tributary eight ones, of which the last begins AIS in the nodes below; the zeros of the
-- first delivered frame end it. The top's alignment comes between, as its own event.
pub nested : chain_events (small ∷ small ∷ []) (replicate 32 false ++ frame false ++ frame false ++ frame false)
    ≡ event_of first_child 7 AIS_ON ∷ event_of second_child 7 AIS_ON ∷ event_of top 55 ALIGNED ∷ event_of first_child 8 AIS_OFF ∷ event_of second_child 8 AIS_OFF ∷ []
unfolding chain_events bit_events bit_acts pieces_acts frame_acts frame_events codes_answered channel_bits duty_bits is_odd alarm_after alarm_says ones_at_end received piece_bits stripped track track_within one_search is_lost after_loss delivered gap_of completes_loss least_below is_right wrong set_mark four_wrong
nested = refl

-- ---- a shape whose service bits tell everything: the alarm, parity, path parity three times, a far end block error, and
-- a bit of the alarm and control channel; and one bit of a tributary

abbrev telling : FrameShape
telling = record {
  len = 11;
  tribs = 1;
  copies = 0;
  low = 1;
  signal = 3;
  role = λ slot. slice_index_or (Align true ∷ Align true ∷ Align false ∷ Service 0 ∷ Service 1 ∷ Service 4 ∷ Service 4 ∷ Service 4 ∷ Service 5 ∷ Service 3 ∷ []) slot (Info 0);
  mark = set_mark 3;
  inverted = λ j. false;
  duty = λ number. slice_index_or (Alarm ∷ Parity ∷ Other ∷ Feac ∷ PathParity ∷ Febe ∷ []) number Other;
  service = λ number say odd. set_service number say;
  loses = four_wrong;
}

-- a frame of these bits behind its signal
abbrev told : List Bool → List Bool
told bits = true ∷ true ∷ false ∷ bits

-- no alarm and no error; the frame before held an even number of ones, and this holds one
abbrev calm : List Bool
calm = told (false ∷ false ∷ false ∷ false ∷ false ∷ true ∷ true ∷ true ∷ [])

-- after an odd frame a parity bit of 0 is wrong, and so is a majority of zeros of the path parity bits
pub parities : frame_events telling top 70 (Gap 0 ∷ Delivered calm ∷ []) (told (false ∷ false ∷ true ∷ false ∷ false ∷ true ∷ true ∷ false ∷ [])) ≡ event_of top 70 PARITY ∷ event_of top 70 PATH_PARITY ∷ []
unfolding frame_events codes_answered channel_bits duty_bits is_odd alarm_after alarm_says answer_of answers ten_words word_of
parities = refl

-- two of three path parity bits are enough
pub majority : frame_events telling top 70 (Gap 0 ∷ Delivered calm ∷ []) (told (false ∷ true ∷ true ∷ false ∷ true ∷ true ∷ true ∷ false ∷ [])) ≡ []
unfolding frame_events codes_answered channel_bits duty_bits is_odd alarm_after alarm_says answer_of answers ten_words word_of
majority = refl

-- the first frame of an alignment is compared with none; an alarm and a block error are told in it too
pub first_of_alignment : frame_events telling top 70 (Gap 0 ∷ Delivered calm ∷ Gap 11 ∷ []) (told (true ∷ false ∷ false ∷ false ∷ false ∷ false ∷ true ∷ false ∷ [])) ≡ event_of top 70 ALARM_ON ∷ event_of top 70 FEBE ∷ []
unfolding frame_events codes_answered channel_bits duty_bits is_odd alarm_after alarm_says answer_of answers ten_words word_of
first_of_alignment = refl

-- frames of these bits of the channel
abbrev channel : List Bool → List (List Bool)
channel bits = flat_map (λ bit. told (false ∷ false ∷ false ∷ false ∷ false ∷ true ∷ bit ∷ false ∷ []) ∷ []) bits

abbrev words : ℕ → List Bool
words count = flat_map (λ word. word) (replicate count (word_of 5))

-- a code is answered with the last bit of its tenth word, whatever stood before,
pub answered : codes_answered telling (channel (true ∷ take 159 (words 10))) (told (replicate 5 false ++ true ∷ false ∷ false ∷ [])) ≡ 5 ∷ []
unfolding codes_answered channel_bits duty_bits answer_of answers ten_words word_of
answered = refl

-- and not again with that of its eleventh
pub answered_once : codes_answered telling (channel (true ∷ take 175 (words 11))) (told (replicate 5 false ++ true ∷ false ∷ false ∷ [])) ≡ []
unfolding codes_answered channel_bits duty_bits answer_of answers ten_words word_of
answered_once = refl
