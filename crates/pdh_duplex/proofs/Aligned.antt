-- A flag that the events of the top follow tells whether an alignment holds.
use Rattle.std.proofs.Common.{◌≡◌, ℕ, ◌==◌, Bool, true, false, List, [], ◌∷◌, ◌++◌, fold, map, refl, ap, ◌∙◌}
use Rattle.std.specs.Prelude.{is_some}
use Rattle.std.proofs.lemmas.List.{map-append}
use Rattle.std.proofs.lemmas.List.Sums.{fold-append}
use Rattle.pdh_shape.specs.Frame.{FrameShape}
use Rattle.pdh_line.specs.Paths.{top}
use Rattle.pdh_line.specs.Receiving.{received}
use Rattle.pdh_line.specs.Tracking.{Piece, track}
use Rattle.pdh_watch.specs.declared.kind.Kind.{Kind}
use Rattle.pdh_watch.specs.declared.kind.TheConstants.Kind.{ALARM_ON, ALARM_OFF, PARITY, PATH_PARITY, FEBE, ALIGNED, LOST, AIS_ON, AIS_OFF}
use Rattle.pdh_watch.specs.declared.event.Event.{Event}
use Rattle.pdh_events.specs.Telling.{next_bit, event_of, tell, changed, ais_kinds}
use Rattle.pdh_events.specs.Duties.{last_frame, code_event}
use Rattle.pdh_events.specs.Acts.{Act, acts_events, alignment_kinds, pieces_acts, bit_acts}
use Rattle.pdh_events.specs.Acts.Act.{Note}
use Rattle.pdh_events.specs.Chain.{child_path, bit_events, bits_events}
use Rattle.pdh_events.specs.laws.ActsLaws.{acts_events-append, acts_events-notes, after_acts}
use Rattle.pdh_telling.proofs.EachEvent.{Each, each_map, events_all, pieces_notes, ais_all, IsDeep, child_deep, deep_events}
use Rattle.pdh_duplex.specs.Top.{is_aligned}
use Rattle.pdh_duplex.specs.Tallies.{aligned_with}

-- ---- the flag

-- an event leaves the flag
abbrev Leaves : Event → Type 0
Leaves event = (flag : Bool) → aligned_with flag event ≡ flag

leaves_deep : (event : Event) → IsDeep event → Leaves event
leaves_deep event deep true = rw deep refl
leaves_deep event deep false = rw deep refl

leaves_map : (events : List Event) → Each IsDeep events → Each Leaves events
leaves_map [] all = tt
leaves_map (event ∷ events) all = (leaves_deep event all.0, leaves_map events all.1)

all_leave : (flag : Bool) (events : List Event) → Each Leaves events → fold aligned_with flag events ≡ flag
all_leave flag [] all = refl
all_leave flag (event ∷ events) all = ap (λ f. fold aligned_with f events) (all.0 flag) ∙ all_leave flag events all.1

leaves_kind : (bit : ℕ) (kind : Kind) → (kind.0 == 1) ≡ false → (kind.0 == 2) ≡ false → Leaves (event_of top bit kind)
leaves_kind bit kind p q true = rw p (rw q refl)
leaves_kind bit kind p q false = rw p refl

leaves_code : (bit code : ℕ) → Leaves (code_event top bit code)
leaves_code bit code true = refl
leaves_code bit code false = refl

-- it follows what begins and ends
follows : (bit : ℕ) (was is : Bool) → fold aligned_with was (tell top bit (changed ALIGNED LOST was is)) ≡ is
follows bit true true = refl
follows bit false true = refl
follows bit true false = refl
follows bit false false = refl

-- a bit's events
pub flag_bit : (shapes : List FrameShape) (line : List Bool) (bit : Bool) → fold aligned_with (is_aligned shapes line) (bit_events shapes top line bit) ≡ is_aligned shapes (line ++ bit ∷ [])
unfolding bit_events bit_acts
flag_bit [] line bit = refl
flag_bit (s ∷ below) line bit =
    let before : List Piece = track s line in
    let after : List Piece = track s (line ++ bit ∷ []) in
    let number : ℕ = next_bit line in
    let ais : List Kind = ais_kinds s.len line bit in
    let turns : List Kind = alignment_kinds before after in
    let own : List Event = tell top number (ais ++ turns) in
    let under : ℕ → List Bool → Bool → List Event = λ j. bit_events below (child_path top j) in
    let lines : ℕ → List Bool = λ j. received s j line in
    let pieces : List Act = pieces_acts s top number before after in
    let was : Bool = is_some (last_frame before) in
    let is : Bool = is_some (last_frame after) in
    let rest : List Event = acts_events under (after_acts lines (map Note own)) pieces in
    let whole : acts_events under lines (map Note own ++ pieces) ≡ own ++ rest =
    acts_events-append under (map Note own) pieces lines ∙ ap (λ v. v ++ rest) (acts_events-notes under lines own) in
    let quiet : fold aligned_with was (tell top number ais) ≡ was =
    all_leave was (tell top number ais) (each_map Leaves (event_of top number) ais (ais_all (λ kind. Leaves (event_of top number kind)) s.len line bit (leaves_kind number AIS_ON refl refl) (leaves_kind number AIS_OFF refl refl))) in
    let turned : fold aligned_with was own ≡ is =
    ap (fold aligned_with was) (map-append (event_of top number) ais turns) ∙ fold-append aligned_with was (tell top number ais) (tell top number turns)
    ∙ ap (λ f. fold aligned_with f (tell top number turns)) quiet ∙ follows number was is in
    let still : fold aligned_with is rest ≡ is =
    all_leave is rest (events_all Leaves under (λ j own bit. leaves_map (under j own bit) (deep_events below (child_path top j) own bit (child_deep top j))) pieces _
    (pieces_notes Leaves s top number before after (record {
      alarm_on = leaves_kind number ALARM_ON refl refl;
      alarm_off = leaves_kind number ALARM_OFF refl refl;
      parity = leaves_kind number PARITY refl refl;
      path_parity = leaves_kind number PATH_PARITY refl refl;
      febe = leaves_kind number FEBE refl refl;
      code = leaves_code number;
    }))) in
    ap (fold aligned_with was) whole ∙ fold-append aligned_with was own rest ∙ ap (λ f. fold aligned_with f rest) turned ∙ still

-- bits' events
pub flag_bits : (shapes : List FrameShape) (line bits : List Bool) → fold aligned_with (is_aligned shapes line) (bits_events (bit_events shapes top) line bits) ≡ is_aligned shapes (line ++ bits)
flag_bits shapes line [] = ap (is_aligned shapes) (append-nil' line)
  where
    append-nil' : (line : List Bool) → line ≡ line ++ []
    append-nil' [] = refl
    append-nil' (bit ∷ line) = ap (λ l. bit ∷ l) (append-nil' line)
flag_bits shapes line (bit ∷ bits) =
    let rest : List Event = bits_events (bit_events shapes top) (line ++ bit ∷ []) bits in
    fold-append aligned_with (is_aligned shapes line) (bit_events shapes top line bit) rest ∙ ap (λ f. fold aligned_with f rest) (flag_bit shapes line bit)
    ∙ flag_bits shapes (line ++ bit ∷ []) bits ∙ ap (is_aligned shapes) (append_assoc' line bit bits)
  where
    append_assoc' : (line : List Bool) (bit : Bool) (bits : List Bool) → (line ++ bit ∷ []) ++ bits ≡ line ++ (bit ∷ bits)
    append_assoc' [] bit bits = refl
    append_assoc' (b ∷ line) bit bits = ap (λ l. b ∷ l) (append_assoc' line bit bits)
