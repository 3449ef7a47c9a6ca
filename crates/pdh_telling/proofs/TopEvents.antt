-- How many events of a kind of the top one more bit brings: as many as the frames that it ends tell.
use Rattle.std.proofs.Common.{◌≡◌, ℕ, ◌+◌, ◌==◌, Bool, true, false, cond, not, ◌&&◌, List, [], ◌∷◌, ◌++◌, map, drop, length, refl, sym, ap, ◌∙◌, arith}
use Rattle.std.specs.Prelude.{count_by, flat_map, is_some}
use Rattle.std.specs.List.{list_any}
use Rattle.std.proofs.lemmas.List.{append-nil}
use Rattle.std.proofs.lemmas.List.Sums.{sum_by-append, sum_by-cons}
use Rattle.pdh_shape.specs.declared.role.Duty.TheVariants.{Febe}
use Rattle.pdh_shape.specs.Frame.{FrameShape, slots}
use Rattle.pdh_line.specs.Paths.{top}
use Rattle.pdh_line.specs.Receiving.{received}
use Rattle.pdh_line.specs.Tracking.{Piece, track}
use Rattle.pdh_line.specs.Tracking.Piece.{Delivered}
use Rattle.pdh_edge.specs.Ports.{only}
use Rattle.pdh_watch.specs.declared.kind.Kind.{Kind}
use Rattle.pdh_watch.specs.declared.kind.TheConstants.Kind.{ALARM_ON, ALARM_OFF, PARITY, PATH_PARITY, FEBE, FEAC, ALIGNED, LOST, AIS_ON, AIS_OFF}
use Rattle.pdh_watch.specs.declared.event.Event.{Event}
use Rattle.pdh_events.specs.Telling.{next_bit, event_of, tell, changed, ais_kinds}
use Rattle.pdh_events.specs.Duties.{frames_of, last_frame, duty_bits, alarm_kinds, alarm_after, parity_kinds, odd_before, febe_kinds, code_event, codes_answered, frame_events}
use Rattle.pdh_events.specs.Acts.{Act, with_more, acts_events, alignment_kinds, slot_acts, frame_acts, frames_acts, rounds_acts, pieces_acts, bit_acts}
use Rattle.pdh_events.specs.Acts.Act.{Note, Give}
use Rattle.pdh_events.specs.Chain.{child_path, bit_events}
use Rattle.pdh_events.specs.laws.KeepingLaws.{frames_more}
use Rattle.pdh_telling.specs.Top.{is_of_top}
use Rattle.pdh_telling.proofs.EachEvent.{Each, each_append, each_map, NotesAll, notes_each, either_kind, changed_all, each_code, parity_all, slot_notes, rounds_notes, ais_all, IsDeep, child_deep, deep_events}

-- ---- counts

-- those that pass in none
none_pass : {X : Type 0} (p : X → Bool) (xs : List X) → Each (λ x. p x ≡ false) xs → count_by p xs ≡ 0
none_pass p [] each = refl
none_pass p (x ∷ xs) each = sum_by-cons (λ x. cond (p x) 1 0) x xs ∙ ap (λ b. cond b 1 0 + count_by p xs) each.0 ∙ ap (λ n. 0 + n) (none_pass p xs each.1) ∙ omega arith

count_join : {X : Type 0} (p : X → Bool) (xs ys : List X) (m n : ℕ) → count_by p xs ≡ m → count_by p ys ≡ n → count_by p (xs ++ ys) ≡ m + n
count_join p xs ys m n h k = sum_by-append (λ x. cond (p x) 1 0) xs ys ∙ ap (λ m. m + count_by p ys) h ∙ ap (λ n. m + n) k

count_made : {X Y : Type 0} (p : Y → Bool) (f : X → Y) (xs : List X) → count_by p (map f xs) ≡ count_by (λ x. p (f x)) xs
count_made p f [] = refl
count_made p f (x ∷ xs) = sum_by-cons (λ y. cond (p y) 1 0) (f x) (map f xs) ∙ ap (λ n. cond (p (f x)) 1 0 + n) (count_made p f xs) ∙ sym (sum_by-cons (λ x. cond (p (f x)) 1 0) x xs)

-- ---- acts

-- what acts note
abbrev notes_of : List Act → List Event
notes_of [] = []
notes_of (Note event ∷ acts) = event ∷ notes_of acts
notes_of (Give j bit ∷ acts) = notes_of acts

notes_join : (a b : List Act) → notes_of (a ++ b) ≡ notes_of a ++ notes_of b
notes_join [] b = refl
notes_join (Note event ∷ a) b = ap (λ v. event ∷ v) (notes_join a b)
notes_join (Give j bit ∷ a) b = notes_join a b

notes_made : (events : List Event) → notes_of (map Note events) ≡ events
notes_made [] = refl
notes_made (event ∷ events) = ap (λ v. event ∷ v) (notes_made events)

-- acts that note nothing
silent : (acts : List Act) → NotesAll (λ event. ⊥) acts → notes_of acts ≡ []
silent [] none = refl
silent (Note event ∷ acts) none = absurd none.0
silent (Give j bit ∷ acts) none = silent acts none

-- where the tributaries' events don't pass, as many pass as of what is noted
count_acts : (p : Event → Bool) (below : ℕ → List Bool → Bool → List Event) → ((j : ℕ) (line : List Bool) (bit : Bool) → count_by p (below j line bit) ≡ 0) → (acts : List Act) (lines : ℕ → List Bool) → count_by p (acts_events below lines acts) ≡ count_by p (notes_of acts)
count_acts p below none [] lines = refl
count_acts p below none (Note event ∷ acts) lines =
    sum_by-cons (λ x. cond (p x) 1 0) event (acts_events below lines acts) ∙ ap (λ n. cond (p event) 1 0 + n) (count_acts p below none acts lines)
    ∙ sym (sum_by-cons (λ x. cond (p x) 1 0) event (notes_of acts))
count_acts p below none (Give j bit ∷ acts) lines =
    count_join p (below j (lines j) bit) (acts_events below (with_more lines (only j bit)) acts) 0 _ (none j (lines j) bit) (count_acts p below none acts (with_more lines (only j bit))) ∙ omega arith

-- a delivered frame notes its events
frame_noted : (s : FrameShape) (bit : ℕ) (pieces : List Piece) (frame : List Bool) → notes_of (frame_acts s top bit pieces frame) ≡ frame_events s top bit pieces frame
unfolding frame_acts
frame_noted s bit pieces frame =
    let events : List Event = frame_events s top bit pieces frame in
    let bits : List Act = flat_map (slot_acts s frame) (slots s) in
    notes_join (map Note events) bits ∙ ap (λ v. v ++ notes_of bits) (notes_made events)
    ∙ ap (λ v. events ++ v) (silent bits (notes_each (λ event. ⊥) (slot_acts s frame) (slot_notes (λ event. ⊥) s frame) (slots s))) ∙ append-nil events

-- ---- a kind

-- how many of these frames tell, which come after others
abbrev pub told : (List (List Bool) → List Bool → Bool) → List (List Bool) → List (List Bool) → ℕ
told tells before [] = 0
told tells before (frame ∷ frames) = cond (tells before frame) 1 0 + told tells (before ++ frame ∷ []) frames

-- events of the kind come with frames alone: one where the frame tells, after those before it
pub record ComesWith (s : FrameShape) (kind : Kind) (tells : List (List Bool) → List Bool → Bool) : Type 0 where
  pub ais_on : (AIS_ON.0 == kind.0) ≡ false
  pub ais_off : (AIS_OFF.0 == kind.0) ≡ false
  pub aligned : (ALIGNED.0 == kind.0) ≡ false
  pub lost : (LOST.0 == kind.0) ≡ false
  pub frames : (bit : ℕ) (pieces : List Piece) (frame : List Bool) → count_by (is_of_top kind) (frame_events s top bit pieces frame) ≡ cond (tells (frames_of pieces) frame) 1 0

module _ (s : FrameShape) (kind : Kind) (tells : List (List Bool) → List Bool → Bool) (comes : ComesWith s kind tells) where
  abbrev p : Event → Bool
  p = is_of_top kind

  frames_told : (bit : ℕ) (pieces : List Piece) (frames : List (List Bool)) → count_by p (notes_of (frames_acts s top bit pieces frames)) ≡ told tells (frames_of pieces) frames
  frames_told bit pieces [] = refl
  frames_told bit pieces (frame ∷ frames) =
      let rest : List Act = frames_acts s top bit (pieces ++ Delivered frame ∷ []) frames in
      ap (count_by p) (notes_join (frame_acts s top bit pieces frame) rest ∙ ap (λ v. v ++ notes_of rest) (frame_noted s bit pieces frame))
      ∙ count_join p (frame_events s top bit pieces frame) (notes_of rest) _ _ (comes.frames bit pieces frame) (frames_told bit (pieces ++ Delivered frame ∷ []) frames)
      ∙ ap (λ before. cond (tells (frames_of pieces) frame) 1 0 + told tells before frames) (frames_more pieces frame)

  pieces_told : (bit : ℕ) (before after : List Piece) → count_by p (notes_of (pieces_acts s top bit before after)) ≡ told tells (frames_of before) (drop (length (frames_of before)) (frames_of after))
  unfolding pieces_acts
  pieces_told bit before after =
      let frames : List (List Bool) = drop (length (frames_of before)) (frames_of after) in
      ap (count_by p) (notes_join (rounds_acts s _) (frames_acts s top bit before frames) ∙ ap (λ v. v ++ notes_of (frames_acts s top bit before frames)) (silent (rounds_acts s _) (rounds_notes (λ event. ⊥) s _)))
      ∙ frames_told bit before frames

  none_below : (below : List FrameShape) (j : ℕ) (line : List Bool) (bit : Bool) → count_by p (bit_events below (child_path top j) line bit) ≡ 0
  none_below below j line bit = none_pass p _ (shallow (bit_events below (child_path top j) line bit) (deep_events below (child_path top j) line bit (child_deep top j)))
    where
      shallow : (events : List Event) → Each IsDeep events → Each (λ event. p event ≡ false) events
      shallow [] each = tt
      shallow (event ∷ events) each = (rw each.0 refl, shallow events each.1)

  -- the events of the top that one more bit brings
  pub bit_told : (below : List FrameShape) (line : List Bool) (bit : Bool) → count_by p (bit_events (s ∷ below) top line bit) ≡ told tells (frames_of (track s line)) (drop (length (frames_of (track s line))) (frames_of (track s (line ++ bit ∷ []))))
  unfolding bit_events bit_acts
  bit_told below line bit =
      let before : List Piece = track s line in
      let after : List Piece = track s (line ++ bit ∷ []) in
      let number : ℕ = next_bit line in
      let kinds : List Kind = ais_kinds s.len line bit ++ alignment_kinds before after in
      let own : List Event = tell top number kinds in
      let pieces : List Act = pieces_acts s top number before after in
      let Q : Kind → Type 0 = λ kind'. p (event_of top number kind') ≡ false in
      let none : Each (λ event. p event ≡ false) own =
      each_map (λ event. p event ≡ false) (event_of top number) kinds
      (each_append Q (ais_kinds s.len line bit) (alignment_kinds before after) (ais_all Q s.len line bit comes.ais_on comes.ais_off) (changed_all Q ALIGNED LOST (is_some (last_frame before)) (is_some (last_frame after)) comes.aligned comes.lost)) in
      count_acts p (λ j. bit_events below (child_path top j)) (none_below below) (map Note own ++ pieces) (λ j. received s j line)
      ∙ ap (count_by p) (notes_join (map Note own) pieces ∙ ap (λ v. v ++ notes_of pieces) (notes_made own))
      ∙ count_join p own (notes_of pieces) 0 _ (none_pass p own none) (pieces_told number before after) ∙ omega arith

-- ---- what a frame tells

-- how many events of a kind a frame brings, by how many of its alarm, of its parities and of its far end
frame_count : (s : FrameShape) (kind : Kind) (bit : ℕ) (pieces : List Piece) (frame : List Bool) (alarms blocks : ℕ) → (FEAC.0 == kind.0) ≡ false → (PARITY.0 == kind.0) ≡ false → (PATH_PARITY.0 == kind.0) ≡ false
    → count_by (λ (k : Kind). k.0 == kind.0) (alarm_kinds s (frames_of pieces) frame) ≡ alarms → count_by (λ (k : Kind). k.0 == kind.0) (febe_kinds s frame) ≡ blocks
    → count_by (is_of_top kind) (frame_events s top bit pieces frame) ≡ alarms + blocks
unfolding frame_events
frame_count s kind bit pieces frame alarms blocks feac parity path a b =
    let p : Event → Bool = is_of_top kind in
    let q : Kind → Bool = λ k. k.0 == kind.0 in
    let alarm : List Kind = alarm_kinds s (frames_of pieces) frame in
    let errors : List Kind = parity_kinds s (odd_before s pieces) frame in
    let codes : List ℕ = codes_answered s (frames_of pieces) frame in
    let none : count_by q errors ≡ 0 = none_pass q errors (parity_all (λ k. q k ≡ false) s (odd_before s pieces) frame parity path) in
    let own : count_by p (tell top bit (alarm ++ errors ++ febe_kinds s frame)) ≡ alarms + 0 + blocks =
    count_made p (event_of top bit) (alarm ++ errors ++ febe_kinds s frame) ∙ count_join q (alarm ++ errors) (febe_kinds s frame) (alarms + 0) blocks (count_join q alarm errors alarms 0 a none) b in
    count_join p (tell top bit (alarm ++ errors ++ febe_kinds s frame)) (map (code_event top bit) codes) (alarms + 0 + blocks) 0 own
    (none_pass p (map (code_event top bit) codes) (each_code (λ event. p event ≡ false) top bit (λ code. feac) codes)) ∙ omega arith

-- an alarm comes on
abbrev pub alarm_on : FrameShape → List (List Bool) → List Bool → Bool
alarm_on s before frame = alarm_after s (before ++ frame ∷ []) && not (alarm_after s before)

-- a far end block error is told
abbrev pub tells_block_error : FrameShape → List (List Bool) → List Bool → Bool
tells_block_error s before frame = list_any not (duty_bits s Febe frame)

pub alarms_come : (s : FrameShape) → ComesWith s ALARM_ON (alarm_on s)
alarms_come s = record {
  ais_on = refl;
  ais_off = refl;
  aligned = refl;
  lost = refl;
  frames = λ bit pieces frame.
      frame_count s ALARM_ON bit pieces frame _ 0 refl refl refl (turns (alarm_after s (frames_of pieces)) (alarm_after s (frames_of pieces ++ frame ∷ [])))
      (none_pass (λ (k : Kind). k.0 == ALARM_ON.0) (febe_kinds s frame) (either_kind (λ k. (k.0 == ALARM_ON.0) ≡ false) FEBE _ refl)) ∙ omega arith;
}
  where
    turns : (was is : Bool) → count_by (λ (k : Kind). k.0 == ALARM_ON.0) (changed ALARM_ON ALARM_OFF was is) ≡ cond (is && not was) 1 0
    turns true true = refl
    turns true false = refl
    turns false true = refl
    turns false false = refl

pub block_errors_come : (s : FrameShape) → ComesWith s FEBE (tells_block_error s)
block_errors_come s = record {
  ais_on = refl;
  ais_off = refl;
  aligned = refl;
  lost = refl;
  frames = λ bit pieces frame.
      frame_count s FEBE bit pieces frame 0 _ refl refl refl (none_pass (λ (k : Kind). k.0 == FEBE.0) (alarm_kinds s (frames_of pieces) frame) (changed_all (λ k. (k.0 == FEBE.0) ≡ false) ALARM_ON ALARM_OFF _ _ refl refl))
      (some (list_any not (duty_bits s Febe frame))) ∙ omega arith;
}
  where
    some : (b : Bool) → count_by (λ (k : Kind). k.0 == FEBE.0) (cond b (FEBE ∷ []) []) ≡ cond b 1 0
    some true = refl
    some false = refl
