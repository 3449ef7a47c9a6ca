-- Events that have something in common, and those of the nodes below the top.
use Rattle.std.proofs.Common.{◌≡◌, ℕ, ◌==◌, Bool, true, false, cond, List, [], ◌∷◌, ◌++◌, Option, Some, None, map, refl, inl, inr}
use Rattle.std.specs.Prelude.{is_some, drop, length, flat_map}
use Rattle.std.specs.List.{range_with_len}
use Rattle.std.proofs.lemmas.Bool.{cases_Bool}
use Rattle.pdh_shape.specs.declared.place.Path.{Path}
use Rattle.pdh_shape.specs.declared.role.Role.{Role}
use Rattle.pdh_shape.specs.declared.role.Role.TheVariants.{Align, Service, Control, Just, Info}
use Rattle.pdh_shape.specs.Frame.{FrameShape, slots}
use Rattle.pdh_line.specs.Receiving.{received}
use Rattle.pdh_line.specs.Tracking.{Piece, track}
use Rattle.pdh_line.specs.Tracking.Piece.{Delivered}
use Rattle.pdh_edge.specs.Ports.{only}
use Rattle.pdh_watch.specs.declared.kind.Kind.{Kind}
use Rattle.pdh_watch.specs.declared.kind.TheConstants.Kind.{ALARM_ON, ALARM_OFF, PARITY, PATH_PARITY, FEBE, ALIGNED, LOST, AIS_ON, AIS_OFF}
use Rattle.pdh_watch.specs.declared.event.Event.{Event}
use Rattle.pdh_events.specs.Telling.{next_bit, event_of, tell, changed, ais_kinds}
use Rattle.pdh_events.specs.Duties.{frames_of, last_frame, alarm_kinds, alarm_after, parity_kinds, breaks_parity, breaks_path_parity, odd_before, febe_kinds, code_event, codes_answered, frame_events}
use Rattle.pdh_events.specs.Acts.{Act, with_more, acts_events, alignment_kinds, role_acts, slot_acts, carries_at, frame_acts, frames_acts, round_acts, rounds_acts, pieces_acts, bit_acts}
use Rattle.pdh_events.specs.Acts.Act.{Note, Give}
use Rattle.pdh_events.specs.Chain.{child_path, bit_events}

-- ---- events that have something in common

-- each of them has it
abbrev pub Each : {X : Type 0} → (X → Type 0) → List X → Type 0
Each P [] = Unit {0}
Each P (x ∷ xs) = P x × Each P xs

pub each_append : {X : Type 0} (P : X → Type 0) (xs ys : List X) → Each P xs → Each P ys → Each P (xs ++ ys)
each_append P [] ys p q = q
each_append P (x ∷ xs) ys p q = (p.0, each_append P xs ys p.1 q)

pub each_map : {X Y : Type 0} (P : Y → Type 0) (f : X → Y) (xs : List X) → Each (λ x. P (f x)) xs → Each P (map f xs)
each_map P f [] each = tt
each_map P f (x ∷ xs) each = (each.0, each_map P f xs each.1)

-- all notes have it
abbrev pub NotesAll : (Event → Type 0) → List Act → Type 0
NotesAll P [] = Unit {0}
NotesAll P (Note event ∷ acts) = P event × NotesAll P acts
NotesAll P (Give j bit ∷ acts) = NotesAll P acts

notes_append : (P : Event → Type 0) (a b : List Act) → NotesAll P a → NotesAll P b → NotesAll P (a ++ b)
notes_append P [] b p q = q
notes_append P (Note event ∷ a) b p q = (p.0, notes_append P a b p.1 q)
notes_append P (Give j bit ∷ a) b p q = notes_append P a b p q

notes_map : (P : Event → Type 0) (events : List Event) → Each P events → NotesAll P (map Note events)
notes_map P [] all = tt
notes_map P (event ∷ events) all = (all.0, notes_map P events all.1)

pub notes_each : (P : Event → Type 0) (f : ℕ → List Act) → ((k : ℕ) → NotesAll P (f k)) → (xs : List ℕ) → NotesAll P (flat_map f xs)
notes_each P f each [] = tt
notes_each P f each (x ∷ xs) = notes_append P (f x) (flat_map f xs) (each x) (notes_each P f each xs)

-- so have the events of acts, where those of the tributaries have it
pub events_all : (P : Event → Type 0) (below : ℕ → List Bool → Bool → List Event) → ((j : ℕ) (line : List Bool) (bit : Bool) → Each P (below j line bit)) → (acts : List Act) (lines : ℕ → List Bool) → NotesAll P acts → Each P (acts_events below lines acts)
events_all P below under [] lines notes = tt
events_all P below under (Note event ∷ acts) lines notes = (notes.0, events_all P below under acts lines notes.1)
events_all P below under (Give j bit ∷ acts) lines notes =
    each_append P (below j (lines j) bit) (acts_events below (with_more lines (only j bit)) acts) (under j (lines j) bit) (events_all P below under acts (with_more lines (only j bit)) notes)

-- an event of each kind that a frame tells has it
pub record OfFrames (P : Event → Type 0) (path : Path) (bit : ℕ) : Type 0 where
  pub alarm_on : P (event_of path bit ALARM_ON)
  pub alarm_off : P (event_of path bit ALARM_OFF)
  pub parity : P (event_of path bit PARITY)
  pub path_parity : P (event_of path bit PATH_PARITY)
  pub febe : P (event_of path bit FEBE)
  pub code : (code : ℕ) → P (code_event path bit code)

-- one kind or none
pub either_kind : (Q : Kind → Type 0) (kind : Kind) (b : Bool) → Q kind → Each Q (cond b (kind ∷ []) [])
either_kind Q kind true q = (q, tt)
either_kind Q kind false q = tt

pub changed_all : (Q : Kind → Type 0) (on off : Kind) (was is : Bool) → Q on → Q off → Each Q (changed on off was is)
changed_all Q on off true true p q = tt
changed_all Q on off false true p q = (p, tt)
changed_all Q on off true false p q = (q, tt)
changed_all Q on off false false p q = tt

pub each_code : (P : Event → Type 0) (path : Path) (bit : ℕ) → ((code : ℕ) → P (code_event path bit code)) → (codes : List ℕ) → Each P (map (code_event path bit) codes)
each_code P path bit each [] = tt
each_code P path bit each (code ∷ codes) = (each code, each_code P path bit each codes)

pub parity_all : (Q : Kind → Type 0) (s : FrameShape) (odd : Option Bool) (frame : List Bool) → Q PARITY → Q PATH_PARITY → Each Q (parity_kinds s odd frame)
parity_all Q s None frame p q = tt
parity_all Q s (Some odd) frame p q =
    each_append Q (cond (breaks_parity s odd frame) (PARITY ∷ []) []) (cond (breaks_path_parity s odd frame) (PATH_PARITY ∷ []) [])
    (either_kind Q PARITY (breaks_parity s odd frame) p) (either_kind Q PATH_PARITY (breaks_path_parity s odd frame) q)

frame_all : (P : Event → Type 0) (s : FrameShape) (path : Path) (bit : ℕ) (pieces : List Piece) (frame : List Bool) → OfFrames P path bit → Each P (frame_events s path bit pieces frame)
unfolding frame_events
frame_all P s path bit pieces frame of =
    let Q : Kind → Type 0 = λ kind. P (event_of path bit kind) in
    let alarm : Each Q (alarm_kinds s (frames_of pieces) frame) = changed_all Q ALARM_ON ALARM_OFF (alarm_after s (frames_of pieces)) (alarm_after s (frames_of pieces ++ frame ∷ [])) of.alarm_on of.alarm_off in
    let parity : Each Q (parity_kinds s (odd_before s pieces) frame) = parity_all Q s (odd_before s pieces) frame of.parity of.path_parity in
    let febe : Each Q (febe_kinds s frame) = either_kind Q FEBE _ of.febe in
    each_append P (tell path bit (alarm_kinds s (frames_of pieces) frame ++ parity_kinds s (odd_before s pieces) frame ++ febe_kinds s frame)) (map (code_event path bit) (codes_answered s (frames_of pieces) frame))
    (each_map P (event_of path bit) (alarm_kinds s (frames_of pieces) frame ++ parity_kinds s (odd_before s pieces) frame ++ febe_kinds s frame)
    (each_append Q (alarm_kinds s (frames_of pieces) frame ++ parity_kinds s (odd_before s pieces) frame) (febe_kinds s frame)
    (each_append Q (alarm_kinds s (frames_of pieces) frame) (parity_kinds s (odd_before s pieces) frame) alarm parity) febe))
    (each_code P path bit of.code (codes_answered s (frames_of pieces) frame))

pub slot_notes : (P : Event → Type 0) (s : FrameShape) (frame : List Bool) (slot : ℕ) → NotesAll P (slot_acts s frame slot)
slot_notes P s frame slot = go (s.role slot) (carries_at s frame (s.role slot)) _
  where
    go : (r : Role) (more bit : Bool) → NotesAll P (role_acts s r more bit)
    go (Info j) more bit = tt
    go (Just j) true bit = tt
    go (Just j) false bit = tt
    go (Control j copy) more bit = tt
    go (Align x) more bit = tt
    go (Service k) more bit = tt

frames_notes : (P : Event → Type 0) (s : FrameShape) (path : Path) (bit : ℕ) (pieces : List Piece) (frames : List (List Bool)) → OfFrames P path bit → NotesAll P (frames_acts s path bit pieces frames)
unfolding frame_acts
frames_notes P s path bit pieces [] of = tt
frames_notes P s path bit pieces (frame ∷ frames) of =
    notes_append P (frame_acts s path bit pieces frame) (frames_acts s path bit (pieces ++ Delivered frame ∷ []) frames)
    (notes_append P (map Note (frame_events s path bit pieces frame)) (flat_map (slot_acts s frame) (slots s)) (notes_map P _ (frame_all P s path bit pieces frame of)) (notes_each P (slot_acts s frame) (slot_notes P s frame) (slots s)))
    (frames_notes P s path bit (pieces ++ Delivered frame ∷ []) frames of)

pub rounds_notes : (P : Event → Type 0) (s : FrameShape) (rounds : ℕ) → NotesAll P (rounds_acts s rounds)
rounds_notes P s rounds = notes_each P (λ round. round_acts s) (λ round. notes_each P (λ j. Give j true ∷ []) (λ j. tt) (range_with_len 0 s.tribs)) (range_with_len 0 rounds)

-- what the pieces gained tell
pub pieces_notes : (P : Event → Type 0) (s : FrameShape) (path : Path) (bit : ℕ) (before after : List Piece) → OfFrames P path bit → NotesAll P (pieces_acts s path bit before after)
unfolding pieces_acts
pieces_notes P s path bit before after of =
    notes_append P (rounds_acts s _) (frames_acts s path bit before (drop (length (frames_of before)) (frames_of after))) (rounds_notes P s _) (frames_notes P s path bit before _ of)

-- ---- a node's own events

pub ais_all : (Q : Kind → Type 0) (long : ℕ) (line : List Bool) (bit : Bool) → Q AIS_ON → Q AIS_OFF → Each Q (ais_kinds long line bit)
ais_all Q long line true p q = either_kind Q AIS_ON _ p
ais_all Q long line false p q = either_kind Q AIS_OFF _ q

-- ---- below the top

-- it isn't of the top
abbrev pub IsDeep : Event → Type 0
IsDeep event = (event.path.depth == 0) ≡ false

pub child_deep : (path : Path) (j : ℕ) → ((child_path path j).depth == 0) ≡ false
child_deep path j = elim (cases_Bool (path.depth == 0)) [
  | inl first ↦ rw first refl
  | inr deep ↦ elim (cases_Bool (path.depth == 1)) [ inl second ↦ rw (deep, second) refl | inr deeper ↦ rw (deep, deeper) deep ]
]

-- all events of a node below the top are below the top
pub deep_events : (shapes : List FrameShape) (path : Path) (line : List Bool) (bit : Bool) → (path.depth == 0) ≡ false → Each IsDeep (bit_events shapes path line bit)
unfolding bit_events bit_acts
deep_events [] path line bit deep = tt
deep_events (s ∷ below) path line bit deep =
    let before : List Piece = track s line in
    let after : List Piece = track s (line ++ bit ∷ []) in
    let number : ℕ = next_bit line in
    let Q : Kind → Type 0 = λ kind. IsDeep (event_of path number kind) in
    let own : Each Q (ais_kinds s.len line bit ++ alignment_kinds before after) =
    each_append Q (ais_kinds s.len line bit) (alignment_kinds before after) (ais_all Q s.len line bit deep deep) (changed_all Q ALIGNED LOST (is_some (last_frame before)) (is_some (last_frame after)) deep deep) in
    events_all IsDeep (λ j. bit_events below (child_path path j)) (λ j line bit. deep_events below (child_path path j) line bit (child_deep path j)) (bit_acts s path line bit) (λ j. received s j line)
    (notes_append IsDeep (map Note (tell path number (ais_kinds s.len line bit ++ alignment_kinds before after))) (pieces_acts s path number before after)
    (notes_map IsDeep _ (each_map IsDeep (event_of path number) _ own))
    (pieces_notes IsDeep s path number before after (record { alarm_on = deep; alarm_off = deep; parity = deep; path_parity = deep; febe = deep; code = λ code. deep })))
