-- Acts of a demultiplexer that follow each other: what they give its tributaries, and the events that they bring.
use Rattle.std.proofs.Common.{◌≡◌, ℕ, zero, suc, ◌+◌, ◌-◌, ◌<◌, Bool, true, false, List, [], ◌∷◌, ◌++◌, length, map, drop, refl, sym, ap, ◌∙◌, arith, append_assoc, add-one, zero-add}
use Rattle.std.specs.Prelude.{flat_map}
use Rattle.std.specs.List.{range_with_len}
use Rattle.std.proofs.lemmas.List.{append-nil}
use Rattle.std.proofs.lemmas.Grind.{flat_map-append}
use Rattle.pdh_shape.specs.declared.place.Path.{Path}
use Rattle.pdh_shape.specs.declared.role.Role.{Role}
use Rattle.pdh_shape.specs.declared.role.Role.TheVariants.{Align, Service, Control, Just, Info}
use Rattle.pdh_shape.specs.Frame.{FrameShape, slots}
use Rattle.pdh_shape.specs.Tributary.{HasTributaries}
use Rattle.pdh_watch.specs.declared.event.Event.{Event}
use Rattle.pdh_edge.specs.Ports.{only}
use Rattle.pdh_line.proofs.Ranges.{range_push, range_append}
use Rattle.pdh_line.specs.Tracking.{Piece, track}
use Rattle.pdh_line.specs.Tracking.Piece.{Delivered}
use Rattle.pdh_events.specs.Telling.{next_bit, tell, ais_kinds}
use Rattle.pdh_events.specs.Duties.{frames_of, frame_events}
use Rattle.pdh_events.specs.Acts.{Act, alignment_kinds, role_acts, carries_at, slot_acts, frame_acts, frames_acts, round_acts, rounds_acts, pieces_acts, bit_acts, with_more, acts_events}
use Rattle.pdh_events.specs.Acts.Act.{Note, Give}

-- ---- what acts give

-- what these acts give a tributary
abbrev pub bits_to : List Act → ℕ → List Bool
bits_to [] j = []
bits_to (Note event ∷ acts) j = bits_to acts j
bits_to (Give i bit ∷ acts) j = only i bit j ++ bits_to acts j

-- the lines of the tributaries after these acts
abbrev pub after_acts : (ℕ → List Bool) → List Act → ℕ → List Bool
after_acts lines acts = with_more lines (bits_to acts)

pub bits_to-append : (a b : List Act) (j : ℕ) → bits_to (a ++ b) j ≡ bits_to a j ++ bits_to b j
bits_to-append [] b j = refl
bits_to-append (Note event ∷ a) b j = bits_to-append a b j
bits_to-append (Give i bit ∷ a) b j = ap (λ v. only i bit j ++ v) (bits_to-append a b j) ∙ sym (append_assoc (only i bit j) (bits_to a j) (bits_to b j))

pub bits_to-notes : (events : List Event) (j : ℕ) → bits_to (map Note events) j ≡ []
bits_to-notes [] j = refl
bits_to-notes (event ∷ events) j = bits_to-notes events j

-- acts in groups, each of which gives a tributary these bits
pub bits_to-each : (f : ℕ → List Act) (j : ℕ) (bits : ℕ → List Bool) → ((k : ℕ) → bits_to (f k) j ≡ bits k) → (xs : List ℕ) → bits_to (flat_map f xs) j ≡ flat_map bits xs
bits_to-each f j bits h [] = refl
bits_to-each f j bits h (x ∷ xs) = bits_to-append (f x) (flat_map f xs) j ∙ ap (λ v. v ++ bits_to (flat_map f xs) j) (h x) ∙ ap (λ v. bits x ++ v) (bits_to-each f j bits h xs)

-- ---- the events of acts

-- lines that are alike bring alike
pub acts_events_same : (below : ℕ → List Bool → Bool → List Event) (acts : List Act) (lines lines' : ℕ → List Bool) → ((j : ℕ) → lines j ≡ lines' j) → acts_events below lines acts ≡ acts_events below lines' acts
acts_events_same below [] lines lines' h = refl
acts_events_same below (Note event ∷ acts) lines lines' h = ap (λ v. event ∷ v) (acts_events_same below acts lines lines' h)
acts_events_same below (Give i bit ∷ acts) lines lines' h =
    ap (λ v. below i v bit ++ acts_events below (with_more lines (only i bit)) acts) (h i)
    ∙ ap (λ v. below i (lines' i) bit ++ v) (acts_events_same below acts (with_more lines (only i bit)) (with_more lines' (only i bit)) (λ j. ap (λ v. v ++ only i bit j) (h j)))

-- these acts and then those
pub acts_events-append : (below : ℕ → List Bool → Bool → List Event) (a b : List Act) (lines : ℕ → List Bool) → acts_events below lines (a ++ b) ≡ acts_events below lines a ++ acts_events below (after_acts lines a) b
acts_events-append below [] b lines = acts_events_same below b lines (after_acts lines []) (λ j. sym (append-nil (lines j)))
acts_events-append below (Note event ∷ a) b lines = ap (λ v. event ∷ v) (acts_events-append below a b lines)
acts_events-append below (Give i bit ∷ a) b lines =
    let now : ℕ → List Bool = with_more lines (only i bit) in
    let here : List Event = below i (lines i) bit in
    ap (λ v. here ++ v) (acts_events-append below a b now)
    ∙ ap (λ v. here ++ (acts_events below now a ++ v)) (acts_events_same below b (after_acts now a) (after_acts lines (Give i bit ∷ a)) (λ j. append_assoc (lines j) (only i bit j) (bits_to a j)))
    ∙ sym (append_assoc here (acts_events below now a) (acts_events below (after_acts lines (Give i bit ∷ a)) b))

-- a demultiplexer's own events
pub acts_events-notes : (below : ℕ → List Bool → Bool → List Event) (lines : ℕ → List Bool) (events : List Event) → acts_events below lines (map Note events) ≡ events
acts_events-notes below lines [] = refl
acts_events-notes below lines (event ∷ events) = ap (λ v. event ∷ v) (acts_events-notes below lines events)

-- ---- groups of acts, numbered from 0

pub acts_push : (f : ℕ → List Act) (n : ℕ) → flat_map f (range_with_len 0 (n + 1)) ≡ flat_map f (range_with_len 0 n) ++ f n
acts_push f n =
    ap (λ k. flat_map f (range_with_len 0 k)) (add-one n) ∙ ap (flat_map f) (range_push 0 n) ∙ flat_map-append f (range_with_len 0 n) ((0 + n) ∷ [])
    ∙ ap (λ x. flat_map f (range_with_len 0 n) ++ x) (append-nil (f (0 + n)) ∙ ap f (zero-add n))

-- those that are still to come
abbrev pub acts_left : (ℕ → List Act) → ℕ → ℕ → List Act
acts_left f n all = flat_map f (range_with_len (0 + (n + 1)) (all - (n + 1)))

pub acts_begin : (f : ℕ → List Act) (n all : ℕ) → n < all → flat_map f (range_with_len 0 all) ≡ (flat_map f (range_with_len 0 n) ++ f n) ++ acts_left f n all
acts_begin f n all lt =
    let e : all ≡ (n + 1) + (all - (n + 1)) = omega arith in
    ap (λ k. flat_map f (range_with_len 0 k)) e ∙ ap (flat_map f) (range_append 0 (n + 1) (all - (n + 1)))
    ∙ flat_map-append f (range_with_len 0 (n + 1)) (range_with_len (0 + (n + 1)) (all - (n + 1))) ∙ ap (λ x. x ++ acts_left f n all) (acts_push f n)

-- ---- whom acts give

-- they give only to tributaries below a number
abbrev pub GiveBelow : ℕ → List Act → Type 0
GiveBelow n [] = Unit {0}
GiveBelow n (Note event ∷ acts) = GiveBelow n acts
GiveBelow n (Give j bit ∷ acts) = (j < n) × GiveBelow n acts

gives_append : (n : ℕ) (a b : List Act) → GiveBelow n a → GiveBelow n b → GiveBelow n (a ++ b)
gives_append n [] b p q = q
gives_append n (Note event ∷ a) b p q = gives_append n a b p q
gives_append n (Give j bit ∷ a) b p q = (p.0, gives_append n a b p.1 q)

gives_notes : (n : ℕ) (events : List Event) → GiveBelow n (map Note events)
gives_notes n [] = tt
gives_notes n (event ∷ events) = gives_notes n events

gives_range : (n : ℕ) (f : ℕ → List Act) (from len : ℕ) → ((k : ℕ) → k < from + len → GiveBelow n (f k)) → GiveBelow n (flat_map f (range_with_len from len))
gives_range n f from zero h = tt
gives_range n f from (suc len) h = gives_append n (f from) (flat_map f (range_with_len (from + 1) len)) (h from (omega arith)) (gives_range n f (from + 1) len (λ k lt. h k (omega arith)))

gives_slot : (s : FrameShape) (frame : List Bool) (t : ℕ) → HasTributaries s → t < s.len → GiveBelow s.tribs (slot_acts s frame t)
gives_slot s frame t has inside = go (s.role t) refl (carries_at s frame (s.role t)) _
  where
    go : (r : Role) → s.role t ≡ r → (more bit : Bool) → GiveBelow s.tribs (role_acts s r more bit)
    go (Info j) e more bit = (has.info_known t j inside e, tt)
    go (Just j) e true bit = (has.just_known t j inside e, tt)
    go (Just j) e false bit = tt
    go (Control j copy) e more bit = tt
    go (Align x) e more bit = tt
    go (Service k) e more bit = tt

gives_frame : (s : FrameShape) (path : Path) (bit : ℕ) (pieces : List Piece) (frame : List Bool) → HasTributaries s → GiveBelow s.tribs (frame_acts s path bit pieces frame)
unfolding frame_acts
gives_frame s path bit pieces frame has =
    gives_append s.tribs (map Note (frame_events s path bit pieces frame)) (flat_map (slot_acts s frame) (slots s)) (gives_notes s.tribs (frame_events s path bit pieces frame))
    (gives_range s.tribs (slot_acts s frame) 0 s.len (λ k lt. gives_slot s frame k has (omega (arith, lt))))

gives_frames : (s : FrameShape) (path : Path) (bit : ℕ) (pieces : List Piece) (frames : List (List Bool)) → HasTributaries s → GiveBelow s.tribs (frames_acts s path bit pieces frames)
gives_frames s path bit pieces [] has = tt
gives_frames s path bit pieces (frame ∷ frames) has =
    gives_append s.tribs (frame_acts s path bit pieces frame) (frames_acts s path bit (pieces ++ Delivered frame ∷ []) frames) (gives_frame s path bit pieces frame has) (gives_frames s path bit (pieces ++ Delivered frame ∷ []) frames has)

gives_rounds : (s : FrameShape) (rounds : ℕ) → GiveBelow s.tribs (rounds_acts s rounds)
gives_rounds s rounds = gives_range s.tribs (λ round. round_acts s) 0 rounds (λ round lt. gives_range s.tribs (λ j. Give j true ∷ []) 0 s.tribs (λ j lt. (omega (arith, lt), tt)))

gives_pieces : (s : FrameShape) (path : Path) (bit : ℕ) (before after : List Piece) → HasTributaries s → GiveBelow s.tribs (pieces_acts s path bit before after)
unfolding pieces_acts
gives_pieces s path bit before after has =
    gives_append s.tribs (rounds_acts s _) (frames_acts s path bit before (drop (length (frames_of before)) (frames_of after))) (gives_rounds s _) (gives_frames s path bit before (drop (length (frames_of before)) (frames_of after)) has)

-- a bit makes a demultiplexer give only to tributaries that its shape has
pub gives_bit : (s : FrameShape) (path : Path) (line : List Bool) (bit : Bool) → HasTributaries s → GiveBelow s.tribs (bit_acts s path line bit)
unfolding bit_acts
gives_bit s path line bit has =
    let before : List Piece = track s line in
    let after : List Piece = track s (line ++ bit ∷ []) in
    let own : List Event = tell path (next_bit line) (ais_kinds s.len line bit ++ alignment_kinds before after) in
    gives_append s.tribs (map Note own) (pieces_acts s path (next_bit line) before after) (gives_notes s.tribs own) (gives_pieces s path (next_bit line) before after has)

-- tributaries that bring alike
pub acts_events_alike : (n : ℕ) (f g : ℕ → List Bool → Bool → List Event) → ((j : ℕ) (line : List Bool) (bit : Bool) → j < n → f j line bit ≡ g j line bit) → (acts : List Act) (lines : ℕ → List Bool) → GiveBelow n acts → acts_events f lines acts ≡ acts_events g lines acts
acts_events_alike n f g h [] lines gives = refl
acts_events_alike n f g h (Note event ∷ acts) lines gives = ap (λ v. event ∷ v) (acts_events_alike n f g h acts lines gives)
acts_events_alike n f g h (Give j bit ∷ acts) lines gives =
    ap (λ v. v ++ acts_events f (with_more lines (only j bit)) acts) (h j (lines j) bit gives.0)
    ∙ ap (λ v. g j (lines j) bit ++ v) (acts_events_alike n f g h acts (with_more lines (only j bit)) gives.1)
