-- The slots of a frame one after another: what each makes a demultiplexer do, and what that gives its tributaries.
use Rattle.std.proofs.Common.{◌≡◌, inl, inr, ℕ, suc, ◌+◌, ◌-◌, ◌<◌, Bool, true, false, ◌&&◌, ◌==◌, cond, List, [], ◌∷◌, ◌++◌, length, map, filter, refl, sym, ap, ◌∙◌, subst, slice_index_or, take, drop, append_assoc}
use Rattle.std.specs.Prelude.{flat_map}
use Rattle.std.proofs.lemmas.List.{append-nil, map-append, take_more, take-append-drop}
use Rattle.std.proofs.lemmas.Bool.{cases_eq, ne_eqb, eq-eqb}
use Rattle.pdh_edge.specs.Ports.{only}
use Rattle.pdh_shape.specs.declared.place.Path.{Path}
use Rattle.pdh_shape.specs.declared.role.Role.{Role}
use Rattle.pdh_shape.specs.declared.role.Role.TheVariants.{Align, Service, Control, Just, Info}
use Rattle.pdh_shape.specs.Frame.{FrameShape, slots}
use Rattle.pdh_shape.specs.Tributary.{reads_from, turned, carries_more, stripped}
use Rattle.pdh_line.specs.Tracking.{Piece}
use Rattle.pdh_line.specs.Tracking.Piece.{Delivered}
use Rattle.pdh_align.specs.Aligning.{frame_back}
use Rattle.pdh_events.specs.Duties.{frame_events}
use Rattle.pdh_events.specs.Acts.{Act, role_acts, carries_at, slot_acts, frame_acts, frames_acts}
use Rattle.pdh_events.specs.Acts.Act.{Note}
use Rattle.pdh_events.specs.laws.ActsLaws.{bits_to, bits_to-append, bits_to-notes, bits_to-each}
use Rattle.pdh_rx.specs.Node.{frames_bits}

-- ---- what the slots of a frame give

one_there : (f : ℕ → List Bool) (i j : ℕ) → cond (i == j) (f j) [] ≡ cond (j == i) (f i) []
one_there f i j = elim (cases_eq i j) [
  | inl e ↦ ap (λ b. cond b (f j) []) (eq-eqb i j e) ∙ ap f (sym e) ∙ ap (λ b. cond b (f i) []) (sym (eq-eqb j i (sym e)))
  | inr ne ↦ ap (λ b. cond b (f j) []) (ne_eqb i j ne) ∙ ap (λ b. cond b (f i) []) (sym (ne_eqb j i (λ e. ne (sym e))))
]

-- a slot gives a tributary its bit where it carries a bit of it
role_bits : (s : FrameShape) (frame : List Bool) (bit : Bool) (j : ℕ) (r : Role) → bits_to (role_acts s r (carries_at s frame r) bit) j ≡ cond (reads_from j (carries_more s j frame) r) (turned (s.inverted j) bit ∷ []) []
role_bits s frame bit j (Info i) = append-nil (only i (turned (s.inverted i) bit) j) ∙ sym (one_there (λ v. turned (s.inverted v) bit ∷ []) i j)
role_bits s frame bit j (Just i) = elim (cases_eq i j) [
  | inl e ↦ let P : ℕ → Type 0 = λ v. bits_to (role_acts s (Just v) (carries_more s v frame) bit) j ≡ cond ((v == j) && carries_more s j frame) (turned (s.inverted j) bit ∷ []) [] in
      subst P (sym e) (here (carries_more s j frame) ∙ ap (λ b. cond (b && carries_more s j frame) (turned (s.inverted j) bit ∷ []) []) (sym (eq-eqb j j refl)))
  | inr ne ↦ elsewhere ne (carries_more s i frame) ∙ ap (λ b. cond (b && carries_more s j frame) (turned (s.inverted j) bit ∷ []) []) (sym (ne_eqb i j ne))
]
  where
    here : (m : Bool) → bits_to (role_acts s (Just j) m bit) j ≡ cond m (turned (s.inverted j) bit ∷ []) []
    here true = append-nil (only j (turned (s.inverted j) bit) j) ∙ ap (λ b. cond b (turned (s.inverted j) bit ∷ []) []) (eq-eqb j j refl)
    here false = refl

    elsewhere : (i ≡ j → ⊥) → (m : Bool) → bits_to (role_acts s (Just i) m bit) j ≡ []
    elsewhere ne true = append-nil (only i (turned (s.inverted i) bit) j) ∙ ap (λ b. cond b (turned (s.inverted i) bit ∷ []) []) (ne_eqb j i (λ e. ne (sym e)))
    elsewhere ne false = refl
role_bits s frame bit j (Control i copy) = refl
role_bits s frame bit j (Align x) = refl
role_bits s frame bit j (Service n) = refl

-- the slots give a tributary the frame's bits
pub slots_bits : (s : FrameShape) (frame : List Bool) (j : ℕ) → bits_to (flat_map (slot_acts s frame) (slots s)) j ≡ stripped s j frame
unfolding stripped
slots_bits s frame j = bits_to-each (slot_acts s frame) j _ (λ slot. role_bits s frame (slice_index_or frame slot false) j (s.role slot)) (slots s) ∙ gathered (slots s)
  where
    gathered : (xs : List ℕ) → flat_map (λ slot. cond (reads_from j (carries_more s j frame) (s.role slot)) (turned (s.inverted j) (slice_index_or frame slot false) ∷ []) []) xs
        ≡ map (λ slot. turned (s.inverted j) (slice_index_or frame slot false)) (filter (λ slot. reads_from j (carries_more s j frame) (s.role slot)) xs)
    gathered [] = refl
    gathered (x ∷ xs) = one (reads_from j (carries_more s j frame) (s.role x)) (gathered xs)
      where
        one : (b : Bool) → flat_map (λ slot. cond (reads_from j (carries_more s j frame) (s.role slot)) (turned (s.inverted j) (slice_index_or frame slot false) ∷ []) []) xs
            ≡ map (λ slot. turned (s.inverted j) (slice_index_or frame slot false)) (filter (λ slot. reads_from j (carries_more s j frame) (s.role slot)) xs)
            → cond b (turned (s.inverted j) (slice_index_or frame x false) ∷ []) [] ++ flat_map (λ slot. cond (reads_from j (carries_more s j frame) (s.role slot)) (turned (s.inverted j) (slice_index_or frame slot false) ∷ []) []) xs
            ≡ map (λ slot. turned (s.inverted j) (slice_index_or frame slot false)) (cond b (x ∷ filter (λ slot. reads_from j (carries_more s j frame) (s.role slot)) xs) (filter (λ slot. reads_from j (carries_more s j frame) (s.role slot)) xs))
        one true e = ap (λ v. turned (s.inverted j) (slice_index_or frame x false) ∷ v) e
        one false e = e

-- ---- the frames one after another

pub frame_acts_is : (s : FrameShape) (path : Path) (bit : ℕ) (pieces : List Piece) (frame : List Bool) → frame_acts s path bit pieces frame ≡ map Note (frame_events s path bit pieces frame) ++ flat_map (slot_acts s frame) (slots s)
unfolding frame_acts
frame_acts_is s path bit pieces frame = refl

pub frames_acts-append : (s : FrameShape) (path : Path) (bit : ℕ) (pieces : List Piece) (xs ys : List (List Bool)) → frames_acts s path bit pieces (xs ++ ys) ≡ frames_acts s path bit pieces xs ++ frames_acts s path bit (pieces ++ map Delivered xs) ys
frames_acts-append s path bit pieces [] ys = ap (λ v. frames_acts s path bit v ys) (sym (append-nil pieces))
frames_acts-append s path bit pieces (x ∷ xs) ys =
    let here : List Act = frame_acts s path bit pieces x in
    ap (λ v. here ++ v) (frames_acts-append s path bit (pieces ++ Delivered x ∷ []) xs ys)
    ∙ ap (λ v. here ++ (frames_acts s path bit (pieces ++ Delivered x ∷ []) xs ++ frames_acts s path bit v ys)) (append_assoc pieces (Delivered x ∷ []) (map Delivered xs))
    ∙ sym (append_assoc here (frames_acts s path bit (pieces ++ Delivered x ∷ []) xs) (frames_acts s path bit (pieces ++ map Delivered (x ∷ xs)) ys))

-- so many of the ready frames, and the next
pub frames_next : (s : FrameShape) (path : Path) (bit : ℕ) (pieces : List Piece) (ready : List (List Bool)) (n back : ℕ) → n < length ready → length ready - suc back ≡ n
    → frames_acts s path bit pieces (take (n + 1) ready) ≡ frames_acts s path bit pieces (take n ready) ++ frame_acts s path bit (pieces ++ map Delivered (take n ready)) (frame_back ready back)
frames_next s path bit pieces ready n back inside is =
    ap (frames_acts s path bit pieces) (take_more ready n [] inside) ∙ frames_acts-append s path bit pieces (take n ready) (slice_index_or ready n [] ∷ [])
    ∙ ap (λ x. frames_acts s path bit pieces (take n ready) ++ x) (append-nil (frame_acts s path bit (pieces ++ map Delivered (take n ready)) (slice_index_or ready n [])) ∙ ap (λ k. frame_acts s path bit (pieces ++ map Delivered (take n ready)) (slice_index_or ready k [])) (sym is))

pub pieces_next : (pieces : List Piece) (ready : List (List Bool)) (n back : ℕ) → n < length ready → length ready - suc back ≡ n
    → pieces ++ map Delivered (take (n + 1) ready) ≡ (pieces ++ map Delivered (take n ready)) ++ Delivered (frame_back ready back) ∷ []
pieces_next pieces ready n back inside is =
    ap (λ v. pieces ++ map Delivered v) (take_more ready n [] inside) ∙ ap (λ v. pieces ++ v) (map-append Delivered (take n ready) (slice_index_or ready n [] ∷ []))
    ∙ sym (append_assoc pieces (map Delivered (take n ready)) (Delivered (slice_index_or ready n []) ∷ [])) ∙ ap (λ k. (pieces ++ map Delivered (take n ready)) ++ Delivered (slice_index_or ready k []) ∷ []) (sym is)

-- the frames that are left
abbrev pub frames_left : FrameShape → Path → ℕ → List Piece → List (List Bool) → ℕ → List Act
frames_left s path bit pieces ready n = frames_acts s path bit (pieces ++ map Delivered (take (n + 1) ready)) (drop (n + 1) ready)

pub frames_begin : (s : FrameShape) (path : Path) (bit : ℕ) (pieces : List Piece) (ready : List (List Bool)) (n back : ℕ) → n < length ready → length ready - suc back ≡ n
    → frames_acts s path bit pieces ready ≡ (frames_acts s path bit pieces (take n ready) ++ frame_acts s path bit (pieces ++ map Delivered (take n ready)) (frame_back ready back)) ++ frames_left s path bit pieces ready n
frames_begin s path bit pieces ready n back inside is =
    ap (frames_acts s path bit pieces) (sym (take-append-drop (n + 1) ready)) ∙ frames_acts-append s path bit pieces (take (n + 1) ready) (drop (n + 1) ready)
    ∙ ap (λ v. v ++ frames_left s path bit pieces ready n) (frames_next s path bit pieces ready n back inside is)

-- frames give a tributary their bits
pub frames_give : (s : FrameShape) (path : Path) (bit : ℕ) (pieces : List Piece) (frames : List (List Bool)) (j : ℕ) → bits_to (frames_acts s path bit pieces frames) j ≡ frames_bits s frames j
frames_give s path bit pieces [] j = refl
frames_give s path bit pieces (frame ∷ frames) j =
    bits_to-append (frame_acts s path bit pieces frame) (frames_acts s path bit (pieces ++ Delivered frame ∷ []) frames) j
    ∙ ap (λ v. v ++ bits_to (frames_acts s path bit (pieces ++ Delivered frame ∷ []) frames) j)
    (ap (λ a. bits_to a j) (frame_acts_is s path bit pieces frame) ∙ bits_to-append (map Note (frame_events s path bit pieces frame)) (flat_map (slot_acts s frame) (slots s)) j
    ∙ ap (λ v. v ++ bits_to (flat_map (slot_acts s frame) (slots s)) j) (bits_to-notes (frame_events s path bit pieces frame) j) ∙ slots_bits s frame j)
    ∙ ap (λ v. stripped s j frame ++ v) (frames_give s path bit (pieces ++ Delivered frame ∷ []) frames j)
