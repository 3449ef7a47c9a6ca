-- The frames that are ready, and what a push leaves of the fields.
use Rattle.std.proofs.Common.{◌≡◌, ℕ, suc, ◌+◌, ◌-◌, ◌*◌, ◌/◌, ◌<◌, ◌≤◌, Bool, true, false, cond, List, [], ◌∷◌, ◌++◌, length, map, take, drop, refl, sym, ap, ◌∙◌, subst, inl, inr, arith, get_or, add-zero, length-append}
use Rattle.std.specs.List.{range_with_len, slice_index_or}
use Rattle.std.proofs.lemmas.List.FromFn.{get_or-map-range_with_len, length-map-range_with_len}
use Rattle.std.proofs.lemmas.List.{append-nil}
use Rattle.std.proofs.lemmas.Nat.{div-mul-add}
use Rattle.std.proofs.Math.Nat.{add-mul}
use Rattle.pdh_bits.specs.BitOut.{BoundedBits}
use Rattle.pdh_shape.specs.declared.role.Marks.{Marks}
use Rattle.pdh_shape.specs.Frame.{FrameShape, clean, wrong}
use Rattle.pdh_line.specs.Tracking.{frame_of, is_confirmed}
use Rattle.pdh_line.proofs.FrameLaws.{wrong_of_right}
use Rattle.pdh_line.proofs.TrackingLaws.{confirmed_right}
use Rattle.pdh_align.specs.declared.signals.Signals.{Signals}
use Rattle.pdh_align.specs.Signals.{Judges}
use Rattle.pdh_align.specs.Searching.{Sought, Searches, Takes}
use Rattle.pdh_align.specs.Aligning.{Held, frame_back}
use Rattle.pdh_align.specs.View.{held_frame, ready_of, held_of, StandReady, three_frames, HoldsEnough}
use Rattle.pdh_align.proofs.Turns.{three_ready, one_ready}
use Rattle.pdh_align.proofs.SignalLaws.{bit_in_frame}

-- the ready frames, where whole frames are held
ready_are : (len n : ℕ) (bits : List Bool) → 0 < len → length bits ≡ n * len → ready_of len true bits ≡ map (held_frame len bits) (range_with_len 0 n)
ready_are len n bits some h =
    let count : length bits / len ≡ n = ap (λ x. x / len) (h ∙ sym (add-zero (n * len))) ∙ div-mul-add n len 0 some in
    ap (λ n. map (held_frame len bits) (range_with_len 0 n)) count

-- a ready frame, counted back from the newest
back_are : (len n : ℕ) (bits : List Bool) (back : ℕ) → 0 < len → length bits ≡ n * len → back < length (ready_of len true bits)
    → ((back + 1) * len ≤ length bits) × (frame_back (ready_of len true bits) back ≡ take len (drop (length bits - (back + 1) * len) bits))
back_are len n bits back some h lt =
    let f : ℕ → List Bool = held_frame len bits in
    let ready : ready_of len true bits ≡ map f (range_with_len 0 n) = ready_are len n bits some h in
    let count : length (map f (range_with_len 0 n)) ≡ n = length-map-range_with_len f 0 n in
    let below : back < n = omega (arith, ap length ready) in
    let k : ℕ = n - suc back in
    let parts : n ≡ k + (back + 1) = omega arith in
    let whole : length bits ≡ k * len + (back + 1) * len = h ∙ ap (λ n. n * len) parts ∙ add-mul k (back + 1) len in
    let from : length bits - (back + 1) * len ≡ k * len = omega arith in
    let read : get_or (map f (range_with_len 0 n)) k [] ≡ f k = get_or-map-range_with_len f 0 n k k [] (omega arith) (omega arith) in
    (omega arith, ap (λ r. frame_back r back) ready ∙ ap (λ m. get_or (map f (range_with_len 0 n)) (m - suc back) []) count ∙ read ∙ ap (λ m. take len (drop m bits)) (sym from))

-- that a frame is ready tells that those are whole that are held
fresh_told : (len : ℕ) (fresh : Bool) (bits : List Bool) (ready : List (List Bool)) (back : ℕ) → ready_of len fresh bits ≡ ready → back < length ready → fresh ≡ true
fresh_told len true bits ready back told lt = refl
fresh_told len false bits ready back told lt = absurd (omega (arith, lt, ap length told))

-- a ready frame that the list doesn't hold lies within the ring
pub ready_in_ring : (len : ℕ) (fresh : Bool) (held frame : List Bool) (ready : List (List Bool)) (back : ℕ) → 0 < len → (fresh ≡ true → StandReady len held frame) → ready_of len fresh (held ++ frame) ≡ ready → back < length ready
    → length frame ≤ 0 → ((back + 1) * len ≤ length held) × (frame_back ready back ≡ take len (drop (length held - (back + 1) * len) held))
ready_in_ring len fresh held frame ready back some whole told lt none =
    let is : fresh ≡ true = fresh_told len fresh (held ++ frame) ready back told lt in
    elim (whole is) [
      | inl h ↦
          let alone : held ≡ held ++ frame = sym (append-nil held) ∙ ap (λ x. held ++ x) (sym h.1) in
          let same : ready_of len true held ≡ ready = ap (ready_of len true) alone ∙ ap (λ f. ready_of len f (held ++ frame)) (sym is) ∙ told in
          let found = back_are len 3 held back some h.0 (rw same lt) in
          (found.0, ap (λ (r : List (List Bool)). frame_back r back) (sym same) ∙ found.1)
      | inr h ↦ absurd (omega (arith, h.1, none, some))
    ]

-- and so does a bit of it
pub bit_in_ring : (len : ℕ) (fresh : Bool) (held frame : List Bool) (ready : List (List Bool)) (back slot : ℕ) → 0 < len → (fresh ≡ true → StandReady len held frame) → ready_of len fresh (held ++ frame) ≡ ready → back < length ready
    → length frame ≤ 0 → slot < len → slice_index_or held (length held - (back + 1) * len + slot) false ≡ slice_index_or (frame_back ready back) slot false
bit_in_ring len fresh held frame ready back slot some whole told lt none in_frame =
    sym (bit_in_frame held (length held - (back + 1) * len) len slot in_frame) ∙ ap (λ x. slice_index_or x slot false) (sym (ready_in_ring len fresh held frame ready back some whole told lt none).1)

-- whole frames that are held, and a list that isn't empty: then the list holds the only one
pub listed_alone : (len : ℕ) (fresh : Bool) (held frame : List Bool) (ready : List (List Bool)) → 0 < len → (fresh ≡ true → StandReady len held frame) → ready_of len fresh (held ++ frame) ≡ ready → fresh ≡ true
    → 0 < length frame → (held ≡ []) × (length frame ≡ len) × (ready ≡ frame ∷ [])
listed_alone len fresh held frame ready some whole told is listed =
    elim (whole is) [
      | inl h ↦ absurd (omega (arith, listed, ap length h.1))
      | inr h ↦ (h.0, h.1, sym told ∙ ap (λ f. ready_of len f (held ++ frame)) is ∙ ap (λ x. ready_of len true (x ++ frame)) h.0 ∙ one_ready len frame some h.1)
    ]

-- so it is a frame that is told
pub ready_in_list : (len : ℕ) (fresh : Bool) (held frame : List Bool) (ready : List (List Bool)) (back : ℕ) → 0 < len → (fresh ≡ true → StandReady len held frame) → ready_of len fresh (held ++ frame) ≡ ready → back < length ready
    → 0 < length frame → (length frame ≡ len) × (frame_back ready back ≡ frame)
ready_in_list len fresh held frame ready back some whole told lt listed =
    let alone = listed_alone len fresh held frame ready some whole told (fresh_told len fresh (held ++ frame) ready back told lt) listed in
    let first : back ≡ 0 = omega (arith, lt, ap length alone.2) in
    (alone.1, ap (frame_back ready) first ∙ ap (λ (r : List (List Bool)). frame_back r 0) alone.2)

-- and where one frame is ready the list holds it
pub alone_listed : (len : ℕ) (fresh : Bool) (held frame : List Bool) (ready : List (List Bool)) → 0 < len → (fresh ≡ true → StandReady len held frame) → ready_of len fresh (held ++ frame) ≡ ready → length ready ≡ 1
    → (fresh ≡ true) × (0 < length frame)
alone_listed len fresh held frame ready some whole told one =
    let is : fresh ≡ true = fresh_told len fresh (held ++ frame) ready 0 told (omega (arith, one)) in (
      is,
      elim (whole is) [
        | inl h ↦
            let alone : held ≡ held ++ frame = sym (append-nil held) ∙ ap (λ x. held ++ x) (sym h.1) in
            let same : ready_of len true held ≡ ready = ap (ready_of len true) alone ∙ ap (λ f. ready_of len f (held ++ frame)) (sym is) ∙ told in
            absurd (omega (arith, one, ap length same, ap length (ready_are len 3 held some h.0), length-map-range_with_len (held_frame len held) 0 3))
        | inr h ↦ omega (arith, h.1, some)
      ],
    )

-- where it begins, by the numbers as the code has them
pub same_start : (held held' back back' len len' : ℕ) → held ≡ held' → back ≡ back' → len ≡ len' → held - (back + 1) * len ≡ held' - (back' + 1) * len'
same_start held held' back back' len len' count place size =
    ap (λ n. n - (back + 1) * len) count ∙ ap (λ n. held' - (n + 1) * len) place ∙ ap (λ n. held' - (back' + 1) * n) size

-- ---- where the bits are

-- a search holds none in the list, and takes a bit into the ring
pub joins_ring : (fresh : Bool) (held frame ring list more : List Bool) → frame ≡ [] → ring ≡ cond fresh [] held ++ more → list ≡ cond fresh [] frame → (list ≡ []) × (ring ++ list ≡ cond fresh [] (held ++ frame) ++ more)
joins_ring true held frame ring list more none r l = (l, ap (λ x. ring ++ x) l ∙ append-nil ring ∙ r)
joins_ring false held frame ring list more none r l =
    (l ∙ none, ap (λ x. ring ++ x) (l ∙ none) ∙ append-nil ring ∙ r ∙ ap (λ x. x ++ more) (sym (append-nil held) ∙ ap (λ x. held ++ x) (sym none)))

-- an alignment holds none in the ring, and takes a bit into the list
pub joins_list : (fresh : Bool) (held frame ring list more : List Bool) → (fresh ≡ false → held ≡ []) → ring ≡ cond fresh [] held → list ≡ cond fresh [] frame ++ more → (ring ≡ []) × (ring ++ list ≡ cond fresh [] (held ++ frame) ++ more)
joins_list true held frame ring list more none r l = (r, ap (λ x. x ++ list) r ∙ l)
joins_list false held frame ring list more none r l =
    let empty : ring ≡ [] = r ∙ none refl in
    (empty, ap (λ x. x ++ list) empty ∙ l ∙ ap (λ x. x ++ frame ++ more) (sym (none refl)))

-- the bits, where the list is empty
pub ring_alone : (ring list : List Bool) → list ≡ [] → ring ++ list ≡ ring
ring_alone ring list none = ap (λ x. ring ++ x) none ∙ append-nil ring

-- and where the ring is
pub list_alone : (ring list : List Bool) → ring ≡ [] → ring ++ list ≡ list
list_alone ring list none = ap (λ x. x ++ list) none

-- ---- what a push leaves

-- a search with one more bit holds three frames at most
pub length_search : (fresh bit : Bool) (bits now : List Bool) (len : ℕ) → 0 < len → now ≡ cond fresh [] bits ++ bit ∷ [] → length bits < 3 * len → length now ≤ 3 * len
length_search true bit bits now len some e h = rw e (omega arith)
length_search false bit bits now len some e h = rw e (omega (arith, length-append bits (bit ∷ [])))

-- an alignment with one more bit holds a frame at most
pub length_part : (fresh bit : Bool) (bits now : List Bool) (len : ℕ) → 0 < len → now ≡ cond fresh [] bits ++ bit ∷ [] → (fresh ≡ false → length bits < len) → length now ≤ len
length_part true bit bits now len some e h = rw e (omega arith)
length_part false bit bits now len some e h = rw e (omega (arith, length-append bits (bit ∷ []), h refl))

no : {X : Type 0} → false ≡ true → X
no h = cc

-- a search that took one more bit
pub begun_push : (s : FrameShape) (old new : Sought) (fresh : Bool) (bits now : List Bool) (bit : Bool) → fresh ≡ false → now ≡ cond fresh [] bits ++ bit ∷ [] → Takes s old new (bit ∷ [])
    → (since : List Bool) × Searches s old bits since → (since : List Bool) × Searches s new now since
begun_push s old new true bits now bit idle e takes begun = no (sym idle)
begun_push s old new false bits now bit idle e takes (since, h) = (since ++ bit ∷ [], subst (λ x. Searches s new x (since ++ bit ∷ [])) (sym e) (takes bits since h))

-- the fields of an alignment that begins
pub holds_aligned : (s : FrameShape) (len : ℕ) (signals : Signals) (held frame : BoundedBits) (search : Sought) (a b c : Marks) → Judges s signals → held.capacity ≡ three_frames len → frame.capacity ≡ len → 0 < len → s.len ≡ len
    → length held.bits ≡ 3 * len → frame.bits ≡ [] → is_confirmed s held.bits ≡ true → c ≡ clean → HoldsEnough s len false true signals held frame search (a ∷ b ∷ c ∷ [])
holds_aligned s len signals held frame search a b c are room list_room some e h none confirmed is =
    let third : wrong s (frame_of s held.bits 2) ≡ clean = wrong_of_right s (frame_of s held.bits 2) (confirmed_right s held.bits confirmed).2 in
    let ready : ready_of len true (held.bits ++ frame.bits) ≡ map (frame_of s held.bits) (0 ∷ 1 ∷ 2 ∷ []) = ap (ready_of len true) (ring_alone held.bits frame.bits none) ∙ three_ready s len held.bits some e h in
    record {
      judges = are;
      room = room;
      list_room = list_room;
      three = refl;
      short = λ k. no k;
      begun = λ k. no k;
      idle = λ k. no k;
      unlisted = λ k. no k;
      part = λ k k'. no (sym k');
      listed = λ k k'. no (sym k');
      whole = λ k. inl (h, none);
      newest = λ k. is ∙ sym third ∙ ap (λ (r : List (List Bool)). wrong s (frame_back r 0)) (sym ready);
    }

-- the fields of an alignment with one more frame
pub holds_frame : (s : FrameShape) (len : ℕ) (signals : Signals) (searching : Bool) (held frame : BoundedBits) (search : Sought) (a b c : Marks) → Judges s signals → held.capacity ≡ three_frames len → frame.capacity ≡ len → 0 < len
    → searching ≡ false → held.bits ≡ [] → length frame.bits ≡ len → c ≡ wrong s frame.bits → HoldsEnough s len searching true signals held frame search (a ∷ b ∷ c ∷ [])
holds_frame s len signals searching held frame search a b c are room list_room some follows none h is =
    let ready : ready_of len true (held.bits ++ frame.bits) ≡ frame.bits ∷ [] = ap (ready_of len true) (list_alone held.bits frame.bits none) ∙ one_ready len frame.bits some h in
    record {
      judges = are;
      room = room;
      list_room = list_room;
      three = refl;
      short = λ k. no (sym follows ∙ k);
      begun = λ k. no (sym follows ∙ k);
      idle = λ k. no (sym follows ∙ k);
      unlisted = λ k. no (sym follows ∙ k);
      part = λ k k'. no (sym k');
      listed = λ k k'. no (sym k');
      whole = λ k. inr (none, h);
      newest = λ k. is ∙ ap (λ (r : List (List Bool)). wrong s (frame_back r 0)) (sym ready);
    }

-- the fields of a search
pub holds_search : (s : FrameShape) (len : ℕ) (signals : Signals) (searching fresh : Bool) (held frame : BoundedBits) (search : Sought) (before : List Marks) → Judges s signals → held.capacity ≡ three_frames len → frame.capacity ≡ len
    → length before ≡ 3 → searching ≡ true → fresh ≡ false → length held.bits < 3 * len → frame.bits ≡ [] → (since : List Bool) → Searches s search held.bits since → HoldsEnough s len searching fresh signals held frame search before
holds_search s len signals searching fresh held frame search before are room list_room three is idle short none since begun =
    record {
      judges = are;
      room = room;
      list_room = list_room;
      three = three;
      short = λ k. short;
      begun = λ k. (since, begun);
      idle = λ k. idle;
      unlisted = λ k. none;
      part = λ k k'. no (sym k ∙ is);
      listed = λ k k'. no (sym k ∙ is);
      whole = λ k. no (sym idle ∙ k);
      newest = λ k. no (sym idle ∙ k);
    }

-- ---- a frame that is exchanged

-- the alignment goes on as it was, and no frame is ready
pub goes_on : (len : ℕ) (searching fresh : Bool) (before : List Marks) (held frame list : List Bool) (search : Sought) (old : Held) → (searching ≡ true → fresh ≡ false) → fresh ≡ true → held ≡ [] → list ≡ []
    → held_of len searching fresh before (held ++ frame) search ≡ old → held_of len searching false before (held ++ list) search ≡ record old { ready = [] }
goes_on len searching false before held frame list search old idle is none empty view = no is
goes_on len true true before held frame list search old idle is none empty view = no (sym (idle refl))
goes_on len false true before held frame list search old idle is none empty view =
    ap (λ x. held_of len false false before x search) (ap (λ x. x ++ list) none ∙ empty) ∙ ap (λ (x : Held). record x { ready = [] }) view
