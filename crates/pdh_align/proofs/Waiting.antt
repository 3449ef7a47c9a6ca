-- Bits of the line at which no frame ends.
use Rattle.std.proofs.Common.{◌≡◌, ℕ, ◌+◌, ◌*◌, ◌<◌, ◌≤◌, Bool, true, false, cond, List, [], ◌∷◌, ◌++◌, length, sym, ap, ◌∙◌, subst, arith, append_assoc, get_or, length-append, refl, take, drop}
use Rattle.std.proofs.lemmas.List.{append-nil, take-append-drop, length-take-le}
use Rattle.pdh_shape.specs.declared.role.Marks.{Marks}
use Rattle.pdh_shape.specs.Frame.{FrameShape, IsFrame, clean}
use Rattle.pdh_bits.specs.BitOut.{BoundedBits}
use Rattle.pdh_line.specs.Tracking.{track}
use Rattle.pdh_align.specs.declared.signals.Signals.{Signals}
use Rattle.pdh_align.specs.Searching.{Sought, Searches, Takes}
use Rattle.pdh_align.specs.Aligning.{Held, Follows, StandsFor, Waits}
use Rattle.pdh_align.specs.Aligning.Phase.{Searching, Tracking}
use Rattle.pdh_align.specs.View.{held_of, HoldsEnough}
use Rattle.pdh_align.proofs.AligningLaws.{Began, search_waits, alignment_waits}
use Rattle.pdh_align.proofs.ReadyFrames.{joins_ring, joins_list, ring_alone, list_alone}

no : {X : Type 0} → false ≡ true → X
no h = cc

-- ---- the lines that the machine stands for

-- a search that still holds less than three frames
search_waits_all : (s : FrameShape) (held line bits : List Bool) → IsFrame s → (h : Follows s (Searching held) line) → length (held ++ bits) < 3 * s.len
    → Began s (held ++ bits) (h.since ++ bits) (line ++ bits) × (track s (line ++ bits) ≡ track s line)
search_waits_all s held line [] shape h short = (
  subst (λ x. Began s x (h.since ++ []) (line ++ [])) (sym (append-nil held)) (subst (λ x. Began s held (h.since ++ []) x) (sym (append-nil line)) (h, sym (append-nil h.since))),
  ap (track s) (append-nil line),
)
search_waits_all s held line (bit ∷ bits) shape h short =
    let shorter : length (held ++ bit ∷ []) < 3 * s.len = omega (arith, short, length-append held (bit ∷ bits), length-append held (bit ∷ [])) in
    let one = search_waits s held line bit shape h shorter in
    let held_is : held ++ bit ∷ [] ++ bits ≡ held ++ bit ∷ bits = append_assoc held (bit ∷ []) bits in
    let line_is : line ++ bit ∷ [] ++ bits ≡ line ++ bit ∷ bits = append_assoc line (bit ∷ []) bits in
    let since_is : (one.0).since ++ bits ≡ h.since ++ bit ∷ bits = ap (λ x. x ++ bits) one.2 ∙ append_assoc h.since (bit ∷ []) bits in
    let rest = search_waits_all s (held ++ bit ∷ []) (line ++ bit ∷ []) bits shape one.0 (rw held_is short) in
    let began : Began s (held ++ bit ∷ [] ++ bits) (h.since ++ bit ∷ bits) (line ++ bit ∷ [] ++ bits) = subst (λ x. Began s (held ++ bit ∷ [] ++ bits) x (line ++ bit ∷ [] ++ bits)) since_is rest.0 in (
      subst (λ x. Began s x (h.since ++ bit ∷ bits) (line ++ bit ∷ bits)) held_is (subst (Began s (held ++ bit ∷ [] ++ bits) (h.since ++ bit ∷ bits)) line_is began),
      ap (track s) (sym line_is) ∙ rest.1 ∙ one.1.1,
    )

-- an alignment that still holds less than a frame
alignment_waits_all : (s : FrameShape) (a b c : Marks) (part line bits : List Bool) → IsFrame s → Follows s (Tracking a b c part) line → length (part ++ bits) < s.len
    → Follows s (Tracking a b c (part ++ bits)) (line ++ bits) × (track s (line ++ bits) ≡ track s line)
alignment_waits_all s a b c part line [] shape h short = (
  subst (λ x. Follows s (Tracking a b c x) (line ++ [])) (sym (append-nil part)) (subst (Follows s (Tracking a b c part)) (sym (append-nil line)) h),
  ap (track s) (append-nil line),
)
alignment_waits_all s a b c part line (bit ∷ bits) shape h short =
    let shorter : length (part ++ bit ∷ []) < s.len = omega (arith, short, length-append part (bit ∷ bits), length-append part (bit ∷ [])) in
    let one = alignment_waits s a b c part line bit shape h shorter in
    let part_is : part ++ bit ∷ [] ++ bits ≡ part ++ bit ∷ bits = append_assoc part (bit ∷ []) bits in
    let line_is : line ++ bit ∷ [] ++ bits ≡ line ++ bit ∷ bits = append_assoc line (bit ∷ []) bits in
    let rest = alignment_waits_all s a b c (part ++ bit ∷ []) (line ++ bit ∷ []) bits shape one.0 (rw part_is short) in (
      subst (λ x. Follows s (Tracking a b c x) (line ++ bit ∷ bits)) part_is (subst (Follows s (Tracking a b c (part ++ bit ∷ [] ++ bits))) line_is rest.0),
      ap (track s) (sym line_is) ∙ rest.1 ∙ one.1.1,
    )

-- no bit of them is more than all of them
part_short : (k : ℕ) (held bits : List Bool) → length (held ++ take k bits) ≤ length (held ++ bits)
part_short k held bits =
    let whole : length (take k bits ++ drop k bits) ≡ length bits = ap length (take-append-drop k bits) in
    omega (arith, length-append held (take k bits), length-append held bits, length-append (take k bits) (drop k bits), whole)

-- ---- the fields

-- what is added to the bits that are held: bits none of which ends a frame
pub record Added (len : ℕ) (searching fresh : Bool) (items now more : List Bool) : Type 0 where
  pub idle : searching ≡ true → fresh ≡ false
  pub now_is : now ≡ cond fresh [] items ++ more
  pub less : length now < cond searching (3 * len) len

part_waits : (s : FrameShape) (len : ℕ) (searching fresh : Bool) (before : List Marks) (items now more : List Bool) (search after : Sought) (line : List Bool) → IsFrame s → s.len ≡ len
    → Added len searching fresh items now more → (searching ≡ true → Takes s search after more)
    → StandsFor s (held_of len searching fresh before items search) line → Waits s (held_of len searching false before now after) more line
part_waits s len true false before items now more search after line shape same added takes h =
    let now_is : now ≡ items ++ more = added.now_is in
    let short : length (items ++ more) < 3 * s.len = rw (same, ← now_is) added.less in
    let facts = search_waits_all s items line more shape h.follows short in
    let began = subst (λ x. Began s x (h.follows.since ++ more) (line ++ more)) (sym now_is) facts.0 in
    let kept : Searches s after now (h.follows.since ++ more) = subst (λ x. Searches s after x (h.follows.since ++ more)) (sym now_is) (takes refl items h.follows.since h.searches) in
    record { stands = record { follows = began.0; searches = subst (λ x. Searches s after now x) (sym began.1) kept }; same = facts.1; each = λ k. (search_waits_all s items line (take k more) shape h.follows (omega (arith, short, part_short k items more))).1 }
part_waits s len true true before items now more search after line shape same added takes h = no (sym (added.idle refl))
part_waits s len false fresh before items now more search after line shape same added takes h =
    let a : Marks = get_or before 0 clean in
    let b : Marks = get_or before 1 clean in
    let c : Marks = get_or before 2 clean in
    let now_is : now ≡ cond fresh [] items ++ more = added.now_is in
    let short : length (cond fresh [] items ++ more) < s.len = rw (same, ← now_is) added.less in
    let facts = alignment_waits_all s a b c (cond fresh [] items) line more shape h.follows short in
    record { stands = record { follows = subst (λ x. Follows s (Tracking a b c x) (line ++ more)) (sym now_is) facts.0; searches = tt }; same = facts.1; each = λ k. (alignment_waits_all s a b c (cond fresh [] items) line (take k more) shape h.follows (omega (arith, short, part_short k (cond fresh [] items) more))).1 }

-- once bits were added, none of which ends a frame
pub takes_wait : (s : FrameShape) (len : ℕ) (searching fresh fresh' : Bool) (before : List Marks) (items now more : List Bool) (search after : Sought) (old : Held) (line : List Bool) → IsFrame s → s.len ≡ len
    → held_of len searching fresh before items search ≡ old → fresh' ≡ false → Added len searching fresh items now more → (searching ≡ true → Takes s search after more)
    → StandsFor s old line → Waits s (held_of len searching fresh' before now after) more line
takes_wait s len searching fresh fresh' before items now more search after old line shape same view none added takes h =
    subst (λ f. Waits s (held_of len searching f before now after) more line) (sym none)
    (part_waits s len searching fresh before items now more search after line shape same added takes (subst (λ (x : Held). StandsFor s x line) (sym view) h))

-- in a search bits are added to the ring
pub record InRing (s : FrameShape) (len : ℕ) (searching fresh : Bool) (held frame ring list more : List Bool) (after : Sought) : Type 0 where
  pub short : length ring < 3 * len
  pub empty : list ≡ []
  pub added : Added len searching fresh (held ++ frame) (ring ++ list) more
  pub begun : (since : List Bool) × Searches s after ring since

pub adds_ring : (s : FrameShape) (len : ℕ) (searching fresh : Bool) (signals : Signals) (before : List Marks) (held frame : BoundedBits) (cleared ring list rest : List Bool) (search after : Sought) (n : ℕ)
    → HoldsEnough s len searching fresh signals held frame search before → searching ≡ true → cleared ≡ cond fresh [] held.bits → list ≡ cond fresh [] frame.bits → ring ≡ cleared ++ take n rest → n ≤ length rest
    → (length cleared < 3 * len → length cleared + n < 3 * len) → Takes s search after (take n rest) → InRing s len searching fresh held.bits frame.bits ring list (take n rest) after
adds_ring s len false fresh signals before held frame cleared ring list rest search after n h is clear l r few room takes = no is
adds_ring s len true true signals before held frame cleared ring list rest search after n h is clear l r few room takes = no (sym (h.idle refl))
adds_ring s len true false signals before held frame cleared ring list rest search after n h is clear l r few room takes =
    let more : List Bool = take n rest in
    let ring_is : ring ≡ held.bits ++ more = r ∙ ap (λ x. x ++ more) clear in
    let joined = joins_ring false held.bits frame.bits ring list more (h.unlisted refl) ring_is l in
    let (since, kept) = h.begun refl in
    let short : length ring < 3 * len = omega (arith, room (omega (arith, h.short refl, ap length clear)), ap length r, length-append cleared more, length-take-le n rest few) in
    record {
      short = short;
      empty = joined.0;
      added = record { idle = λ k. refl; now_is = joined.1; less = omega (arith, short, ap length (ring_alone ring list joined.0)) };
      begun = (since ++ more, subst (λ x. Searches s after x (since ++ more)) (sym ring_is) (takes held.bits since kept));
    }

-- in an alignment bits are added to the list
pub record InList (len : ℕ) (searching fresh : Bool) (held frame ring list more : List Bool) : Type 0 where
  pub short : length list < len
  pub empty : ring ≡ []
  pub added : Added len searching fresh (held ++ frame) (ring ++ list) more

pub adds_list : (s : FrameShape) (len : ℕ) (searching fresh : Bool) (signals : Signals) (before : List Marks) (held frame : BoundedBits) (cleared ring list rest : List Bool) (search : Sought) (n : ℕ) → 0 < len
    → HoldsEnough s len searching fresh signals held frame search before → searching ≡ false → ring ≡ cond fresh [] held.bits → cleared ≡ cond fresh [] frame.bits → list ≡ cleared ++ take n rest → n ≤ length rest
    → (length cleared < len → length cleared + n < len) → InList len searching fresh held.bits frame.bits ring list (take n rest)
adds_list s len true fresh signals before held frame cleared ring list rest search n some h is r clear l few room = no (sym is)
adds_list s len false fresh signals before held frame cleared ring list rest search n some h is r clear l few room =
    let more : List Bool = take n rest in
    let joined = joins_list fresh held.bits frame.bits ring list more (h.listed refl) r (l ∙ ap (λ x. x ++ more) clear) in
    let short : length list < len = omega (arith, room (below fresh frame.bits cleared some (h.part refl) clear), ap length l, length-append cleared more, length-take-le n rest few) in
    record { short = short; empty = joined.0; added = record { idle = λ k. no k; now_is = joined.1; less = omega (arith, short, ap length (list_alone ring list joined.0)) } }
  where
    below : (fresh : Bool) (part cleared : List Bool) → 0 < len → (fresh ≡ false → length part < len) → cleared ≡ cond fresh [] part → length cleared < len
    below true part cleared some h e = omega (arith, some, ap length e)
    below false part cleared some h e = omega (arith, h refl, ap length e)
