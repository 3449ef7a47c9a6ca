-- Where a store meets no event in plain mode no slip stands, and the other way round; both modes carry the same then.
use Rattle.std.proofs.Common.{◌≡◌, ℕ, zero, suc, ◌+◌, ◌*◌, ◌<◌, ◌≤◌, Bool, true, false, not, ◌&&◌, ◌||◌, cond, eqb, leb, List, [], ◌∷◌, ◌++◌, map, refl, sym, ap, ◌∙◌, subst, inl, inr, arith}
use Rattle.std.specs.Prelude.{flat_map}
use Rattle.std.specs.List.{range_with_len}
use Rattle.std.proofs.lemmas.Bool.{cases_eq}
use Rattle.std.proofs.Math.Nat.{mul-le-mul_right}
use Rattle.pdh_shape.specs.Frame.{FrameShape, IsFrame}
use Rattle.pdh_shape.specs.Tributary.{reads_from}
use Rattle.pdh_shape.specs.OwnNumbers.{lead, store_size}
use Rattle.pdh_line.specs.Progress.{arrived}
use Rattle.pdh_line.specs.Edits.{half_store, Edit, edited}
use Rattle.pdh_line.specs.Sending.{HasStores, arrived_in, arrives_at, justifies, sent, sends_more, read_before, Slip, Start, slips_from, slips_at, slips_in, carries_at, start_of, edits_in, edits_to}
use Rattle.pdh_line.specs.Sending.Mode.{Slipping}
use Rattle.pdh_line.specs.Events.{Kind, Event, overflows, underflows, IsQuiet, overflow_at, underflow_at}
use Rattle.pdh_line.specs.Events.Kind.{Overflow, Underflow}
use Rattle.pdh_line.proofs.SendingLaws.{sent-zero, sent-suc, read_before-suc, read_before-start}
use Rattle.pdh_nesting.proofs.Orders.{Each}
use Rattle.pdh_nesting.proofs.EventParts.{none_of_range}
use Rattle.pdh_nesting.proofs.FrameSlips.{in_slot, over, emptied, under, one, put_in, gone_in, slip_in, rest_of, last_of, none_of_slot}

-- no event of plain mode stands in these slots of frame n
abbrev MeetsNone : FrameShape → ℕ → (ℕ → ℕ) → ℕ → ℕ → Type 0
MeetsNone s j counts n slots = (u : ℕ) → u < slots → (overflows s j counts n u ≡ false) × (underflows s j counts n u ≡ false)

-- ---- one frame, before which no slip stands

none_if : (a b : Bool) (slip : Slip) (rest : List Slip) → cond (a || (not a && b)) (slip ∷ rest) rest ≡ [] → (a ≡ false) × (b ≡ false) × (rest ≡ [])
none_if true b slip rest none = cc
none_if false true slip rest none = cc
none_if false false slip rest none = (refl, refl, none)

module _ (s : FrameShape) (j : ℕ) (counts : ℕ → ℕ) (n : ℕ) where
  abbrev more : Bool
  more = sends_more s counts n

  -- a slip stands where an event of plain mode does
  over-is : (t put gone : ℕ) → put ≡ lead + arrived counts n → gone ≡ read_before s j counts n t → over s j (counts n) more t put gone ≡ overflows s j counts n t
  over-is t put gone p g =
      ap (λ a. arrives_at s (counts n) t && leb (a + store_size) (put + arrived_in s (counts n) t)) g
      ∙ ap (λ b. arrives_at s (counts n) t && leb (read_before s j counts n t + store_size) (b + arrived_in s (counts n) t)) p

  emptied-is : (t put gone : ℕ) → put ≡ lead + arrived counts n → gone ≡ read_before s j counts n t → emptied s j (counts n) more t put gone ≡ underflows s j counts n t
  emptied-is t put gone p g =
      ap (λ a. reads_from j more (s.role t) && leb (put + arrived_in s (counts n) (suc t)) a) g
      ∙ ap (λ b. reads_from j more (s.role t) && leb (b + arrived_in s (counts n) (suc t)) (read_before s j counts n t)) p

  put-same : (t put gone : ℕ) → under s j (counts n) more t put gone ≡ false → put ≡ lead + arrived counts n → put_in s j (counts n) more t put gone ≡ lead + arrived counts n
  put-same t put gone none p = (let e = ap (λ b. put + cond b half_store 0) none in omega (arith, e, p))

  gone-same : (t put gone : ℕ) → over s j (counts n) more t put gone ≡ false → gone ≡ read_before s j counts n t → gone_in s j (counts n) more t put gone ≡ read_before s j counts n (suc t)
  gone-same t put gone none g =
      let e = ap (λ b. gone + cond b half_store 0 + one s j (counts n) more t) none in
      omega (arith, e, g, read_before-suc s j counts n t)

  quiet-none : (left t end put gone reads : ℕ) → t + left ≤ end → put ≡ lead + arrived counts n → gone ≡ read_before s j counts n t → MeetsNone s j counts n end
      → slips_from s j (counts n) more left t put gone reads ≡ []
  quiet-none zero t end put gone reads room p g none = refl
  quiet-none (suc left) t end put gone reads room p g none =
      let fine = none t (omega arith) in
      let o : over s j (counts n) more t put gone ≡ false = over-is t put gone p g ∙ fine.0 in
      let e : emptied s j (counts n) more t put gone ≡ false = emptied-is t put gone p g ∙ fine.1 in
      let u : under s j (counts n) more t put gone ≡ false = ap (λ b. not (over s j (counts n) more t put gone) && b) e ∙ and_none (over s j (counts n) more t put gone) in
      let rest : rest_of s j (counts n) more left t put gone reads ≡ [] =
      quiet-none left (suc t) end (put_in s j (counts n) more t put gone) (gone_in s j (counts n) more t put gone) (reads + one s j (counts n) more t) (omega arith) (put-same t put gone u p) (gone-same t put gone o g) none in
      let slip : Slip = slip_in s j (counts n) more t put gone reads in
      ap (λ b. cond (b || under s j (counts n) more t put gone) (slip ∷ rest_of s j (counts n) more left t put gone reads) (rest_of s j (counts n) more left t put gone reads)) o
      ∙ ap (λ b. cond b (slip ∷ rest_of s j (counts n) more left t put gone reads) (rest_of s j (counts n) more left t put gone reads)) u ∙ rest
    where
      and_none : (b : Bool) → (not b && false) ≡ false
      and_none true = refl
      and_none false = refl

  none-quiet : (left t put gone reads : ℕ) → put ≡ lead + arrived counts n → gone ≡ read_before s j counts n t → slips_from s j (counts n) more left t put gone reads ≡ []
      → (u : ℕ) → t ≤ u → u < t + left → (overflows s j counts n u ≡ false) × (underflows s j counts n u ≡ false)
  none-quiet zero t put gone reads p g none u from below = absurd (omega arith)
  none-quiet (suc left) t put gone reads p g none u from below =
      let parts = none_if (over s j (counts n) more t put gone) (emptied s j (counts n) more t put gone) (slip_in s j (counts n) more t put gone reads) (rest_of s j (counts n) more left t put gone reads) none in
      let o = parts.0 in
      let no_under : under s j (counts n) more t put gone ≡ false = ap (λ b. not (over s j (counts n) more t put gone) && b) parts.1 ∙ and_none (over s j (counts n) more t put gone) in
      elim (cases_eq u t) [
        | inl same ↦
            subst (λ u. (overflows s j counts n u ≡ false) × (underflows s j counts n u ≡ false)) (sym same)
            (sym (over-is t put gone p g) ∙ o, sym (emptied-is t put gone p g) ∙ parts.1)
        | inr other ↦
            none-quiet left (suc t) (put_in s j (counts n) more t put gone) (gone_in s j (counts n) more t put gone) (reads + one s j (counts n) more t)
            (put-same t put gone no_under p) (gone-same t put gone o g) parts.2 u (omega arith) (omega arith)
      ]
    where
      and_none : (b : Bool) → (not b && false) ≡ false
      and_none true = refl
      and_none false = refl

-- ---- frame by frame

-- with what a frame begins before which no slip stands
abbrev pub plain_start : FrameShape → (ℕ → ℕ) → ℕ → Start
plain_start s counts n = record { sent = sent s counts n; added = 0; dropped = 0 }

pub carries-plain : (s : FrameShape) (counts : ℕ → ℕ) (n : ℕ) → carries_at s counts n (plain_start s counts n) ≡ sends_more s counts n
carries-plain s counts n =
    let came : lead + arrived counts n + 0 ≡ lead + arrived counts n = omega arith in
    let read : sent s counts n + 0 ≡ sent s counts n = omega arith in
    ap (λ a. not (justifies s a (sent s counts n + 0))) came ∙ ap (λ b. not (justifies s (lead + arrived counts n) b)) read

-- no slip of tributary j stands before slot t of frame n
pub record IsUnslipped (s : FrameShape) (j : ℕ) (counts : ℕ → ℕ) (n t : ℕ) : Type 0 where
  pub none : (m u : ℕ) → u < s.len → m * s.len + u < n * s.len + t → slips_in s j counts m (suc u) ≡ []

module _ (s : FrameShape) (j : ℕ) (counts : ℕ → ℕ) where
  -- so frame n begins as in plain mode
  pub start-unslipped : (n : ℕ) → ((m : ℕ) → m < n → slips_in s j counts m s.len ≡ []) → start_of s j counts n ≡ plain_start s counts n
  unfolding start_of
  start-unslipped zero none = ap (λ k. record { sent = k; added = 0; dropped = 0 }) (sym (sent-zero s counts))
  start-unslipped (suc n) none =
      let before : start_of s j counts n ≡ plain_start s counts n = start-unslipped n (λ m h. none m (omega arith)) in
      let nothing : slips_at s j counts n (plain_start s counts n) s.len ≡ [] = ap (λ at. slips_at s j counts n at s.len) (sym before) ∙ none n (omega arith) in
      let more = carries-plain s counts n in
      rw before (rw nothing (rw more (ap (λ k. record { sent = k; added = 0; dropped = 0 }) (sym (sent-suc s counts n)))))

  frames-below : (m n u t : ℕ) → m < n → u < s.len → m * s.len + u < n * s.len + t
  frames-below m n u t h l = (let most : suc m * s.len ≤ n * s.len = mul-le-mul_right s.len h in omega (arith, most))

  whole-unslipped : IsFrame s → (n t m : ℕ) → IsUnslipped s j counts n t → m < n → slips_in s j counts m s.len ≡ []
  whole-unslipped frame n t m is h = go s.len frame.some_slots (λ u l. is.none m u l (frames-below m n u t h l))
    where
      go : (len : ℕ) → 0 < len → ((u : ℕ) → u < len → slips_in s j counts m (suc u) ≡ []) → slips_in s j counts m len ≡ []
      go zero some each = absurd (omega arith)
      go (suc len) some each = each len (omega arith)

  pub start-plain : IsFrame s → (n t : ℕ) → IsUnslipped s j counts n t → start_of s j counts n ≡ plain_start s counts n
  start-plain frame n t is = start-unslipped n (λ m h. whole-unslipped frame n t m is h)

  -- its bits aren't edited
  pub edits-unslipped : IsFrame s → (n t : ℕ) → t ≤ s.len → IsUnslipped s j counts n t → edits_to s j counts n t ≡ []
  edits-unslipped frame n t inside is =
      let frames : flat_map (λ m. edits_in s j counts m s.len) (range_with_len 0 n) ≡ [] =
      none_of_range (λ m. edits_in s j counts m s.len) 0 n (λ m l h. ap (map (as_edit m)) (whole-unslipped frame n t m is (omega arith))) in
      ap (λ l. l ++ edits_in s j counts n t) frames ∙ ap (map (as_edit n)) (here t inside (λ u l h. is.none n u l h))
    where
      as_edit : ℕ → Slip → Edit
      as_edit m slip = record { over = slip.over; place = (start_of s j counts m).sent + slip.reads }

      no_slots : (b : Bool) (slips : List Slip) → slips ≡ [] → cond b [] slips ≡ []
      no_slots true slips none = refl
      no_slots false slips none = none

      here : (t : ℕ) → t ≤ s.len → ((u : ℕ) → u < s.len → n * s.len + u < n * s.len + t → slips_in s j counts n (suc u) ≡ []) → slips_in s j counts n t ≡ []
      here zero room each = no_slots (eqb s.copies 0) [] refl
      here (suc t) room each = each t (omega arith) (omega arith)

  -- a tributary without a store has no slip
  pub unslipped-locked : eqb s.copies 0 ≡ true → (n t : ℕ) → IsUnslipped s j counts n t
  unslipped-locked locked n t = record {
    none = λ m u l h.
        let at : Start = start_of s j counts m in
        ap (λ b. cond b [] (slips_from s j (counts m) (carries_at s counts m at) (suc u) 0 (lead + arrived counts m + at.added) (at.sent + at.dropped) 0)) locked;
  }

  module _ (stores : HasStores s) where
    abbrev from_start : ℕ → Bool → ℕ → List Slip
    from_start n more slots = slips_from s j (counts n) more slots 0 (lead + arrived counts n + 0) (sent s counts n + 0) 0

    slips-is : (n slots : ℕ) → start_of s j counts n ≡ plain_start s counts n → slips_in s j counts n slots ≡ from_start n (sends_more s counts n) slots
    slips-is n slots start =
        ap (λ at. slips_at s j counts n at slots) start ∙ ap (λ b. cond b [] (from_start n (carries_at s counts n (plain_start s counts n)) slots)) stores
        ∙ ap (λ more. from_start n more slots) (carries-plain s counts n)

    frame-none : (n slots : ℕ) → start_of s j counts n ≡ plain_start s counts n → MeetsNone s j counts n slots → slips_in s j counts n slots ≡ []
    frame-none n slots start none =
        slips-is n slots start
        ∙ quiet-none s j counts n slots 0 slots (lead + arrived counts n + 0) (sent s counts n + 0) 0 (omega arith) (omega arith) (omega (arith, read_before-start s j counts n)) none

    frame-quiet : (n slots : ℕ) → start_of s j counts n ≡ plain_start s counts n → slips_in s j counts n slots ≡ [] → MeetsNone s j counts n slots
    frame-quiet n slots start none u h =
        none-quiet s j counts n slots 0 (lead + arrived counts n + 0) (sent s counts n + 0) 0 (omega arith) (omega (arith, read_before-start s j counts n))
        (sym (slips-is n slots start) ∙ none) u (omega arith) (omega arith)

    -- frames that meet no event
    whole-none : (n : ℕ) → ((m u : ℕ) → m < n → u < s.len → (overflows s j counts m u ≡ false) × (underflows s j counts m u ≡ false)) → (m : ℕ) → m < n → slips_in s j counts m s.len ≡ []
    whole-none zero quiet m h = absurd (omega arith)
    whole-none (suc n) quiet m h =
        let before : (m : ℕ) → m < n → slips_in s j counts m s.len ≡ [] = whole-none n (λ m u l h. quiet m u (omega arith) h) in
        elim (cases_eq m n) [
          | inl same ↦ subst (λ m. slips_in s j counts m s.len ≡ []) (sym same) (frame-none n s.len (start-unslipped n before) (λ u l. quiet n u (omega arith) l))
          | inr other ↦ before m (omega arith)
        ]

    -- a store that meets no event has no slip
    pub unslipped-quiet : (n t : ℕ) → IsQuiet s j counts n t → IsUnslipped s j counts n t
    unslipped-quiet n t quiet = record {
      none = λ m u l h.
          let both : (m' u' : ℕ) → u' < s.len → m' * s.len + u' ≤ m * s.len + u → (overflows s j counts m' u' ≡ false) × (underflows s j counts m' u' ≡ false) =
          λ m' u' l' h'. (quiet.fits m' u' l' (omega arith), quiet.lasts m' u' l' (omega arith)) in
          let start = start-unslipped m (whole-none m (λ m' u' below l'. both m' u' l' (omega (arith, frames-below m' m u' u below l')))) in
          frame-none m (suc u) start (λ v h'. both m v (omega arith) (omega arith));
    }

    -- and one that has none meets no event
    pub quiet-unslipped : IsFrame s → (n t : ℕ) → IsUnslipped s j counts n t → (m u : ℕ) → u < s.len → m * s.len + u < n * s.len + t → (overflows s j counts m u ≡ false) × (underflows s j counts m u ≡ false)
    quiet-unslipped frame n t is m u l h =
        let earlier : IsUnslipped s j counts m u = record { none = λ m' u' l' h'. is.none m' u' l' (omega arith) } in
        frame-quiet m (suc u) (start-plain frame m u earlier) (is.none m u l h) u (omega arith)

-- ---- a tributary without slips among its events

map-none : {X Y : Type 0} (f : X → Y) (xs : List X) → map f xs ≡ [] → xs ≡ []
map-none f [] none = refl
map-none f (x ∷ xs) none = cc

module _ (s : FrameShape) (path : List ℕ) (j : ℕ) (counts : ℕ → ℕ) (n : ℕ) where
  abbrev at : Start
  at = start_of s j counts n

  abbrev slips_of_frame : ℕ → List Slip
  slips_of_frame slots = slips_from s j (counts n) (carries_at s counts n at) slots 0 (lead + arrived counts n + at.added) (at.sent + at.dropped) 0

  -- slots without events have no slip
  pub slips-events : (slots : ℕ) → ((t : ℕ) → t < slots → (overflow_at Slipping s path j counts n t ≡ []) × (underflow_at Slipping s path j counts n t ≡ [])) → slips_in s j counts n slots ≡ []
  slips-events slots none = go (eqb s.copies 0) refl
    where
      go : (b : Bool) → eqb s.copies 0 ≡ b → slips_in s j counts n slots ≡ []
      go true locked = ap (λ b. cond b [] (slips_of_frame slots)) locked
      go false stores = is slots ∙ each slots (λ t h. (slot over_kind t (as_event Overflow t) (none t h).0, slot not t (as_event Underflow t) (none t h).1))
        where
          over_kind : Bool → Bool
          over_kind over = over

          is : (slots : ℕ) → slips_in s j counts n slots ≡ slips_of_frame slots
          is slots = ap (λ b. cond b [] (slips_of_frame slots)) stores

          as_event : Kind → ℕ → Slip → Event
          as_event kind t slip = record { kind = kind; path = path; trib = j; frame = n; slot = t }

          slot : (k : Bool → Bool) (t : ℕ) (f : Slip → Event) → map f (in_slot k t (slips_in s j counts n (suc t))) ≡ [] → in_slot k t (slips_of_frame (suc t)) ≡ []
          slot k t f none = ap (in_slot k t) (sym (is (suc t))) ∙ map-none f (in_slot k t (slips_in s j counts n (suc t))) none

          each : (slots : ℕ) → ((t : ℕ) → t < slots → (in_slot over_kind t (slips_of_frame (suc t)) ≡ []) × (in_slot not t (slips_of_frame (suc t)) ≡ [])) → slips_of_frame slots ≡ []
          each zero none = refl
          each (suc slots) none =
              let before : slips_of_frame slots ≡ [] = each slots (λ t h. none t (omega arith)) in
              let l = last_of s j (counts n) (carries_at s counts n at) slots 0 (lead + arrived counts n + at.added) (at.sent + at.dropped) 0 in
              let whole : slips_of_frame (suc slots) ≡ l.last = l.split ∙ ap (λ xs. xs ++ l.last) before in
              let from : 0 + slots ≡ slots = omega arith in
              let here = none slots (omega arith) in
              whole
              ∙ none_of_slot slots l.last (subst (λ t. Each (λ slip. slip.slot ≡ t) l.last) from l.in_it) (ap (in_slot over_kind slots) (sym whole) ∙ here.0) (ap (in_slot not slots) (sym whole) ∙ here.1)
