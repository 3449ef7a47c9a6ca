-- In a slot a tributary has at most one event of a kind, and an underflow only where the slot reads it: in either mode.
use Rattle.std.proofs.Common.{◌≡◌, ℕ, zero, suc, ◌+◌, ◌<◌, Bool, true, false, not, ◌&&◌, ◌||◌, cond, eqb, leb, List, [], ◌∷◌, map, filter, refl, sym, ap, ◌∙◌, subst, arith}
use Rattle.std.proofs.lemmas.Bool.{eqb-true, ne_eqb}
use Rattle.pdh_shape.specs.Frame.{FrameShape}
use Rattle.pdh_shape.specs.Tributary.{reads_from}
use Rattle.pdh_shape.specs.OwnNumbers.{lead}
use Rattle.pdh_line.specs.Progress.{arrived}
use Rattle.pdh_line.specs.Sending.{Mode, Slip, Start, arrived_in, sends_more, slips_from, slips_in, start_of, carries_at, carriage}
use Rattle.pdh_line.specs.Sending.Mode.{Plain, Slipping}
use Rattle.pdh_line.specs.Events.{Event, overflows, underflows, one_if, overflow_at, underflow_at}
use Rattle.pdh_line.specs.Events.Kind.{Underflow}
use Rattle.pdh_line.proofs.Ranges.{and_true}
use Rattle.pdh_nesting.proofs.Orders.{Each}
use Rattle.pdh_nesting.proofs.FrameSlips.{in_slot, each_if, over, under, one, put_in, gone_in, slip_in, rest_of}

-- ---- lists of one element at most

abbrev pub AtMostOne : {X : Type 0} → List X → Type 0
AtMostOne [] = Unit {0}
AtMostOne (x ∷ []) = Unit {0}
AtMostOne (x ∷ y ∷ xs) = ⊥

one-map : {X Y : Type 0} (f : X → Y) (xs : List X) → AtMostOne xs → AtMostOne (map f xs)
one-map f [] few = tt
one-map f (x ∷ []) few = tt
one-map f (x ∷ y ∷ xs) few = absurd few

one-if : (test : Bool) (event : Event) → AtMostOne (one_if test event)
one-if true event = tt
one-if false event = tt

-- ---- a slot of a frame

skip_if : (k : Bool → Bool) (t : ℕ) (test : Bool) (slip : Slip) (rest : List Slip) → eqb slip.slot t ≡ false → in_slot k t rest ≡ [] → in_slot k t (cond test (slip ∷ rest) rest) ≡ []
skip_if k t true slip rest other none = ap (λ b. cond (b && k slip.over) (slip ∷ in_slot k t rest) (in_slot k t rest)) other ∙ none
skip_if k t false slip rest other none = none

first_if : (k : Bool → Bool) (t : ℕ) (test : Bool) (slip : Slip) (rest : List Slip) → AtMostOne (in_slot k t rest) → (eqb slip.slot t ≡ true → in_slot k t rest ≡ [])
    → AtMostOne (in_slot k t (cond test (slip ∷ rest) rest))
first_if k t false slip rest few none = few
first_if k t true slip rest few none = go (eqb slip.slot t && k slip.over) refl
  where
    go : (b : Bool) → (eqb slip.slot t && k slip.over) ≡ b → AtMostOne (cond b (slip ∷ in_slot k t rest) (in_slot k t rest))
    go true e = subst (λ l. AtMostOne (slip ∷ l)) (sym (none (and_true (eqb slip.slot t) (k slip.over) e).0)) tt
    go false e = few

-- the first of those that pass a test passes it, and is one of them
first-passes : (P : Slip → Type 0) (p : Slip → Bool) (slips : List Slip) (slip : Slip) (rest : List Slip) → Each P slips → filter p slips ≡ slip ∷ rest → (p slip ≡ true) × P slip
first-passes P p [] slip rest each is = cc
first-passes P p (x ∷ slips) slip rest each is = go (p x) refl (λ later. first-passes P p slips slip rest each.1 later)
  where
    go : (b : Bool) → p x ≡ b → (filter p slips ≡ slip ∷ rest → (p slip ≡ true) × P slip) → (p slip ≡ true) × P slip
    go true e later =
        let whole : x ∷ filter p slips ≡ slip ∷ rest = sym (ap (λ b. cond b (x ∷ filter p slips) (filter p slips)) e) ∙ is in
        let same : x ≡ slip = cc in
        (ap p (sym same) ∙ e, subst P same each.0)
    go false e later = later (sym (ap (λ b. cond b (x ∷ filter p slips) (filter p slips)) e) ∙ is)

module _ (s : FrameShape) (j count : ℕ) (more : Bool) where
  -- later slots have none in slot t
  none_later : (k : Bool → Bool) (t left from put gone reads : ℕ) → t < from → in_slot k t (slips_from s j count more left from put gone reads) ≡ []
  none_later k t zero from put gone reads h = refl
  none_later k t (suc left) from put gone reads h =
      skip_if k t (over s j count more from put gone || under s j count more from put gone) (slip_in s j count more from put gone reads) (rest_of s j count more left from put gone reads) (ne_eqb from t (λ same. absurd (omega (arith, h, same))))
      (none_later k t left (suc from) (put_in s j count more from put gone) (gone_in s j count more from put gone) (reads + one s j count more from) (omega (arith, h)))

  slot_one : (k : Bool → Bool) (t left from put gone reads : ℕ) → AtMostOne (in_slot k t (slips_from s j count more left from put gone reads))
  slot_one k t zero from put gone reads = tt
  slot_one k t (suc left) from put gone reads =
      first_if k t (over s j count more from put gone || under s j count more from put gone) (slip_in s j count more from put gone reads) (rest_of s j count more left from put gone reads)
      (slot_one k t left (suc from) (put_in s j count more from put gone) (gone_in s j count more from put gone) (reads + one s j count more from))
      (λ same. (let here : from ≡ t = eqb-true from t same in none_later k t left (suc from) (put_in s j count more from put gone) (gone_in s j count more from put gone) (reads + one s j count more from) (omega (arith, here))))

  -- an underflow stands in a slot that reads the tributary
  abbrev ReadsIfUnder : Slip → Type 0
  ReadsIfUnder slip = slip.over ≡ false → reads_from j more (s.role slip.slot) ≡ true

  under_reads : (o r e : Bool) → (o || (not o && (r && e))) ≡ true → o ≡ false → r ≡ true
  under_reads true r e some none = cc
  under_reads false true e some none = refl
  under_reads false false e some none = cc

  reads_each : (left t put gone reads : ℕ) → Each ReadsIfUnder (slips_from s j count more left t put gone reads)
  reads_each zero t put gone reads = tt
  reads_each (suc left) t put gone reads =
      each_if ReadsIfUnder (over s j count more t put gone || under s j count more t put gone) (slip_in s j count more t put gone reads) (rest_of s j count more left t put gone reads)
      (λ some none. under_reads (over s j count more t put gone) (reads_from j more (s.role t)) (leb (put + arrived_in s count (suc t)) gone) some none)
      (reads_each left (suc t) (put_in s j count more t put gone) (gone_in s j count more t put gone) (reads + one s j count more t))

-- ---- of a tributary

module _ (s : FrameShape) (j : ℕ) (counts : ℕ → ℕ) (n : ℕ) where
  abbrev more : Bool
  more = carries_at s counts n (start_of s j counts n)

  abbrev slips_of_frame : ℕ → List Slip
  slips_of_frame slots =
      let at : Start = start_of s j counts n in
      slips_from s j (counts n) more slots 0 (lead + arrived counts n + at.added) (at.sent + at.dropped) 0

  slips_one : (k : Bool → Bool) (t : ℕ) → AtMostOne (in_slot k t (slips_in s j counts n (suc t)))
  slips_one k t = go (eqb s.copies 0)
    where
      at : Start
      at = start_of s j counts n

      go : (b : Bool) → AtMostOne (in_slot k t (cond b [] (slips_of_frame (suc t))))
      go true = tt
      go false = slot_one s j (counts n) more k t (suc t) 0 (lead + arrived counts n + at.added) (at.sent + at.dropped) 0

  under_slip-reads : (t : ℕ) (slip : Slip) (rest : List Slip) → in_slot not t (slips_in s j counts n (suc t)) ≡ slip ∷ rest → reads_from j more (s.role t) ≡ true
  under_slip-reads t slip rest is = go (eqb s.copies 0) is
    where
      at : Start
      at = start_of s j counts n

      go : (b : Bool) → in_slot not t (cond b [] (slips_of_frame (suc t))) ≡ slip ∷ rest → reads_from j more (s.role t) ≡ true
      go true none = cc
      go false some =
          let passes = first-passes (ReadsIfUnder s j (counts n) more) (λ (slip : Slip). eqb slip.slot t && not slip.over) (slips_of_frame (suc t)) slip rest
          (reads_each s j (counts n) more (suc t) 0 (lead + arrived counts n + at.added) (at.sent + at.dropped) 0) some in
          let parts = and_true (eqb slip.slot t) (not slip.over) passes.0 in
          ap (λ t. reads_from j more (s.role t)) (sym (eqb-true slip.slot t parts.0)) ∙ passes.1 (not_true slip.over parts.1)
        where
          not_true : (b : Bool) → not b ≡ true → b ≡ false
          not_true true h = cc
          not_true false h = refl

pub overflow-one : (mode : Mode) (s : FrameShape) (path : List ℕ) (j : ℕ) (counts : ℕ → ℕ) (n t : ℕ) → AtMostOne (overflow_at mode s path j counts n t)
overflow-one Plain s path j counts n t = one-if (overflows s j counts n t) _
overflow-one Slipping s path j counts n t = one-map _ (in_slot (λ over. over) t (slips_in s j counts n (suc t))) (slips_one s j counts n (λ over. over) t)

pub underflow-one : (mode : Mode) (s : FrameShape) (path : List ℕ) (j : ℕ) (counts : ℕ → ℕ) (n t : ℕ) → AtMostOne (underflow_at mode s path j counts n t)
underflow-one Plain s path j counts n t = one-if (underflows s j counts n t) _
underflow-one Slipping s path j counts n t = one-map _ (in_slot not t (slips_in s j counts n (suc t))) (slips_one s j counts n not t)

pub underflow-reads : (mode : Mode) (s : FrameShape) (path : List ℕ) (j : ℕ) (counts : ℕ → ℕ) (n t : ℕ) (event : Event) (rest : List Event)
    → underflow_at mode s path j counts n t ≡ event ∷ rest → reads_from j ((carriage mode s j counts).more n) (s.role t) ≡ true
underflow-reads Plain s path j counts n t event rest is = go (reads_from j (sends_more s counts n) (s.role t)) _ _ is
  where
    go : (r e : Bool) (x : Event) → one_if (r && e) x ≡ event ∷ rest → r ≡ true
    go true e x is = refl
    go false e x is = cc
underflow-reads Slipping s path j counts n t event rest is = some (in_slot not t (slips_in s j counts n (suc t))) refl is
  where
    as_event : Slip → Event
    as_event slip = record { kind = Underflow; path = path; trib = j; frame = n; slot = t }

    some : (slips : List Slip) → in_slot not t (slips_in s j counts n (suc t)) ≡ slips → map as_event slips ≡ event ∷ rest → reads_from j ((carriage Slipping s j counts).more n) (s.role t) ≡ true
    some [] e none = cc
    some (slip ∷ slips) e found = under_slip-reads s j counts n t slip slips e
