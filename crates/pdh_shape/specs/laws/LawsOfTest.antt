-- The laws of a shape that passes the computed test.
use Rattle.std.proofs.Common.{◌≡◌, ℕ, suc, ◌+◌, ◌*◌, ◌%◌, ◌<◌, ◌≤◌, Bool, true, false, not, ◌||◌, cond, eqb, refl, sym, ap, ◌∙◌, subst, inl, inr, ◌⊎◌, arith}
use Rattle.std.specs.Prelude.{count_by, nat_lt, ◌==◌}
use Rattle.std.specs.Bool.{beq}
use Rattle.std.specs.List.{range_with_len, list_all}
use Rattle.std.proofs.lemmas.Bool.{eqb-true, ltb-true, leb-true, cases_lt, eq-eqb}
use Rattle.std.proofs.lemmas.List.Folds.{list_all-map}
use Rattle.pdh_shape.specs.declared.role.Role.{Role}
use Rattle.pdh_shape.specs.declared.role.Role.TheVariants.{Align, Service, Control, Just, Info}
use Rattle.pdh_shape.specs.declared.role.Mark.{Mark}
use Rattle.pdh_shape.specs.declared.role.Mark.TheVariants.{Framing, Multi, Other}
use Rattle.pdh_shape.specs.OwnNumbers.{most_slots, most_signal}
use Rattle.pdh_shape.specs.Frame.{FrameShape, IsFrame, HasMarks, HasSignal, slots, clean, is_align, is_marked, is_framing, framing_before}
use Rattle.pdh_shape.specs.Tributary.{HasTributaries, ReadsEvenly, reads_from, controls, is_control, is_just, reads_below}
use Rattle.pdh_shape.specs.Payload.{PayloadInTurn, is_payload, payload_before}
use Rattle.pdh_shape.specs.laws.Ranges.{and_true, list_all-at, count_push, count-range_grows, count-made}
use Rattle.pdh_shape.specs.laws.Walks.{walk-at, walk-end}
use Rattle.pdh_shape.specs.KeptLaws.{keeps_laws, keeps_laws_by, keeps_numbers, keeps_marks, keeps_copies, keeps_tributary, names_known, mark_fits, signal_fits, marks_at, marks_next, turn_fits, turn_next, all_turns, keeps_turns, slot_fits, all_passed, passes, Passed, roles_of}

not_true : (b : Bool) → not b ≡ true → b ≡ false
not_true false h = refl
not_true true h = cc

or_true : (a b : Bool) → (a || b) ≡ true → (a ≡ true) ⊎ (b ≡ true)
or_true true b h = inl refl
or_true false b h = inr h

same_bool : (a b : Bool) → beq a b ≡ true → a ≡ b
same_bool true true h = refl
same_bool true false h = cc
same_bool false true h = cc
same_bool false false h = refl

where_so : (a b : Bool) → a ≡ true → (not a || b) ≡ true → b ≡ true
where_so true b so h = h
where_so false b so h = cc

-- what the test is made of
record Parts (s : FrameShape) : Type 0 where
  numbers : keeps_numbers s ≡ true
  marks : keeps_marks s (roles_of s) ≡ true
  turns : keeps_turns s (roles_of s) ≡ true
  names : list_all (names_known s) (roles_of s) ≡ true
  copies : list_all (keeps_copies s (roles_of s)) (range_with_len 0 s.tribs) ≡ true
  tributaries : list_all (keeps_tributary s (roles_of s)) (range_with_len 0 s.tribs) ≡ true

parts_of : (s : FrameShape) → keeps_laws s ≡ true → Parts s
unfolding keeps_laws_by
parts_of s kept =
    let a = and_true _ _ kept in
    let b = and_true _ _ a.1 in
    let c = and_true _ _ b.1 in
    let d = and_true _ _ c.1 in
    let e = and_true _ _ d.1 in
    record { numbers = a.0; marks = b.0; turns = c.0; names = d.0; copies = e.0; tributaries = e.1 }

-- ---- the numbers and the loss rule

record Numbers (s : FrameShape) : Type 0 where
  some_slots : 0 < s.len
  few_slots : s.len ≤ most_slots
  few_signal : s.signal ≤ most_signal
  signal_within : s.signal ≤ s.len
  no_loss : s.loses clean clean clean clean ≡ false
  odd : (s.copies ≡ 0) ⊎ (s.copies % 2 ≡ 1)

numbers_of : (s : FrameShape) → keeps_laws s ≡ true → Numbers s
numbers_of s kept =
    let a = and_true _ _ (parts_of s kept).numbers in
    let b = and_true _ _ a.1 in
    let c = and_true _ _ b.1 in
    let d = and_true _ _ c.1 in
    let e = and_true _ _ d.1 in
    record {
      some_slots = ltb-true _ _ a.0;
      few_slots = leb-true _ _ b.0;
      few_signal = leb-true _ _ c.0;
      signal_within = leb-true _ _ d.0;
      no_loss = not_true _ e.0;
      odd = elim (or_true _ _ e.1) [ inl none ↦ inl (eqb-true _ _ none) | inr odd ↦ inr (eqb-true _ _ odd) ];
    }

pub laws-is_frame : (s : FrameShape) → keeps_laws s ≡ true → IsFrame s
laws-is_frame s kept = let numbers = numbers_of s kept in record { some_slots = numbers.some_slots; few_slots = numbers.few_slots; no_loss = numbers.no_loss }

-- ---- the marks

marks_fit : (s : FrameShape) (t : ℕ) → keeps_laws s ≡ true → t < s.len → marks_at s (s.role t) t (framing_before s t) ≡ true
marks_fit s t kept h =
    walk-at (marks_at s) (marks_next s) (λ framing. true) s.role (framing_before s) (count_push (λ slot. is_framing (s.mark slot))) s.len 0 t (parts_of s kept).marks (omega arith) (omega arith)

fits-marked : (mark : Mark) (role : Role) (framing : ℕ) → mark_fits mark role framing ≡ true → is_marked mark ≡ is_align role
fits-marked (Framing number) role framing h = sym (and_true _ _ h).0
fits-marked Multi role framing h = sym h
fits-marked Other role framing h = sym (not_true _ h)

fits-framing : (mark : Mark) (role : Role) (framing number : ℕ) → mark_fits mark role framing ≡ true → mark ≡ Framing number → (number ≡ framing) × (number < 64)
fits-framing mark role framing number h is =
    let parts = and_true _ _ (and_true _ _ (subst (λ m. mark_fits m role framing ≡ true) is h)).1 in
    (eqb-true _ _ parts.0, ltb-true _ _ parts.1)

pub laws-has_marks : (s : FrameShape) → keeps_laws s ≡ true → HasMarks s
laws-has_marks s kept = record {
  marked = λ t h. fits-marked (s.mark t) (s.role t) (framing_before s t) (and_true _ _ (marks_fit s t kept h)).0;
  numbered = λ t number h is. (fits-framing (s.mark t) (s.role t) (framing_before s t) number (and_true _ _ (marks_fit s t kept h)).0 is).0;
  few = λ t number h is. (fits-framing (s.mark t) (s.role t) (framing_before s t) number (and_true _ _ (marks_fit s t kept h)).0 is).1;
}

-- ---- the alignment signal

fits-signal : (s : FrameShape) (role : Role) (t : ℕ) → 0 < s.signal → signal_fits s role t ≡ true → is_align role ≡ nat_lt t s.signal
fits-signal s role t some fits = elim (or_true (s.signal == 0) (beq (is_align role) (nat_lt t s.signal)) fits) [
  | inl none ↦ let zero : s.signal ≡ 0 = eqb-true s.signal 0 none in absurd (omega arith)
  | inr same ↦ same_bool (is_align role) (nat_lt t s.signal) same
]

pub laws-has_signal : (s : FrameShape) → keeps_laws s ≡ true → HasSignal s
laws-has_signal s kept = record {
  few = (numbers_of s kept).few_signal;
  within = (numbers_of s kept).signal_within;
  first = λ some t h. fits-signal s (s.role t) t some (and_true _ _ (marks_fit s t kept h)).1;
}

-- ---- the payload

turn_at : (s : FrameShape) (t : ℕ) → keeps_laws s ≡ true → t < s.len → turn_fits s (s.role t) t (payload_before s t) ≡ true
turn_at s t kept h = walk-at (turn_fits s) turn_next (all_turns s) s.role (payload_before s) (count_push (λ slot. is_payload (s.role slot))) s.len 0 t (parts_of s kept).turns (omega arith) (omega arith)

fits-turn : (s : FrameShape) (role : Role) (t payload j : ℕ) → turn_fits s role t payload ≡ true → reads_from j true role ≡ true → j ≡ payload % s.tribs
fits-turn s (Info i) t payload j fits reads = sym (eqb-true i j reads) ∙ eqb-true i (payload % s.tribs) fits
fits-turn s (Just i) t payload j fits reads = sym (eqb-true i j (and_true (i == j) true reads).0) ∙ eqb-true i (payload % s.tribs) fits
fits-turn s (Align signal) t payload j fits reads = cc
fits-turn s (Service number) t payload j fits reads = cc
fits-turn s (Control i copy) t payload j fits reads = cc

pub laws-in_turn : (s : FrameShape) → keeps_laws s ≡ true → PayloadInTurn s
laws-in_turn s kept = record {
  turn = λ t j h reads. fits-turn s (s.role t) t (payload_before s t) j (turn_at s t kept h) reads;
  whole = eqb-true _ _ (walk-end (turn_fits s) turn_next (all_turns s) s.role (payload_before s) (count_push (λ slot. is_payload (s.role slot))) s.len 0 s.len (parts_of s kept).turns (omega arith));
}

-- ---- the tributaries

names_at : (s : FrameShape) (t : ℕ) → keeps_laws s ≡ true → t < s.len → names_known s (s.role t) ≡ true
names_at s t kept h =
    list_all-at (λ t. names_known s (s.role t)) 0 s.len t (sym (list_all-map (names_known s) s.role (slots s)) ∙ (parts_of s kept).names) (omega arith) (omega arith)

one_copy : (s : FrameShape) (j copy : ℕ) → keeps_laws s ≡ true → j < s.tribs → copy < s.copies → count_by (λ slot. is_control j copy (s.role slot)) (slots s) ≡ 1
one_copy s j copy kept known h =
    let all : keeps_copies s (roles_of s) j ≡ true = list_all-at (keeps_copies s (roles_of s)) 0 s.tribs j (parts_of s kept).copies (omega arith) (omega arith) in
    let one = list_all-at (λ copy. eqb (count_by (is_control j copy) (roles_of s)) 1) 0 s.copies copy all (omega arith) (omega arith) in
    sym (count-made (is_control j copy) s.role (slots s)) ∙ eqb-true _ _ one

abbrev controls_before : FrameShape → ℕ → ℕ → ℕ
controls_before s j t = count_by (λ slot. controls j (s.role slot)) (range_with_len 0 t)

abbrev passed_before : FrameShape → ℕ → ℕ → Passed
passed_before s j t = record { low = reads_below s j false t; high = reads_below s j true t; controls = controls_before s j t }

passes-next : (s : FrameShape) (j k : ℕ) → passed_before s j (k + 1) ≡ passes j (s.role k) k (passed_before s j k)
passes-next s j k =
    same
    (count_push (λ slot. reads_from j false (s.role slot)) k)
    (count_push (λ slot. reads_from j true (s.role slot)) k)
    (count_push (λ slot. controls j (s.role slot)) k)
  where
    passed : ℕ → ℕ → ℕ → Passed
    passed low high ones = record { low = low; high = high; controls = ones }

    same : {a b c d e f : ℕ} → a ≡ d → b ≡ e → c ≡ f → passed a b c ≡ passed d e f
    same p q r = cc

walked : (s : FrameShape) (j : ℕ) → keeps_laws s ≡ true → j < s.tribs → keeps_tributary s (roles_of s) j ≡ true
walked s j kept known = list_all-at (keeps_tributary s (roles_of s)) 0 s.tribs j (parts_of s kept).tributaries (omega arith) (omega arith)

slot_at : (s : FrameShape) (j t : ℕ) → keeps_laws s ≡ true → j < s.tribs → t < s.len → slot_fits s j (s.role t) t (passed_before s j t) ≡ true
slot_at s j t kept known h =
    walk-at (slot_fits s j) (passes j) (all_passed s) s.role (passed_before s j) (passes-next s j) s.len 0 t (walked s j kept known) (omega arith) (omega arith)

-- what a tributary has in the whole frame
record Whole (s : FrameShape) (j : ℕ) : Type 0 where
  low : reads_below s j false s.len ≡ s.low
  high : reads_below s j true s.len ≡ suc s.low
  controls : controls_before s j s.len ≡ s.copies

whole : (s : FrameShape) (j : ℕ) → keeps_laws s ≡ true → j < s.tribs → Whole s j
whole s j kept known =
    let all : all_passed s (passed_before s j s.len) ≡ true =
    walk-end (slot_fits s j) (passes j) (all_passed s) s.role (passed_before s j) (passes-next s j) s.len 0 s.len (walked s j kept known) (omega arith) in
    let a = and_true _ _ all in
    let b = and_true _ _ a.1 in
    record { low = eqb-true _ _ a.0; high = eqb-true _ _ b.0; controls = eqb-true _ _ b.1 }

-- before the justifiable slot all control slots have passed
all_controls : (s : FrameShape) (j t : ℕ) → keeps_laws s ≡ true → j < s.tribs → t < s.len → s.role t ≡ Just j → controls_before s j t ≡ s.copies
all_controls s j t kept known h is =
    let just : is_just j (s.role t) ≡ true = ap (is_just j) is ∙ eq-eqb j j refl in
    eqb-true _ _ (where_so _ _ just (and_true _ _ (and_true _ _ (slot_at s j t kept known h)).1).1)

pub laws-has_tributaries : (s : FrameShape) → keeps_laws s ≡ true → HasTributaries s
laws-has_tributaries s kept = record {
  odd = (numbers_of s kept).odd;
  copies = λ j known. (whole s j kept known).controls;
  each_copy = λ j copy known h. one_copy s j copy kept known h;
  low = λ j known. (whole s j kept known).low;
  high = λ j known. (whole s j kept known).high;
  controls_first = controls_first;
  control_known = control_known;
  just_known = just_known;
  info_known = λ t j h is. ltb-true _ _ (ap (names_known s) (sym is) ∙ names_at s t kept h);
}
  where
    control_known : (t j copy : ℕ) → t < s.len → s.role t ≡ Control j copy → (j < s.tribs) × (copy < s.copies)
    control_known t j copy h is =
        let parts = and_true _ _ (ap (names_known s) (sym is) ∙ names_at s t kept h) in
        (ltb-true _ _ parts.0, ltb-true _ _ parts.1)

    just_known : (t j : ℕ) → t < s.len → s.role t ≡ Just j → j < s.tribs
    just_known t j h is = ltb-true _ _ (ap (names_known s) (sym is) ∙ names_at s t kept h)

    controls_first : (j copy t u : ℕ) → t < s.len → u < s.len → s.role t ≡ Control j copy → s.role u ≡ Just j → t < u
    controls_first j copy t u h h' control just =
        let known : j < s.tribs = just_known u j h' just in
        let here : controls j (s.role t) ≡ true = ap (controls j) control ∙ eq-eqb j j refl in
        let passed : controls_before s j u ≡ s.copies = all_controls s j u kept known h' just in
        let more : controls_before s j (t + 1) ≡ controls_before s j t + 1 = count_push (λ slot. controls j (s.role slot)) t ∙ ap (λ b. controls_before s j t + cond b 1 0) here in
        elim (cases_lt t u) [
          | inl before ↦ before
          | inr behind ↦
              absurd (
              omega (
                arith,
                passed,
                more,
                (whole s j kept known).controls,
                count-range_grows (λ slot. controls j (s.role slot)) u t behind,
                count-range_grows (λ slot. controls j (s.role slot)) (t + 1) s.len (omega arith),
              )
              )
        ]

-- ---- the even spread

pub laws-reads_evenly : (s : FrameShape) → keeps_laws s ≡ true → ReadsEvenly s
laws-reads_evenly s kept = record { ahead = ahead; behind = λ j t known h. leb-true _ _ (and_true _ _ (and_true _ _ (slot_at s j t kept known h)).1).0 }
  where
    ahead : (j t : ℕ) → j < s.tribs → t ≤ s.len → reads_below s j false t * s.len ≤ s.low * t + 2 * s.len
    ahead j t known h =
        elim (cases_lt t s.len) [
          | inl inside ↦ leb-true _ _ (and_true _ _ (slot_at s j t kept known inside)).0
          | inr end ↦
              let e : s.len ≡ t = omega arith in
              subst (λ t. reads_below s j false t * s.len ≤ s.low * t + 2 * s.len) e (omega (arith, ap (λ k. k * s.len) (whole s j kept known).low))
        ]
