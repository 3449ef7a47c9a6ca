-- Judging by the list of the alignment slots, and the marks of the slots so far.
use Rattle.std.proofs.Common.{add-zero, ◌≢◌, ◌≡◌, ℕ, zero, suc, ◌+◌, ◌<◌, ◌≤◌, ◌^◌, Bool, true, false, ◌&&◌, ◌||◌, not, cond, eqb, length-drop, List, [], ◌∷◌, ◌++◌, length, map, filter, take, drop, inl, inr, refl, sym, ap, ◌∙◌, arith, get_or, add-one, zero-add, All}
use Rattle.std.specs.Prelude.{sum_by}
use Rattle.std.specs.Bool.{beq}
use Rattle.std.specs.List.{range_with_len, list_all, list_any, slice_index_or}
use Rattle.std.proofs.lemmas.Grind.{pow_more}
use Rattle.std.proofs.Math.Nat.{pow-le-pow_right}
use Rattle.std.proofs.lemmas.List.{get_or-take, get_or-drop, length-take-le, take-append-drop, map-append, append-nil}
use Rattle.std.proofs.lemmas.Bool.{cases_Bool}
use Rattle.std.proofs.lemmas.List.Elements.{All-get_or, All-push, All-nil, All-cons, All-head, All-tail, All-same, All-filter, filter-append}
use Rattle.std.proofs.lemmas.Nat.{pow_pos}
use Rattle.std.proofs.lemmas.List.Folds.{list_all-map, list_all_more, list_all_at}
use Rattle.std.proofs.lemmas.List.Sums.{sum_by-cons, sum_by-append}
use Rattle.pdh_shape.specs.declared.role.Role.{Role}
use Rattle.pdh_shape.specs.declared.role.Role.TheVariants.{Align, Service, Control, Just, Info}
use Rattle.pdh_shape.specs.declared.role.Mark.{Mark}
use Rattle.pdh_shape.specs.declared.role.Mark.TheVariants.{Framing, Multi, Other}
use Rattle.pdh_shape.specs.Frame.{FrameShape, HasMarks, HasSignal, slots, is_align, breaks, breaks_at, is_framing, framing_before, framing_mark, is_multi, is_right, wrong}
use Rattle.pdh_bits.specs.Bits.{number_of}
use Rattle.pdh_phases.specs.Runs.{signal_bits, signal_at}
use Rattle.pdh_phases.proofs.Signals.{signal_at-number, signal_at-append, signal_at-drop, right-signal}
use Rattle.pdh_line.proofs.Ranges.{range_push, count_push}
use Rattle.pdh_align.specs.declared.signals.Signal.{Signal}
use Rattle.pdh_align.specs.Signals.{AreSignals}

-- ---- the list

-- no other slot breaks the signal
breaks_none : (r : Role) (bit : Bool) → is_align r ≡ false → breaks r bit ≡ false
breaks_none (Align b) bit other = cc
breaks_none (Service number) bit other = refl
breaks_none (Control trib copy) bit other = refl
breaks_none (Just trib) bit other = refl
breaks_none (Info trib) bit other = refl

not_align : (r : Role) → ((b : Bool) → r ≢ Align b) → is_align r ≡ false
not_align (Align b) other = absurd (other b refl)
not_align (Service number) other = refl
not_align (Control trib copy) other = refl
not_align (Just trib) other = refl
not_align (Info trib) other = refl

-- the list names the alignment slots before slot n
pub record SoFar (s : FrameShape) (n : ℕ) (signals : List Signal) : Type 0 where
  pub all : map (λ signal. signal.slot) signals ≡ filter (λ t. is_align (s.role t)) (range_with_len 0 n)
  pub bits : All (λ signal. s.role signal.slot ≡ Align signal.bit) signals

filter_push : (p : ℕ → Bool) (n : ℕ) → filter p (range_with_len 0 (n + 1)) ≡ filter p (range_with_len 0 n) ++ cond (p n) (n ∷ []) []
filter_push p n =
    ap (λ k. filter p (range_with_len 0 k)) (add-one n) ∙ ap (filter p) (range_push 0 n) ∙ filter-append p (range_with_len 0 n) ((0 + n) ∷ [])
    ∙ ap (λ k. filter p (range_with_len 0 n) ++ cond (p k) (k ∷ []) []) (zero-add n)

-- an alignment slot was added
pub so_far_signal : (s : FrameShape) (n : ℕ) (signals after : List Signal) (bit : Bool) → SoFar s n signals → s.role n ≡ Align bit → after ≡ signals ++ record { slot = n; bit = bit } ∷ [] → SoFar s (n + 1) after
so_far_signal s n signals after bit h e is =
    let new : Signal = record { slot = n; bit = bit } in
    record {
      all = ap (map (λ signal. signal.slot)) is ∙ map-append (λ signal. signal.slot) signals (new ∷ []) ∙ ap (λ x. x ++ n ∷ []) h.all
          ∙ sym (filter_push (λ t. is_align (s.role t)) n ∙ ap (λ r. filter (λ t. is_align (s.role t)) (range_with_len 0 n) ++ cond (is_align r) (n ∷ []) []) e);
      bits = rw is (All-push (λ signal. s.role signal.slot ≡ Align signal.bit) signals new h.bits e);
    }

pub so_far_other : (s : FrameShape) (n : ℕ) (signals : List Signal) → SoFar s n signals → ((b : Bool) → s.role n ≢ Align b) → SoFar s (n + 1) signals
so_far_other s n signals h other =
    record {
      all = h.all
          ∙ sym (filter_push (λ t. is_align (s.role t)) n ∙ ap (λ b. filter (λ t. is_align (s.role t)) (range_with_len 0 n) ++ cond b (n ∷ []) []) (not_align (s.role n) other)
          ∙ append-nil (filter (λ t. is_align (s.role t)) (range_with_len 0 n)));
      bits = h.bits;
    }

-- the list names all of them
pub so_far_all : (s : FrameShape) (n : ℕ) (signals : List Signal) → SoFar s n signals → n ≡ s.len → AreSignals s signals
so_far_all s n signals h e = record { all = h.all ∙ ap (λ n. filter (λ t. is_align (s.role t)) (range_with_len 0 n)) e; bits = h.bits }

-- ---- judging by the list

range_below : (a n m : ℕ) → a + n ≤ m → All (λ t. t < m) (range_with_len a n)
range_below a zero m h = All-nil (λ t. t < m)
range_below a (suc n) m h = All-cons (λ t. t < m) a (range_with_len (a + 1) n) (omega arith) (range_below (a + 1) n m (omega arith))

slots_within : (signals : List Signal) (m : ℕ) → All (λ t. t < m) (map (λ signal. signal.slot) signals) → All (λ signal. signal.slot < m) signals
slots_within [] m h = All-nil (λ signal. signal.slot < m)
slots_within (signal ∷ signals) m h =
    let rest : List ℕ = map (λ signal. signal.slot) signals in
    All-cons (λ signal. signal.slot < m) signal signals (All-head (λ t. t < m) signal.slot rest h) (slots_within signals m (All-tail (λ t. t < m) signal.slot rest h))

-- a slot of the list is a slot of the frame
pub signal_within : (s : FrameShape) (signals : List Signal) (i : ℕ) (d : Signal) → AreSignals s signals → i < length signals → (get_or signals i d).slot < s.len
signal_within s signals i d are h =
    let within : All (λ t. t < s.len) (map (λ signal. signal.slot) signals) =
    All-same (λ t. t < s.len) _ _ are.all (All-filter (λ t. is_align (s.role t)) (λ t. t < s.len) (slots s) (range_below 0 s.len s.len (omega arith))) in
    All-get_or (λ signal. signal.slot < s.len) signals i d h (slots_within signals s.len within)

-- its role
pub signal_role : (s : FrameShape) (signals : List Signal) (i : ℕ) (d : Signal) → AreSignals s signals → i < length signals → s.role (get_or signals i d).slot ≡ Align (get_or signals i d).bit
signal_role s signals i d are h = All-get_or (λ signal. s.role signal.slot ≡ Align signal.bit) signals i d h are.bits

-- the alignment signal isn't broken in a slot of the list
abbrev pub has_bit : FrameShape → List Bool → Signal → Bool
has_bit s frame signal = not (breaks_at s frame signal.slot)

abbrev pub agrees : FrameShape → List Signal → List Bool → Bool
agrees s signals frame = list_all (has_bit s frame) signals

-- a test that passes wherever another one doesn't
list_all_filter : (p q : ℕ → Bool) (xs : List ℕ) → ((x : ℕ) → q x ≡ false → p x ≡ true) → list_all p (filter q xs) ≡ list_all p xs
list_all_filter p q [] other = refl
list_all_filter p q (x ∷ xs) other = elim (cases_Bool (q x)) [
  | inl kept ↦ ap (λ b. list_all p (cond b (x ∷ filter q xs) (filter q xs))) kept ∙ ap (λ b. p x && b) (list_all_filter p q xs other)
  | inr dropped ↦ ap (λ b. list_all p (cond b (x ∷ filter q xs) (filter q xs))) dropped ∙ list_all_filter p q xs other ∙ ap (λ b. b && list_all p xs) (sym (other x dropped))
]

-- a frame is right exactly where it agrees with the list
pub agrees_right : (s : FrameShape) (signals : List Signal) (frame : List Bool) → AreSignals s signals → agrees s signals frame ≡ is_right s frame
unfolding is_right
agrees_right s signals frame are =
    let test : ℕ → Bool = λ t. not (breaks_at s frame t) in
    sym (list_all-map test (λ signal. signal.slot) signals) ∙ ap (list_all test) are.all
    ∙ list_all_filter test (λ t. is_align (s.role t)) (slots s) (λ t other. ap not (breaks_none (s.role t) (slice_index_or frame t false) other))

-- a slot of the frame that begins at a bit
pub bit_in_frame : (bits : List Bool) (start len slot : ℕ) → slot < len → slice_index_or (take len (drop start bits)) slot false ≡ slice_index_or bits (start + slot) false
bit_in_frame bits start len slot h = get_or-take len (drop start bits) slot false h ∙ get_or-drop start bits slot false

differs : (bit want : Bool) → not (beq bit want) ≡ breaks (Align want) bit
differs true true = refl
differs true false = refl
differs false true = refl
differs false false = refl

-- the alignment slot that is read is broken exactly where the bits differ
pub signal_broken : (s : FrameShape) (signals : List Signal) (frame : List Bool) (i : ℕ) (d : Signal) (bit : Bool) → AreSignals s signals → i < length signals
    → bit ≡ slice_index_or frame (get_or signals i d).slot false → not (beq bit (get_or signals i d).bit) ≡ breaks_at s frame (get_or signals i d).slot
signal_broken s signals frame i d bit are h b =
    differs bit (get_or signals i d).bit ∙ ap (λ r. breaks r bit) (sym (signal_role s signals i d are h)) ∙ ap (breaks (s.role (get_or signals i d).slot)) b

pub signal_read : (s : FrameShape) (signals : List Signal) (bits : List Bool) (start len i : ℕ) (d : Signal) (bit differ : Bool) → AreSignals s signals → s.len ≡ len → i < length signals
    → bit ≡ slice_index_or bits (start + (get_or signals i d).slot) false → not (beq bit (get_or signals i d).bit) ≡ differ
    → has_bit s (take len (drop start bits)) (get_or signals i d) ≡ not differ
signal_read s signals bits start len i d bit differ are e h b f =
    let lt : (get_or signals i d).slot < s.len = signal_within s signals i d are h in
    let at : bit ≡ slice_index_or (take len (drop start bits)) (get_or signals i d).slot false = b ∙ sym (bit_in_frame bits start len (get_or signals i d).slot (omega arith)) in
    ap not (sym (signal_broken s signals (take len (drop start bits)) i d bit are h at) ∙ f)

-- the alignment slots so far, with one more
pub signal_right : (s : FrameShape) (signals : List Signal) (bits : List Bool) (start len i : ℕ) (d : Signal) (bit : Bool) → AreSignals s signals → s.len ≡ len → i < length signals
    → bit ≡ slice_index_or bits (start + (get_or signals i d).slot) false → not (beq bit (get_or signals i d).bit) ≡ false
    → agrees s (take i signals) (take len (drop start bits)) ≡ true → agrees s (take (i + 1) signals) (take len (drop start bits)) ≡ true
signal_right s signals bits start len i d bit are e h b f before =
    let frame : List Bool = take len (drop start bits) in
    list_all_more (has_bit s frame) signals i d h ∙ ap (λ b. b && has_bit s frame (get_or signals i d)) before ∙ signal_read s signals bits start len i d bit false are e h b f

-- a wrong slot
pub signal_wrong : (s : FrameShape) (signals : List Signal) (bits : List Bool) (start len i : ℕ) (d : Signal) (bit : Bool) → AreSignals s signals → s.len ≡ len → i < length signals
    → bit ≡ slice_index_or bits (start + (get_or signals i d).slot) false → not (beq bit (get_or signals i d).bit) ≡ true → is_right s (take len (drop start bits)) ≡ false
signal_wrong s signals bits start len i d bit are e h b f =
    let frame : List Bool = take len (drop start bits) in
    sym (agrees_right s signals frame are) ∙ list_all_at (has_bit s frame) signals i d h (signal_read s signals bits start len i d bit true are e h b f)

-- ---- judging by the number that the signal's bits write

-- a frame is right exactly where the bits at its front write that number
pub right_by_number : (s : FrameShape) (bits word : List Bool) (start len number own : ℕ) → HasSignal s → 0 < s.signal → s.len ≡ len → start + len ≤ length bits
    → word ≡ take s.signal (drop start bits) → number ≡ number_of word → own ≡ number_of (signal_bits s) → eqb number own ≡ is_right s (take len (drop start bits))
right_by_number s bits word start len number own has some e within read is own_is =
    let rest : List Bool = drop start bits in
    let few : length word ≡ s.signal = ap length read ∙ length-take-le s.signal rest (omega (arith, has.within, e, within, length-drop start bits)) in
    let parts : word ++ drop s.signal rest ≡ rest = ap (λ x. x ++ drop s.signal rest) read ∙ take-append-drop s.signal rest in
    let place : start + 0 ≡ start = omega arith in
    ap (λ n. eqb n own) is ∙ ap (eqb (number_of word)) own_is ∙ signal_at-number s word has some few ∙ sym (signal_at-append s word (drop s.signal rest) 0 (omega (arith, few)))
    ∙ ap (λ x. signal_at s x 0) parts ∙ signal_at-drop s bits start 0 ∙ ap (signal_at s bits) place
    ∙ sym (right-signal s bits start has some) ∙ ap (λ n. is_right s (take n (drop start bits))) e

-- ---- marks

sum_push : (f : ℕ → ℕ) (n : ℕ) → sum_by f (range_with_len 0 (n + 1)) ≡ sum_by f (range_with_len 0 n) + f n
sum_push f n =
    ap (λ k. sum_by f (range_with_len 0 k)) (add-one n) ∙ ap (sum_by f) (range_push 0 n) ∙ sum_by-append f (range_with_len 0 n) ((0 + n) ∷ [])
    ∙ ap (λ k. sum_by f (range_with_len 0 n) + k) (one (0 + n) ∙ ap f (zero-add n))
  where
    one : (k : ℕ) → sum_by f (k ∷ []) ≡ f k
    one k = sum_by-cons f k [] ∙ omega arith

double : (n : ℕ) → 2 ^ (n + 1) ≡ 2 ^ n + 2 ^ n
double n = pow_more 2 n ∙ omega arith

-- the value with one more slot, where a wrong framing slot's number is the number of framing slots before it
framing_fits : (m : Mark) (n framing : ℕ) (broken : Bool) → ((number : ℕ) → m ≡ Framing number → (number ≡ n) × (number < 64)) → framing < 2 ^ 64 → framing < 2 ^ n
    → (framing + framing_mark m broken < 2 ^ 64) × (framing + framing_mark m broken < 2 ^ (n + cond (is_framing m) 1 0))
framing_fits (Framing number) n framing true numbered fits few =
    let is : number ≡ n = (numbered number refl).0 in
    let low : number < 64 = (numbered number refl).1 in
    let value : 2 ^ number ≡ 2 ^ n = ap (λ k. 2 ^ k) is in
    let past : n + 1 ≤ 64 = omega arith in
    let most : 2 ^ (n + 1) ≤ 2 ^ 64 = pow-le-pow_right (omega arith) past in
    let twice : 2 ^ (n + 1) ≡ 2 ^ n + 2 ^ n = double n in
    (omega arith, omega arith)
framing_fits (Framing number) n framing false numbered fits few =
    let twice : 2 ^ (n + 1) ≡ 2 ^ n + 2 ^ n = double n in
    (omega arith, omega arith)
framing_fits Multi n framing broken numbered fits few = (omega arith, rw (add-zero n) (omega arith))
framing_fits Other n framing broken numbered fits few = (omega arith, rw (add-zero n) (omega arith))

-- a framing slot's number
numbers : (s : FrameShape) (n : ℕ) (mark : Mark) → HasMarks s → n < s.len → mark ≡ s.mark n → (number : ℕ) → mark ≡ Framing number → (number ≡ framing_before s n) × (number < 64)
numbers s n mark has h e number is = (has.numbered n number h (sym e ∙ is), has.few n number h (sym e ∙ is))

-- the framing slots before a slot
framing_upto : FrameShape → List Bool → ℕ → ℕ
framing_upto s bits n = sum_by (λ slot. framing_mark (s.mark slot) (breaks_at s bits slot)) (range_with_len 0 n)

framing_next : (s : FrameShape) (bits : List Bool) (n : ℕ) → framing_upto s bits (n + 1) ≡ framing_upto s bits n + framing_mark (s.mark n) (breaks_at s bits n)
unfolding framing_upto
framing_next s bits n = sum_push (λ slot. framing_mark (s.mark slot) (breaks_at s bits slot)) n

framing_none : (s : FrameShape) (bits : List Bool) → framing_upto s bits 0 ≡ 0
unfolding framing_upto
framing_none s bits = refl

-- they fit a word
framing_small : (s : FrameShape) (bits : List Bool) (n : ℕ) → HasMarks s → n ≤ s.len → (framing_upto s bits n < 2 ^ 64) × (framing_upto s bits n < 2 ^ framing_before s n)
framing_small s bits zero has h =
    let none : framing_upto s bits 0 ≡ 0 = framing_none s bits in
    (omega (arith, none), omega (arith, none, pow_pos (framing_before s 0)))
framing_small s bits (suc n) has h =
    let before = framing_small s bits n has (omega (arith, h)) in
    let mark : Mark = s.mark n in
    let broken : Bool = breaks_at s bits n in
    let next : framing_before s (n + 1) ≡ framing_before s n + cond (is_framing mark) 1 0 = count_push (λ slot. is_framing (s.mark slot)) n in
    let more = framing_fits mark (framing_before s n) (framing_upto s bits n) broken (numbers s n mark has (omega (arith, h)) refl) before.0 before.1 in
    let sum : framing_upto s bits (suc n) ≡ framing_upto s bits n + framing_mark mark broken = ap (framing_upto s bits) (sym (add-one n)) ∙ framing_next s bits n in
    let count : framing_before s (suc n) ≡ framing_before s n + cond (is_framing mark) 1 0 = ap (framing_before s) (sym (add-one n)) ∙ next in
    (omega (arith, sum, more.0), rw (sum, count) more.1)

wrong_framing : (s : FrameShape) (bits : List Bool) → (wrong s bits).framing ≡ framing_upto s bits s.len
unfolding wrong framing_upto
wrong_framing s bits = refl

-- the value of the wrong framing slots fits a word
pub wrong_fits : (s : FrameShape) (bits : List Bool) → HasMarks s → (wrong s bits).framing < 2 ^ 64
wrong_fits s bits has = rw (wrong_framing s bits) (framing_small s bits s.len has (omega arith)).0

-- what the slots of a list add to the marks
abbrev pub framing_of : FrameShape → List Bool → List Signal → ℕ
framing_of s bits signals = sum_by (λ signal. framing_mark (s.mark signal.slot) (breaks_at s bits signal.slot)) signals

abbrev pub multi_of : FrameShape → List Bool → List Signal → Bool
multi_of s bits signals = list_any (λ signal. is_multi (s.mark signal.slot) && breaks_at s bits signal.slot) signals

-- what is nothing wherever a test fails
sum_filter : (f : ℕ → ℕ) (q : ℕ → Bool) (xs : List ℕ) → ((x : ℕ) → q x ≡ false → f x ≡ 0) → sum_by f (filter q xs) ≡ sum_by f xs
sum_filter f q [] other = refl
sum_filter f q (x ∷ xs) other = elim (cases_Bool (q x)) [
  | inl kept ↦ ap (λ b. sum_by f (cond b (x ∷ filter q xs) (filter q xs))) kept ∙ sum_by-cons f x (filter q xs) ∙ ap (λ n. f x + n) (sum_filter f q xs other) ∙ sym (sum_by-cons f x xs)
  | inr dropped ↦
      let none : f x ≡ 0 = other x dropped in
      ap (λ b. sum_by f (cond b (x ∷ filter q xs) (filter q xs))) dropped ∙ sum_filter f q xs other ∙ sym (sum_by-cons f x xs ∙ omega (arith, none))
]

list_any_filter : (p q : ℕ → Bool) (xs : List ℕ) → ((x : ℕ) → q x ≡ false → p x ≡ false) → list_any p (filter q xs) ≡ list_any p xs
list_any_filter p q [] other = refl
list_any_filter p q (x ∷ xs) other = elim (cases_Bool (q x)) [
  | inl kept ↦ ap (λ b. list_any p (cond b (x ∷ filter q xs) (filter q xs))) kept ∙ ap (λ b. p x || b) (list_any_filter p q xs other)
  | inr dropped ↦ ap (λ b. list_any p (cond b (x ∷ filter q xs) (filter q xs))) dropped ∙ list_any_filter p q xs other ∙ ap (λ b. b || list_any p xs) (sym (other x dropped))
]

sum_map : (f : ℕ → ℕ) (signals : List Signal) → sum_by f (map (λ signal. signal.slot) signals) ≡ sum_by (λ signal. f signal.slot) signals
sum_map f [] = refl
sum_map f (signal ∷ signals) =
    sum_by-cons f signal.slot (map (λ signal. signal.slot) signals) ∙ ap (λ n. f signal.slot + n) (sum_map f signals) ∙ sym (sum_by-cons (λ signal. f signal.slot) signal signals)

list_any_map : (p : ℕ → Bool) (signals : List Signal) → list_any p (map (λ signal. signal.slot) signals) ≡ list_any (λ signal. p signal.slot) signals
list_any_map p [] = refl
list_any_map p (signal ∷ signals) = ap (λ b. p signal.slot || b) (list_any_map p signals)

unbroken_framing : (m : Mark) (broken : Bool) → broken ≡ false → framing_mark m broken ≡ 0
unbroken_framing (Framing number) true e = cc
unbroken_framing (Framing number) false e = refl
unbroken_framing Multi broken e = refl
unbroken_framing Other broken e = refl

and_false_is : (b : Bool) → (b && false) ≡ false
and_false_is true = refl
and_false_is false = refl

-- the marks of a frame are those of its alignment slots
pub marks_all : (s : FrameShape) (bits : List Bool) (signals : List Signal) → AreSignals s signals → record { framing = framing_of s bits signals; multi = multi_of s bits signals } ≡ wrong s bits
unfolding wrong
marks_all s bits signals are =
    let q : ℕ → Bool = λ t. is_align (s.role t) in
    let f : ℕ → ℕ = λ slot. framing_mark (s.mark slot) (breaks_at s bits slot) in
    let p : ℕ → Bool = λ slot. is_multi (s.mark slot) && breaks_at s bits slot in
    let unbroken : (t : ℕ) → q t ≡ false → breaks_at s bits t ≡ false = λ t other. breaks_none (s.role t) (slice_index_or bits t false) other in
    let framing : framing_of s bits signals ≡ sum_by f (slots s) =
    sym (sum_map f signals) ∙ ap (sum_by f) are.all ∙ sum_filter f q (slots s) (λ t other. unbroken_framing (s.mark t) (breaks_at s bits t) (unbroken t other)) in
    let multi : multi_of s bits signals ≡ list_any p (slots s) =
    sym (list_any_map p signals) ∙ ap (list_any p) are.all ∙ list_any_filter p q (slots s) (λ t other. ap (λ b. is_multi (s.mark t) && b) (unbroken t other) ∙ and_false_is (is_multi (s.mark t))) in
    λ i. record { framing = framing i; multi = multi i }
