-- Where the alignment signal stands: as the number that its bits write, and as what judges a frame.
use Rattle.std.proofs.Common.{◌≡◌, ℕ, zero, suc, ◌+◌, ◌-◌, ◌<◌, ◌≤◌, Bool, true, false, ◌&&◌, not, eqb, List, [], ◌∷◌, ◌++◌, length, take, drop, refl, sym, ◌∙◌, ap, inl, inr, arith}
use Rattle.std.specs.List.{range_with_len, list_all, slice_index_or}
use Rattle.std.proofs.lemmas.Bool.{cases_Bool, eqb-true, eq-eqb, lt-ltb, le-ltb, false_from_ne_true, false≢true}
use Rattle.std.proofs.lemmas.List.{ext_get_or, get_or-take, get_or-drop, drop-drop, get_or_append_left}
use Rattle.std.proofs.lemmas.List.Folds.{list_all-append}
use Rattle.std.proofs.lemmas.List.FromFn.{get_or-map-range_with_len, length-map-range_with_len, map-range_with_len_more}
use Rattle.pdh_bits.specs.Bits.{number_of}
use Rattle.pdh_packed.specs.Words.{low_bits}
use Rattle.pdh_packed.specs.WordLaws.{low_bits-fold}
use Rattle.pdh_shape.specs.declared.role.Role.{Role}
use Rattle.pdh_shape.specs.declared.role.Role.TheVariants.{Align, Service, Control, Just, Info}
use Rattle.pdh_shape.specs.Frame.{FrameShape, HasSignal, breaks, breaks_at, is_align, is_right}
use Rattle.pdh_line.proofs.Ranges.{list_all-at, list_all-range, range_append}
use Rattle.pdh_phases.specs.Runs.{bit_in, bits_before, signal_bits, signal_at}

-- ---- the bits of the signal

pub length-signal : (s : FrameShape) → length (signal_bits s) ≡ s.signal
unfolding signal_bits
length-signal s = length-map-range_with_len (λ slot. bit_in (s.role slot)) 0 s.signal

pub signal_bit : (s : FrameShape) (slot : ℕ) → slot < s.signal → slice_index_or (signal_bits s) slot false ≡ bit_in (s.role slot)
unfolding signal_bits
signal_bit s slot h = get_or-map-range_with_len (λ slot. bit_in (s.role slot)) 0 s.signal slot slot false h (omega arith)

keeps_own : (r : Role) → not (breaks r (bit_in r)) ≡ true
keeps_own (Align true) = refl
keeps_own (Align false) = refl
keeps_own (Service number) = refl
keeps_own (Control j copy) = refl
keeps_own (Just j) = refl
keeps_own (Info j) = refl

own_kept : (r : Role) (bit : Bool) → is_align r ≡ true → not (breaks r bit) ≡ true → bit ≡ bit_in r
own_kept (Align true) true is h = refl
own_kept (Align true) false is h = cc
own_kept (Align false) true is h = cc
own_kept (Align false) false is h = refl
own_kept (Service number) bit is h = cc
own_kept (Control j copy) bit is h = cc
own_kept (Just j) bit is h = cc
own_kept (Info j) bit is h = cc

never_broken : (r : Role) (bit : Bool) → is_align r ≡ false → not (breaks r bit) ≡ true
never_broken (Align true) bit is = cc
never_broken (Align false) bit is = cc
never_broken (Service number) bit is = refl
never_broken (Control j copy) bit is = refl
never_broken (Just j) bit is = refl
never_broken (Info j) bit is = refl

pub align_below : (s : FrameShape) (slot : ℕ) → HasSignal s → 0 < s.signal → slot < s.signal → is_align (s.role slot) ≡ true
align_below s slot has some h = has.first some slot (omega (arith, has.within)) ∙ lt-ltb slot s.signal h

pub signal_bits_is : (s : FrameShape) → signal_bits s ≡ bits_before s s.signal
unfolding signal_bits
signal_bits_is s = refl

-- the bits before a slot and those before the next
pub bits_before-next : (s : FrameShape) (n : ℕ) → bits_before s (n + 1) ≡ bits_before s n ++ bit_in (s.role n) ∷ []
bits_before-next s n = map-range_with_len_more (λ slot. bit_in (s.role slot)) 0 n n (omega arith)

pub length-before : (s : FrameShape) (n : ℕ) → length (bits_before s n) ≡ n
length-before s n = length-map-range_with_len (λ slot. bit_in (s.role slot)) 0 n

-- ---- the signal at a position, by its slots

pub signal_at-from : (s : FrameShape) (bits : List Bool) (p : ℕ) → ((slot : ℕ) → slot < s.signal → not (breaks_at s (drop p bits) slot) ≡ true) → signal_at s bits p ≡ true
unfolding signal_at
signal_at-from s bits p all = list_all-range (λ slot. not (breaks_at s (drop p bits) slot)) 0 s.signal (λ slot h h'. all slot (omega arith))

pub signal_at-slot : (s : FrameShape) (bits : List Bool) (p slot : ℕ) → signal_at s bits p ≡ true → slot < s.signal → not (breaks_at s (drop p bits) slot) ≡ true
unfolding signal_at
signal_at-slot s bits p slot stands h = list_all-at (λ slot. not (breaks_at s (drop p bits) slot)) 0 s.signal slot stands (omega arith) (omega arith)

-- ---- by its number

-- the signal stands at the front of bits that are as many as its own exactly where they are its own
stands-own : (s : FrameShape) (window : List Bool) → window ≡ signal_bits s → signal_at s window 0 ≡ true
stands-own s window own =
    signal_at-from s window 0 (λ slot h. ap (λ b. not (breaks (s.role slot) b)) (ap (λ x. slice_index_or x slot false) own ∙ signal_bit s slot h) ∙ keeps_own (s.role slot))

own-stands : (s : FrameShape) (window : List Bool) → HasSignal s → 0 < s.signal → length window ≡ s.signal → signal_at s window 0 ≡ true → window ≡ signal_bits s
own-stands s window has some long stands =
    ext_get_or false window (signal_bits s) (long ∙ sym (length-signal s)) (λ slot h.
    let lt : slot < s.signal = omega (arith, h, long) in
    own_kept (s.role slot) (slice_index_or window slot false) (align_below s slot has some lt) (signal_at-slot s window 0 slot stands lt) ∙ sym (signal_bit s slot lt))

-- bits of one length that write one number are the same
same_bits : (x y : List Bool) → length x ≡ length y → number_of x ≡ number_of y → x ≡ y
same_bits x y long h = sym (low_bits-fold x 0) ∙ ap (λ n. low_bits n (number_of x)) long ∙ ap (low_bits (length y)) h ∙ low_bits-fold y 0

-- the signal stands there exactly where they write its number
pub signal_at-number : (s : FrameShape) (window : List Bool) → HasSignal s → 0 < s.signal → length window ≡ s.signal → eqb (number_of window) (number_of (signal_bits s)) ≡ signal_at s window 0
signal_at-number s window has some long =
    elim (cases_Bool (signal_at s window 0)) [
      | inl stands ↦ eq-eqb _ _ (ap number_of (own-stands s window has some long stands)) ∙ sym stands
      | inr none ↦ false_from_ne_true (eqb (number_of window) (number_of (signal_bits s))) (λ same.
          let own : window ≡ signal_bits s = same_bits window (signal_bits s) (long ∙ sym (length-signal s)) (eqb-true _ _ same) in
          false≢true (sym none ∙ stands-own s window own)) ∙ sym none
    ]

-- ---- more bits change nothing before them

pub signal_at-append : (s : FrameShape) (bits more : List Bool) (p : ℕ) → p + s.signal ≤ length bits → signal_at s (bits ++ more) p ≡ signal_at s bits p
signal_at-append s bits more p h =
    elim (cases_Bool (signal_at s bits p)) [
      | inl stands ↦ signal_at-from s (bits ++ more) p (λ slot lt. ap (λ b. not (breaks (s.role slot) b)) (same slot lt) ∙ signal_at-slot s bits p slot stands lt) ∙ sym stands
      | inr none ↦ false_from_ne_true (signal_at s (bits ++ more) p) (λ stands.
          false≢true (sym none ∙ signal_at-from s bits p (λ slot lt. ap (λ b. not (breaks (s.role slot) b)) (sym (same slot lt)) ∙ signal_at-slot s (bits ++ more) p slot stands lt))) ∙ sym none
    ]
  where
    same : (slot : ℕ) → slot < s.signal → slice_index_or (drop p (bits ++ more)) slot false ≡ slice_index_or (drop p bits) slot false
    same slot lt = get_or-drop p (bits ++ more) slot false ∙ get_or_append_left bits more false (p + slot) (omega arith) ∙ sym (get_or-drop p bits slot false)

-- bits before the position change nothing
pub signal_at-drop : (s : FrameShape) (bits : List Bool) (n i : ℕ) → signal_at s (drop n bits) i ≡ signal_at s bits (n + i)
unfolding signal_at
signal_at-drop s bits n i = ap (λ x. list_all (λ slot. not (breaks_at s x slot)) (range_with_len 0 s.signal)) (drop-drop i n bits)

-- ---- a frame is right by its signal

pub right-signal : (s : FrameShape) (bits : List Bool) (p : ℕ) → HasSignal s → 0 < s.signal → is_right s (take s.len (drop p bits)) ≡ signal_at s bits p
unfolding is_right signal_at
right-signal s bits p has some =
    let frame : List Bool = take s.len (drop p bits) in
    let test : ℕ → Bool = λ slot. not (breaks_at s frame slot) in
    let parts : s.len ≡ s.signal + (s.len - s.signal) = omega (arith, has.within) in
    let rest : list_all test (range_with_len (0 + s.signal) (s.len - s.signal)) ≡ true =
    list_all-range test (0 + s.signal) (s.len - s.signal) (λ slot h h'.
    never_broken (s.role slot) (slice_index_or frame slot false) (has.first some slot (omega (arith, parts)) ∙ le-ltb slot s.signal (omega arith))) in
    ap (λ n. list_all test (range_with_len 0 n)) parts ∙ ap (list_all test) (range_append 0 s.signal (s.len - s.signal))
    ∙ list_all-append test (range_with_len 0 s.signal) (range_with_len (0 + s.signal) (s.len - s.signal)) ∙ ap (λ b. list_all test (range_with_len 0 s.signal) && b) rest
    ∙ and_true_is (list_all test (range_with_len 0 s.signal))
    ∙ all_same test (λ slot. not (breaks_at s (drop p bits) slot)) 0 s.signal (λ slot h h'. ap (λ b. not (breaks (s.role slot) b)) (get_or-take s.len (drop p bits) slot false (omega (arith, has.within))))
  where
    and_true_is : (b : Bool) → (b && true) ≡ b
    and_true_is true = refl
    and_true_is false = refl

    all_same : (f g : ℕ → Bool) (a n : ℕ) → ((k : ℕ) → a ≤ k → k < a + n → f k ≡ g k) → list_all f (range_with_len a n) ≡ list_all g (range_with_len a n)
    all_same f g a zero same = refl
    all_same f g a (suc n) same =
        let here : f a ≡ g a = same a (omega arith) (omega arith) in
        let rest : list_all f (range_with_len (a + 1) n) ≡ list_all g (range_with_len (a + 1) n) = all_same f g (a + 1) n (λ k h h'. same k (omega arith) (omega arith)) in
        ap (λ b. b && list_all f (range_with_len (a + 1) n)) here ∙ ap (λ b. g a && b) rest
