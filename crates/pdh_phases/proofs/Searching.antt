-- The alignment signal is looked for at 64 positions at a time, slot by slot.
use Rattle.std.proofs.Common.{◌≡◌, ℕ, ◌+◌, ◌<◌, ◌≤◌, Bool, true, false, ◌&&◌, not, List, ◌∷◌, [], ◌++◌, length, take, drop, get_or, map, replicate, refl, sym, ◌∙◌, ap, arith, length-append, length-take, length-drop}
use Rattle.std.specs.List.{range_with_len, list_all}
use Rattle.std.proofs.lemmas.List.{ext_get_or, get_or-take, get_or-drop, get_or-replicate, length-replicate, take-append-drop, append_assoc, length-map, map-append, get_or-map, get_or_read, take_more}
use Rattle.std.proofs.lemmas.List.Folds.{list_all-append}
use Rattle.std.proofs.lemmas.List.FromFn.{get_or-map-range_with_len, length-map-range_with_len}
use Rattle.pdh_shape.specs.declared.role.Role.{Role}
use Rattle.pdh_shape.specs.declared.role.Role.TheVariants.{Align, Service, Control, Just, Info}
use Rattle.pdh_shape.specs.Frame.{FrameShape, HasSignal, breaks, breaks_at, is_align}
use Rattle.pdh_line.proofs.Ranges.{range_append}
use Rattle.pdh_packed.specs.Places.{both, differs, differing}
use Rattle.pdh_packed.proofs.PlacesLaws.{length-both, length-differing, get_or-both, get_or-differing}
use Rattle.pdh_phases.specs.Runs.{bit_in, signal_bits, signal_at, places}
use Rattle.pdh_phases.specs.Keeping.{signals_in, wrong_words}
use Rattle.pdh_phases.proofs.Signals.{length-signal, signal_bit, align_below, signal_at-append}

-- so many first slots of a signal at position p are right
abbrev pub first_right : FrameShape → List Bool → ℕ → ℕ → Bool
first_right s bits slots p = list_all (λ slot. not (breaks_at s (drop p bits) slot)) (range_with_len 0 slots)

-- at which of 64 positions they are
abbrev pub right_so_far : FrameShape → List Bool → ℕ → List Bool
right_so_far s bits slots = map (first_right s bits slots) (range_with_len 0 64)

and_true : (b : Bool) → (b && true) ≡ b
and_true true = refl
and_true false = refl

first_right-more : (s : FrameShape) (bits : List Bool) (slots p : ℕ) → first_right s bits (slots + 1) p ≡ (first_right s bits slots p && not (breaks_at s (drop p bits) slots))
first_right-more s bits slots p =
    let test : ℕ → Bool = λ slot. not (breaks_at s (drop p bits) slot) in
    let one : list_all test (range_with_len (0 + slots) 1) ≡ test slots = and_true (test (0 + slots)) ∙ ap test (omega arith) in
    ap (list_all test) (range_append 0 slots 1) ∙ list_all-append test (range_with_len 0 slots) (range_with_len (0 + slots) 1)
    ∙ ap (λ b. list_all test (range_with_len 0 slots) && b) one

-- a bit is right where it differs from the wrong one
right_bit : (r : Role) (bit : Bool) → is_align r ≡ true → differs bit (not (bit_in r)) ≡ not (breaks r bit)
right_bit (Align true) true is = refl
right_bit (Align true) false is = refl
right_bit (Align false) true is = refl
right_bit (Align false) false is = refl
right_bit (Service number) bit is = cc
right_bit (Control j copy) bit is = cc
right_bit (Just j) bit is = cc
right_bit (Info j) bit is = cc

-- no slot is looked at
pub right_so_far-none : (s : FrameShape) (bits : List Bool) → replicate 64 true ≡ right_so_far s bits 0
right_so_far-none s bits =
    ext_get_or false (replicate 64 true) (right_so_far s bits 0) (length-replicate 64 true ∙ sym (length-map-range_with_len (first_right s bits 0) 0 64)) (λ i h.
    let lt : i < 64 = omega (arith, h, length-replicate 64 true) in
    get_or-replicate 64 i true false lt ∙ sym (get_or-map-range_with_len (first_right s bits 0) 0 64 i i false lt (omega arith)))

-- and one more
pub right_so_far-more : (s : FrameShape) (window : List Bool) (slot : ℕ) → HasSignal s → 0 < s.signal → slot < s.signal → length window + 1 ≡ s.signal + 64
    → both (right_so_far s window slot) (differing (take 64 (drop slot window)) (replicate 64 (not (bit_in (s.role slot))))) ≡ right_so_far s window (slot + 1)
right_so_far-more s window slot has some lt long =
    ext_get_or false (both before (differing bits wrong)) (right_so_far s window (slot + 1)) (omega (arith, whole, length-map-range_with_len (first_right s window (slot + 1)) 0 64)) (λ i h. at i (omega (arith, h, whole)))
  where
    before : List Bool
    before = right_so_far s window slot

    bits : List Bool
    bits = take 64 (drop slot window)

    wrong : List Bool
    wrong = replicate 64 (not (bit_in (s.role slot)))

    long_before : length before ≡ 64
    long_before = length-map-range_with_len (first_right s window slot) 0 64

    long_bits : length bits ≡ 64
    long_bits = omega (arith, length-take 64 (drop slot window), length-drop slot window, long, lt)

    long_wrong : length wrong ≡ 64
    long_wrong = length-replicate 64 (not (bit_in (s.role slot)))

    long_differing : length (differing bits wrong) ≡ 64
    long_differing = omega (arith, length-differing bits wrong, long_bits, long_wrong)

    whole : length (both before (differing bits wrong)) ≡ 64
    whole = omega (arith, length-both before (differing bits wrong), long_before, long_differing)

    at : (i : ℕ) → i < 64 → get_or (both before (differing bits wrong)) i false ≡ get_or (right_so_far s window (slot + 1)) i false
    at i h =
        let bit : Bool = get_or (drop i window) slot false in
        let same : get_or bits i false ≡ bit =
        get_or-take 64 (drop slot window) i false h ∙ get_or-drop slot window i false ∙ ap (λ k. get_or window k false) (omega arith) ∙ sym (get_or-drop i window slot false) in
        let other : get_or wrong i false ≡ not (bit_in (s.role slot)) = get_or-replicate 64 i (not (bit_in (s.role slot))) false h in
        let right : get_or (differing bits wrong) i false ≡ not (breaks (s.role slot) bit) =
        get_or-differing bits wrong i (omega (arith, h, long_bits)) (omega (arith, h, long_wrong)) ∙ ap (λ b. differs b (get_or wrong i false)) same ∙ ap (differs bit) other
        ∙ right_bit (s.role slot) bit (align_below s slot has some lt) in
        get_or-both before (differing bits wrong) i (omega (arith, h, long_before)) (omega (arith, h, long_differing))
        ∙ ap (λ b. b && get_or (differing bits wrong) i false) (get_or-map-range_with_len (first_right s window slot) 0 64 i i false h (omega arith))
        ∙ ap (λ b. first_right s window slot i && b) right ∙ sym (first_right-more s window slot i)
        ∙ sym (get_or-map-range_with_len (first_right s window (slot + 1)) 0 64 i i false h (omega arith))

-- where no slot is right so far, none is with more of them
first_none : (s : FrameShape) (window : List Bool) (slot k p : ℕ) → first_right s window slot p ≡ false → first_right s window (slot + k) p ≡ false
first_none s window slot k p none =
    let test : ℕ → Bool = λ at. not (breaks_at s (drop p window) at) in
    ap (list_all test) (range_append 0 slot k) ∙ list_all-append test (range_with_len 0 slot) (range_with_len (0 + slot) k)
    ∙ ap (λ b. b && list_all test (range_with_len (0 + slot) k)) none

pub none_right : (s : FrameShape) (window : List Bool) (slot k : ℕ) → right_so_far s window slot ≡ replicate 64 false → replicate 64 false ≡ right_so_far s window (slot + k)
none_right s window slot k none =
    ext_get_or false (replicate 64 false) (right_so_far s window (slot + k)) (length-replicate 64 false ∙ sym (length-map-range_with_len (first_right s window (slot + k)) 0 64)) (λ i h.
    let lt : i < 64 = omega (arith, h, length-replicate 64 false) in
    let zero : get_or (replicate 64 false) i false ≡ false = get_or-replicate 64 i false false lt in
    let before : first_right s window slot i ≡ false =
    sym (get_or-map-range_with_len (first_right s window slot) 0 64 i i false lt (omega arith)) ∙ ap (λ (bits : List Bool). get_or bits i false) none ∙ zero in
    zero ∙ sym (first_none s window slot k i before) ∙ sym (get_or-map-range_with_len (first_right s window (slot + k)) 0 64 i i false lt (omega arith)))

-- all slots are looked at
pub right_so_far-all : (s : FrameShape) (window : List Bool) → 0 < s.signal → length window + 1 ≡ s.signal + 64 → right_so_far s window s.signal ≡ signals_in s window
unfolding signals_in signal_at
right_so_far-all s window some long =
    let count : places s window ≡ 64 = omega (arith, long) in
    ap (λ n. map (first_right s window s.signal) (range_with_len 0 n)) (sym count)

-- ---- of more bits and of fewer

pub length-signals : (s : FrameShape) (bits : List Bool) → length (signals_in s bits) ≡ places s bits
unfolding signals_in
length-signals s bits = length-map-range_with_len (signal_at s bits) 0 (places s bits)

pub signals-at : (s : FrameShape) (bits : List Bool) (i : ℕ) → i < places s bits → get_or (signals_in s bits) i false ≡ signal_at s bits i
unfolding signals_in
signals-at s bits i h = get_or-map-range_with_len (signal_at s bits) 0 (places s bits) i i false h (omega arith)

-- the first bits of a word
pub signals-first : (s : FrameShape) (last word : List Bool) (count : ℕ) → 0 < s.signal → length last + 1 ≡ s.signal → count ≤ length word
    → take count (signals_in s (last ++ word)) ≡ signals_in s (last ++ take count word)
signals-first s last word count some long within =
    ext_get_or false (take count (signals_in s (last ++ word))) (signals_in s (last ++ take count word)) (omega (arith, whole, length-signals s part, fewer)) (λ i h.
    let lt : i < count = omega (arith, h, whole) in
    get_or-take count (signals_in s (last ++ word)) i false lt ∙ signals-at s (last ++ word) i (omega (arith, lt, within, more))
    ∙ ap (λ x. signal_at s x i) (sym all) ∙ signal_at-append s part (drop count word) i (omega (arith, lt, fewer)) ∙ sym (signals-at s part i (omega (arith, lt, fewer))))
  where
    part : List Bool
    part = last ++ take count word

    more : places s (last ++ word) ≡ length word
    more = omega (arith, length-append last word, long)

    fewer : places s part ≡ count
    fewer = omega (arith, length-append last (take count word), length-take count word, long, within)

    whole : length (take count (signals_in s (last ++ word))) ≡ count
    whole = omega (arith, length-take count (signals_in s (last ++ word)), length-signals s (last ++ word), more, within)

    all : part ++ drop count word ≡ last ++ word
    all = append_assoc last (take count word) (drop count word) ∙ ap (λ x. last ++ x) (take-append-drop count word)

-- one position or none
pub signals-none : (s : FrameShape) (bits : List Bool) → length bits < s.signal → [] ≡ signals_in s bits
unfolding signals_in
signals-none s bits few =
    let none : places s bits ≡ 0 = omega (arith, few) in
    ap (λ n. map (signal_at s bits) (range_with_len 0 n)) (sym none)

pub signals-one : (s : FrameShape) (bits : List Bool) → length bits ≡ s.signal → signal_at s bits 0 ∷ [] ≡ signals_in s bits
unfolding signals_in
signals-one s bits long =
    let one : places s bits ≡ 1 = omega (arith, long) in
    ap (λ n. map (signal_at s bits) (range_with_len 0 n)) (sym one)

-- ---- the wrong bits

pub length-wrong : (s : FrameShape) → length (wrong_words (signal_bits s)) ≡ s.signal
length-wrong s = length-map (signal_bits s) (λ bit. replicate 64 (not bit)) ∙ length-signal s

pub wrong-at : (s : FrameShape) (wrong : List (List Bool)) (word : List Bool) (slot : ℕ) → wrong ≡ wrong_words (signal_bits s) → slot < s.signal → word ≡ get_or wrong slot word → word ≡ replicate 64 (not (bit_in (s.role slot)))
wrong-at s wrong word slot is lt read =
    let long : length wrong ≡ s.signal = ap length is ∙ length-wrong s in
    get_or_read wrong slot word (omega (arith, lt, long)) read [] ∙ ap (λ x. get_or x slot []) is
    ∙ get_or-map (λ bit. replicate 64 (not bit)) (signal_bits s) slot false [] (omega (arith, lt, length-signal s)) ∙ ap (λ b. replicate 64 (not b)) (signal_bit s slot lt)

-- and one more of them
pub wrong-more : (s : FrameShape) (words after : List (List Bool)) (word : List Bool) (slot : ℕ) → slot < s.signal → words ≡ wrong_words (take slot (signal_bits s)) → word ≡ replicate 64 (not (get_or (signal_bits s) slot false))
    → after ≡ words ++ word ∷ [] → after ≡ wrong_words (take (slot + 1) (signal_bits s))
wrong-more s words after word slot lt is one pushed =
    pushed ∙ ap (λ x. x ++ word ∷ []) is ∙ ap (λ x. wrong_words (take slot (signal_bits s)) ++ x ∷ []) one
    ∙ sym (map-append (λ bit. replicate 64 (not bit)) (take slot (signal_bits s)) (get_or (signal_bits s) slot false ∷ []))
    ∙ ap wrong_words (sym (take_more (signal_bits s) slot false (omega (arith, lt, length-signal s))))
