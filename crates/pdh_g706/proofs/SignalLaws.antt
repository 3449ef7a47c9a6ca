-- The alignment signal, read as a number and at many positions at once.
use Rattle.std.proofs.Common.{◌≡◌, ℕ, zero, suc, ◌+◌, ◌-◌, ◌*◌, ◌<◌, ◌≤◌, ◌^◌, Bool, true, false, ◌&&◌, not, List, [], ◌∷◌, ◌++◌, length, map, get_or, take, drop, refl, sym, ap, ◌∙◌, subst, arith, length-drop, add-one}
use Rattle.std.specs.Prelude.{◌==◌, nat_le}
use Rattle.std.specs.Bool.{beq}
use Rattle.std.specs.List.{range_with_len, list_all, prefix_len}
use Rattle.std.proofs.lemmas.List.{drop-drop, drop-take, take-take, drop_more, get_or-drop, get_or_append_left, length-take-le}
use Rattle.std.proofs.lemmas.List.FromFn.{get_or-map-range_with_len, length-map-range_with_len}
use Rattle.std.proofs.lemmas.List.Folds.{list_all-append}
use Rattle.std.proofs.lemmas.List.Sums.{prefix_len_passes, prefix_len-le-length}
use Rattle.pdh_packed.specs.Words.{low_bits}
use Rattle.pdh_packed.specs.Places.{both}
use Rattle.pdh_packed.proofs.PackedLaws.{two_parts}
use Rattle.pdh_framed.proofs.Below.{all_below, at_below}
use Rattle.pdh_line.proofs.Ranges.{map-range_same_on, range_push}
use Rattle.pdh_g706.specs.Frames.{bit_of, alignment_signal, has_signal, is_confirmed, frame_of}
use Rattle.pdh_g706.proofs.HeldLaws.{signal_test, has_signal_is, confirmed_is, bit_in_frame}

-- a word that was read
pub read_long : (bits word : List Bool) (start n : ℕ) → start + n ≤ length bits → word ≡ take n (drop start bits) → length word ≡ n
read_long bits word start n room is = ap length is ∙ length-take-le n (drop start bits) (omega (arith, length-drop start bits))

-- ---- as a number

-- tests of places that come out alike
list_all_same : (p q : ℕ → Bool) (a n : ℕ) → ((k : ℕ) → a ≤ k → k < a + n → p k ≡ q k) → list_all p (range_with_len a n) ≡ list_all q (range_with_len a n)
list_all_same p q a zero same = refl
list_all_same p q a (suc n) same =
    ap (λ b. b && list_all p (range_with_len (a + 1) n)) (same a (omega arith) (omega arith))
    ∙ ap (λ b. q a && b) (list_all_same p q (a + 1) n (λ k from lt. same k (omega arith) (omega arith)))

-- it is known by its seven bits
pub signal_same : (a b : List Bool) → ((i : ℕ) → i < 7 → bit_of a (i + 1) ≡ bit_of b (i + 1)) → has_signal a ≡ has_signal b
signal_same a b same =
    has_signal_is a ∙ list_all_same (signal_test a) (signal_test b) 0 7 (λ k from lt. ap (λ x. beq x (bit_of alignment_signal k)) (same k (omega arith))) ∙ sym (has_signal_is b)

alike : (a b : Bool) → beq a b ≡ true → a ≡ b
alike true true same = refl
alike true false same = sym same
alike false true same = same
alike false false same = refl

abbrev reads : ℕ → Bool
reads n = list_all (λ i. beq (bit_of (low_bits 7 n) i) (bit_of alignment_signal i)) (range_with_len 0 7)

numbers_computed : all_below (λ n. beq (n == 27) (reads n)) 128 ≡ true
unfolding low_bits
numbers_computed = refl

pub signal_number : (bits word : List Bool) (start n : ℕ) → start + 256 ≤ length bits → word ≡ take 7 (drop (start + 1) bits) → low_bits (length word) n ≡ word → n < 2 ^ length word → (n == 27) ≡ has_signal (take 256 (drop start bits))
signal_number bits word start n room read written small =
    let frame : List Bool = take 256 (drop start bits) in
    let seven : length word ≡ 7 = read_long bits word (start + 1) 7 (omega arith) read in
    let below : n < 128 = let P : ℕ → Type 0 = λ k. n < 2 ^ k in subst P seven small in
    let is : low_bits 7 n ≡ take 7 (drop (start + 1) bits) = ap (λ (k : ℕ). low_bits k n) (sym seven) ∙ written ∙ read in
    let at : (i : ℕ) → i < 7 → bit_of (low_bits 7 n) i ≡ bit_of frame (i + 1) = λ i lt.
    ap (λ (x : List Bool). bit_of x i) is ∙ bit_in_frame bits (start + 1) i 7 lt ∙ ap (λ k. get_or bits k false) (omega arith) ∙ sym (bit_in_frame bits start (i + 1) 256 (omega arith)) in
    alike (n == 27) (reads n) (at_below (λ m. beq (m == 27) (reads m)) 128 n numbers_computed below)
    ∙ list_all_same (λ i. beq (bit_of (low_bits 7 n) i) (bit_of alignment_signal i)) (signal_test frame) 0 7 (λ k from lt. ap (λ x. beq x (bit_of alignment_signal k)) (at k (omega arith)))
    ∙ sym (has_signal_is frame)

-- ---- at many positions at once

-- bits as those of places
taken_from : (bits : List Bool) (s a n : ℕ) → s + a + n ≤ length bits → take n (drop (s + a) bits) ≡ map (λ p. get_or bits (s + p) false) (range_with_len a n)
taken_from bits s a zero room = refl
taken_from bits s a (suc n) room =
    let next : s + a + 1 ≡ s + (a + 1) = omega arith in
    ap (take (suc n)) (drop_more bits (s + a) false (omega arith)) ∙ ap (λ (x : List Bool). get_or bits (s + a) false ∷ take n x) (ap (λ k. drop k bits) next)
    ∙ ap (λ (x : List Bool). get_or bits (s + a) false ∷ x) (taken_from bits s (a + 1) n (omega arith))

pub taken_at : (bits : List Bool) (s n : ℕ) → s + n ≤ length bits → take n (drop s bits) ≡ map (λ p. get_or bits (s + p) false) (range_with_len 0 n)
taken_at bits s n room =
    let none : s ≡ s + 0 = omega arith in
    ap (λ k. take n (drop k bits)) none ∙ taken_from bits s 0 n (omega arith)

-- the 64 bits that begin some bits after the first of 64, with six behind them
pub moved_on : (bits front behind : List Bool) (s place : ℕ) → place < 7 → s + 71 ≤ length bits → front ≡ take 64 (drop (s + 1) bits) → behind ≡ take 6 (drop (s + 65) bits)
    → drop place front ++ take place behind ≡ take 64 (drop (s + 1 + place) bits)
moved_on bits front behind s place lt room f_is b_is =
    let whole : 64 ≡ place + (64 - place) = omega arith in
    let first : drop place front ≡ take (64 - place) (drop (s + 1 + place) bits) =
    ap (drop place) (f_is ∙ ap (λ k. take k (drop (s + 1) bits)) whole) ∙ drop-take place (64 - place) (drop (s + 1) bits) ∙ ap (take (64 - place)) (drop-drop place (s + 1) bits) in
    let second : take place behind ≡ take place (drop (s + 1 + place + (64 - place)) bits) =
    ap (take place) b_is ∙ take-take place 6 (drop (s + 65) bits) (omega arith) ∙ ap (λ k. take place (drop k bits)) (omega arith) in
    let all : 64 - place + place ≡ 64 = omega arith in
    ap (λ (x : List Bool). x ++ take place behind) first ∙ ap (λ (x : List Bool). take (64 - place) (drop (s + 1 + place) bits) ++ x) second
    ∙ two_parts bits (64 - place) place (s + 1 + place) ∙ ap (λ k. take k (drop (s + 1 + place) bits)) all

equal_maps : (f : ℕ → Bool) (bit : Bool) (xs : List ℕ) → map (λ b. beq b bit) (map f xs) ≡ map (λ x. beq (f x) bit) xs
equal_maps f bit [] = refl
equal_maps f bit (x ∷ xs) = ap (λ (l : List Bool). beq (f x) bit ∷ l) (equal_maps f bit xs)

both_maps : (f g : ℕ → Bool) (xs : List ℕ) → both (map f xs) (map g xs) ≡ map (λ x. f x && g x) xs
both_maps f g [] = refl
both_maps f g (x ∷ xs) = ap (λ (l : List Bool). (f x && g x) ∷ l) (both_maps f g xs)

pub equal_ones : (bits : List Bool) → bits ≡ map (λ b. beq b true) bits
equal_ones [] = refl
equal_ones (true ∷ bits) = ap (λ (l : List Bool). true ∷ l) (equal_ones bits)
equal_ones (false ∷ bits) = ap (λ (l : List Bool). false ∷ l) (equal_ones bits)

pub equal_zeros : (bits : List Bool) → map not bits ≡ map (λ b. beq b false) bits
equal_zeros [] = refl
equal_zeros (true ∷ bits) = ap (λ (l : List Bool). false ∷ l) (equal_zeros bits)
equal_zeros (false ∷ bits) = ap (λ (l : List Bool). true ∷ l) (equal_zeros bits)

-- the first bits of the signal stand in a frame that begins so many bits on
abbrev pub stands_so_far : List Bool → ℕ → ℕ → ℕ → Bool
stands_so_far bits start n p = list_all (signal_test (drop (start + p) bits)) (range_with_len 0 n)

pub signal_bit : (i : ℕ) → get_or (low_bits 7 27) i false ≡ bit_of alignment_signal i
unfolding low_bits
signal_bit i = refl

alone : (b : Bool) → b ≡ (b && true)
alone true = refl
alone false = refl

pub stand_more : (bits now equal : List Bool) (start place : ℕ) (bit : Bool) → place < 7 → start + 71 ≤ length bits → now ≡ map (stands_so_far bits start place) (range_with_len 0 64)
    → equal ≡ map (λ b. beq b bit) (take 64 (drop (start + 1 + place) bits)) → bit ≡ bit_of alignment_signal place → both now equal ≡ map (stands_so_far bits start (place + 1)) (range_with_len 0 64)
stand_more bits now equal start place bit lt room n_is e_is b_is =
    let f : ℕ → Bool = stands_so_far bits start place in
    let g : ℕ → Bool = λ p. get_or bits (start + 1 + place + p) false in
    let e : equal ≡ map (λ p. beq (g p) bit) (range_with_len 0 64) = e_is ∙ ap (map (λ b. beq b bit)) (taken_at bits (start + 1 + place) 64 (omega arith)) ∙ equal_maps g bit (range_with_len 0 64) in
    ap (λ (x : List Bool). both x equal) n_is ∙ ap (both (map f (range_with_len 0 64))) e ∙ both_maps f (λ p. beq (g p) bit) (range_with_len 0 64)
    ∙ map-range_same_on (λ p. f p && beq (g p) bit) (stands_so_far bits start (place + 1)) 0 64 (λ p from near. one p)
  where
    one : (p : ℕ) → (stands_so_far bits start place p && beq (get_or bits (start + 1 + place + p) false) bit) ≡ stands_so_far bits start (place + 1) p
    one p =
        let frame : List Bool = drop (start + p) bits in
        let here : beq (get_or bits (start + 1 + place + p) false) bit ≡ signal_test frame (0 + place) =
        ap (λ k. beq (get_or bits k false) bit) (omega arith) ∙ ap (λ b. beq b bit) (sym (get_or-drop (start + p) bits (place + 1) false)) ∙ ap (beq (bit_of frame (place + 1))) b_is ∙ ap (signal_test frame) (omega arith) in
        ap (λ b. stands_so_far bits start place p && b) (here ∙ alone (signal_test frame (0 + place)))
        ∙ sym (ap (λ k. list_all (signal_test frame) (range_with_len 0 k)) (add-one place) ∙ ap (list_all (signal_test frame)) (range_push 0 place) ∙ list_all-append (signal_test frame) (range_with_len 0 place) ((0 + place) ∷ []))

pub stand_all : (bits : List Bool) (start n : ℕ) → n ≡ 7 → map (stands_so_far bits start n) (range_with_len 0 64) ≡ map (λ p. has_signal (drop (start + p) bits)) (range_with_len 0 64)
stand_all bits start n all =
    ap (λ k. map (stands_so_far bits start k) (range_with_len 0 64)) all
    ∙ map-range_same_on (stands_so_far bits start 7) (λ p. has_signal (drop (start + p) bits)) 0 64 (λ p from near. sym (has_signal_is (drop (start + p) bits)))

-- ---- positions that can't be confirmed

-- a signal in a line that goes on
signal_in : (bits more : List Bool) (p k : ℕ) → p + 256 * k + 8 ≤ length bits → has_signal (frame_of (drop p bits ++ more) k) ≡ has_signal (drop (256 * k + p) bits)
signal_in bits more p k room =
    signal_same (frame_of (drop p bits ++ more) k) (drop (256 * k + p) bits) (λ i lt.
    bit_in_frame (drop p bits ++ more) (256 * k) (i + 1) 256 (omega arith) ∙ get_or_append_left (drop p bits) more false (256 * k + (i + 1)) (omega (arith, length-drop p bits))
    ∙ get_or-drop p bits (256 * k + (i + 1)) false ∙ ap (λ n. get_or bits n false) (omega arith) ∙ sym (get_or-drop (256 * k + p) bits (i + 1) false))

pub never_confirmed : (bits more : List Bool) (p : ℕ) → p < 64 → 767 ≤ length bits → (has_signal (drop (0 + p) bits) && get_or bits (257 + p) false && has_signal (drop (512 + p) bits)) ≡ false
    → is_confirmed (drop p bits ++ more) ≡ false
never_confirmed bits more p near long wrong =
    let x : List Bool = drop p bits ++ more in
    let a : has_signal (frame_of x 0) ≡ has_signal (drop (0 + p) bits) = signal_in bits more p 0 (omega arith) ∙ ap (λ n. has_signal (drop n bits)) (omega arith) in
    let b : bit_of (frame_of x 1) 1 ≡ get_or bits (257 + p) false =
    bit_in_frame x 256 1 256 (omega arith) ∙ get_or_append_left (drop p bits) more false 257 (omega (arith, length-drop p bits)) ∙ get_or-drop p bits 257 false ∙ ap (λ n. get_or bits n false) (omega arith) in
    let d : has_signal (frame_of x 2) ≡ has_signal (drop (512 + p) bits) = signal_in bits more p 2 (omega arith) in
    confirmed_is x ∙ whatever (nat_le 768 (length x)) (has_signal (frame_of x 0)) (bit_of (frame_of x 1) 1) (has_signal (frame_of x 2))
    (ap (λ b. b && bit_of (frame_of x 1) 1 && has_signal (frame_of x 2)) a ∙ ap (λ y. has_signal (drop (0 + p) bits) && y && has_signal (frame_of x 2)) b
    ∙ ap (λ y. has_signal (drop (0 + p) bits) && get_or bits (257 + p) false && y) d ∙ wrong)
  where
    whatever : (l a b c : Bool) → (a && b && c) ≡ false → (l && a && b && c) ≡ false
    whatever true a b c h = h
    whatever false a b c h = refl

-- a zero among those that a word begins with
zero_before : (f : ℕ → Bool) (xs : List Bool) (p : ℕ) → xs ≡ map f (range_with_len 0 64) → p < prefix_len not xs → p < 64 → f p ≡ false
zero_before f xs p is lt near =
    let passes : not (get_or xs p false) ≡ true = prefix_len_passes not xs p false lt in
    sym (ap (λ (x : List Bool). get_or x p false) is ∙ get_or-map-range_with_len f 0 64 p p false near (omega arith)) ∙ zero_is (get_or xs p false) passes
  where
    zero_is : (b : Bool) → not b ≡ true → b ≡ false
    zero_is true h = sym h
    zero_is false h = refl

pub map_long : (f : ℕ → Bool) (xs : List Bool) → xs ≡ map f (range_with_len 0 64) → length xs ≡ 64
map_long f xs is = ap length is ∙ length-map-range_with_len f 0 64

pub few_zeros : (f : ℕ → Bool) (xs : List Bool) → xs ≡ map f (range_with_len 0 64) → prefix_len not xs ≤ 64
few_zeros f xs is = omega (arith, prefix_len-le-length not xs, map_long f xs is)

pub both_long : (f g : ℕ → Bool) (xs ys : List Bool) → xs ≡ map f (range_with_len 0 64) → ys ≡ map g (range_with_len 0 64) → length (both xs ys) ≡ 64
both_long f g xs ys xs_are ys_are =
    map_long (λ x. f x && g x) (both xs ys) (ap (λ (x : List Bool). both x ys) xs_are ∙ ap (both (map f (range_with_len 0 64))) ys_are ∙ both_maps f g (range_with_len 0 64))

-- the first signal stands at no position
pub none_first : (bits first more : List Bool) (p : ℕ) → 767 ≤ length bits → first ≡ map (λ p. has_signal (drop (0 + p) bits)) (range_with_len 0 64) → 64 ≡ prefix_len not first → p < 64 → is_confirmed (drop p bits ++ more) ≡ false
none_first bits first more p long is all near =
    let wrong : has_signal (drop (0 + p) bits) ≡ false = zero_before (λ p. has_signal (drop (0 + p) bits)) first p is (omega arith) near in
    never_confirmed bits more p near long (ap (λ b. b && get_or bits (257 + p) false && has_signal (drop (512 + p) bits)) wrong)

-- what stands at each position
abbrev pub looks : List Bool → ℕ → Bool
looks bits p = has_signal (drop (0 + p) bits) && get_or bits (257 + p) false && has_signal (drop (512 + p) bits)

pub looks_are : (bits first second third : List Bool) → 767 ≤ length bits → first ≡ map (λ p. has_signal (drop (0 + p) bits)) (range_with_len 0 64) → second ≡ take 64 (drop 257 bits)
    → third ≡ map (λ p. has_signal (drop (512 + p) bits)) (range_with_len 0 64) → both (both first second) third ≡ map (looks bits) (range_with_len 0 64)
looks_are bits first second third long f_is s_is t_is =
    let s : second ≡ map (λ p. get_or bits (257 + p) false) (range_with_len 0 64) = s_is ∙ taken_at bits 257 64 (omega arith) in
    let r : List ℕ = range_with_len 0 64 in
    ap (λ (x : List Bool). both (both x second) third) f_is ∙ ap (λ (x : List Bool). both (both (map (λ p. has_signal (drop (0 + p) bits)) r) x) third) s
    ∙ ap (λ (x : List Bool). both x third) (both_maps (λ p. has_signal (drop (0 + p) bits)) (λ p. get_or bits (257 + p) false) r)
    ∙ ap (both (map (λ p. has_signal (drop (0 + p) bits) && get_or bits (257 + p) false) r)) t_is
    ∙ both_maps (λ p. has_signal (drop (0 + p) bits) && get_or bits (257 + p) false) (λ p. has_signal (drop (512 + p) bits)) r

pub none_before : (bits all more : List Bool) (p : ℕ) → 767 ≤ length bits → all ≡ map (looks bits) (range_with_len 0 64) → p < prefix_len not all → is_confirmed (drop p bits ++ more) ≡ false
none_before bits all more p long is lt =
    let near : p < 64 = omega (arith, few_zeros (looks bits) all is) in
    never_confirmed bits more p near long (zero_before (looks bits) all p is lt near)
