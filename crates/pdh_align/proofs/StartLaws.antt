-- The candidates of a search by slots, as words.
use Rattle.std.proofs.Common.{◌≡◌, ℕ, zero, suc, ◌+◌, ◌-◌, ◌*◌, ◌/◌, ◌^◌, ◌<◌, ◌≤◌, Bool, true, false, ◌&&◌, not, eqb, min, bit_and, List, length, take, drop, get_or, refl, sym, ap, ◌∙◌, arith}
use Rattle.std.specs.Bool.{beq}
use Rattle.std.specs.Int.{bit_at, bit_not}
use Rattle.std.proofs.lemmas.List.{get_or-take, get_or-drop, take-append-drop, drop-drop}
use Rattle.std.proofs.lemmas.List.Folds.{list_all-append, list_all_more}
use Rattle.std.proofs.lemmas.Nat.Bits.{bit_at_and, bit_at_not, bit_at-lt, bit_at-zero, bit_at_ones, ones_shr}
use mir.Syntax.{w64}
use Rattle.pdh_bits.specs.Bits.{bit}
use Rattle.pdh_packed.specs.Words.{low_bits}
use Rattle.pdh_packed.specs.WordLaws.{get_or_low}
use Rattle.pdh_shape.specs.Frame.{FrameShape, is_right}
use Rattle.pdh_line.specs.Tracking.{frame_of}
use Rattle.pdh_align.specs.declared.signals.Signal.{Signal}
use Rattle.pdh_align.specs.Signals.{AreSignals}
use Rattle.pdh_align.specs.Searching.{two_right}
use Rattle.pdh_align.proofs.SignalLaws.{has_bit, agrees, agrees_right, signal_read}

-- ---- bits of numbers

both : (x y : ℕ) → x < 2 → y < 2 → eqb (min x y) 1 ≡ (eqb x 1 && eqb y 1)
both zero zero h h' = refl
both zero (suc zero) h h' = refl
both (suc zero) zero h h' = refl
both (suc zero) (suc zero) h h' = refl
both (suc (suc x)) y h h' = absurd (omega arith)
both zero (suc (suc y)) h h' = absurd (omega arith)
both (suc zero) (suc (suc y)) h h' = absurd (omega arith)

and_bit : (a b k : ℕ) → bit (bit_and a b) k ≡ (bit a k && bit b k)
and_bit a b k = ap (λ v. eqb v 1) (bit_at_and a b k) ∙ both (bit_at a k) (bit_at b k) (bit_at-lt a k) (bit_at-lt b k)

turned : (x : ℕ) → x < 2 → eqb (1 - x) 1 ≡ beq (eqb x 1) false
turned zero h = refl
turned (suc zero) h = refl
turned (suc (suc x)) h = absurd (omega arith)

-- the bits of a number that are 0, as ones
pub not_bit : (n k : ℕ) → n < 2 ^ 64 → k < 64 → bit (bit_not w64 n) k ≡ beq (bit n k) false
not_bit n k small within = ap (λ v. eqb v 1) (bit_at_not w64 n k small within) ∙ turned (bit_at n k) (bit_at-lt n k)

pub same_bit : (b : Bool) → b ≡ beq b true
same_bit true = refl
same_bit false = refl

-- ones alone
pub ones_small : (count : ℕ) → count ≤ 64 → (2 ^ 64 - 1) / 2 ^ (64 - count) ≡ 2 ^ count - 1
ones_small count few = ones_shr 64 (64 - count) (omega arith) ∙ ap (λ k. 2 ^ k - 1) (omega (arith, few))

pub ones_bit : (word : List Bool) (count i n : ℕ) → n ≡ 2 ^ count - 1 → word ≡ low_bits count n → i < count → get_or word i false ≡ true
ones_bit word count i n is read h =
    ap (λ (x : List Bool). get_or x i false) read ∙ get_or_low i count n false h ∙ ap (λ n. bit n (count - 1 - i)) is ∙ ap (λ v. eqb v 1) (bit_at_ones count (count - 1 - i) (omega arith))

-- ---- candidates

-- those that are left where a number's bits are as these are
pub kept_at : (candidates bits left : List Bool) (x y others : ℕ) (value : Bool) (i : ℕ) → length bits ≡ length candidates → length candidates ≤ 64 → low_bits (length candidates) x ≡ candidates → low_bits (length bits) y ≡ bits
    → left ≡ low_bits (length candidates) (bit_and x others) → ((k : ℕ) → k < 64 → bit others k ≡ beq (bit y k) value) → i < length candidates
    → get_or left i false ≡ (get_or candidates i false && beq (get_or bits i false) value)
kept_at candidates bits left x y others value i long few first second is each h =
    let n : ℕ = length candidates in
    let k : ℕ = n - 1 - i in
    let a : bit x k ≡ get_or candidates i false = sym (get_or_low i n x false h) ∙ ap (λ (w : List Bool). get_or w i false) first in
    let b : bit y k ≡ get_or bits i false = sym (get_or_low i n y false h) ∙ ap (λ m. get_or (low_bits m y) i false) (sym long) ∙ ap (λ (w : List Bool). get_or w i false) second in
    ap (λ (w : List Bool). get_or w i false) is ∙ get_or_low i n (bit_and x others) false h ∙ and_bit x others k ∙ ap (λ v. bit x k && v) (each k (omega (arith, few, h)))
    ∙ ap (λ v. v && beq (bit y k) value) a ∙ ap (λ v. get_or candidates i false && beq v value) b

-- none is left
pub none_left : (word : List Bool) (n i : ℕ) → low_bits (length word) n ≡ word → n ≡ 0 → i < length word → get_or word i false ≡ false
none_left word n i written none h =
    ap (λ (w : List Bool). get_or w i false) (sym written) ∙ get_or_low i (length word) n false h ∙ ap (λ n. bit n (length word - 1 - i)) none ∙ ap (λ v. eqb v 1) (bit_at-zero (length word - 1 - i))

-- ---- alignment slots

-- a frame in which some slot so far is wrong isn't right
slots_fail : (s : FrameShape) (slots : List Signal) (j : ℕ) (frame : List Bool) → AreSignals s slots → agrees s (take j slots) frame ≡ false → is_right s frame ≡ false
slots_fail s slots j frame are fails =
    sym (agrees_right s slots frame are) ∙ ap (λ x. agrees s x frame) (sym (take-append-drop j slots)) ∙ list_all-append (has_bit s frame) (take j slots) (drop j slots) ∙ ap (λ b. b && agrees s (drop j slots) frame) fails

-- so isn't one that was no candidate
pub candidates_fail : (s : FrameShape) (slots : List Signal) (j : ℕ) (frame : List Bool) (candidate : Bool) → AreSignals s slots → (candidate && agrees s (take j slots) frame) ≡ false → (candidate && is_right s frame) ≡ false
candidates_fail s slots j frame false are fails = refl
candidates_fail s slots j frame true are fails = slots_fail s slots j frame are fails

twice : (b : Bool) → not (not b) ≡ b
twice true = refl
twice false = refl

-- with one more slot, whose bits of 64 positions are read at once
pub slots_more : (s : FrameShape) (slots : List Signal) (bits word : List Bool) (start count len i j : ℕ) (d : Signal) → AreSignals s slots → s.len ≡ len → j < length slots → i < count
    → word ≡ take count (drop (start + (get_or slots j d).slot) bits)
    → agrees s (take (j + 1) slots) (take len (drop (start + i) bits)) ≡ (agrees s (take j slots) (take len (drop (start + i) bits)) && beq (get_or word i false) (get_or slots j d).bit)
slots_more s slots bits word start count len i j d are e within h read =
    let frame : List Bool = take len (drop (start + i) bits) in
    let slot : ℕ = (get_or slots j d).slot in
    let b : Bool = get_or word i false in
    let at : b ≡ get_or bits (start + i + slot) false =
    ap (λ (w : List Bool). get_or w i false) read ∙ get_or-take count (drop (start + slot) bits) i false h ∙ get_or-drop (start + slot) bits i false ∙ ap (λ n. get_or bits n false) (omega arith) in
    list_all_more (has_bit s frame) slots j d within
    ∙ ap (λ v. agrees s (take j slots) frame && v) (signal_read s slots bits (start + i) len j d b (not (beq b (get_or slots j d).bit)) are e within at refl ∙ twice (beq b (get_or slots j d).bit))

-- ---- two frames

-- a frame and the one a frame's length later
pub two_frames : (s : FrameShape) (bits : List Bool) (place later len : ℕ) → s.len ≡ len → later ≡ place + len
    → (is_right s (take len (drop place bits)) && is_right s (take len (drop later bits))) ≡ two_right s bits place
two_frames s bits place later len same is =
    let rest : List Bool = drop place bits in
    let none : 0 ≡ 0 * s.len = omega arith in
    let next : later ≡ place + 1 * s.len = omega (arith, is, same) in
    let first : take len rest ≡ frame_of s rest 0 = ap (λ n. take n rest) (sym same) ∙ ap (λ n. take s.len (drop n rest)) none in
    let second : take len (drop later bits) ≡ frame_of s rest 1 =
    ap (λ n. take n (drop later bits)) (sym same) ∙ ap (λ n. take s.len (drop n bits)) next ∙ ap (take s.len) (sym (drop-drop (1 * s.len) place bits)) in
    ap (λ x. is_right s x && is_right s (take len (drop later bits))) first ∙ ap (λ x. is_right s (frame_of s rest 0) && is_right s x) second
