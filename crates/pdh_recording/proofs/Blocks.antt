-- Blocks of the bits of bytes.
use Rattle.std.proofs.Common.{◌≡◌, ℕ, zero, suc, ◌+◌, ◌-◌, ◌*◌, ◌<◌, ◌≤◌, ◌⊎◌, inl, inr, min, Bool, true, false, not, if◌then◌else◌, List, [], ◌∷◌, ◌++◌, length, take, drop, refl, sym, ap, ◌∙◌, arith, append-nil, length-append, length-drop}
use Rattle.std.proofs.lemmas.List.{length-map, map-append, take_all, take-append-le, drop-append-le}
use Rattle.std.proofs.lemmas.List.Concat.{flat_map-append}
use Rattle.std.proofs.Math.Seq.{take-append-add}
use Rattle.pdh_bits.specs.Bits.{bits_of}
use Rattle.pdh_bits.proofs.BitsLemmas.{bits_of-append, length-bits_of}
use Rattle.pdh_readings.specs.Orders.{reversed_byte, reversed_bits, turned, read_as}
use Rattle.pdh_readings.specs.declared.bit_order.BitOrder.{BitOrder}
use Rattle.pdh_recording.specs.Given.{recorded}

-- one number is no greater than another, or greater
pub split : (a b : ℕ) → (a ≤ b) ⊎ (b < a)
split zero b = inl (omega arith)
split (suc a) zero = inr (omega arith)
split (suc a) (suc b) = elim (split a b) [ inl le ↦ inl (omega (arith, le)) | inr lt ↦ inr (omega (arith, lt)) ]

reversed_length : (bytes : List ℕ) → length (reversed_bits bytes) ≡ 8 * length bytes
reversed_length [] = refl
reversed_length (byte ∷ bytes) = omega (arith, length-append (reversed_byte byte) (reversed_bits bytes), reversed_length bytes)

turned_joined : (inverted : Bool) (xs ys : List Bool) → turned inverted (xs ++ ys) ≡ turned inverted xs ++ turned inverted ys
turned_joined true xs ys = map-append not xs ys
turned_joined false xs ys = refl

turned_length : (inverted : Bool) (xs : List Bool) → length (turned inverted xs) ≡ length xs
turned_length true xs = length-map xs not
turned_length false xs = refl

plain_joined : (lsb_first : Bool) (xs ys : List ℕ)
    → (if lsb_first then reversed_bits (xs ++ ys) else bits_of (xs ++ ys)) ≡ (if lsb_first then reversed_bits xs else bits_of xs) ++ (if lsb_first then reversed_bits ys else bits_of ys)
plain_joined true xs ys = flat_map-append reversed_byte xs ys
plain_joined false xs ys = bits_of-append xs ys

plain_length : (lsb_first : Bool) (xs : List ℕ) → length (if lsb_first then reversed_bits xs else bits_of xs) ≡ 8 * length xs
plain_length true xs = reversed_length xs
plain_length false xs = length-bits_of xs

pub read_joined : (order : BitOrder) (xs ys : List ℕ) → read_as order (xs ++ ys) ≡ read_as order xs ++ read_as order ys
read_joined order xs ys =
    ap (turned order.inverted) (plain_joined order.lsb_first xs ys)
    ∙ turned_joined order.inverted (if order.lsb_first then reversed_bits xs else bits_of xs) (if order.lsb_first then reversed_bits ys else bits_of ys)

pub read_length : (order : BitOrder) (xs : List ℕ) → length (read_as order xs) ≡ 8 * length xs
read_length order xs =
    turned_length order.inverted (if order.lsb_first then reversed_bits xs else bits_of xs) ∙ plain_length order.lsb_first xs

-- the first bits of two lists are those of the first one, and then of the other
taken_joined : (n k : ℕ) (xs ys : List Bool) → k ≡ min (length xs) n → take n (xs ++ ys) ≡ take k xs ++ take (n - k) ys
taken_joined n k xs ys least = elim (split n (length xs)) [
  | inl le ↦
      let same : k ≡ n = omega (arith, least, le) in
      let none : n - k ≡ 0 = omega (arith, least, le) in
      take-append-le n xs ys le ∙ ap (λ (m : ℕ). take m xs) (sym same) ∙ sym (append-nil (take k xs)) ∙ ap (λ (m : ℕ). take k xs ++ take m ys) (sym none)
  | inr lt ↦
      let same : k ≡ length xs = omega (arith, least, lt) in
      let whole : n ≡ length xs + (n - k) = omega (arith, least, lt) in
      let all : take k xs ≡ xs = take_all k xs (omega (arith, same)) in
      ap (λ (m : ℕ). take m (xs ++ ys)) whole ∙ take-append-add xs ys (n - k) ∙ ap (λ (l : List Bool). l ++ take (n - k) ys) (sym all)
]

-- bits of bytes that begin with a block whose bits aren't all passed over
pub block_given : (order : BitOrder) (skip left count : ℕ) (block rest : List ℕ) → skip ≤ 8 * length block → count ≡ min (8 * length block - skip) left
    → recorded order skip left (block ++ rest) ≡ take count (drop skip (read_as order block)) ++ recorded order 0 (left - count) rest
block_given order skip left count block rest within least =
    let mine = read_as order block in
    let long : length mine ≡ 8 * length block = read_length order block in
    let cut : length (drop skip mine) ≡ 8 * length block - skip = omega (arith, length-drop skip mine, long) in
    ap (λ (l : List Bool). take left (drop skip l)) (read_joined order block rest)
    ∙ ap (take left) (drop-append-le skip mine (read_as order rest) (omega (arith, within, long)))
    ∙ taken_joined left count (drop skip mine) (read_as order rest) (omega (arith, least, cut))
