-- The bits of bytes and the whole bytes of bits, piece by piece and both ways.
use Rattle.std.proofs.Common.{◌≡◌, ℕ, zero, suc, ◌+◌, ◌-◌, ◌*◌, ◌/◌, ◌%◌, ◌<◌, ◌≤◌, Bool, List, [], ◌∷◌, ◌++◌, length, take, drop, get_or, set, append_assoc, All, Fits, w8, refl, sym, ◌∙◌, ap, arith, length-drop, length-take}
use Rattle.std.proofs.lemmas.List.{drop-drop, drop_all, get_or-drop, drop_more, take_more, set_at, take_all, take-append-drop}
use Rattle.std.proofs.lemmas.List.Concat.{flat_map-append}
use Rattle.std.proofs.lemmas.List.Elements.{All-nil, All-cons, All-tail, All-from_get_or}
use Rattle.std.proofs.Math.Nat.{add-zero}
use Rattle.std.proofs.Math.Seq.{take-add}
use Rattle.std.specs.List.{slice_range}
use Rattle.pdh_bits.specs.Bits.{bits_of_byte, bits_of, number_of, bytes_of}
use Rattle.pdh_bits.proofs.NumberLemmas.{number_of_lt, number_of-bits_of_byte, bits_of_byte-number_of}

-- one byte before others
pub bits_of-cons : (byte : ℕ) (bytes : List ℕ) → bits_of (byte ∷ bytes) ≡ bits_of_byte byte ++ bits_of bytes
bits_of-cons byte bytes = refl

-- bytes after others
pub bits_of-append : (xs ys : List ℕ) → bits_of (xs ++ ys) ≡ bits_of xs ++ bits_of ys
bits_of-append xs ys = flat_map-append bits_of_byte xs ys

-- a byte is eight bits
pub length-bits_of : (bytes : List ℕ) → length (bits_of bytes) ≡ 8 * length bytes
length-bits_of [] = refl
length-bits_of (byte ∷ bytes) = omega (arith, length-bits_of bytes)

-- eight bits and more begin with a byte
pub bytes_of-front : (bits : List Bool) → 8 ≤ length bits → bytes_of bits ≡ number_of (take 8 bits) ∷ bytes_of (drop 8 bits)
bytes_of-front (b7 ∷ b6 ∷ b5 ∷ b4 ∷ b3 ∷ b2 ∷ b1 ∷ b0 ∷ rest) enough = refl
bytes_of-front bits enough = absurd (omega arith)

-- fewer than eight bits are no byte
pub bytes_of-short : (bits : List Bool) → length bits < 8 → bytes_of bits ≡ []
bytes_of-short (b7 ∷ b6 ∷ b5 ∷ b4 ∷ b3 ∷ b2 ∷ b1 ∷ b0 ∷ rest) short = absurd (omega arith)
bytes_of-short bits short = refl

-- eight bits are a byte
pub length-bytes_of : (bits : List Bool) → length (bytes_of bits) ≡ length bits / 8
length-bytes_of (b7 ∷ b6 ∷ b5 ∷ b4 ∷ b3 ∷ b2 ∷ b1 ∷ b0 ∷ rest) = omega (arith, length-bytes_of rest)
length-bytes_of bits = refl

-- bits after bits that fill their bytes
pub bytes_of-append : (bits more : List Bool) → length bits % 8 ≡ 0 → bytes_of (bits ++ more) ≡ bytes_of bits ++ bytes_of more
bytes_of-append [] more whole = refl
bytes_of-append (b7 ∷ b6 ∷ b5 ∷ b4 ∷ b3 ∷ b2 ∷ b1 ∷ b0 ∷ rest) more whole =
    ap (λ (bytes : List ℕ). number_of (b7 ∷ b6 ∷ b5 ∷ b4 ∷ b3 ∷ b2 ∷ b1 ∷ b0 ∷ []) ∷ bytes) (bytes_of-append rest more (omega arith))
bytes_of-append bits more whole = absurd (omega arith)

-- bits from a byte's first bit on are the bytes from that byte on
pub bytes_of-drop : (n : ℕ) (bits : List Bool) → bytes_of (drop (8 * n) bits) ≡ drop n (bytes_of bits)
bytes_of-drop zero bits = refl
bytes_of-drop (suc n) (b7 ∷ b6 ∷ b5 ∷ b4 ∷ b3 ∷ b2 ∷ b1 ∷ b0 ∷ rest) =
    let bits : List Bool = b7 ∷ b6 ∷ b5 ∷ b4 ∷ b3 ∷ b2 ∷ b1 ∷ b0 ∷ rest in
    let far : 8 * suc n ≡ 8 + 8 * n = omega arith in
    let after : drop (8 * n) rest ≡ drop (8 + 8 * n) bits = drop-drop (8 * n) 8 bits in
    ap (λ (i : ℕ). bytes_of (drop i bits)) far ∙ sym (ap bytes_of after) ∙ bytes_of-drop n rest
bytes_of-drop (suc n) bits = ap bytes_of (drop_all (8 * suc n) bits (omega arith))

-- bits up to a byte's last bit are the bytes up to that byte
pub bytes_of-take : (n : ℕ) (bits : List Bool) → bytes_of (take (8 * n) bits) ≡ take n (bytes_of bits)
bytes_of-take zero bits = refl
bytes_of-take (suc n) (b7 ∷ b6 ∷ b5 ∷ b4 ∷ b3 ∷ b2 ∷ b1 ∷ b0 ∷ rest) =
    let eight : List Bool = b7 ∷ b6 ∷ b5 ∷ b4 ∷ b3 ∷ b2 ∷ b1 ∷ b0 ∷ [] in
    let bits : List Bool = eight ++ rest in
    let far : 8 * suc n ≡ 8 + 8 * n = omega arith in
    let first : take (8 + 8 * n) bits ≡ eight ++ take (8 * n) rest = take-add 8 (8 * n) bits in
    ap (λ (i : ℕ). bytes_of (take i bits)) far ∙ ap bytes_of first ∙ ap (λ (bytes : List ℕ). number_of eight ∷ bytes) (bytes_of-take n rest)
bytes_of-take (suc n) bits = ap bytes_of (take_all (8 * suc n) bits (omega arith))

-- some whole bytes, and then the whole bytes of the bits that are left
pub take-bytes_of : (n : ℕ) (bits : List Bool) → take n (bytes_of bits) ++ bytes_of (drop (8 * n) bits) ≡ bytes_of bits
take-bytes_of n bits = rw bytes_of-drop (take-append-drop n (bytes_of bits))

-- each of them is a byte
pub All-bytes_of : (bits : List Bool) → All (λ byte. byte < 256) (bytes_of bits)
All-bytes_of (b7 ∷ b6 ∷ b5 ∷ b4 ∷ b3 ∷ b2 ∷ b1 ∷ b0 ∷ rest) =
    All-cons (λ byte. byte < 256) _ (bytes_of rest) (number_of_lt (b7 ∷ b6 ∷ b5 ∷ b4 ∷ b3 ∷ b2 ∷ b1 ∷ b0 ∷ [])) (All-bytes_of rest)
All-bytes_of bits = All-nil (λ byte. byte < 256)

-- one more byte written over what is left of a list
pub set-take-drop : (bytes into : List ℕ) (i : ℕ) → i < length bytes → i < length into → set (take i bytes ++ drop i into) i (get_or bytes i 0) ≡ take (i + 1) bytes ++ drop (i + 1) into
set-take-drop bytes into i more room =
    let byte : ℕ = get_or bytes i 0 in
    let old : drop i into ≡ get_or into i 0 ∷ drop (i + 1) into = drop_more into i 0 room in
    let new : take (i + 1) bytes ≡ take i bytes ++ byte ∷ [] = take_more bytes i 0 more in
    let put : set (take i bytes ++ get_or into i 0 ∷ drop (i + 1) into) i byte ≡ take i bytes ++ byte ∷ drop (i + 1) into =
    set_at (take i bytes) (get_or into i 0) (drop (i + 1) into) byte i (omega (arith, length-take i bytes)) in
    rw (old, new, append_assoc) put

-- the byte at a place is the number of its eight bits
pub get_or-bytes_of : (bits : List Bool) (i d : ℕ) → 8 * i + 8 ≤ length bits → get_or (bytes_of bits) i d ≡ number_of (slice_range bits (8 * i) (8 * i + 8))
get_or-bytes_of bits i d enough =
    let from : List Bool = drop (8 * i) bits in
    let eight : 8 * i + 8 - 8 * i ≡ 8 = omega arith in
    let front : bytes_of from ≡ number_of (take 8 from) ∷ bytes_of (drop 8 from) =
    bytes_of-front from (omega (arith, length-drop (8 * i) bits)) in
    let first : get_or (drop i (bytes_of bits)) 0 d ≡ number_of (take 8 from) =
    ap (λ (bytes : List ℕ). get_or bytes 0 d) (sym (bytes_of-drop i bits) ∙ front) in
    let at : get_or (drop i (bytes_of bits)) 0 d ≡ get_or (bytes_of bits) i d =
    get_or-drop i (bytes_of bits) 0 d ∙ ap (λ (k : ℕ). get_or (bytes_of bits) k d) (add-zero i) in
    rw eight (sym at ∙ first)

-- numbers of the type `u8` are bytes: in an answer, `fits` is the `c.type_inv` of a slice of them
pub All-from_fits : (bytes : List ℕ) → ((k : ℕ) → Fits w8 (get_or bytes k 0)) → All (λ byte. byte < 256) bytes
All-from_fits bytes fits = All-from_get_or (λ byte. byte < 256) bytes 0 (λ k within. (fits k).fits)

-- the whole bytes of the bits of bytes are these bytes
pub bytes_of-bits_of : (bytes : List ℕ) → All (λ byte. byte < 256) bytes → bytes_of (bits_of bytes) ≡ bytes
bytes_of-bits_of [] small = refl
bytes_of-bits_of (byte ∷ bytes) small =
    let first : number_of (bits_of_byte byte) ≡ byte = number_of-bits_of_byte byte (small 0 0 (omega arith)) in
    let rest : bytes_of (bits_of bytes) ≡ bytes = bytes_of-bits_of bytes (All-tail (λ b. b < 256) byte bytes small) in
    cc

-- the bits of the whole bytes of bits are these bits, where they fill their bytes
pub bits_of-bytes_of : (bits : List Bool) → length bits % 8 ≡ 0 → bits_of (bytes_of bits) ≡ bits
bits_of-bytes_of [] whole = refl
bits_of-bytes_of (b7 ∷ b6 ∷ b5 ∷ b4 ∷ b3 ∷ b2 ∷ b1 ∷ b0 ∷ rest) whole =
    let first : bits_of_byte (number_of (b7 ∷ b6 ∷ b5 ∷ b4 ∷ b3 ∷ b2 ∷ b1 ∷ b0 ∷ [])) ≡ b7 ∷ b6 ∷ b5 ∷ b4 ∷ b3 ∷ b2 ∷ b1 ∷ b0 ∷ [] =
    bits_of_byte-number_of b7 b6 b5 b4 b3 b2 b1 b0 in
    ap (λ (eight : List Bool). eight ++ bits_of (bytes_of rest)) first ∙ ap (λ (bits : List Bool). b7 ∷ b6 ∷ b5 ∷ b4 ∷ b3 ∷ b2 ∷ b1 ∷ b0 ∷ bits) (bits_of-bytes_of rest (omega arith))
bits_of-bytes_of bits whole = absurd (omega arith)
