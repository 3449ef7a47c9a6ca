-- The bits of bytes as those of one number.
use Rattle.std.proofs.Common.{◌≡◌, ℕ, zero, suc, ◌+◌, ◌-◌, ◌*◌, ◌/◌, ◌%◌, ◌^◌, ◌<◌, ◌≤◌, Bool, List, [], ◌∷◌, ◌++◌, length, take, drop, get_or, append_assoc, All, refl, sym, ◌∙◌, ap, subst, arith, length-take, length-drop}
use Rattle.std.proofs.lemmas.List.{drop_more, drop-drop, take_at, drop_at, append-nil}
use Rattle.std.proofs.lemmas.List.Elements.{All-from_get_or}
use Rattle.std.proofs.Math.Seq.{take-add}
use borrow.Rule.Slice.PartMut.{put_mid}
use Rattle.pdh_bits.specs.Bits.{bits_of_byte, bits_of, bytes_of, number_of}
use Rattle.pdh_bits.proofs.BitsLemmas.{bits_of-append, length-bits_of, bytes_of-bits_of, bytes_of-drop, get_or-bytes_of}
use Rattle.pdh_packed.specs.Words.{low_bits}
use Rattle.pdh_packed.specs.WordLaws.{low_bits-join, low_bits_byte, low_bits-front, low_bits-mod, number_of-low_bits}

-- a byte before the bits of a number
byte_before : (m a b : ℕ) (bits : List Bool) → b < 2 ^ m → low_bits m b ≡ bits → low_bits (8 + m) (a * 2 ^ m + b) ≡ bits_of_byte a ++ bits
byte_before m a b bits small is =
    low_bits-join 8 m a b small ∙ ap (λ (first : List Bool). first ++ low_bits m b) (low_bits_byte a) ∙ ap (λ (rest : List Bool). bits_of_byte a ++ rest) is

pub eight_bytes : (a b c d e f g h n : ℕ) → a < 256 → b < 256 → c < 256 → d < 256 → e < 256 → f < 256 → g < 256 → h < 256
    → n ≡ a * 2 ^ 56 + (b * 2 ^ 48 + (c * 2 ^ 40 + (d * 2 ^ 32 + (e * 2 ^ 24 + (f * 2 ^ 16 + (g * 2 ^ 8 + h))))))
    → low_bits 64 n ≡ bits_of (a ∷ b ∷ c ∷ d ∷ e ∷ f ∷ g ∷ h ∷ [])
eight_bytes a b c d e f g h n sa sb sc sd se sf sg sh whole =
    let n7 : ℕ = h in
    let n6 : ℕ = g * 2 ^ 8 + n7 in
    let n5 : ℕ = f * 2 ^ 16 + n6 in
    let n4 : ℕ = e * 2 ^ 24 + n5 in
    let n3 : ℕ = d * 2 ^ 32 + n4 in
    let n2 : ℕ = c * 2 ^ 40 + n3 in
    let n1 : ℕ = b * 2 ^ 48 + n2 in
    let is7 : low_bits 8 n7 ≡ bits_of (h ∷ []) = low_bits_byte h in
    let is6 : low_bits 16 n6 ≡ bits_of (g ∷ h ∷ []) = byte_before 8 g n7 (bits_of (h ∷ [])) (omega arith) is7 in
    let is5 : low_bits 24 n5 ≡ bits_of (f ∷ g ∷ h ∷ []) = byte_before 16 f n6 (bits_of (g ∷ h ∷ [])) (omega arith) is6 in
    let is4 : low_bits 32 n4 ≡ bits_of (e ∷ f ∷ g ∷ h ∷ []) = byte_before 24 e n5 (bits_of (f ∷ g ∷ h ∷ [])) (omega arith) is5 in
    let is3 : low_bits 40 n3 ≡ bits_of (d ∷ e ∷ f ∷ g ∷ h ∷ []) = byte_before 32 d n4 (bits_of (e ∷ f ∷ g ∷ h ∷ [])) (omega arith) is4 in
    let is2 : low_bits 48 n2 ≡ bits_of (c ∷ d ∷ e ∷ f ∷ g ∷ h ∷ []) = byte_before 40 c n3 (bits_of (d ∷ e ∷ f ∷ g ∷ h ∷ [])) (omega arith) is3 in
    let is1 : low_bits 56 n1 ≡ bits_of (b ∷ c ∷ d ∷ e ∷ f ∷ g ∷ h ∷ []) = byte_before 48 b n2 (bits_of (c ∷ d ∷ e ∷ f ∷ g ∷ h ∷ [])) (omega arith) is2 in
    ap (low_bits 64) whole ∙ byte_before 56 a n1 (bits_of (b ∷ c ∷ d ∷ e ∷ f ∷ g ∷ h ∷ [])) (omega arith) is1

-- bytes after those that came before
pub bytes_more : (mine word : List Bool) (bytes : List ℕ) (i n : ℕ) → word ≡ bits_of (take n (drop i bytes)) → mine ++ bits_of (take (i + n) bytes) ≡ (mine ++ bits_of (take i bytes)) ++ word
bytes_more mine word bytes i n is =
    let both : bits_of (take (i + n) bytes) ≡ bits_of (take i bytes) ++ bits_of (take n (drop i bytes)) =
    ap bits_of (take-add i n bytes) ∙ bits_of-append (take i bytes) (take n (drop i bytes)) in
    ap (λ (bits : List Bool). mine ++ bits) (both ∙ ap (λ (bits : List Bool). bits_of (take i bytes) ++ bits) (sym is))
    ∙ sym (append_assoc mine (bits_of (take i bytes)) word)

pub length-bits_of_taken : (bytes : List ℕ) (i : ℕ) → i ≤ length bytes → length (bits_of (take i bytes)) ≡ 8 * i
length-bits_of_taken bytes i within = omega (arith, length-bits_of (take i bytes), length-take i bytes)

-- the same where they are read from a list
pub eight_read : (bytes : List ℕ) (n : ℕ) → length bytes ≡ 8 → ((i : ℕ) → get_or bytes i 0 < 256)
    → n ≡ get_or bytes 0 0 * 2 ^ 56 + get_or bytes 1 0 * 2 ^ 48 + get_or bytes 2 0 * 2 ^ 40 + get_or bytes 3 0 * 2 ^ 32 + get_or bytes 4 0 * 2 ^ 24 + get_or bytes 5 0 * 2 ^ 16 + get_or bytes 6 0 * 2 ^ 8 + get_or bytes 7 0
    → low_bits 64 n ≡ bits_of bytes
eight_read (a ∷ b ∷ c ∷ d ∷ e ∷ f ∷ g ∷ h ∷ []) n long small sum =
    eight_bytes a b c d e f g h n (small 0) (small 1) (small 2) (small 3) (small 4) (small 5) (small 6) (small 7) (sum ∙ omega arith)
eight_read bytes n long small sum = absurd (omega arith)

pub one_byte : (bytes : List ℕ) (i : ℕ) → i < length bytes → low_bits 8 (get_or bytes i 0) ≡ bits_of (take 1 (drop i bytes))
one_byte bytes i within =
    low_bits_byte (get_or bytes i 0) ∙ sym (ap (λ (rest : List ℕ). bits_of (take 1 rest)) (drop_more bytes i 0 within))

-- the eight bytes of a number, the most significant first
abbrev pub bytes_of_number : ℕ → List ℕ
bytes_of_number n =
    n / 2 ^ 56 % 256 ∷ n / 2 ^ 48 % 256 ∷ n / 2 ^ 40 % 256 ∷ n / 2 ^ 32 % 256 ∷ n / 2 ^ 24 % 256 ∷ n / 2 ^ 16 % 256 ∷ n / 2 ^ 8 % 256 ∷ n % 256 ∷ []

low_bits_of_bytes : (n : ℕ) → low_bits 64 n ≡ bits_of (bytes_of_number n)
low_bits_of_bytes n =
    let byte = λ (m : ℕ) (rest : List Bool). low_bits 8 m ++ rest in
    low_bits-front 8 56 n ∙ ap (byte (n / 2 ^ 56 % 256)) (low_bits-front 8 48 n ∙ ap (byte (n / 2 ^ 48 % 256)) (low_bits-front 8 40 n ∙ ap (byte (n / 2 ^ 40 % 256))
    (low_bits-front 8 32 n ∙ ap (byte (n / 2 ^ 32 % 256)) (low_bits-front 8 24 n ∙ ap (byte (n / 2 ^ 24 % 256)) (low_bits-front 8 16 n ∙ ap (byte (n / 2 ^ 16 % 256))
    (low_bits-front 8 8 n ∙ ap (byte (n / 2 ^ 8 % 256)) (sym (low_bits-mod 8 n) ∙ sym (append-nil (low_bits 8 (n % 256))))))))))
    ∙ as_bytes (n / 2 ^ 56 % 256) (n / 2 ^ 48 % 256) (n / 2 ^ 40 % 256) (n / 2 ^ 32 % 256) (n / 2 ^ 24 % 256) (n / 2 ^ 16 % 256) (n / 2 ^ 8 % 256) (n % 256)
  where
    as_bytes : (a b c d e f g h : ℕ) → low_bits 8 a ++ (low_bits 8 b ++ (low_bits 8 c ++ (low_bits 8 d ++ (low_bits 8 e ++ (low_bits 8 f ++ (low_bits 8 g ++ (low_bits 8 h ++ []))))))) ≡ bits_of (a ∷ b ∷ c ∷ d ∷ e ∷ f ∷ g ∷ h ∷ [])
    as_bytes a b c d e f g h = rw (low_bits_byte a, low_bits_byte b, low_bits_byte c, low_bits_byte d, low_bits_byte e, low_bits_byte f, low_bits_byte g, low_bits_byte h) refl

pub bytes_of_low : (n : ℕ) (bits : List Bool) → low_bits 64 n ≡ bits → bytes_of_number n ≡ bytes_of bits
bytes_of_low n bits are =
    let small : All (λ byte. byte < 256) (bytes_of_number n) =
    All-from_get_or (λ byte. byte < 256) (bytes_of_number n) 0 (λ k within. below k within) in
    sym (bytes_of-bits_of (bytes_of_number n) small) ∙ ap bytes_of (sym (low_bits_of_bytes n) ∙ are)
  where
    below : (k : ℕ) → k < 8 → get_or (bytes_of_number n) k 0 < 256
    below zero within = omega arith
    below (suc zero) within = omega arith
    below (suc (suc zero)) within = omega arith
    below (suc (suc (suc zero))) within = omega arith
    below (suc (suc (suc (suc zero)))) within = omega arith
    below (suc (suc (suc (suc (suc zero))))) within = omega arith
    below (suc (suc (suc (suc (suc (suc zero)))))) within = omega arith
    below (suc (suc (suc (suc (suc (suc (suc zero))))))) within = omega arith
    below (suc (suc (suc (suc (suc (suc (suc (suc k)))))))) within = absurd (omega arith)

-- the byte that eight bits write
pub byte_read : (bits word : List Bool) (place i n d : ℕ) → place + 8 * i + 8 ≤ length bits → word ≡ take 8 (drop (place + 8 * i) bits) → low_bits (length word) n ≡ word → n < 2 ^ length word → (n < 256) × (n ≡ get_or (bytes_of (drop place bits)) i d)
byte_read bits word place i n d within read written small =
    let long : length word ≡ 8 = omega (arith, ap length read, length-take 8 (drop (place + 8 * i) bits), length-drop (place + 8 * i) bits) in
    let from : List Bool = drop place bits in
    let eight : 8 * i + 8 - 8 * i ≡ 8 = omega arith in
    let cut : take (8 * i + 8 - 8 * i) (drop (8 * i) from) ≡ word =
    ap (λ (k : ℕ). take k (drop (8 * i) from)) eight ∙ ap (take 8) (drop-drop (8 * i) place bits) ∙ sym read in
    let byte = get_or-bytes_of from i d (omega (arith, length-drop place bits)) in
    let below : n < 2 ^ 8 = let P : ℕ → Type 0 = λ k. n < 2 ^ k in subst P long small in
    (omega (arith, below), sym (byte ∙ ap number_of cut ∙ ap number_of (sym written) ∙ number_of-low_bits (length word) n small))

-- more bytes written over what is left of a list
pub part_written : (bytes into part : List ℕ) (i k : ℕ) → i ≤ length bytes → part ≡ take k (drop i bytes) → put_mid i k (take i bytes ++ drop i into) part ≡ take (i + k) bytes ++ drop (i + k) into
part_written bytes into part i k within is =
    let front : List ℕ = take i bytes in
    let long : length front ≡ i = omega (arith, length-take i bytes) in
    let first : take i (front ++ drop i into) ≡ front = take_at front (drop i into) i long in
    let rest : drop k (drop i (front ++ drop i into)) ≡ drop (i + k) into = ap (drop k) (drop_at front (drop i into) i long) ∙ drop-drop k i into in
    ap (λ (xs : List ℕ). xs ++ (part ++ drop k (drop i (front ++ drop i into)))) first
    ∙ ap (λ (xs : List ℕ). front ++ (part ++ xs)) rest ∙ ap (λ (xs : List ℕ). front ++ (xs ++ drop (i + k) into)) is
    ∙ sym (append_assoc front (take k (drop i bytes)) (drop (i + k) into)) ∙ ap (λ (xs : List ℕ). xs ++ drop (i + k) into) (sym (take-add i k bytes))

-- bytes from a place on
pub bytes_from : (bits : List Bool) (place i : ℕ) → bytes_of (drop (place + 8 * i) bits) ≡ drop i (bytes_of (drop place bits))
bytes_from bits place i = ap bytes_of (sym (drop-drop (8 * i) place bits)) ∙ bytes_of-drop i (drop place bits)
