-- Bits in words of 64, cut and read.
use Rattle.std.proofs.Common.{◌^◌, ◌≡◌, ℕ, min, ◌+◌, ◌-◌, ◌*◌, ◌/◌, ◌%◌, ◌<◌, ◌≤◌, Bool, List, [], ◌∷◌, ◌++◌, length, take, drop, get_or, append_assoc, refl, sym, ◌∙◌, ap, arith, length-append, length-drop, length-take}
use Rattle.std.proofs.lemmas.List.{take_at, drop_at, take_all, drop_more, take-append-drop, drop-drop, drop-take, take-take, append-nil, drop_all, drop-append-le, take-append-le}
use Rattle.std.proofs.lemmas.List.Concat.{flat_map-append}
use Rattle.std.proofs.Math.Seq.{take-add}
use Rattle.pdh_packed.specs.Words.{low_bits, bits_of_words}
use Rattle.pdh_packed.specs.WordLaws.{length-low_bits, shifted_in, top_small, top_bits, bottom_bits}

pub bits_of_words_none : bits_of_words [] ≡ []
unfolding bits_of_words
bits_of_words_none = refl

pub bits_of_words-append : (xs ys : List ℕ) → bits_of_words (xs ++ ys) ≡ bits_of_words xs ++ bits_of_words ys
unfolding bits_of_words
bits_of_words-append xs ys = flat_map-append (low_bits 64) xs ys

bits_of_words_one : (x : ℕ) → bits_of_words (x ∷ []) ≡ low_bits 64 x
unfolding bits_of_words
bits_of_words_one x = append-nil (low_bits 64 x)

pub bits_of_words-push : (xs : List ℕ) (x : ℕ) → bits_of_words (xs ++ x ∷ []) ≡ bits_of_words xs ++ low_bits 64 x
bits_of_words-push xs x =
    bits_of_words-append xs (x ∷ []) ∙ ap (λ (bits : List Bool). bits_of_words xs ++ bits) (bits_of_words_one x)

pub length-bits_of_words : (xs : List ℕ) → length (bits_of_words xs) ≡ 64 * length xs
unfolding bits_of_words
length-bits_of_words [] = refl
length-bits_of_words (x ∷ xs) =
    let rest : length (bits_of_words xs) ≡ 64 * length xs = length-bits_of_words xs in
    let both : length (low_bits 64 x ++ bits_of_words xs) ≡ length (low_bits 64 x) + length (bits_of_words xs) = length-append (low_bits 64 x) (bits_of_words xs) in
    omega (arith, both, rest, length-low_bits 64 x)

bits_of_words-cons : (x : ℕ) (xs : List ℕ) → bits_of_words (x ∷ xs) ≡ low_bits 64 x ++ bits_of_words xs
unfolding bits_of_words
bits_of_words-cons x xs = refl

-- a whole word of them
pub word_among : (words : List ℕ) (tail : List Bool) (i : ℕ) → i < length words → take 64 (drop (64 * i) (bits_of_words words ++ tail)) ≡ low_bits 64 (get_or words i 0)
word_among words tail i within =
    let x : ℕ = get_or words i 0 in
    let before : List Bool = bits_of_words (take i words) in
    let after : List Bool = bits_of_words (drop (i + 1) words) in
    let cut : words ≡ take i words ++ x ∷ drop (i + 1) words =
    sym (take-append-drop i words) ∙ ap (λ (ws : List ℕ). take i words ++ ws) (drop_more words i 0 within) in
    let parts : bits_of_words words ≡ before ++ (low_bits 64 x ++ after) =
    ap bits_of_words cut ∙ bits_of_words-append (take i words) (x ∷ drop (i + 1) words)
    ∙ ap (λ (bits : List Bool). before ++ bits) (bits_of_words-cons x (drop (i + 1) words)) in
    let whole : bits_of_words words ++ tail ≡ before ++ (low_bits 64 x ++ (after ++ tail)) =
    ap (λ (bits : List Bool). bits ++ tail) parts ∙ append_assoc before (low_bits 64 x ++ after) tail
    ∙ ap (λ (bits : List Bool). before ++ bits) (append_assoc (low_bits 64 x) after tail) in
    let far : length before ≡ 64 * i = omega (arith, length-bits_of_words (take i words), length-take i words) in
    ap (λ (bits : List Bool). take 64 (drop (64 * i) bits)) whole
    ∙ ap (take 64) (drop_at before (low_bits 64 x ++ (after ++ tail)) (64 * i) far)
    ∙ take_at (low_bits 64 x) (after ++ tail) 64 (length-low_bits 64 x)

-- past the whole words
pub word_after : (words : List ℕ) (tail : List Bool) (i : ℕ) → length words ≡ i → length tail < 64 → take 64 (drop (64 * i) (bits_of_words words ++ tail)) ≡ tail
word_after words tail i past short =
    let long : length (bits_of_words words) ≡ 64 * i = omega (arith, length-bits_of_words words) in
    ap (take 64) (drop_at (bits_of_words words) tail (64 * i) long) ∙ take_all 64 tail (omega arith)

-- past all bits
pub word_past : (words : List ℕ) (tail : List Bool) (i : ℕ) → length words < i → length tail < 64 → take 64 (drop (64 * i) (bits_of_words words ++ tail)) ≡ []
word_past words tail i past short =
    ap (take 64) (drop_all (64 * i) (bits_of_words words ++ tail) (omega (arith, length-append (bits_of_words words) tail, length-bits_of_words words)))

-- more of two lists than the first has
pub take_past : (n : ℕ) (xs ys : List Bool) → length xs ≤ n → take n (xs ++ ys) ≡ xs ++ take (n - length xs) ys
take_past n xs ys within =
    let m : ℕ = n - length xs in
    let whole : n ≡ length xs + m = omega arith in
    let first : take (length xs) (xs ++ ys) ≡ xs = take_at xs ys (length xs) refl in
    let rest : drop (length xs) (xs ++ ys) ≡ ys = drop_at xs ys (length xs) refl in
    ap (λ (k : ℕ). take k (xs ++ ys)) whole ∙ take-add (length xs) m (xs ++ ys)
    ∙ ap (λ (front : List Bool). front ++ take m (drop (length xs) (xs ++ ys))) first ∙ ap (λ (bits : List Bool). xs ++ take m bits) rest

pub drop_past : (n : ℕ) (xs ys : List Bool) → length xs ≤ n → drop n (xs ++ ys) ≡ drop (n - length xs) ys
drop_past n xs ys within =
    let m : ℕ = n - length xs in
    let whole : n ≡ length xs + m = omega arith in
    ap (λ (k : ℕ). drop k (xs ++ ys)) whole ∙ sym (drop-drop m (length xs) (xs ++ ys)) ∙ ap (drop m) (drop_at xs ys (length xs) refl)

-- bits of two words, in the form of the code
pub across_two : (first next front more : List Bool) (place count : ℕ) → place ≤ length first → front ≡ drop place first → length front ≤ count → more ≡ take (count - length front) next
    → front ++ more ≡ take count (drop place (first ++ next))
across_two first next front more place count begun cut past rest =
    let moved : drop place (first ++ next) ≡ front ++ next = drop-append-le place first next begun ∙ ap (λ (bits : List Bool). bits ++ next) (sym cut) in
    ap (λ (bits : List Bool). front ++ bits) rest ∙ sym (take_past count front next past) ∙ ap (take count) (sym moved)

pub two_parts : (bits : List Bool) (m n place : ℕ) → take m (drop place bits) ++ take n (drop (place + m) bits) ≡ take (m + n) (drop place bits)
two_parts bits m n place =
    ap (λ (rest : List Bool). take m (drop place bits) ++ take n rest) (sym (drop-drop m place bits)) ∙ sym (take-add m n (drop place bits))

-- the bits from a place on are those of its word and of the next
pub read_across : (bits first next : List Bool) (place count : ℕ) → first ≡ take 64 (drop (64 * (place / 64)) bits) → next ≡ take 64 (drop (64 * (place / 64 + 1)) bits) → count ≤ 64
    → take count (drop (place % 64) (first ++ next)) ≡ take count (drop place bits)
read_across bits first next place count is_first is_next few =
    let i : ℕ = 64 * (place / 64) in
    let o : ℕ = place % 64 in
    let after : 64 * (place / 64 + 1) ≡ i + 64 = omega arith in
    let whole : 64 + 64 ≡ o + (128 - o) = omega arith in
    let at : i + o ≡ place = omega arith in
    let second : next ≡ take 64 (drop (i + 64) bits) = is_next ∙ ap (λ (k : ℕ). take 64 (drop k bits)) after in
    let both : first ++ next ≡ take (64 + 64) (drop i bits) =
    ap (λ (x : List Bool). x ++ next) is_first ∙ ap (λ (x : List Bool). take 64 (drop i bits) ++ x) second ∙ two_parts bits 64 64 i in
    let cut : drop o (take (o + (128 - o)) (drop i bits)) ≡ take (128 - o) (drop place bits) =
    drop-take o (128 - o) (drop i bits) ∙ ap (take (128 - o)) (drop-drop o i bits ∙ ap (λ (k : ℕ). drop k bits) at) in
    ap (λ (x : List Bool). take count (drop o x)) (both ∙ ap (λ (k : ℕ). take k (drop i bits)) whole) ∙ ap (take count) cut
    ∙ take-take count (128 - o) (drop place bits) (omega arith)

-- or those of its word alone
pub read_inside : (bits first : List Bool) (place count : ℕ) → first ≡ take 64 (drop (64 * (place / 64)) bits) → count ≤ 64 → place % 64 + count ≤ length first
    → take count (drop (place % 64) first) ≡ take count (drop place bits)
read_inside bits first place count is_first few within =
    let o : ℕ = place % 64 in
    let next : List Bool = take 64 (drop (64 * (place / 64 + 1)) bits) in
    let begun : drop o (first ++ next) ≡ drop o first ++ next = drop-append-le o first next (omega arith) in
    let cut : take count (drop o first ++ next) ≡ take count (drop o first) = take-append-le count (drop o first) next (omega (arith, length-drop o first)) in
    sym cut ∙ ap (take count) (sym begun) ∙ read_across bits first next place count is_first refl few

-- they have these bits
pub read_within : (bits first next : List Bool) (place count : ℕ) → first ≡ take 64 (drop (64 * (place / 64)) bits) → next ≡ take 64 (drop (64 * (place / 64 + 1)) bits) → count ≤ 64 → place + count ≤ length bits
    → (place % 64 ≤ length first) × (place % 64 + count ≤ length first + length next)
read_within bits first next place count is_first is_next few within =
    let long_first : length first ≡ min 64 (length bits - 64 * (place / 64)) =
    ap length is_first ∙ length-take 64 (drop (64 * (place / 64)) bits) ∙ ap (min 64) (length-drop (64 * (place / 64)) bits) in
    let long_next : length next ≡ min 64 (length bits - 64 * (place / 64 + 1)) =
    ap length is_next ∙ length-take 64 (drop (64 * (place / 64 + 1)) bits) ∙ ap (min 64) (length-drop (64 * (place / 64 + 1)) bits) in
    (omega arith, omega arith)

-- a word is filled and pushed, and the rest of the bits begins the next
pub filled : (words words' : List ℕ) (tail tail' word : List Bool) (x : ℕ) → words' ≡ words ++ x ∷ [] → low_bits 64 x ++ tail' ≡ tail ++ word
    → bits_of_words words' ++ tail' ≡ (bits_of_words words ++ tail) ++ word
filled words words' tail tail' word x pushed full =
    ap (λ (ws : List ℕ). bits_of_words ws ++ tail') pushed ∙ ap (λ (bits : List Bool). bits ++ tail') (bits_of_words-push words x)
    ∙ append_assoc (bits_of_words words) (low_bits 64 x) tail' ∙ ap (λ (bits : List Bool). bits_of_words words ++ bits) full
    ∙ sym (append_assoc (bits_of_words words) tail word)

pub length-filled : (tail tail' word : List Bool) (x : ℕ) → low_bits 64 x ++ tail' ≡ tail ++ word → 64 + length tail' ≡ length tail + length word
length-filled tail tail' word x full =
    omega (arith, length-low_bits 64 x, length-append (low_bits 64 x) tail', length-append tail word, ap length full)

-- no word is filled
pub not_filled : (words : List ℕ) (tail tail' word : List Bool) → tail' ≡ tail ++ word → bits_of_words words ++ tail' ≡ (bits_of_words words ++ tail) ++ word
not_filled words tail tail' word joined = ap (λ (bits : List Bool). bits_of_words words ++ bits) joined ∙ sym (append_assoc (bits_of_words words) tail word)

pub ruleset packed_laws = (bits_of_words_none, length-bits_of_words, word_among, word_after, word_past)

-- some bits of others after those that came before
pub taken_more : (mine bits word : List Bool) (place done count : ℕ) → word ≡ take count (drop (place + done) bits) → mine ++ take (done + count) (drop place bits) ≡ (mine ++ take done (drop place bits)) ++ word
taken_more mine bits word place done count read =
    ap (λ (more : List Bool). mine ++ more) (sym (two_parts bits done count place) ∙ ap (λ (more : List Bool). take done (drop place bits) ++ more) (sym read))
    ∙ sym (append_assoc mine (take done (drop place bits)) word)

-- 64 bits of two words
pub whole_read : (bits : List Bool) (x y place : ℕ) → 0 < place % 64 → take 64 (drop (64 * (place / 64)) bits) ≡ low_bits 64 x → take 64 (drop (64 * (place / 64 + 1)) bits) ≡ low_bits 64 y → y < 2 ^ 64
    → low_bits 64 ((x * 2 ^ (place % 64) % 2 ^ 64 + y / 2 ^ (64 - place % 64)) % 2 ^ 64) ≡ take 64 (drop place bits)
whole_read bits x y place inside first second small =
    let o : ℕ = place % 64 in
    let whole : 64 - o + o ≡ 64 = omega arith in
    let begun : o ≤ length (low_bits 64 x) = omega (arith, length-low_bits 64 x) in
    let is_front : low_bits (64 - o) x ≡ drop o (low_bits 64 x) = bottom_bits x (64 - o) o whole in
    let long : length (low_bits (64 - o) x) ≡ 64 - o = length-low_bits (64 - o) x in
    let few : length (low_bits (64 - o) x) ≤ 64 = omega arith in
    let rest : o ≡ 64 - length (low_bits (64 - o) x) = omega arith in
    let is_next : low_bits o (y / 2 ^ (64 - o)) ≡ take (64 - length (low_bits (64 - o) x)) (low_bits 64 y) =
    top_bits y (64 - o) o whole ∙ ap (λ (n : ℕ). take n (low_bits 64 y)) rest in
    shifted_in (64 - o) o x (y / 2 ^ (64 - o)) whole (top_small y (64 - o) o whole small)
    ∙ across_two (low_bits 64 x) (low_bits 64 y) (low_bits (64 - o) x) (low_bits o (y / 2 ^ (64 - o))) o 64 begun is_front few is_next
    ∙ read_across bits (low_bits 64 x) (low_bits 64 y) place 64 (sym first) (sym second) (omega arith)

-- a word that the first bits of another fill, as numbers
pub word_filled : (tail : List Bool) (t n h : ℕ) → h < 64 → n < 2 ^ 64 → low_bits h t ≡ tail
    → low_bits 64 ((t * 2 ^ (64 - h) % 2 ^ 64 + n / 2 ^ h) % 2 ^ 64) ≡ tail ++ take (64 - h) (low_bits 64 n)
word_filled tail t n h few small held =
    let m : ℕ = 64 - h in
    let whole : h + m ≡ 64 = omega arith in
    shifted_in h m t (n / 2 ^ h) whole (top_small n h m whole small) ∙ ap (λ (bits : List Bool). bits ++ low_bits m (n / 2 ^ h)) held ∙ ap (λ (bits : List Bool). tail ++ bits) (top_bits n h m whole)

-- and its other bits behind it
pub whole_filled : (tail : List Bool) (x n : ℕ) → length tail < 64 → low_bits 64 x ≡ tail ++ take (64 - length tail) (low_bits 64 n) → low_bits 64 x ++ low_bits (length tail) n ≡ tail ++ low_bits 64 n
whole_filled tail x n few filled =
    let m : ℕ = 64 - length tail in
    let whole : length tail + m ≡ 64 = omega arith in
    ap (λ (bits : List Bool). bits ++ low_bits (length tail) n) filled ∙ ap (λ (bits : List Bool). (tail ++ take m (low_bits 64 n)) ++ bits) (bottom_bits n (length tail) m whole)
    ∙ append_assoc tail (take m (low_bits 64 n)) (drop m (low_bits 64 n)) ∙ ap (λ (bits : List Bool). tail ++ bits) (take-append-drop m (low_bits 64 n))

-- bits are dropped with whole words
pub dropped_all : (words : List ℕ) (tail : List Bool) (n : ℕ) → 64 * length words ≤ n → drop n (bits_of_words words ++ tail) ≡ drop (n - 64 * length words) tail
dropped_all words tail n past =
    let long : length (bits_of_words words) ≡ 64 * length words = length-bits_of_words words in
    drop_past n (bits_of_words words) tail (omega arith) ∙ ap (λ (k : ℕ). drop (n - k) tail) long

pub dropped_some : (words : List ℕ) (tail : List Bool) (n : ℕ) → n ≤ 64 * length words → drop (n % 64) (bits_of_words (drop (n / 64) words) ++ tail) ≡ drop n (bits_of_words words ++ tail)
dropped_some words tail n within =
    let i : ℕ = n / 64 in
    let before : List Bool = bits_of_words (take i words) in
    let after : List Bool = bits_of_words (drop i words) in
    let long : length before ≡ 64 * i = omega (arith, length-bits_of_words (take i words), length-take i words) in
    let rest : n - length before ≡ n % 64 = omega arith in
    let parts : bits_of_words words ++ tail ≡ before ++ (after ++ tail) =
    ap (λ (ws : List ℕ). bits_of_words ws ++ tail) (sym (take-append-drop i words)) ∙ ap (λ (bits : List Bool). bits ++ tail) (bits_of_words-append (take i words) (drop i words))
    ∙ append_assoc before after tail in
    sym (ap (drop n) parts ∙ drop_past n before (after ++ tail) (omega arith) ∙ ap (λ (k : ℕ). drop k (after ++ tail)) rest)
