-- Arrays of bits in words: what is written, made the same, and counted.
use Rattle.std.proofs.Common.{◌≡◌, ℕ, zero, suc, ◌+◌, ◌-◌, ◌*◌, ◌/◌, ◌%◌, ◌^◌, ◌<◌, ◌≤◌, Bool, true, false, not, min, List, [], ◌∷◌, ◌++◌, length, take, drop, get_or, set, replicate, append_assoc, refl, sym, ◌∙◌, ap, arith, length-append, length-take, length-drop}
use Rattle.std.specs.List.{prefix_len}
use Rattle.std.proofs.lemmas.List.{append-nil, get_or-take, get_or-drop, take_at, drop-drop, drop_more, take-append-le, drop-append-le, take-append-drop, take-take, drop-take, set_split, replicate-append-replicate, take-replicate, drop-replicate}
use Rattle.std.proofs.Math.Seq.{take-append-add, drop-append-add}
use Rattle.pdh_packed.specs.Words.{low_bits, bits_of_words}
use Rattle.pdh_packed.specs.WordLaws.{length-low_bits}
use Rattle.pdh_packed.specs.Places.{both, overwritten}
use Rattle.pdh_packed.proofs.PackedLaws.{bits_of_words-append, length-bits_of_words, word_among, two_parts}
use Rattle.pdh_packed.proofs.BitwiseLaws.{low_bits-ones}
use Rattle.pdh_packed.proofs.PlacesLaws.{length-overwritten, both-ones, both-append}

-- ---- what is written

-- behind other bits
overwritten-behind : (xs ys part : List Bool) (a o : ℕ) → length xs ≡ a → overwritten (a + o) part (xs ++ ys) ≡ xs ++ overwritten o part ys
overwritten-behind xs ys part a o long =
    let c : ℕ = length part in
    let front : take (a + o) (xs ++ ys) ≡ xs ++ take o ys = ap (λ (n : ℕ). take (n + o) (xs ++ ys)) (sym long) ∙ take-append-add xs ys o in
    let place : a + o + c ≡ length xs + (o + c) = omega (arith, long) in
    let rest : drop (a + o + c) (xs ++ ys) ≡ drop (o + c) ys = ap (λ (n : ℕ). drop n (xs ++ ys)) place ∙ drop-append-add xs ys (o + c) in
    ap (λ (x : List Bool). x ++ (part ++ drop (a + o + c) (xs ++ ys))) front ∙ ap (λ (x : List Bool). (xs ++ take o ys) ++ (part ++ x)) rest
    ∙ append_assoc xs (take o ys) (part ++ drop (o + c) ys)

-- before other bits
overwritten-before : (xs ys part : List Bool) (o : ℕ) → o + length part ≤ length xs → overwritten o part (xs ++ ys) ≡ overwritten o part xs ++ ys
overwritten-before xs ys part o within =
    let c : ℕ = length part in
    ap (λ (x : List Bool). x ++ (part ++ drop (o + c) (xs ++ ys))) (take-append-le o xs ys (omega arith))
    ∙ ap (λ (x : List Bool). take o xs ++ (part ++ x)) (drop-append-le (o + c) xs ys within)
    ∙ ap (λ (x : List Bool). take o xs ++ x) (sym (append_assoc part (drop (o + c) xs) ys))
    ∙ sym (append_assoc (take o xs) (part ++ drop (o + c) xs) ys)

-- the words with one of them cut out
cut_at : (words : List ℕ) (i : ℕ) → i < length words
    → bits_of_words words ≡ bits_of_words (take i words) ++ (low_bits 64 (get_or words i 0) ++ bits_of_words (drop (i + 1) words))
unfolding bits_of_words
cut_at words i within =
    ap bits_of_words (sym (take-append-drop i words) ∙ ap (λ (ws : List ℕ). take i words ++ ws) (drop_more words i 0 within))
    ∙ bits_of_words-append (take i words) (get_or words i 0 ∷ drop (i + 1) words)

set_at : (words : List ℕ) (i x : ℕ) → i < length words → bits_of_words (set words i x) ≡ bits_of_words (take i words) ++ (low_bits 64 x ++ bits_of_words (drop (i + 1) words))
unfolding bits_of_words
set_at words i x within =
    let next : suc i ≡ i + 1 = omega arith in
    ap bits_of_words (set_split words i x within ∙ ap (λ (n : ℕ). take i words ++ x ∷ drop n words) next) ∙ bits_of_words-append (take i words) (x ∷ drop (i + 1) words)

-- bits are written over those of one word
pub word_overwritten : (words : List ℕ) (i o x : ℕ) (part : List Bool) → i < length words → o + length part ≤ 64 → low_bits 64 x ≡ overwritten o part (low_bits 64 (get_or words i 0))
    → bits_of_words (set words i x) ≡ overwritten (64 * i + o) part (bits_of_words words)
word_overwritten words i o x part within few is =
    let w : List Bool = low_bits 64 (get_or words i 0) in
    let before : List Bool = bits_of_words (take i words) in
    let behind : List Bool = bits_of_words (drop (i + 1) words) in
    let long : length before ≡ 64 * i = omega (arith, length-bits_of_words (take i words), length-take i words) in
    let word : length w ≡ 64 = length-low_bits 64 (get_or words i 0) in
    set_at words i x within ∙ ap (λ (b : List Bool). before ++ (b ++ behind)) is
    ∙ ap (λ (b : List Bool). before ++ b) (sym (overwritten-before w behind part o (omega (arith, few, word))))
    ∙ sym (overwritten-behind before (w ++ behind) part (64 * i) o long) ∙ ap (overwritten (64 * i + o) part) (sym (cut_at words i within))

-- only the first bits of the words are seen
pub seen_overwritten : (len place : ℕ) (part bits : List Bool) → place + length part ≤ len → len ≤ length bits → take len (overwritten place part bits) ≡ overwritten place part (take len bits)
seen_overwritten len place part bits within whole =
    let seen : List Bool = take len bits in
    let long : length seen ≡ len = omega (arith, whole, length-take len bits) in
    let after : length (overwritten place part seen) ≡ len = length-overwritten place part seen (omega (arith, long, within)) ∙ long in
    ap (λ (b : List Bool). take len (overwritten place part b)) (sym (take-append-drop len bits))
    ∙ ap (take len) (overwritten-before seen (drop len bits) part place (omega (arith, long, within)))
    ∙ take_at (overwritten place part seen) (drop len bits) len after

-- bits are written in two parts
pub overwritten_twice : (place r : ℕ) (first second bits : List Bool) → length first ≡ r → place + r ≤ length bits
    → overwritten (place + r) second (overwritten place first bits) ≡ overwritten place (first ++ second) bits
overwritten_twice place r first second bits long within =
    let c : ℕ = length second in
    let front : List Bool = take place bits ++ first in
    let rest : List Bool = drop (place + length first) bits in
    let reach : length front ≡ place + r = omega (arith, length-append (take place bits) first, length-take place bits, long, within) in
    let inner : overwritten place first bits ≡ front ++ rest = sym (append_assoc (take place bits) first rest) in
    let none : place + r ≡ place + r + 0 = omega arith in
    let start : 0 + c ≡ c = omega arith in
    let both : place + length first + c ≡ place + length (first ++ second) = omega (arith, length-append first second) in
    ap (overwritten (place + r) second) inner ∙ ap (λ (n : ℕ). overwritten n second (front ++ rest)) none
    ∙ overwritten-behind front rest second (place + r) 0 reach
    ∙ ap (λ (n : ℕ). front ++ (second ++ drop n rest)) start
    ∙ ap (λ (b : List Bool). front ++ (second ++ b)) (drop-drop c (place + length first) bits ∙ ap (λ (n : ℕ). drop n bits) both)
    ∙ append_assoc (take place bits) first (second ++ drop (place + length (first ++ second)) bits)
    ∙ ap (λ (b : List Bool). take place bits ++ b) (sym (append_assoc first second (drop (place + length (first ++ second)) bits)))

-- ---- bits that are all the same

pub all_same : (n x : ℕ) (bit : Bool) → low_bits 64 x ≡ replicate 64 bit → bits_of_words (replicate n x) ≡ replicate (64 * n) bit
unfolding bits_of_words
all_same zero x bit same = refl
all_same (suc n) x bit same =
    let more : 64 + 64 * n ≡ 64 * suc n = omega arith in
    ap (λ (b : List Bool). b ++ bits_of_words (replicate n x)) same ∙ ap (λ (b : List Bool). replicate 64 bit ++ b) (all_same n x bit same)
    ∙ replicate-append-replicate 64 (64 * n) bit ∙ ap (λ (k : ℕ). replicate k bit) more

-- ---- bits that are read

-- those that are seen
pub seen_read : (len place count : ℕ) (bits : List Bool) → place + count ≤ len → take count (drop place bits) ≡ take count (drop place (take len bits))
seen_read len place count bits within =
    let parts : place + (len - place) ≡ len = omega (arith, within) in
    sym (take-take count (len - place) (drop place bits) (omega (arith, within))) ∙ ap (take count) (sym (drop-take place (len - place) bits) ∙ ap (λ (n : ℕ). drop place (take n bits)) parts)

-- the bits from a place on to the end of its word
pub rest_of_word : (words : List ℕ) (from : ℕ) → from < 64 * length words → drop (from % 64) (low_bits 64 (get_or words (from / 64) 0)) ≡ take (64 - from % 64) (drop from (bits_of_words words))
rest_of_word words from within =
    let i : ℕ = from / 64 in
    let o : ℕ = from % 64 in
    let all : List Bool = bits_of_words words in
    let word : low_bits 64 (get_or words i 0) ≡ take 64 (drop (64 * i) all) = sym (word_among words [] i (omega (arith, within))) ∙ ap (λ (b : List Bool). take 64 (drop (64 * i) b)) (append-nil all) in
    let parts : o + (64 - o) ≡ 64 = omega arith in
    let at : 64 * i + o ≡ from = omega arith in
    ap (drop o) word ∙ ap (λ (n : ℕ). drop o (take n (drop (64 * i) all))) (sym parts) ∙ drop-take o (64 - o) (drop (64 * i) all) ∙ ap (take (64 - o)) (drop-drop o (64 * i) all ∙ ap (λ (n : ℕ). drop n all) at)

-- ---- zeros one after another

pub zeros-take : (n : ℕ) (xs : List Bool) → prefix_len not (take n xs) ≡ min n (prefix_len not xs)
zeros-take zero xs = omega arith
zeros-take (suc n) [] = omega arith
zeros-take (suc n) (true ∷ xs) = omega arith
zeros-take (suc n) (false ∷ xs) = omega (arith, zeros-take n xs)

-- so many, or more, and those after them
pub zeros-drop : (n : ℕ) (xs : List Bool) → n ≤ prefix_len not xs → prefix_len not xs ≡ n + prefix_len not (drop n xs)
zeros-drop zero xs h = omega arith
zeros-drop (suc n) [] h = absurd (omega arith)
zeros-drop (suc n) (true ∷ xs) h = absurd (omega arith)
zeros-drop (suc n) (false ∷ xs) h = omega (arith, zeros-drop n xs (omega arith))

-- how many bits are seen
pub length-seen : (len : ℕ) (words : List ℕ) → len < 64 * length words → length (take len (bits_of_words words)) ≡ len
length-seen len words within = omega (arith, length-take len (bits_of_words words), length-bits_of_words words, within)

-- a bit that is seen is its word's
pub bit_seen : (len place : ℕ) (words : List ℕ) → place < len → len < 64 * length words → get_or (low_bits 64 (get_or words (place / 64) 0)) (place % 64) false ≡ get_or (take len (bits_of_words words)) place false
bit_seen len place words within whole =
    let i : ℕ = place / 64 in
    let all : List Bool = bits_of_words words in
    let at : 64 * i + place % 64 ≡ place = omega arith in
    ap (λ (b : List Bool). get_or b (place % 64) false) (sym (word_among words [] i (omega (arith, within, whole))) ∙ ap (λ (b : List Bool). take 64 (drop (64 * i) b)) (append-nil all))
    ∙ get_or-take 64 (drop (64 * i) all) (place % 64) false (omega arith) ∙ get_or-drop (64 * i) all (place % 64) false ∙ ap (λ (k : ℕ). get_or all k false) at
    ∙ sym (get_or-take len all place false within)

-- and that are written
pub write_seen : (len place : ℕ) (part seen : List Bool) (words after : List ℕ) → len < 64 * length words → place + length part ≤ length seen → take len (bits_of_words words) ≡ seen
    → bits_of_words after ≡ overwritten place part (bits_of_words words) → take len (bits_of_words after) ≡ overwritten place part seen
write_seen len place part seen words after whole within is written =
    let long : length seen ≡ len = sym (ap length is) ∙ length-seen len words whole in
    ap (take len) written ∙ seen_overwritten len place part (bits_of_words words) (omega (arith, within, long)) (omega (arith, whole, length-bits_of_words words)) ∙ ap (overwritten place part) is

-- ---- bits that are written through a mask

-- all bits of the mask are written
pub written_whole : (place o : ℕ) (word bits : List Bool) → o + length word ≤ 64 → overwritten place (both (take (length word) (drop o (low_bits 64 (2 ^ 64 - 1)))) word) bits ≡ overwritten place word bits
written_whole place o word bits within =
    let ones : take (length word) (drop o (low_bits 64 (2 ^ 64 - 1))) ≡ replicate (length word) true =
    ap (λ (x : List Bool). take (length word) (drop o x)) all_ones ∙ ap (take (length word)) (drop-replicate o 64 true) ∙ take-replicate (length word) (64 - o) true (omega (arith, within)) in
    ap (λ (x : List Bool). overwritten place x bits) (ap (λ (x : List Bool). both x word) ones ∙ both-ones word)
  where
    all_ones : low_bits 64 (2 ^ 64 - 1) ≡ replicate 64 true
    all_ones = low_bits-ones 64 (omega arith)

-- the bits of another array that the mask lets through
pub let_through : (len place i o : ℕ) (words : List ℕ) (seen mask : List Bool) → i < length words → o + length mask ≤ 64 → 64 * i + o ≡ place → place + length mask ≤ len → take len (bits_of_words words) ≡ seen
    → both (take (length mask) (drop o (low_bits 64 (get_or words i 0)))) mask ≡ both (take (length mask) (drop place seen)) mask
let_through len place i o words seen mask among within at room is =
    let all : List Bool = bits_of_words words in
    let c : ℕ = length mask in
    let word : low_bits 64 (get_or words i 0) ≡ take 64 (drop (64 * i) all) = sym (word_among words [] i among) ∙ ap (λ (b : List Bool). take 64 (drop (64 * i) b)) (append-nil all) in
    let parts : o + (64 - o) ≡ 64 = omega (arith, within) in
    let cut : drop o (take 64 (drop (64 * i) all)) ≡ take (64 - o) (drop place all) =
    ap (λ (n : ℕ). drop o (take n (drop (64 * i) all))) (sym parts) ∙ drop-take o (64 - o) (drop (64 * i) all) ∙ ap (take (64 - o)) (drop-drop o (64 * i) all ∙ ap (λ (n : ℕ). drop n all) at) in
    ap (λ (x : List Bool). both x mask)
    (ap (λ (x : List Bool). take c (drop o x)) word ∙ ap (take c) cut ∙ take-take c (64 - o) (drop place all) (omega (arith, within)) ∙ seen_read len place c all room ∙ ap (λ (x : List Bool). take c (drop place x)) is)

-- a mask in two parts
pub two_masks : (place r : ℕ) (seen mask : List Bool) → r ≤ length mask → place + length mask ≤ length seen
    → both (take r (drop place seen)) (take r mask) ++ both (take (length mask - r) (drop (place + r) seen)) (drop r mask) ≡ both (take (length mask) (drop place seen)) mask
two_masks place r seen mask within room =
    let rest : ℕ = length mask - r in
    let parts : r + rest ≡ length mask = omega (arith, within) in
    let long : length (take r (drop place seen)) ≡ length (take r mask) = omega (arith, length-take r (drop place seen), length-drop place seen, length-take r mask, within, room) in
    sym (both-append (take r (drop place seen)) (take rest (drop (place + r) seen)) (take r mask) (drop r mask) long)
    ∙ ap (both (take r (drop place seen) ++ take rest (drop (place + r) seen))) (take-append-drop r mask)
    ∙ ap (λ (x : List Bool). both x mask) (two_parts seen r rest place ∙ ap (λ (n : ℕ). take n (drop place seen)) parts)
