-- Several words of 64 at once: those of a list, and those that its bits make from any place on.
use Rattle.std.proofs.Common.{◌≡◌, ℕ, ◌+◌, ◌-◌, ◌*◌, ◌/◌, ◌%◌, ◌^◌, ◌<◌, ◌≤◌, Bool, false, List, [], ◌∷◌, ◌++◌, length, take, drop, get_or, append_assoc, sym, ◌∙◌, ap, arith, length-drop, length-take}
use Rattle.std.proofs.lemmas.List.{take_at, drop_at, drop-drop, drop-take, take-take, append-nil, nil_from_length, take-append-drop, take_more, get_or-drop, get_or-take}
use Rattle.pdh_bits.specs.Bits.{bit}
use Rattle.pdh_packed.specs.Words.{low_bits, bits_of_words}
use Rattle.pdh_packed.specs.WordLaws.{get_or_low}
use Rattle.pdh_packed.proofs.PackedLaws.{bits_of_words-append, bits_of_words-push, length-bits_of_words, word_among, whole_read, two_parts, filled}

-- a word among others alone
pub word_in : (words : List ℕ) (i : ℕ) → i < length words → take 64 (drop (64 * i) (bits_of_words words)) ≡ low_bits 64 (get_or words i 0)
word_in words i within =
    ap (λ (bits : List Bool). take 64 (drop (64 * i) bits)) (sym (append-nil (bits_of_words words))) ∙ word_among words [] i within

-- a bit of it
pub get_or-words : (words : List ℕ) (i r : ℕ) → i < length words → r < 64 → get_or (bits_of_words words) (64 * i + r) false ≡ bit (get_or words i 0) (63 - r)
get_or-words words i r within few =
    sym (get_or-drop (64 * i) (bits_of_words words) r false) ∙ sym (get_or-take 64 (drop (64 * i) (bits_of_words words)) r false few)
    ∙ ap (λ (word : List Bool). get_or word r false) (word_in words i within) ∙ get_or_low r 64 (get_or words i 0) false few

pub append-none : (bits tail : List Bool) → length tail ≡ 0 → bits ++ tail ≡ bits
append-none bits tail none = ap (λ (end : List Bool). bits ++ end) (nil_from_length tail none) ∙ append-nil bits

-- words behind whole words
pub behind_whole : (words words' : List ℕ) (tail more : List Bool) → length tail ≡ 0 → bits_of_words words' ≡ bits_of_words words ++ more → bits_of_words words' ++ tail ≡ (bits_of_words words ++ tail) ++ more
behind_whole words words' tail more none are =
    append-none (bits_of_words words') tail none ∙ are ∙ ap (λ (front : List Bool). front ++ more) (sym (append-none (bits_of_words words) tail none))

-- some words of a list from one on
pub run_read : (words : List ℕ) (tail : List Bool) (index whole : ℕ) → index + whole ≤ length words → bits_of_words (take whole (drop index words)) ≡ take (64 * whole) (drop (64 * index) (bits_of_words words ++ tail))
run_read words tail index whole within =
    let before : List Bool = bits_of_words (take index words) in
    let run : List ℕ = take whole (drop index words) in
    let behind : List ℕ = drop whole (drop index words) in
    let after : List Bool = bits_of_words behind ++ tail in
    let parts : bits_of_words words ≡ before ++ (bits_of_words run ++ bits_of_words behind) =
    ap bits_of_words (sym (take-append-drop index words)) ∙ bits_of_words-append (take index words) (drop index words)
    ∙ ap (λ (bits : List Bool). before ++ bits) (ap bits_of_words (sym (take-append-drop whole (drop index words))) ∙ bits_of_words-append run behind) in
    let all : bits_of_words words ++ tail ≡ before ++ (bits_of_words run ++ after) =
    ap (λ (bits : List Bool). bits ++ tail) parts ∙ append_assoc before (bits_of_words run ++ bits_of_words behind) tail
    ∙ ap (λ (bits : List Bool). before ++ bits) (append_assoc (bits_of_words run) (bits_of_words behind) tail) in
    let far : length before ≡ 64 * index = omega (arith, length-bits_of_words (take index words), length-take index words) in
    let long : length (bits_of_words run) ≡ 64 * whole = omega (arith, length-bits_of_words run, length-take whole (drop index words), length-drop index words) in
    sym (ap (λ (bits : List Bool). take (64 * whole) (drop (64 * index) bits)) all ∙ ap (take (64 * whole)) (drop_at before (bits_of_words run ++ after) (64 * index) far)
    ∙ take_at (bits_of_words run) after (64 * whole) long)

-- the bits from a place of the first of them on, but those that make no whole word
pub moved_read : (words : List ℕ) (tail : List Bool) (place whole : ℕ) → place / 64 + (whole + 1) ≤ length words
    → take (64 * whole) (drop (place % 64) (bits_of_words (take (whole + 1) (drop (place / 64) words)))) ≡ take (64 * whole) (drop place (bits_of_words words ++ tail))
moved_read words tail place whole within =
    let bits : List Bool = bits_of_words words ++ tail in
    let index : ℕ = place / 64 in
    let offset : ℕ = place % 64 in
    let left : ℕ = 64 * (whole + 1) - offset in
    let size : 64 * (whole + 1) ≡ offset + left = omega arith in
    let at : 64 * index + offset ≡ place = omega arith in
    let cut : drop offset (take (offset + left) (drop (64 * index) bits)) ≡ take left (drop place bits) =
    drop-take offset left (drop (64 * index) bits) ∙ ap (take left) (drop-drop offset (64 * index) bits ∙ ap (λ (k : ℕ). drop k bits) at) in
    ap (λ (run : List Bool). take (64 * whole) (drop offset run)) (run_read words tail index (whole + 1) within ∙ ap (λ (n : ℕ). take n (drop (64 * index) bits)) size)
    ∙ ap (take (64 * whole)) cut ∙ take-take (64 * whole) left (drop place bits) (omega arith)

-- one of the words that the bits from a place of the first on make
pub moved_word : (words : List ℕ) (tail : List Bool) (place i x y : ℕ) → 0 < place → place < 64 → i + 1 < length words → x ≡ get_or words i 0 → y ≡ get_or words (i + 1) 0 → y < 2 ^ 64
    → low_bits 64 ((x * 2 ^ place % 2 ^ 64 + y / 2 ^ (64 - place)) % 2 ^ 64) ≡ take 64 (drop (64 * i + place) (bits_of_words words ++ tail))
moved_word words tail place i x y some few within is_x is_y small =
    let bits : List Bool = bits_of_words words ++ tail in
    let at : ℕ = 64 * i + place in
    let offset : at % 64 ≡ place = omega arith in
    let index : at / 64 ≡ i = omega arith in
    let first : take 64 (drop (64 * (at / 64)) bits) ≡ low_bits 64 x =
    ap (λ (k : ℕ). take 64 (drop (64 * k) bits)) index ∙ word_among words tail i (omega arith) ∙ ap (low_bits 64) (sym is_x) in
    let second : take 64 (drop (64 * (at / 64 + 1)) bits) ≡ low_bits 64 y =
    ap (λ (k : ℕ). take 64 (drop (64 * (k + 1)) bits)) index ∙ word_among words tail (i + 1) within ∙ ap (low_bits 64) (sym is_y) in
    ap (λ (k : ℕ). low_bits 64 ((x * 2 ^ k % 2 ^ 64 + y / 2 ^ (64 - k)) % 2 ^ 64)) (sym offset) ∙ whole_read bits x y at (omega arith) first second small

-- and the words so far with it
pub moved_more : (mine : List Bool) (words pushed : List ℕ) (bits : List Bool) (place i x : ℕ) → bits_of_words words ≡ mine ++ take (64 * i) (drop place bits) → pushed ≡ words ++ x ∷ []
    → low_bits 64 x ≡ take 64 (drop (64 * i + place) bits) → bits_of_words pushed ≡ mine ++ take (64 * (i + 1)) (drop place bits)
moved_more mine words pushed bits place i x are is read =
    let next : 64 * i + 64 ≡ 64 * (i + 1) = omega arith in
    let at : 64 * i + place ≡ place + 64 * i = omega arith in
    let word : low_bits 64 x ≡ take 64 (drop (place + 64 * i) bits) = read ∙ ap (λ (k : ℕ). take 64 (drop k bits)) at in
    ap bits_of_words is ∙ bits_of_words-push words x ∙ ap (λ (front : List Bool). front ++ low_bits 64 x) are ∙ append_assoc mine (take (64 * i) (drop place bits)) (low_bits 64 x)
    ∙ ap (λ (end : List Bool). mine ++ end) (ap (λ (end : List Bool). take (64 * i) (drop place bits) ++ end) word ∙ two_parts bits (64 * i) 64 place ∙ ap (λ (n : ℕ). take n (drop place bits)) next)

-- a word more behind others and bits that fill no word
pub behind_more : (words pushed others : List ℕ) (mine tail tail' : List Bool) (i x : ℕ) → i < length others → bits_of_words words ++ tail ≡ mine ++ bits_of_words (take i others) → pushed ≡ words ++ x ∷ []
    → low_bits 64 x ++ tail' ≡ tail ++ low_bits 64 (get_or others i 0) → bits_of_words pushed ++ tail' ≡ mine ++ bits_of_words (take (i + 1) others)
behind_more words pushed others mine tail tail' i x within are is full =
    let word : List Bool = low_bits 64 (get_or others i 0) in
    filled words pushed tail tail' word x is full ∙ ap (λ (front : List Bool). front ++ word) are ∙ append_assoc mine (bits_of_words (take i others)) word
    ∙ ap (λ (bits : List Bool). mine ++ bits) (sym (ap bits_of_words (take_more others i 0 within) ∙ bits_of_words-push (take i others) (get_or others i 0)))
