-- The words of superframes, frame by frame, and what stays of a line as more follows.
use Rattle.std.proofs.Common.{◌≡◌, ℕ, zero, suc, ◌+◌, ◌-◌, ◌*◌, ◌%◌, ◌≤◌, Bool, true, List, [], ◌∷◌, ◌++◌, length, take, drop, append_assoc, refl, sym, ap, ◌∙◌, arith, length-drop}
use Rattle.std.specs.Prelude.{flat_map}
use Rattle.std.specs.List.{range_with_len}
use Rattle.std.proofs.lemmas.List.{append-nil, take_all, drop-drop, drop-append-le, length-take-le}
use Rattle.std.proofs.lemmas.Grind.{flat_map-append}
use Rattle.std.proofs.Math.Seq.{take-add, drop-append-add}
use Rattle.pdh_bits.specs.Bits.{bits_of}
use Rattle.pdh_bits.proofs.BitsLemmas.{bits_of-bytes_of}
use Rattle.pdh_packed.specs.Words.{low_bits}
use Rattle.pdh_packed.proofs.ByteLaws.{bytes_of_number, bytes_of_low}
use Rattle.pdh_line.proofs.Ranges.{range_push}
use Rattle.pdh_framed.proofs.Parts.{slice_range-append}
use Rattle.pdh_ds1.specs.Crc6.{crc6}
use Rattle.pdh_ds1.specs.Packing.{payload_at, with_ones, word_of, sent_word}

-- one more number of a range
pub flat_map_push : {X : Type 0} (f : ℕ → List X) (k : ℕ) → flat_map f (range_with_len 0 (k + 1)) ≡ flat_map f (range_with_len 0 k) ++ f k
flat_map_push f k =
    let next : k + 1 ≡ suc k = omega arith in
    let here : 0 + k ≡ k = omega arith in
    ap (λ n. flat_map f (range_with_len 0 n)) next
    ∙ ap (flat_map f) (range_push 0 k)
    ∙ flat_map-append f (range_with_len 0 k) ((0 + k) ∷ [])
    ∙ ap (λ n. flat_map f (range_with_len 0 k) ++ (f n ++ [])) here
    ∙ ap (λ x. flat_map f (range_with_len 0 k) ++ x) (append-nil (f k))

-- ---- 64 bits at a time

-- the octets of 64 bits of a line
pub octets_read : (line : List Bool) (place n : ℕ) (octets : List ℕ) → place + 64 ≤ length line → low_bits 64 n ≡ take 64 (drop place line) → octets ≡ bytes_of_number n → bits_of octets ≡ take 64 (drop place line)
octets_read line place n octets within written is =
    let word : List Bool = take 64 (drop place line) in
    let eight : length word % 8 ≡ 0 = ap (λ (k : ℕ). k % 8) (length-take-le 64 (drop place line) (omega (arith, length-drop place line))) in
    ap bits_of (is ∙ bytes_of_low n word written) ∙ bits_of-bytes_of word eight

-- three words of 64 bits behind a bit that is 1
pub frame_words : (start : ℕ) (line bits : List Bool)
    → crc6 ((((bits ++ true ∷ []) ++ take 64 (drop (start + 1) line)) ++ take 64 (drop (start + 65) line)) ++ take 64 (drop (start + 129) line)) ≡ crc6 (bits ++ true ∷ take 192 (drop (start + 1) line))
frame_words start line bits =
    let rest : List Bool = drop (start + 1) line in
    let at : start + 65 ≡ start + 1 + 64 = omega arith in
    let at' : start + 129 ≡ start + 1 + 128 = omega arith in
    let second : drop (start + 65) line ≡ drop 64 rest = ap (λ n. drop n line) at ∙ sym (drop-drop 64 (start + 1) line) in
    let third : drop (start + 129) line ≡ drop 128 rest = ap (λ n. drop n line) at' ∙ sym (drop-drop 128 (start + 1) line) in
    let a : List Bool = take 64 rest in
    let b : List Bool = take 64 (drop 64 rest) in
    let c : List Bool = take 64 (drop 128 rest) in
    let all : take 192 rest ≡ (a ++ b) ++ c = take-add 128 64 rest ∙ ap (λ (x : List Bool). x ++ c) (take-add 64 64 rest) in
    ap (λ (x : List Bool). crc6 ((((bits ++ true ∷ []) ++ a) ++ take 64 x) ++ take 64 (drop (start + 129) line))) second
    ∙ ap (λ (x : List Bool). crc6 ((((bits ++ true ∷ []) ++ a) ++ b) ++ take 64 x)) third
    ∙ ap crc6 (
    append_assoc ((bits ++ true ∷ []) ++ a) b c
    ∙ append_assoc (bits ++ true ∷ []) a (b ++ c)
    ∙ append_assoc bits (true ∷ []) (a ++ (b ++ c))
    ∙ ap (λ (x : List Bool). bits ++ true ∷ x) (sym (append_assoc a b c) ∙ sym all)
    )

-- ---- superframes

pub with_ones-push : (line : List Bool) (k : ℕ) → with_ones line (k + 1) ≡ with_ones line k ++ true ∷ payload_at line k
with_ones-push line k = flat_map_push (λ frame. true ∷ payload_at line frame) k

-- the payload of a frame of a superframe that begins at a place
pub payload_from : (line : List Bool) (start k : ℕ) → payload_at (drop start line) k ≡ take 192 (drop (start + 193 * k + 1) line)
payload_from line start k =
    let count : 193 * k + 193 - (193 * k + 1) ≡ 192 = omega arith in
    let at : start + (193 * k + 1) ≡ start + 193 * k + 1 = omega arith in
    ap (λ n. take n (drop (193 * k + 1) (drop start line))) count
    ∙ ap (take 192) (drop-drop (193 * k + 1) start line ∙ ap (λ n. drop n line) at)

-- one more frame
pub frame_push : (line : List Bool) (start k before next : ℕ) → before ≡ crc6 (with_ones (drop start line) k)
    → ((bits : List Bool) → before ≡ crc6 bits → next ≡ crc6 (bits ++ true ∷ take 192 (drop (start + 193 * k + 1) line)))
    → next ≡ crc6 (with_ones (drop start line) (k + 1))
frame_push line start k before next so more =
    more (with_ones (drop start line) k) so
    ∙ ap (λ (x : List Bool). crc6 (with_ones (drop start line) k ++ true ∷ x)) (sym (payload_from line start k))
    ∙ sym (ap crc6 (with_ones-push (drop start line) k))

pub word_of-is : (frames : ℕ) (line : List Bool) → word_of frames line ≡ crc6 (with_ones line frames)
unfolding word_of
word_of-is frames line = refl

-- ---- a line to which more is appended

pub payload_at-append : (line more : List Bool) (k : ℕ) → 193 * k + 193 ≤ length line → payload_at (line ++ more) k ≡ payload_at line k
payload_at-append line more k within = slice_range-append line more (193 * k + 1) (193 * k + 193) (omega arith) within

-- that of a frame that is appended
pub payload_at-new : (line octets : List Bool) (k : ℕ) (b : Bool) → length line ≡ 193 * k → length octets ≡ 192 → payload_at (line ++ b ∷ octets) k ≡ octets
payload_at-new line octets k b long whole =
    let count : 193 * k + 193 - (193 * k + 1) ≡ 192 = omega arith in
    let at : 193 * k + 1 ≡ length line + 1 = omega arith in
    ap (λ (n : ℕ). take n (drop (193 * k + 1) (line ++ b ∷ octets))) count
    ∙ ap (λ (i : ℕ). take 192 (drop i (line ++ b ∷ octets))) at
    ∙ ap (take 192) (drop-append-add line (b ∷ octets) 1)
    ∙ take_all 192 octets (omega arith)

with_ones-append : (line more : List Bool) (k : ℕ) → 193 * k ≤ length line → with_ones (line ++ more) k ≡ with_ones line k
with_ones-append line more zero within = refl
with_ones-append line more (suc k) within =
    let next : suc k ≡ k + 1 = omega arith in
    ap (with_ones (line ++ more)) next ∙ with_ones-push (line ++ more) k
    ∙ ap (λ (x : List Bool). x ++ true ∷ payload_at (line ++ more) k) (with_ones-append line more k (omega arith))
    ∙ ap (λ (x : List Bool). with_ones line k ++ true ∷ x) (payload_at-append line more k (omega arith))
    ∙ sym (ap (with_ones line) next ∙ with_ones-push line k)

-- one more frame that is appended
pub with_ones-new : (line bits : List Bool) (k : ℕ) (b : Bool) → length line ≡ 193 * k → length bits ≡ 192 → with_ones (line ++ b ∷ bits) (k + 1) ≡ with_ones line k ++ true ∷ bits
with_ones-new line bits k b long whole =
    with_ones-push (line ++ b ∷ bits) k
    ∙ ap (λ (x : List Bool). x ++ true ∷ payload_at (line ++ b ∷ bits) k) (with_ones-append line (b ∷ bits) k (omega (arith, long)))
    ∙ ap (λ (x : List Bool). with_ones line k ++ true ∷ x) (payload_at-new line bits k b long whole)

-- ---- the word that a superframe sends

pub sent_word-first : (frames : ℕ) (line : List Bool) → sent_word frames line 0 ≡ 0
unfolding sent_word
sent_word-first frames line = refl

-- that of the one before
pub sent_word-next : (frames : ℕ) (line : List Bool) (number : ℕ) → sent_word frames line (number + 1) ≡ word_of frames (drop (193 * (frames * number)) line)
unfolding sent_word
sent_word-next frames line number = let next : number + 1 ≡ suc number = omega arith in ap (sent_word frames line) next

-- it stays as more follows
pub sent_word-append : (frames : ℕ) (line more : List Bool) (number : ℕ) → 193 * (frames * number) ≤ length line → sent_word frames (line ++ more) number ≡ sent_word frames line number
unfolding sent_word
sent_word-append frames line more zero within = refl
sent_word-append frames line more (suc before) within =
    let start : ℕ = 193 * (frames * before) in
    let order : start + 193 * frames ≤ length line = omega (arith, within) in
    let here : List Bool = drop start line in
    ap (word_of frames) (drop-append-le start line more (omega arith))
    ∙ word_of-is frames (here ++ more)
    ∙ ap crc6 (with_ones-append here more frames (omega (arith, length-drop start line)))
    ∙ sym (word_of-is frames here)
