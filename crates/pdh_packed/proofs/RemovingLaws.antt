-- Bits but one of them, word by word.
use Rattle.std.proofs.Common.{◌≡◌, ℕ, suc, ◌+◌, ◌-◌, ◌*◌, ◌/◌, ◌%◌, ◌^◌, ◌<◌, ◌≤◌, Bool, false, inl, inr, List, [], ◌∷◌, ◌++◌, length, take, drop, get_or, append_assoc, refl, sym, ◌∙◌, ap, subst, arith, length-append, length-drop, length-take}
use Rattle.std.proofs.lemmas.Bool.{cases_lt}
use Rattle.std.proofs.lemmas.List.{take_all, drop-drop, drop-take, take-take, nil_from_length, take-append-drop, take-append-le, drop-append-le}
use Rattle.pdh_packed.specs.Words.{low_bits, bits_of_words}
use Rattle.pdh_packed.specs.WordLaws.{length-low_bits}
use Rattle.pdh_packed.proofs.PackedLaws.{take_past, drop_past, length-bits_of_words, word_among}
use Rattle.pdh_packed.proofs.RunLaws.{word_in, moved_word}

-- bits but that at a place
abbrev pub bits_but : ℕ → List Bool → List Bool
bits_but place bits = take place bits ++ drop (place + 1) bits

-- words are these bits where each word is so many of them
pub by_words : (words : List ℕ) (bits : List Bool) → length bits ≡ 64 * length words → ((i : ℕ) → i < length words → low_bits 64 (get_or words i 0) ≡ take 64 (drop (64 * i) bits)) → bits_of_words words ≡ bits
unfolding bits_of_words
by_words [] bits long are = sym (nil_from_length bits long)
by_words (x ∷ xs) bits long are =
    let rest : bits_of_words xs ≡ drop 64 bits =
    by_words xs (drop 64 bits) (omega (arith, length-drop 64 bits, long))
    (λ i within.
    let at : 64 * suc i ≡ 64 + 64 * i = omega arith in
    are (suc i) (omega (arith, within)) ∙ ap (take 64) (ap (λ (k : ℕ). drop k bits) at ∙ sym (drop-drop (64 * i) 64 bits))) in
    ap (λ (end : List Bool). low_bits 64 x ++ end) rest ∙ ap (λ (front : List Bool). front ++ drop 64 bits) (are 0 (omega arith)) ∙ take-append-drop 64 bits

pub length-but : (place : ℕ) (bits : List Bool) → place < length bits → length (bits_but place bits) + 1 ≡ length bits
length-but place bits within =
    omega (arith, length-append (take place bits) (drop (place + 1) bits), length-take place bits, length-drop (place + 1) bits, within)

-- some of those before it
pub read_before : (place n k : ℕ) (bits : List Bool) → n + k ≤ place → place < length bits → take k (drop n (bits_but place bits)) ≡ take k (drop n bits)
read_before place n k bits before within =
    let m : ℕ = place - n in
    let whole : place ≡ n + m = omega arith in
    let long : length (take place bits) ≡ place = omega (arith, length-take place bits, within) in
    let front : drop n (take place bits) ≡ take m (drop n bits) = ap (λ (p : ℕ). drop n (take p bits)) whole ∙ drop-take n m bits in
    let short : k ≤ length (drop n (take place bits)) = omega (arith, length-drop n (take place bits), long) in
    ap (take k) (drop-append-le n (take place bits) (drop (place + 1) bits) (omega (arith, long)))
    ∙ take-append-le k (drop n (take place bits)) (drop (place + 1) bits) short ∙ ap (take k) front ∙ take-take k m (drop n bits) (omega arith)

-- those from a place behind it on
pub read_behind : (place n : ℕ) (bits : List Bool) → place ≤ n → place < length bits → drop n (bits_but place bits) ≡ drop (n + 1) bits
read_behind place n bits behind within =
    let long : length (take place bits) ≡ place = omega (arith, length-take place bits, within) in
    let at : place + 1 + (n - place) ≡ n + 1 = omega arith in
    drop_past n (take place bits) (drop (place + 1) bits) (omega (arith, long))
    ∙ ap (λ (m : ℕ). drop (n - m) (drop (place + 1) bits)) long
    ∙ drop-drop (n - place) (place + 1) bits ∙ ap (λ (m : ℕ). drop m bits) at

-- a word in which it is
pub read_among : (from at : ℕ) (bits : List Bool) → at < 64 → from + at < length bits → take 64 (drop from (bits_but (from + at) bits)) ≡ take at (drop from bits) ++ take (64 - at) (drop (from + at + 1) bits)
read_among from at bits few within =
    let place : ℕ = from + at in
    let long : length (take place bits) ≡ place = omega (arith, length-take place bits, within) in
    let front : drop from (take place bits) ≡ take at (drop from bits) = drop-take from at bits in
    let short : length (take at (drop from bits)) ≡ at = omega (arith, length-take at (drop from bits), length-drop from bits, within) in
    ap (take 64) (drop-append-le from (take place bits) (drop (place + 1) bits) (omega (arith, long)) ∙ ap (λ (x : List Bool). x ++ drop (place + 1) bits) front)
    ∙ take_past 64 (take at (drop from bits)) (drop (place + 1) bits) (omega (arith, short, few))
    ∙ ap (λ (n : ℕ). take at (drop from bits) ++ take (64 - n) (drop (place + 1) bits)) short

-- bits with another behind them, of which one before it is left out
pub but_before : (place : ℕ) (bits : List Bool) (last : Bool) → place < length bits → take place bits ++ (drop (place + 1) bits ++ last ∷ []) ≡ bits_but place (bits ++ last ∷ [])
but_before place bits last within =
    sym (ap (λ (front : List Bool). front ++ drop (place + 1) (bits ++ last ∷ [])) (take-append-le place bits (last ∷ []) (omega arith))
    ∙ ap (λ (end : List Bool). take place bits ++ end) (drop-append-le (place + 1) bits (last ∷ []) (omega arith)))

-- words from one on whose bits have moved by a place, so that its first is left out
module _ (old new : List ℕ) (from : ℕ) (last : Bool) (within : from < length old) (long : length new ≡ length old)
    (small : (k : ℕ) → get_or old k 0 < 2 ^ 64)
    (before : (k : ℕ) → k < from → get_or new k 0 ≡ get_or old k 0)
    (moved : (k : ℕ) → from ≤ k → k + 1 < length old → get_or new k 0 ≡ (get_or old k 0 * 2 ^ 1 % 2 ^ 64 + get_or old (k + 1) 0 / 2 ^ 63) % 2 ^ 64)
    (ended : (k : ℕ) → k + 1 ≡ length old → low_bits 64 (get_or new k 0) ≡ drop 1 (low_bits 64 (get_or old k 0)) ++ last ∷ []) where
  length-all : length (bits_of_words old ++ last ∷ []) ≡ 64 * length old + 1
  length-all = omega (arith, length-append (bits_of_words old) (last ∷ []), length-bits_of_words old)

  at_end : (i : ℕ) → i + 1 ≡ length old → low_bits 64 (get_or new i 0) ≡ take 64 (drop (64 * i + 1) (bits_of_words old ++ last ∷ []))
  at_end i is =
      let bits : List Bool = bits_of_words old in
      let x : ℕ = get_or old i 0 in
      let whole : length (drop (64 * i) bits) ≡ 64 = omega (arith, length-drop (64 * i) bits, length-bits_of_words old, is) in
      let word : drop (64 * i) bits ≡ low_bits 64 x = sym (take_all 64 (drop (64 * i) bits) (omega (arith, whole))) ∙ word_in old i (omega (arith, is)) in
      let rest : drop (64 * i + 1) (bits ++ last ∷ []) ≡ drop 1 (low_bits 64 x) ++ last ∷ [] =
      drop-append-le (64 * i + 1) bits (last ∷ []) (omega (arith, length-bits_of_words old, is))
      ∙ ap (λ (front : List Bool). front ++ last ∷ []) (sym (drop-drop 1 (64 * i) bits) ∙ ap (drop 1) word) in
      let short : length (drop 1 (low_bits 64 x) ++ last ∷ []) ≤ 64 = omega (arith, length-append (drop 1 (low_bits 64 x)) (last ∷ []), length-drop 1 (low_bits 64 x), length-low_bits 64 x) in
      ended i is ∙ sym (ap (take 64) rest ∙ take_all 64 (drop 1 (low_bits 64 x) ++ last ∷ []) short)

  later : (i : ℕ) → from ≤ i → i < length old → low_bits 64 (get_or new i 0) ≡ take 64 (drop (64 * i + 1) (bits_of_words old ++ last ∷ []))
  later i behind inside = elim (cases_lt (i + 1) (length old)) [
    | inl more ↦ ap (low_bits 64) (moved i behind more) ∙ moved_word old (last ∷ []) 1 i (get_or old i 0) (get_or old (i + 1) 0) (omega arith) (omega arith) more refl refl (small (i + 1))
    | inr end ↦ at_end i (omega (arith, end, inside))
  ]

  moved_word_at : (i : ℕ) → i < length new → low_bits 64 (get_or new i 0) ≡ take 64 (drop (64 * i) (bits_but (64 * from) (bits_of_words old ++ last ∷ [])))
  moved_word_at i inside = elim (cases_lt i from) [
    | inl early ↦
        ap (low_bits 64) (before i early) ∙ sym (word_among old (last ∷ []) i (omega (arith, inside, long)))
        ∙ sym (read_before (64 * from) (64 * i) 64 (bits_of_words old ++ last ∷ []) (omega (arith, early)) (omega (arith, within, length-all)))
    | inr late ↦
        later i late (omega (arith, inside, long)) ∙ ap (take 64) (sym (read_behind (64 * from) (64 * i) (bits_of_words old ++ last ∷ []) (omega (arith, late)) (omega (arith, within, length-all))))
  ]

  pub words_moved : bits_of_words new ≡ bits_but (64 * from) (bits_of_words old ++ last ∷ [])
  words_moved = by_words new (bits_but (64 * from) (bits_of_words old ++ last ∷ [])) (omega (arith, length-but (64 * from) (bits_of_words old ++ last ∷ []) (omega (arith, within, length-all)), length-all, long)) moved_word_at

-- and where the first of them keeps its bits before a place
module _ (old moved new : List ℕ) (place : ℕ) (bits : List Bool) (within : place < 64 * length old) (long : length moved ≡ length old) (same : length new ≡ length old)
    (size : length bits ≡ 64 * length old + 1)
    (was : take 64 (drop (64 * (place / 64)) bits) ≡ low_bits 64 (get_or old (place / 64) 0))
    (are : bits_of_words moved ≡ bits_but (64 * (place / 64)) bits)
    (before : (k : ℕ) → k < place / 64 → get_or new k 0 ≡ get_or moved k 0)
    (behind : (k : ℕ) → place / 64 < k → get_or new k 0 ≡ get_or moved k 0)
    (at : low_bits 64 (get_or new (place / 64) 0) ≡ take (place % 64) (low_bits 64 (get_or old (place / 64) 0)) ++ drop (place % 64) (low_bits 64 (get_or moved (place / 64) 0))) where
  as_moved : (i : ℕ) → i < length old → low_bits 64 (get_or moved i 0) ≡ take 64 (drop (64 * i) (bits_but (64 * (place / 64)) bits))
  as_moved i inside = sym (word_in moved i (omega (arith, inside, long))) ∙ ap (λ (b : List Bool). take 64 (drop (64 * i) b)) are

  first_without : take 64 (drop (64 * (place / 64)) (bits_but place bits)) ≡ low_bits 64 (get_or new (place / 64) 0)
  first_without =
      let f : ℕ = 64 * (place / 64) in
      let o : ℕ = place % 64 in
      let is : f + o ≡ place = omega arith in
      let whole : 64 ≡ o + (64 - o) = omega arith in
      let far : f + 1 + o ≡ f + o + 1 = omega arith in
      let front : take o (low_bits 64 (get_or old (place / 64) 0)) ≡ take o (drop f bits) = ap (take o) (sym was) ∙ take-take o 64 (drop f bits) (omega arith) in
      let rest : drop o (low_bits 64 (get_or moved (place / 64) 0)) ≡ take (64 - o) (drop (f + o + 1) bits) =
      ap (drop o) (as_moved (place / 64) (omega (arith, within)) ∙ ap (take 64) (read_behind f f bits (omega arith) (omega (arith, within, size))))
      ∙ ap (λ (n : ℕ). drop o (take n (drop (f + 1) bits))) whole ∙ drop-take o (64 - o) (drop (f + 1) bits)
      ∙ ap (take (64 - o)) (drop-drop o (f + 1) bits ∙ ap (λ (n : ℕ). drop n bits) far) in
      ap (λ (n : ℕ). take 64 (drop f (bits_but n bits))) (sym is) ∙ read_among f o bits (omega arith) (omega (arith, is, within, size))
      ∙ sym (at ∙ ap (λ (x : List Bool). x ++ drop o (low_bits 64 (get_or moved (place / 64) 0))) front ∙ ap (λ (x : List Bool). take o (drop f bits) ++ x) rest)

  word_without : (i : ℕ) → i < length new → low_bits 64 (get_or new i 0) ≡ take 64 (drop (64 * i) (bits_but place bits))
  word_without i inside = elim (cases_lt i (place / 64)) [
    | inl early ↦
        ap (low_bits 64) (before i early) ∙ as_moved i (omega (arith, inside, same))
        ∙ read_before (64 * (place / 64)) (64 * i) 64 bits (omega (arith, early)) (omega (arith, within, size))
        ∙ sym (read_before place (64 * i) 64 bits (omega (arith, early)) (omega (arith, within, size)))
    | inr late ↦ elim (cases_lt (place / 64) i) [
      | inl later ↦
          ap (low_bits 64) (behind i later) ∙ as_moved i (omega (arith, inside, same))
          ∙ ap (take 64) (read_behind (64 * (place / 64)) (64 * i) bits (omega (arith, later)) (omega (arith, within, size))
          ∙ sym (read_behind place (64 * i) bits (omega (arith, later)) (omega (arith, within, size))))
      | inr not_later ↦
          let is : place / 64 ≡ i = omega (arith, late, not_later) in
          subst (λ (k : ℕ). low_bits 64 (get_or new k 0) ≡ take 64 (drop (64 * k) (bits_but place bits))) is (sym first_without)
    ]
  ]

  pub words_without : bits_of_words new ≡ bits_but place bits
  words_without = by_words new (bits_but place bits) (omega (arith, length-but place bits (omega (arith, within, size)), size, same)) word_without

-- one of the bits behind whole words is left out
pub but_behind : (front last : List Bool) (place at : ℕ) → place ≡ length front + at → front ++ bits_but at last ≡ bits_but place (front ++ last)
but_behind front last place at is =
    let less : place - length front ≡ at = omega (arith, is) in
    let past : place + 1 - length front ≡ at + 1 = omega (arith, is) in
    let first : take place (front ++ last) ≡ front ++ take at last = take_past place front last (omega (arith, is)) ∙ ap (λ (n : ℕ). front ++ take n last) less in
    let rest : drop (place + 1) (front ++ last) ≡ drop (at + 1) last = drop_past (place + 1) front last (omega (arith, is)) ∙ ap (λ (n : ℕ). drop n last) past in
    sym (append_assoc front (take at last) (drop (at + 1) last)) ∙ ap (λ (x : List Bool). x ++ drop (at + 1) last) (sym first) ∙ ap (λ (x : List Bool). take place (front ++ last) ++ x) (sym rest)

-- or one of these, and the first behind them takes the last place
pub but_among : (front last new : List Bool) (place : ℕ) → place < length front → 0 < length last
    → new ≡ take place front ++ (drop (place + 1) front ++ get_or last 0 false ∷ []) → new ++ drop 1 last ≡ bits_but place (front ++ last)
but_among front [] new place within some are = absurd (omega arith)
but_among front (x ∷ last) new place within some are =
    let first : take place (front ++ x ∷ last) ≡ take place front = take-append-le place front (x ∷ last) (omega arith) in
    let rest : drop (place + 1) (front ++ x ∷ last) ≡ drop (place + 1) front ++ x ∷ last = drop-append-le (place + 1) front (x ∷ last) (omega arith) in
    ap (λ (bits : List Bool). bits ++ last) are ∙ append_assoc (take place front) (drop (place + 1) front ++ x ∷ []) last
    ∙ ap (λ (bits : List Bool). take place front ++ bits) (append_assoc (drop (place + 1) front) (x ∷ []) last)
    ∙ sym (ap (λ (bits : List Bool). bits ++ drop (place + 1) (front ++ x ∷ last)) first ∙ ap (λ (bits : List Bool). take place front ++ bits) rest)
