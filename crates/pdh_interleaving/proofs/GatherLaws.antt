-- Words of bits in turn: the columns that they give, and the rows of four words.
use Rattle.std.proofs.Common.{◌≡◌, ℕ, zero, suc, ◌+◌, ◌-◌, ◌*◌, ◌/◌, ◌%◌, ◌<◌, ◌≤◌, Bool, false, List, [], ◌∷◌, length, map, take, drop, get_or, min, inl, inr, refl, sym, ◌∙◌, ap, arith, length-take}
use Rattle.std.proofs.lemmas.Bool.{cases_lt}
use Rattle.std.proofs.lemmas.List.{get_or-take, get_or-drop, get_or-map, length-map, same_lists}
use Rattle.pdh_bits.specs.Bits.{bit}
use Rattle.pdh_bits.specs.BitOut.{BoundedBits}
use Rattle.pdh_packed.specs.Words.{low_bits, bits_of_words}
use Rattle.pdh_packed.specs.WordLaws.{length-low_bits, get_or_low}
use Rattle.pdh_packed.proofs.RunLaws.{get_or-words}
use Rattle.pdh_interleaving.specs.Interleaving.{interleaved, column, appended_to_each, dealt}
use Rattle.pdh_interleaving.proofs.TurnLaws.{length-interleaved, get_or-interleaved, length-column, get_or-column}
use Rattle.pdh_interleaving.proofs.RowLaws.{no_turns, first_rows, words_from}
use Rattle.pdh_interleaving.proofs.DealtLaws.{appended_same, dealt_is}

-- a number has the column of a line whose bits it has
pub column_read : (r t count j : ℕ) (line : List Bool) → count ≤ 64 → ((i : ℕ) → i < count → bit r (63 - i) ≡ get_or line (i * t + j) false) → take count (low_bits 64 r) ≡ column t count line j
column_read r t count j line few are =
    let long : length (take count (low_bits 64 r)) ≡ count = omega (arith, length-take count (low_bits 64 r), length-low_bits 64 r, few) in
    same_lists (take count (low_bits 64 r)) (column t count line j) (long ∙ sym (length-column t count line j)) (λ i e inside. at i e (omega (arith, long, inside)))
  where
    at : (i : ℕ) (e : Bool) → i < count → get_or (take count (low_bits 64 r)) i e ≡ get_or (column t count line j) i e
    at i e inside = get_or-take count (low_bits 64 r) i e inside ∙ get_or_low i 64 r e (omega (arith, inside, few)) ∙ are i inside ∙ sym (get_or-column t count line j i e inside)

-- the first four of some numbers, one by one
four_words : (words : List ℕ) (k : ℕ) → k < 4 → get_or (get_or words 0 0 ∷ get_or words 1 0 ∷ get_or words 2 0 ∷ get_or words 3 0 ∷ []) k 0 ≡ get_or words k 0
four_words words zero few = refl
four_words words (suc zero) few = refl
four_words words (suc (suc zero)) few = refl
four_words words (suc (suc (suc zero))) few = refl
four_words words (suc (suc (suc (suc k)))) few = absurd (omega arith)

-- four numbers that have the columns of four words, as the code deals them
pub four_dealt : (words columns : List ℕ) (count : ℕ) (lists : List BoundedBits) → length words ≡ 4 → length lists ≡ 4 → count ≤ 64
    → ((j i : ℕ) → j < 4 → i < 64 → bit (get_or columns j 0) (63 - i) ≡ bit (get_or (get_or words 0 0 ∷ get_or words 1 0 ∷ get_or words 2 0 ∷ get_or words 3 0 ∷ []) (i / 16) 0) (63 - (i % 16 * 4 + j)))
    → appended_to_each (λ j. take count (low_bits 64 (get_or columns j 0))) 0 lists ≡ dealt count (bits_of_words words) lists
four_dealt words columns count lists long four few are =
    appended_same (λ j. take count (low_bits 64 (get_or columns j 0))) (column (length lists) count (bits_of_words words)) 0 lists
    (λ j inside. one j (omega (arith, inside, four)) ∙ ap (λ (k : ℕ). column k count (bits_of_words words) j) (sym four))
    ∙ sym (dealt_is count (bits_of_words words) lists)
  where
    at : (j i : ℕ) → j < 4 → i < count → bit (get_or columns j 0) (63 - i) ≡ get_or (bits_of_words words) (i * 4 + j) false
    at j i who inside =
        let row : ℕ = i % 16 * 4 + j in
        let within : i / 16 < 4 = omega (arith, inside, few) in
        let place : 64 * (i / 16) + row ≡ i * 4 + j = omega arith in
        are j i who (omega (arith, inside, few)) ∙ ap (λ (w : ℕ). bit w (63 - row)) (four_words words (i / 16) within)
        ∙ sym (get_or-words words (i / 16) row (omega (arith, within, long)) (omega (arith, who))) ∙ ap (λ (k : ℕ). get_or (bits_of_words words) k false) place

    one : (j : ℕ) → j < 4 → take count (low_bits 64 (get_or columns j 0)) ≡ column 4 count (bits_of_words words) j
    one j who = column_read (get_or columns j 0) 4 count j (bits_of_words words) few (λ i inside. at j i who inside)

-- ---- rows of four words

-- four numbers that have the bits of four words in turn, sixteen of each in a number
abbrev pub HasRows4 : List ℕ → List ℕ → Type 0
HasRows4 rows words =
    (j i : ℕ) → j < 4 → i < 64 → bit (get_or rows (i / 16) 0) (63 - (i % 16 * 4 + j)) ≡ bit (get_or (get_or words 0 0 ∷ get_or words 1 0 ∷ get_or words 2 0 ∷ get_or words 3 0 ∷ []) j 0) (63 - i)

-- one of them has sixteen bits of each
row_in_turn : (words rows : List ℕ) (k : ℕ) → length words ≡ 4 → k < 4 → HasRows4 rows words → low_bits 64 (get_or rows k 0) ≡ interleaved (map (λ (word : ℕ). drop (16 * k) (low_bits 64 word)) words) 16
row_in_turn words rows k four few are =
    let lists : List (List Bool) = map (λ (word : ℕ). drop (16 * k) (low_bits 64 word)) words in
    let many : length lists ≡ 4 = length-map words (λ (word : ℕ). drop (16 * k) (low_bits 64 word)) ∙ four in
    let long : length (interleaved lists 16) ≡ 64 = length-interleaved lists 16 ∙ ap (λ (t : ℕ). 16 * t) many in
    same_lists (low_bits 64 (get_or rows k 0)) (interleaved lists 16) (length-low_bits 64 (get_or rows k 0) ∙ sym long) (λ s d within. at s d (omega (arith, within, length-low_bits 64 (get_or rows k 0))))
  where
    at : (s : ℕ) (d : Bool) → s < 64 → get_or (low_bits 64 (get_or rows k 0)) s d ≡ get_or (interleaved (map (λ (word : ℕ). drop (16 * k) (low_bits 64 word)) words) 16) s d
    at s d within =
        let lists : List (List Bool) = map (λ (word : ℕ). drop (16 * k) (low_bits 64 word)) words in
        let many : length lists ≡ 4 = length-map words (λ (word : ℕ). drop (16 * k) (low_bits 64 word)) ∙ four in
        let j : ℕ = s % 4 in
        let i : ℕ = 16 * k + s / 4 in
        let who : j < 4 = omega arith in
        let inside : i < 64 = omega (arith, few, within) in
        let row : k ≡ i / 16 = omega (arith, within) in
        let place : s ≡ i % 16 * 4 + j = omega (arith, within) in
        let list : get_or lists j [] ≡ drop (16 * k) (low_bits 64 (get_or words j 0)) = get_or-map (λ (word : ℕ). drop (16 * k) (low_bits 64 word)) words j 0 [] (omega (arith, who, four)) in
        let has : get_or (get_or lists j []) (s / 4) false ≡ bit (get_or words j 0) (63 - i) =
        ap (λ (bits : List Bool). get_or bits (s / 4) false) list ∙ get_or-drop (16 * k) (low_bits 64 (get_or words j 0)) (s / 4) false ∙ get_or_low i 64 (get_or words j 0) false inside in
        get_or_low s 64 (get_or rows k 0) d within ∙ ap (λ (v : ℕ). bit (get_or rows v 0) (63 - s)) row ∙ ap (λ (v : ℕ). bit (get_or rows (i / 16) 0) (63 - v)) place
        ∙ are j i who inside ∙ ap (λ (w : ℕ). bit w (63 - i)) (four_words words j who) ∙ sym has
        ∙ ap (λ (t : ℕ). get_or (get_or lists (s % t) []) (s / t) false) (sym many) ∙ sym (get_or-interleaved lists 16 s d (omega (arith, many, within)))

-- the first bits of one of them, where so many bits of each are wanted and those before it have been taken
pub rows_taken : (words rows : List ℕ) (k count done more : ℕ) → length words ≡ 4 → k < 4 → HasRows4 rows words → done ≡ min (16 * k) count → more ≡ min (count - done) 16
    → take (4 * more) (low_bits 64 (get_or rows k 0)) ≡ interleaved (map (drop done) (map (low_bits 64) words)) more
rows_taken words rows k count done more four few are is_done is_more =
    elim (cases_lt done count) [
      | inl before ↦
          let whole : 16 * k ≡ done = omega (arith, is_done, before) in
          let lists : List (List Bool) = map (λ (word : ℕ). drop (16 * k) (low_bits 64 word)) words in
          let many : 4 ≡ length lists = sym (length-map words (λ (word : ℕ). drop (16 * k) (low_bits 64 word)) ∙ four) in
          let row : List Bool = low_bits 64 (get_or rows k 0) in
          let times : 4 * more ≡ more * 4 = omega arith in
          first_rows 16 row (take (4 * more) row) lists more 4 (omega (arith, is_more)) many (row_in_turn words rows k four few are) (ap (λ (n : ℕ). take n row) times)
          ∙ ap (λ (ls : List (List Bool)). interleaved ls more) (words_from (16 * k) words) ∙ ap (λ (n : ℕ). interleaved (map (drop n) (map (low_bits 64) words)) more) whole
      | inr all ↦
          let none : more ≡ 0 = omega (arith, is_more, all) in
          ap (λ (n : ℕ). take (4 * n) (low_bits 64 (get_or rows k 0))) none ∙ sym (no_turns (map (drop done) (map (low_bits 64) words)))
          ∙ ap (interleaved (map (drop done) (map (low_bits 64) words))) (sym none)
    ]
