-- Rows of bits of four or of seven tributaries, from bytes and words.
use Rattle.std.proofs.Common.{◌≡◌, ℕ, zero, suc, ◌+◌, ◌-◌, ◌*◌, ◌<◌, ◌≤◌, Bool, false, List, [], ◌∷◌, ◌++◌, length, map, take, drop, get_or, append_assoc, refl, sym, ◌∙◌, ap, arith}
use Rattle.std.proofs.lemmas.List.{get_or-take, get_or-map, length-map, nil_from_length, append-nil, drop-drop}
use Rattle.pdh_bits.specs.BitOut.{BoundedBits}
use Rattle.pdh_packed.specs.Words.{low_bits, bounded}
use Rattle.pdh_interleaving.specs.Interleaving.{interleaved}
use Rattle.pdh_interleaving.proofs.TurnLaws.{same_turns, length-interleaved, more_turns, first_turns}

-- lists made of one another's members, which begin alike
pub made_alike : {X Y : Type 0} (f : X → List Bool) (g : Y → List Bool) (xs : List X) (ys : List Y) (n : ℕ) (x : X) (y : Y) → length xs ≡ length ys
    → ((j : ℕ) → j < length xs → take n (f (get_or xs j x)) ≡ take n (g (get_or ys j y))) → interleaved (map f xs) n ≡ interleaved (map g ys) n
made_alike f g xs ys n x y many alike =
    same_turns (map f xs) (map g ys) n (length-map xs f ∙ many ∙ sym (length-map ys g))
    (λ j i who within.
    let here : j < length xs = omega (arith, length-map xs f) in
    let first = get_or-map f xs j x [] here in
    let second = get_or-map g ys j y [] (omega arith) in
    ap (λ (bits : List Bool). get_or bits i false) first ∙ sym (get_or-take n (f (get_or xs j x)) i false within)
    ∙ ap (λ (bits : List Bool). get_or bits i false) (alike j here) ∙ get_or-take n (g (get_or ys j y)) i false within ∙ ap (λ (bits : List Bool). get_or bits i false) (sym second))

-- a fact of each of four places, and of seven
pub each_of_four : (P : ℕ → Type 0) → P 0 → P 1 → P 2 → P 3 → (j : ℕ) → j < 4 → P j
each_of_four P a b c d zero within = a
each_of_four P a b c d (suc zero) within = b
each_of_four P a b c d (suc (suc zero)) within = c
each_of_four P a b c d (suc (suc (suc zero))) within = d
each_of_four P a b c d (suc (suc (suc (suc j)))) within = absurd (omega arith)

pub each_of_seven : (P : ℕ → Type 0) → P 0 → P 1 → P 2 → P 3 → P 4 → P 5 → P 6 → (j : ℕ) → j < 7 → P j
each_of_seven P a b c d e f g zero within = a
each_of_seven P a b c d e f g (suc zero) within = b
each_of_seven P a b c d e f g (suc (suc zero)) within = c
each_of_seven P a b c d e f g (suc (suc (suc zero))) within = d
each_of_seven P a b c d e f g (suc (suc (suc (suc zero)))) within = e
each_of_seven P a b c d e f g (suc (suc (suc (suc (suc zero))))) within = f
each_of_seven P a b c d e f g (suc (suc (suc (suc (suc (suc zero)))))) within = g
each_of_seven P a b c d e f g (suc (suc (suc (suc (suc (suc (suc j))))))) within = absurd (omega arith)

-- no bits in turn
pub no_turns : (lists : List (List Bool)) → interleaved lists 0 ≡ []
no_turns lists = nil_from_length (interleaved lists 0) (omega (arith, length-interleaved lists 0))

pub none_got : (first : BoundedBits) (lists : List (List Bool)) (n : ℕ) → n ≡ 0 → first ≡ bounded first.capacity (first.bits ++ interleaved lists n)
none_got first lists n none =
    sym (ap (λ (bits : List Bool). bounded first.capacity (first.bits ++ bits)) (ap (interleaved lists) none ∙ no_turns lists) ∙ ap (bounded first.capacity) (append-nil first.bits))

-- bits in turn after those that were appended
pub turns_grow : (mine word : List Bool) (lists : List (List Bool)) (n m k : ℕ) → k ≡ n + m → word ≡ interleaved (map (drop n) lists) m → mine ++ interleaved lists k ≡ (mine ++ interleaved lists n) ++ word
turns_grow mine word lists n m k whole is =
    ap (λ (bits : List Bool). mine ++ bits) (ap (interleaved lists) whole ∙ more_turns lists n m ∙ ap (λ (bits : List Bool). interleaved lists n ++ bits) (sym is))
    ∙ sym (append_assoc mine (interleaved lists n) word)

-- words from a place on
pub words_from : (place : ℕ) (words : List ℕ) → map (λ (word : ℕ). drop place (low_bits 64 word)) words ≡ map (drop place) (map (low_bits 64) words)
words_from place [] = refl
words_from place (word ∷ words) = ap (λ (lists : List (List Bool)). drop place (low_bits 64 word) ∷ lists) (words_from place words)

-- lists from a place on, and from a later one
pub lists_from : (place done : ℕ) (lists : List BoundedBits) → map (λ (t : BoundedBits). drop (place + done) t.bits) lists ≡ map (drop done) (map (λ (t : BoundedBits). drop place t.bits) lists)
lists_from place done [] = refl
lists_from place done (list ∷ lists) =
    let first : drop (place + done) list.bits ≡ drop done (drop place list.bits) = sym (drop-drop done place list.bits) in
    let rest = lists_from place done lists in
    cc

-- the first of so many rows
pub first_rows : (all : ℕ) (rows word : List Bool) (lists : List (List Bool)) (n t : ℕ) → n ≤ all → t ≡ length lists → rows ≡ interleaved lists all → word ≡ take (n * t) rows → word ≡ interleaved lists n
first_rows all rows word lists n t few many are is =
    let whole : all ≡ n + (all - n) = omega arith in
    is ∙ ap (λ (k : ℕ). take (n * k) rows) many ∙ ap (take (n * length lists)) (are ∙ ap (interleaved lists) whole) ∙ first_turns lists n (all - n)
