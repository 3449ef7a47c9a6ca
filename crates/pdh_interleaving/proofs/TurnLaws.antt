-- Bits of tributaries in turn, for any number of tributaries.
use Rattle.std.proofs.Common.{◌≡◌, ℕ, zero, suc, ◌+◌, ◌-◌, ◌*◌, ◌/◌, ◌%◌, ◌<◌, Bool, false, List, [], ◌++◌, length, map, take, drop, get_or, sym, ◌∙◌, ap, arith, inl, inr, length-append}
use Rattle.std.proofs.lemmas.Bool.{cases_lt}
use Rattle.std.proofs.lemmas.List.{get_or_append_left, get_or-append_right, get_or-drop, get_or-map, same_lists, length-map, take_at}
use Rattle.std.proofs.lemmas.List.FromFn.{get_or-map-range_with_len, length-map-range_with_len}
use Rattle.std.proofs.Math.Nat.{zero-add, add-mul, mod-lt, div-lt_iff_lt-mul, mul-add-mod_self_right, mul-add-div_right}
use Rattle.pdh_interleaving.specs.Interleaving.{bit_in_turn, interleaved, column}

pub length-interleaved : (lists : List (List Bool)) (n : ℕ) → length (interleaved lists n) ≡ n * length lists
unfolding interleaved
length-interleaved lists n = length-map-range_with_len (bit_in_turn lists) 0 (n * length lists)

-- the bit at a place
pub get_or-interleaved : (lists : List (List Bool)) (n s : ℕ) (d : Bool) → s < n * length lists → get_or (interleaved lists n) s d ≡ bit_in_turn lists s
unfolding interleaved
get_or-interleaved lists n s d within = get_or-map-range_with_len (bit_in_turn lists) 0 (n * length lists) s s d within (zero-add s)

some_lists : (n t s : ℕ) → s < n * t → 0 < t
some_lists n zero s within = let none : n * 0 ≡ 0 = omega arith in absurd (omega arith)
some_lists n (suc t) s within = omega arith

-- lists that begin alike give the same bits
pub same_turns : (xs ys : List (List Bool)) (n : ℕ) → length xs ≡ length ys → ((j i : ℕ) → j < length xs → i < n → get_or (get_or xs j []) i false ≡ get_or (get_or ys j []) i false) → interleaved xs n ≡ interleaved ys n
same_turns xs ys n many alike =
    let times : n * length xs ≡ n * length ys = ap (λ (t : ℕ). n * t) many in
    same_lists (interleaved xs n) (interleaved ys n) (length-interleaved xs n ∙ times ∙ sym (length-interleaved ys n)) (λ s d within. at s d (omega (arith, length-interleaved xs n)))
  where
    at : (s : ℕ) (d : Bool) → s < n * length xs → get_or (interleaved xs n) s d ≡ get_or (interleaved ys n) s d
    at s d within =
        let some : 0 < length xs = some_lists n (length xs) s within in
        let times : n * length xs ≡ n * length ys = ap (λ (t : ℕ). n * t) many in
        let row : s / length xs < n = (div-lt_iff_lt-mul some).1 within in
        let turn = ap (λ (t : ℕ). get_or (get_or ys (s % t) []) (s / t) false) many in
        get_or-interleaved xs n s d within ∙ alike (s % length xs) (s / length xs) (mod-lt s some) row ∙ turn ∙ sym (get_or-interleaved ys n s d (omega arith))

-- bits in turn after others in turn
pub more_turns : (lists : List (List Bool)) (n m : ℕ) → interleaved lists (n + m) ≡ interleaved lists n ++ interleaved (map (drop n) lists) m
more_turns lists n m =
    let many : length (map (drop n) lists) ≡ length lists = length-map lists (drop n) in
    let both : (n + m) * length lists ≡ n * length lists + m * length lists = add-mul n m (length lists) in
    let rest_long : length (interleaved (map (drop n) lists) m) ≡ m * length lists = length-interleaved (map (drop n) lists) m ∙ ap (λ (t : ℕ). m * t) many in
    same_lists (interleaved lists (n + m)) (interleaved lists n ++ interleaved (map (drop n) lists) m)
    (omega (arith, length-interleaved lists (n + m), length-interleaved lists n, rest_long, both, length-append (interleaved lists n) (interleaved (map (drop n) lists) m)))
    (λ s d within. at s d (omega (arith, length-interleaved lists (n + m))))
  where
    later : (r : ℕ) (d : Bool) → r < m * length lists → bit_in_turn lists (n * length lists + r) ≡ get_or (interleaved (map (drop n) lists) m) r d
    later r d within =
        let t : ℕ = length lists in
        let some : 0 < t = some_lists m t r within in
        let many : length (map (drop n) lists) ≡ t = length-map lists (drop n) in
        let few : r < m * length (map (drop n) lists) = rw many within in
        let who : (n * t + r) % t ≡ r % t = mul-add-mod_self_right n t r in
        let when : (n * t + r) / t ≡ n + r / t = mul-add-div_right some n r in
        let list : get_or (map (drop n) lists) (r % t) [] ≡ drop n (get_or lists (r % t) []) = get_or-map (drop n) lists (r % t) [] [] (mod-lt r some) in
        let turn = ap (λ (k : ℕ). get_or (get_or (map (drop n) lists) (r % k) []) (r / k) false) many in
        ap (λ (j : ℕ). get_or (get_or lists j []) ((n * t + r) / t) false) who ∙ ap (λ (i : ℕ). get_or (get_or lists (r % t) []) i false) when
        ∙ sym (get_or-drop n (get_or lists (r % t) []) (r / t) false) ∙ ap (λ (bits : List Bool). get_or bits (r / t) false) (sym list) ∙ sym turn
        ∙ sym (get_or-interleaved (map (drop n) lists) m r d few)

    at : (s : ℕ) (d : Bool) → s < (n + m) * length lists → get_or (interleaved lists (n + m)) s d ≡ get_or (interleaved lists n ++ interleaved (map (drop n) lists) m) s d
    at s d within =
        let t : ℕ = length lists in
        let first : List Bool = interleaved lists n in
        let rest : List Bool = interleaved (map (drop n) lists) m in
        let long : length first ≡ n * t = length-interleaved lists n in
        let both : (n + m) * t ≡ n * t + m * t = add-mul n m t in
        elim (cases_lt s (n * t)) [
          | inl early ↦ get_or-interleaved lists (n + m) s d within ∙ sym (get_or-interleaved lists n s d early) ∙ sym (get_or_append_left first rest d s (omega arith))
          | inr late ↦
              let r : ℕ = s - n * t in
              let whole : s ≡ n * t + r = omega arith in
              get_or-interleaved lists (n + m) s d within ∙ ap (bit_in_turn lists) whole ∙ later r d (omega arith) ∙ sym (get_or-append_right first rest (n * t) s d long late)
        ]

-- the first of them
pub first_turns : (lists : List (List Bool)) (n m : ℕ) → take (n * length lists) (interleaved lists (n + m)) ≡ interleaved lists n
first_turns lists n m =
    ap (take (n * length lists)) (more_turns lists n m) ∙ take_at (interleaved lists n) (interleaved (map (drop n) lists) m) (n * length lists) (length-interleaved lists n)

pub length-column : (t n : ℕ) (line : List Bool) (j : ℕ) → length (column t n line j) ≡ n
length-column t n line j = length-map-range_with_len (λ i. get_or line (i * t + j) false) 0 n

pub get_or-column : (t n : ℕ) (line : List Bool) (j i : ℕ) (d : Bool) → i < n → get_or (column t n line j) i d ≡ get_or line (i * t + j) false
get_or-column t n line j i d within = get_or-map-range_with_len (λ k. get_or line (k * t + j) false) 0 n i i d within (zero-add i)

-- a column after another
pub more_column : (t n m : ℕ) (line : List Bool) (j : ℕ) → column t (n + m) line j ≡ column t n line j ++ column t m (drop (n * t) line) j
more_column t n m line j =
    let first : List Bool = column t n line j in
    let rest : List Bool = column t m (drop (n * t) line) j in
    same_lists (column t (n + m) line j) (first ++ rest)
    (omega (arith, length-column t (n + m) line j, length-append first rest, length-column t n line j, length-column t m (drop (n * t) line) j))
    (λ i d within. at i d (omega (arith, length-column t (n + m) line j)))
  where
    at : (i : ℕ) (d : Bool) → i < n + m → get_or (column t (n + m) line j) i d ≡ get_or (column t n line j ++ column t m (drop (n * t) line) j) i d
    at i d within =
        let first : List Bool = column t n line j in
        let rest : List Bool = column t m (drop (n * t) line) j in
        elim (cases_lt i n) [
          | inl early ↦ get_or-column t (n + m) line j i d within ∙ sym (get_or-column t n line j i d early) ∙ sym (get_or_append_left first rest d i (omega (arith, length-column t n line j)))
          | inr late ↦
              let r : ℕ = i - n in
              let whole : i ≡ n + r = omega arith in
              let times : i * t + j ≡ n * t + (r * t + j) = ap (λ (k : ℕ). k * t + j) whole ∙ omega (arith, add-mul n r t) in
              get_or-column t (n + m) line j i d within ∙ ap (λ (k : ℕ). get_or line k false) times ∙ sym (get_or-drop (n * t) line (r * t + j) false)
              ∙ sym (get_or-column t m (drop (n * t) line) j r d (omega arith)) ∙ sym (get_or-append_right first rest n i d (length-column t n line j) late)
        ]
