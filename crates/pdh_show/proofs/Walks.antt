-- Walks over slots and lines, one step further.
use Rattle.std.proofs.Common.{◌≡◌, ℕ, suc, ◌+◌, ◌-◌, ◌<◌, ◌≤◌, min, inl, inr, Bool, true, false, ◌&&◌, cond, List, [], ◌∷◌, ◌++◌, length, map, filter, take, drop, length-drop, refl, sym, ap, ◌∙◌, arith, add-one, zero-add, append_assoc}
use Rattle.std.specs.Prelude.{count_by}
use Rattle.std.specs.List.{range_with_len, list_all, flat_map}
use Rattle.std.proofs.lemmas.Bool.{cases_lt}
use Rattle.std.proofs.lemmas.List.{map-append, append-nil, take_all}
use Rattle.std.proofs.lemmas.List.Concat.{flat_map-append}
use Rattle.std.proofs.lemmas.List.Elements.{filter-append}
use Rattle.std.proofs.lemmas.List.Folds.{list_all-append}
use Rattle.pdh_line.proofs.Ranges.{range_push, count_push}
use Rattle.pdh_runs.proofs.Counts.{before_less}

push : (n : ℕ) → range_with_len 0 (n + 1) ≡ range_with_len 0 n ++ n ∷ []
push n = ap (range_with_len 0) (add-one n) ∙ range_push 0 n ∙ ap (λ k. range_with_len 0 n ++ k ∷ []) (zero-add n)

and_one : (b : Bool) → (b && true) ≡ b
and_one true = refl
and_one false = refl

pub list_all_push : (p : ℕ → Bool) (n : ℕ) → list_all p (range_with_len 0 (n + 1)) ≡ (list_all p (range_with_len 0 n) && p n)
list_all_push p n = ap (list_all p) (push n) ∙ list_all-append p (range_with_len 0 n) (n ∷ []) ∙ ap (λ b. list_all p (range_with_len 0 n) && b) (and_one (p n))

-- the pieces of numbers, and of one more
pub pieces_next : {X Y : Type 0} (f : X → List Y) (g : ℕ → X) (n : ℕ) (start old now : List Y) → old ≡ start ++ flat_map f (map g (range_with_len 0 n)) → now ≡ old ++ f (g n) → now ≡ start ++ flat_map f (map g (range_with_len 0 (n + 1)))
pieces_next {X} {Y} f g n start old now before new =
    let pieces : List Y = flat_map f (map g (range_with_len 0 n)) in
    let more : flat_map f (map g (range_with_len 0 (n + 1))) ≡ pieces ++ f (g n) =
    ap (λ l. flat_map f (map g l)) (push n) ∙ ap (flat_map f) (map-append g (range_with_len 0 n) (n ∷ [])) ∙ flat_map-append f (map g (range_with_len 0 n)) (g n ∷ []) ∙ ap (λ l. pieces ++ l) (append-nil (f (g n))) in
    new ∙ ap (λ l. l ++ f (g n)) before ∙ append_assoc start pieces (f (g n)) ∙ ap (λ l. start ++ l) (sym more)

one_picked : {Y : Type 0} (f : ℕ → List Y) (n : ℕ) (b : Bool) → flat_map f (cond b (n ∷ []) []) ≡ cond b (f n) []
one_picked f n true = append-nil (f n)
one_picked f n false = refl

-- the pieces of the numbers that pass, and of one more that does or doesn't
pub picked_next : {Y : Type 0} (f : ℕ → List Y) (p : ℕ → Bool) (n : ℕ) (is : Bool) (start old now : List Y) → is ≡ p n → old ≡ start ++ flat_map f (filter p (range_with_len 0 n)) → now ≡ old ++ cond is (f n) [] → now ≡ start ++ flat_map f (filter p (range_with_len 0 (n + 1)))
picked_next {Y} f p n is start old now passes before new =
    let pieces : List Y = flat_map f (filter p (range_with_len 0 n)) in
    let more : flat_map f (filter p (range_with_len 0 (n + 1))) ≡ pieces ++ cond (p n) (f n) [] =
    ap (λ l. flat_map f (filter p l)) (push n) ∙ ap (flat_map f) (filter-append p (range_with_len 0 n) (n ∷ [])) ∙ flat_map-append f (filter p (range_with_len 0 n)) (filter p (n ∷ [])) ∙ ap (λ l. pieces ++ l) (one_picked f n (p n)) in
    new ∙ ap (λ l. l ++ cond is (f n) []) before ∙ ap (λ b. (start ++ pieces) ++ cond b (f n) []) passes ∙ append_assoc start pieces (cond (p n) (f n) []) ∙ ap (λ l. start ++ l) (sym more)

-- how many numbers pass, with one more that does or doesn't
pub counted_next : (p : ℕ → Bool) (n : ℕ) (is : Bool) (start old now : ℕ) → is ≡ p n → old ≡ start + count_by p (range_with_len 0 n) → now ≡ old + cond is 1 0 → now ≡ start + count_by p (range_with_len 0 (n + 1))
counted_next p n is start old now passes before new =
    let more : count_by p (range_with_len 0 (n + 1)) ≡ count_by p (range_with_len 0 n) + cond (p n) 1 0 = count_push p n in
    let now_is : now ≡ old + cond (p n) 1 0 = new ∙ ap (λ (b : Bool). old + cond b 1 0) passes in
    omega (arith, now_is, before, more)

-- fewer pass before a number that passes than in all
pub one_more : (p : ℕ → Bool) (n len : ℕ) → n < len → p n ≡ true → suc (count_by p (range_with_len 0 n)) ≤ count_by p (range_with_len 0 len)
one_more p n len inside passes = omega (arith, before_less p n len passes inside)

-- so many bytes from a place on, or what is left
pub piece_is : (bytes : List ℕ) (size start end : ℕ) → end ≡ min (length bytes) (start + size) → take (end - start) (drop start bytes) ≡ take size (drop start bytes)
piece_is bytes size start end at =
    let left : length (drop start bytes) ≡ length bytes - start = length-drop start bytes in
    elim (cases_lt (start + size) (length bytes)) [
      | inl less ↦ ap (λ n. take n (drop start bytes)) (omega (arith, at, less))
      | inr more ↦ take_all (end - start) (drop start bytes) (omega (arith, at, more, left)) ∙ sym (take_all size (drop start bytes) (omega (arith, at, more, left)))
    ]
