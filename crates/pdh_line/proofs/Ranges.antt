-- Lists made from the numbers of a range.
use Rattle.std.proofs.Common.{◌≡◌, ℕ, zero, suc, ◌+◌, ◌<◌, ◌≤◌, Bool, true, false, ◌&&◌, cond, List, [], ◌∷◌, ◌++◌, length, map, filter, refl, sym, ap, ◌∙◌, inl, inr, arith, append_assoc, add-one, zero-add, ◌||◌}
use Rattle.std.specs.Prelude.{count_by}
use Rattle.std.specs.List.{range_with_len, list_all, list_any}
use Rattle.std.proofs.lemmas.List.{map-append, append-nil}
use Rattle.std.proofs.lemmas.List.Elements.{filter-append}
use Rattle.std.proofs.lemmas.List.Folds.{list_any-append}
use Rattle.std.proofs.lemmas.List.Sums.{sum_by-cons}
use Rattle.std.proofs.lemmas.Bool.{cases_Bool}
pub use Rattle.pdh_shape.specs.laws.Ranges.{and_true, list_all-at, count_push}

pub range_push : (a n : ℕ) → range_with_len a (suc n) ≡ range_with_len a n ++ (a + n) ∷ []
range_push a zero = ap (λ x. x ∷ []) (omega arith)
range_push a (suc n) =
    let rest : range_with_len (a + 1) (suc n) ≡ range_with_len (a + 1) n ++ (a + 1 + n) ∷ [] = range_push (a + 1) n in
    let e : a + 1 + n ≡ a + suc n = omega arith in
    ap (λ x. a ∷ x) (rest ∙ ap (λ k. range_with_len (a + 1) n ++ k ∷ []) e)

pub length-range : (a n : ℕ) → length (range_with_len a n) ≡ n
length-range a zero = refl
length-range a (suc n) = ap (λ k. suc k) (length-range (a + 1) n)

pub range_append : (a n m : ℕ) → range_with_len a (n + m) ≡ range_with_len a n ++ range_with_len (a + n) m
range_append a n zero = ap (range_with_len a) (omega arith) ∙ sym (append-nil (range_with_len a n))
range_append a n (suc m) =
    let e : n + suc m ≡ suc (n + m) = omega arith in
    let f : a + (n + m) ≡ (a + n) + m = omega arith in
    ap (range_with_len a) e ∙ range_push a (n + m) ∙ ap (λ x. x ++ (a + (n + m)) ∷ []) (range_append a n m)
    ∙ append_assoc (range_with_len a n) (range_with_len (a + n) m) ((a + (n + m)) ∷ [])
    ∙ ap (λ k. range_with_len a n ++ (range_with_len (a + n) m ++ k ∷ [])) f
    ∙ ap (λ x. range_with_len a n ++ x) (sym (range_push (a + n) m))

pub map-range_same_on : {X : Type 0} (f g : ℕ → X) (a n : ℕ) → ((k : ℕ) → a ≤ k → k < a + n → f k ≡ g k) → map f (range_with_len a n) ≡ map g (range_with_len a n)
map-range_same_on f g a zero same = refl
map-range_same_on f g a (suc n) same =
    let here : f a ≡ g a = same a (omega arith) (omega arith) in
    let rest : map f (range_with_len (a + 1) n) ≡ map g (range_with_len (a + 1) n) = map-range_same_on f g (a + 1) n (λ k h h'. same k (omega arith) (omega arith)) in
    cc

pub map-range_shift : {X : Type 0} (f : ℕ → X) (a b n : ℕ) → map f (range_with_len (a + b) n) ≡ map (λ k. f (a + k)) (range_with_len b n)
map-range_shift f a b zero = refl
map-range_shift f a b (suc n) =
    let e : a + b + 1 ≡ a + (b + 1) = omega arith in
    ap (λ x. f (a + b) ∷ x) (ap (λ k. map f (range_with_len k n)) e ∙ map-range_shift f a (b + 1) n)

pub list_all-range : (p : ℕ → Bool) (a n : ℕ) → ((k : ℕ) → a ≤ k → k < a + n → p k ≡ true) → list_all p (range_with_len a n) ≡ true
list_all-range p a zero all = refl
list_all-range p a (suc n) all =
    let here : p a ≡ true = all a (omega arith) (omega arith) in
    let rest : list_all p (range_with_len (a + 1) n) ≡ true = list_all-range p (a + 1) n (λ k h h'. all k (omega arith) (omega arith)) in
    ap (λ b. b && list_all p (range_with_len (a + 1) n)) here ∙ rest

pub count-range_same : (p q : ℕ → Bool) (a n : ℕ) → ((k : ℕ) → a ≤ k → k < a + n → p k ≡ q k) → count_by p (range_with_len a n) ≡ count_by q (range_with_len a n)
count-range_same p q a zero same = refl
count-range_same p q a (suc n) same =
    let here : p a ≡ q a = same a (omega arith) (omega arith) in
    let rest : count_by p (range_with_len (a + 1) n) ≡ count_by q (range_with_len (a + 1) n) = count-range_same p q (a + 1) n (λ k h h'. same k (omega arith) (omega arith)) in
    sum_by-cons (λ x. cond (p x) 1 0) a (range_with_len (a + 1) n) ∙ ap (λ b. cond b 1 0 + count_by p (range_with_len (a + 1) n)) here
    ∙ ap (λ n. cond (q a) 1 0 + n) rest ∙ sym (sum_by-cons (λ x. cond (q x) 1 0) a (range_with_len (a + 1) n))

pub count_none : (xs : List ℕ) → count_by (λ x. false) xs ≡ 0
count_none [] = refl
count_none (x ∷ xs) = sum_by-cons (λ x. 0) x xs ∙ ap (λ n. 0 + n) (count_none xs)

pub count-range_push : (p : ℕ → Bool) (n : ℕ) → count_by p (range_with_len 0 (suc n)) ≡ count_by p (range_with_len 0 n) + cond (p n) 1 0
count-range_push p n = ap (λ k. count_by p (range_with_len 0 k)) (sym (add-one n)) ∙ count_push p n

filter_one : (p : ℕ → Bool) (k : ℕ) (b : Bool) → p k ≡ b → filter p (k ∷ []) ≡ cond b (k ∷ []) []
filter_one p k b h = ap (λ b. cond b (k ∷ []) []) h

-- the passing numbers, each by how many pass before it
pub numbered : {X : Type 0} (f : ℕ → X) (p : ℕ → Bool) (n : ℕ)
    → map (λ k. f (count_by p (range_with_len 0 k))) (filter p (range_with_len 0 n)) ≡ map f (range_with_len 0 (count_by p (range_with_len 0 n)))
numbered f p zero = refl
numbered f p (suc n) =
    let e : 0 + n ≡ n = omega arith in
    let before : map (λ k. f (count_by p (range_with_len 0 k))) (filter p (range_with_len 0 n)) ≡ map f (range_with_len 0 (count_by p (range_with_len 0 n))) = numbered f p n in
    let split : filter p (range_with_len 0 (suc n)) ≡ filter p (range_with_len 0 n) ++ filter p (n ∷ []) =
    ap (filter p) (range_push 0 n) ∙ filter-append p (range_with_len 0 n) ((0 + n) ∷ []) ∙ ap (λ k. filter p (range_with_len 0 n) ++ filter p (k ∷ [])) e in
    let maps : map (λ k. f (count_by p (range_with_len 0 k))) (filter p (range_with_len 0 (suc n)))
    ≡ map f (range_with_len 0 (count_by p (range_with_len 0 n))) ++ map (λ k. f (count_by p (range_with_len 0 k))) (filter p (n ∷ [])) =
    ap (map (λ k. f (count_by p (range_with_len 0 k)))) split ∙ map-append (λ k. f (count_by p (range_with_len 0 k))) (filter p (range_with_len 0 n)) (filter p (n ∷ []))
    ∙ ap (λ x. x ++ map (λ k. f (count_by p (range_with_len 0 k))) (filter p (n ∷ []))) before in
    elim (cases_Bool (p n)) [
      | inl passes ↦
          let c : ℕ = count_by p (range_with_len 0 n) in
          let more : count_by p (range_with_len 0 (suc n)) ≡ suc c = count-range_push p n ∙ ap (λ b. c + cond b 1 0) passes ∙ omega arith in
          maps ∙ ap (λ x. map f (range_with_len 0 c) ++ map (λ k. f (count_by p (range_with_len 0 k))) x) (filter_one p n true passes)
          ∙ sym (ap (λ k. map f (range_with_len 0 k)) more ∙ ap (map f) (range_push 0 c) ∙ map-append f (range_with_len 0 c) ((0 + c) ∷ []) ∙ ap (λ k. map f (range_with_len 0 c) ++ f k ∷ []) (omega arith))
      | inr fails ↦
          let c : ℕ = count_by p (range_with_len 0 n) in
          let same : count_by p (range_with_len 0 (suc n)) ≡ c = count-range_push p n ∙ ap (λ b. c + cond b 1 0) fails ∙ omega arith in
          maps ∙ ap (λ x. map f (range_with_len 0 c) ++ map (λ k. f (count_by p (range_with_len 0 k))) x) (filter_one p n false fails)
          ∙ append-nil (map f (range_with_len 0 c)) ∙ sym (ap (λ k. map f (range_with_len 0 k)) same)
    ]

or_false : (b : Bool) → (b || false) ≡ b
or_false true = refl
or_false false = refl

pub list_any_push : (p : ℕ → Bool) (n : ℕ) → list_any p (range_with_len 0 (n + 1)) ≡ (list_any p (range_with_len 0 n) || p n)
list_any_push p n =
    ap (λ k. list_any p (range_with_len 0 k)) (add-one n) ∙ ap (list_any p) (range_push 0 n) ∙ list_any-append p (range_with_len 0 n) ((0 + n) ∷ [])
    ∙ ap (λ b. list_any p (range_with_len 0 n) || b) (or_false (p (0 + n)) ∙ ap p (zero-add n))
