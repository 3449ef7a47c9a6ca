-- The names of the kinds in a set, one after another.
use Rattle.std.proofs.Common.{◌≡◌, ℕ, zero, suc, ◌+◌, ◌<◌, ◌≤◌, Bool, true, false, ◌==◌, cond, List, [], ◌∷◌, ◌++◌, length, map, take, refl, sym, ◌∙◌, ap, arith, get_or, append_assoc, length-append}
use Rattle.std.specs.Prelude.{fold, sum_by, codes, bit_and}
use Rattle.std.proofs.lemmas.List.{append-nil, take_more, take_all, length-map}
use Rattle.std.proofs.lemmas.List.Sums.{fold-append, sum_by-cons, sum_by-append}
use Rattle.std.proofs.lemmas.Bool.{eq-eqb, ne_eqb}
use Rattle.pdh_watch.specs.declared.kind.Kind.{Kind}
use Rattle.pdh_watch.specs.Kinds.{kinds}
use Rattle.pdh_watch.specs.Monitors.{with_name, names_of}

-- the names of the first kinds
abbrev pub first_names : Kind → ℕ → List ℕ
first_names set n = fold (with_name set) [] (take n kinds)

-- the name that is added to a line is added to the names in it
pub name_added : (set : Kind) (old text line : List ℕ) (name : List ℕ) (bits from : ℕ) → from ≡ length old → line ≡ old ++ text
    → cond (bit_and set.0 bits == bits) (cond (length line == from) line (line ++ codes "+") ++ name) line ≡ old ++ with_name set text (name, bits)
name_added set old text line name bits from at is =
    ap (λ v. cond (bit_and set.0 bits == bits) (cond (length v == from) v (v ++ codes "+") ++ name) v) is
    ∙ ap (λ n. cond (bit_and set.0 bits == bits) (cond (length (old ++ text) == n) (old ++ text) ((old ++ text) ++ codes "+") ++ name) (old ++ text)) at
    ∙ decided (bit_and set.0 bits == bits)
  where
    behind : (text : List ℕ) → cond (length (old ++ text) == length old) (old ++ text) ((old ++ text) ++ codes "+") ++ name ≡ old ++ cond (length text == 0) name (text ++ codes "+" ++ name)
    behind [] =
        let e : length (old ++ []) ≡ length old = ap length (append-nil old) in
        ap (λ b. cond b (old ++ []) ((old ++ []) ++ codes "+") ++ name) (eq-eqb (length (old ++ [])) (length old) e) ∙ ap (λ v. v ++ name) (append-nil old)
    behind (x ∷ text) =
        let long : length (old ++ x ∷ text) ≡ length old + length (x ∷ text) = length-append old (x ∷ text) in
        let some : length (x ∷ text) ≡ suc (length text) = refl in
        ap (λ b. cond b (old ++ x ∷ text) ((old ++ x ∷ text) ++ codes "+") ++ name) (ne_eqb (length (old ++ x ∷ text)) (length old) (λ e. omega (arith, long, some, e)))
        ∙ ap (λ v. v ++ name) (append_assoc old (x ∷ text) (codes "+")) ∙ append_assoc old (x ∷ text ++ codes "+") name
        ∙ ap (λ b. old ++ cond b name (x ∷ text ++ codes "+" ++ name)) (sym (ne_eqb (length (x ∷ text)) 0 (λ e. omega (arith, some, e))))

    decided : (b : Bool) → cond b (cond (length (old ++ text) == length old) (old ++ text) ((old ++ text) ++ codes "+") ++ name) (old ++ text)
        ≡ old ++ cond b (cond (length text == 0) name (text ++ codes "+" ++ name)) text
    decided true = behind text
    decided false = refl

get_or-map : {A : Type 0} (h : A → List ℕ × ℕ) (items : List A) (n : ℕ) (d : A) → get_or (map h items) n (h d) ≡ h (get_or items n d)
get_or-map h [] n d = refl
get_or-map h (x ∷ items) zero d = refl
get_or-map h (x ∷ items) (suc n) d = get_or-map h items n d

-- the first kinds with one more
kinds_push : {A : Type 0} (h : A → List ℕ × ℕ) (items : List A) (n : ℕ) (d : A) → map h items ≡ kinds → n < length items → take (n + 1) kinds ≡ take n kinds ++ h (get_or items n d) ∷ []
kinds_push h items n d e lt =
    let same : length kinds ≡ length items = ap length (sym e) ∙ length-map items h in
    take_more kinds n (h d) (omega (arith, same, lt)) ∙ ap (λ v. take n kinds ++ v ∷ []) (ap (λ v. get_or v n (h d)) (sym e) ∙ get_or-map h items n d)

-- one kind more
pub names_push : {A : Type 0} (h : A → List ℕ × ℕ) (set : Kind) (items : List A) (n : ℕ) (d : A) → map h items ≡ kinds → n < length items → first_names set (n + 1) ≡ with_name set (first_names set n) (h (get_or items n d))
names_push h set items n d e lt =
    ap (fold (with_name set) []) (kinds_push h items n d e lt) ∙ fold-append (with_name set) [] (take n kinds) (h (get_or items n d) ∷ [])

-- ---- room

abbrev pub room : List (List ℕ × ℕ) → ℕ
room table = sum_by (λ kind. suc (length kind.0)) table

name_room : (set : Kind) (text : List ℕ) (kind : List ℕ × ℕ) → length (with_name set text kind) ≤ length text + suc (length kind.0)
name_room set text kind = decided (bit_and set.0 kind.1 == kind.1) (length text == 0)
  where
    decided : (a b : Bool) → length (cond a (cond b kind.0 (text ++ codes "+" ++ kind.0)) text) ≤ length text + suc (length kind.0)
    decided false b = omega arith
    decided true true = omega arith
    decided true false =
        let e = length-append (text ++ codes "+") kind.0 in let f = length-append text (codes "+") in let one : length (codes "+") ≡ 1 = refl in
        omega (arith, e, f, one)

fold_room : (set : Kind) (text : List ℕ) (table : List (List ℕ × ℕ)) → length (fold (with_name set) text table) ≤ length text + room table
fold_room set text [] = omega arith
fold_room set text (kind ∷ table) =
    let rest = fold_room set (with_name set text kind) table in
    omega (arith, rest, name_room set text kind, sum_by-cons (λ kind. suc (length kind.0)) kind table)

take_room : (n : ℕ) (table : List (List ℕ × ℕ)) → room (take n table) ≤ room table
take_room zero table = omega arith
take_room (suc n) [] = omega arith
take_room (suc n) (kind ∷ table) =
    omega (arith, take_room n table, sum_by-cons (λ kind. suc (length kind.0)) kind table, sum_by-cons (λ kind. suc (length kind.0)) kind (take n table))

all_room : room kinds ≡ 85
all_room = refl

pub names_room : (set : Kind) (n : ℕ) → length (first_names set n) ≤ 85
names_room set n = let a = fold_room set [] (take n kinds) in let b = take_room n kinds in omega (arith, a, b, all_room)

-- the next name fits too
name_fits : {A : Type 0} (h : A → List ℕ × ℕ) (set : Kind) (items : List A) (n : ℕ) (d : A) → map h items ≡ kinds → n < length items → length (first_names set n) + suc (length (h (get_or items n d)).0) ≤ 85
name_fits h set items n d e lt =
    let size : List ℕ × ℕ → ℕ = λ kind. suc (length kind.0) in
    let next : room (take (n + 1) kinds) ≡ room (take n kinds) + room (h (get_or items n d) ∷ []) = ap room (kinds_push h items n d e lt) ∙ sum_by-append size (take n kinds) (h (get_or items n d) ∷ []) in
    let one : room (h (get_or items n d) ∷ []) ≡ suc (length (h (get_or items n d)).0) + room [] = sum_by-cons size (h (get_or items n d)) [] in
    let a = fold_room set [] (take n kinds) in let b = take_room (n + 1) kinds in
    omega (arith, next, one, a, b, all_room)

-- so that the line stays short
pub fits_line : {A : Type 0} (h : A → List ℕ × ℕ) (set : Kind) (items : List A) (n : ℕ) (d : A) → map h items ≡ kinds → n < length items → (old line : List ℕ) → length line ≡ length old + length (first_names set n) → length old ≤ 6
    → length line + length (h (get_or items n d)).0 + 1 ≤ 320
fits_line h set items n d e lt old line long short = omega (arith, name_fits h set items n d e lt, long, short)

pub names_all : {A : Type 0} (h : A → List ℕ × ℕ) (set : Kind) (items : List A) (n : ℕ) → map h items ≡ kinds → length items ≤ n → first_names set n ≡ names_of set
unfolding names_of
names_all h set items n e le = let same : length kinds ≡ length items = ap length (sym e) ∙ length-map items h in ap (fold (with_name set) []) (take_all n kinds (omega (arith, same, le)))
