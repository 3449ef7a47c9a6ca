-- Lists by place.
use Rattle.std.proofs.Common.{◌≡◌, ℕ, zero, suc, ◌+◌, ◌<◌, List, [], ◌∷◌, ◌++◌, length, map, take, drop, Some, slice_get, slice_set, refl, sym, ap, ◌∙◌, arith}
use Rattle.std.proofs.lemmas.List.{take-take, drop-take, take-append-drop}
use Rattle.std.proofs.lemmas.Option.{none-some, same_Some, slice_get-map}
use Rattle.std.specs.Option.{option_map}

module _ {X : Type 0} where
  pub get_set_same : (xs : List X) (i : ℕ) (y : X) → i < length xs → slice_get (slice_set xs i y) i ≡ Some y
  get_set_same [] i y h = absurd (omega arith)
  get_set_same (x ∷ xs) zero y h = refl
  get_set_same (x ∷ xs) (suc i) y h = get_set_same xs i y (omega arith)

  pub get_set_other : (xs : List X) (i j : ℕ) (y : X) → (j ≡ i → ⊥) → slice_get (slice_set xs i y) j ≡ slice_get xs j
  get_set_other [] i j y h = refl
  get_set_other (x ∷ xs) zero zero y h = absurd (h refl)
  get_set_other (x ∷ xs) zero (suc j) y h = refl
  get_set_other (x ∷ xs) (suc i) zero y h = refl
  get_set_other (x ∷ xs) (suc i) (suc j) y h = get_set_other xs i j y (λ e. h (ap suc e))

  pub get_left : (xs ys : List X) (i : ℕ) (x : X) → slice_get xs i ≡ Some x → slice_get (xs ++ ys) i ≡ Some x
  get_left [] ys i x h = absurd (none-some x h)
  get_left (z ∷ xs) ys zero x h = h
  get_left (z ∷ xs) ys (suc i) x h = get_left xs ys i x h

  pub get_right : (xs ys : List X) (i : ℕ) → slice_get (xs ++ ys) (length xs + i) ≡ slice_get ys i
  get_right [] ys i = ap (slice_get ys) (omega arith)
  get_right (x ∷ xs) ys i =
      let next : length (x ∷ xs) + i ≡ suc (length xs + i) = omega arith in
      ap (slice_get (x ∷ xs ++ ys)) next ∙ get_right xs ys i

  -- an element is one
  pub same_at : (xs : List X) (i j : ℕ) (x y : X) → slice_get xs i ≡ Some x → slice_get xs j ≡ Some y → i ≡ j → x ≡ y
  same_at xs i j x y p q same = same_Some x y (sym p ∙ ap (slice_get xs) same ∙ q)

  pub here_set : (xs : List X) (i : ℕ) (x : X) → slice_get xs i ≡ Some x → slice_set xs i x ≡ xs
  here_set [] i x h = absurd (none-some x h)
  here_set (y ∷ ys) zero x h = ap (λ z. z ∷ ys) (sym (same_Some y x h))
  here_set (y ∷ ys) (suc i) x h = ap (λ zs. y ∷ zs) (here_set ys i x h)

module _ {X Y : Type 0} (f : X → Y) where
  pub map_kept : (xs : List X) (i : ℕ) (x y : X) → slice_get xs i ≡ Some x → f y ≡ f x → map f (slice_set xs i y) ≡ map f xs
  map_kept [] i x y h same = absurd (none-some x h)
  map_kept (z ∷ zs) zero x y h same = ap (λ v. v ∷ map f zs) (same ∙ ap f (sym (same_Some z x h)))
  map_kept (z ∷ zs) (suc i) x y h same = ap (λ vs. f z ∷ vs) (map_kept zs i x y h same)

  pub get_mapped : (xs : List X) (i : ℕ) (x : X) → slice_get xs i ≡ Some x → slice_get (map f xs) i ≡ Some (f x)
  get_mapped xs i x h = slice_get-map f xs i ∙ ap (option_map f) h

pub front_more : {X : Type 0} (n m : ℕ) (xs : List X) → take n xs ++ take m (drop n xs) ≡ take (n + m) xs
front_more n m xs =
    ap (λ front. front ++ take m (drop n xs)) (sym (take-take n (n + m) xs (omega arith))) ∙ ap (λ back. take n (take (n + m) xs) ++ back) (sym (drop-take n m xs)) ∙ take-append-drop n (take (n + m) xs)
