-- Lists whose elements come one after the other in an order.
use Rattle.std.proofs.Common.{ℕ, zero, suc, ◌+◌, ◌<◌, ◌≤◌, List, [], ◌∷◌, ◌++◌, map, arith}
use Rattle.std.specs.Prelude.{flat_map}
use Rattle.std.specs.List.{range_with_len, All, AllPairs}
use Rattle.std.proofs.lemmas.List.Elements.{All-nil, All-cons}
use Rattle.std.proofs.lemmas.List.Kept.{AllPairs-cons}

-- it holds of each element
abbrev pub Each : {X : Type 0} → (X → Type 0) → List X → Type 0
Each P [] = Unit {0}
Each P (x ∷ xs) = P x × Each P xs

-- each element comes before each later one
abbrev pub Ordered : {X : Type 0} → (X → X → Type 0) → List X → Type 0
Ordered R [] = Unit {0}
Ordered R (x ∷ xs) = Each (R x) xs × Ordered R xs

-- each element of the first list comes before each of the second
abbrev pub Across : {X : Type 0} → (X → X → Type 0) → List X → List X → Type 0
Across R xs ys = Each (λ x. Each (R x) ys) xs

module _ {X : Type 0} (P : X → Type 0) where
  pub each-always : (xs : List X) → ((x : X) → P x) → Each P xs
  each-always [] always = tt
  each-always (x ∷ xs) always = (always x, each-always xs always)

  pub each-append : (xs ys : List X) → Each P xs → Each P ys → Each P (xs ++ ys)
  each-append [] ys ex ey = ey
  each-append (x ∷ xs) ys ex ey = (ex.0, each-append xs ys ex.1 ey)

  pub each-flat : (f : ℕ → List X) (a n : ℕ) → ((k : ℕ) → a ≤ k → k < a + n → Each P (f k)) → Each P (flat_map f (range_with_len a n))
  each-flat f a zero each = tt
  each-flat f a (suc n) each =
      each-append (f a) (flat_map f (range_with_len (a + 1) n)) (each a (omega arith) (omega arith)) (each-flat f (a + 1) n (λ k h h'. each k (omega arith) (omega arith)))

  pub each-all : (xs : List X) → Each P xs → All P xs
  each-all [] each = All-nil P
  each-all (x ∷ xs) each = All-cons P x xs each.0 (each-all xs each.1)

pub each-weaker : {X : Type 0} (P Q : X → Type 0) (xs : List X) → ((x : X) → P x → Q x) → Each P xs → Each Q xs
each-weaker P Q [] weaker each = tt
each-weaker P Q (x ∷ xs) weaker each = (weaker x each.0, each-weaker P Q xs weaker each.1)

pub each-map : {X Y : Type 0} (P : Y → Type 0) (g : X → Y) (xs : List X) → Each (λ x. P (g x)) xs → Each P (map g xs)
each-map P g [] each = tt
each-map P g (x ∷ xs) each = (each.0, each-map P g xs each.1)

pub ordered-map : {X Y : Type 0} (R : Y → Y → Type 0) (g : X → Y) (xs : List X) → Ordered (λ x y. R (g x) (g y)) xs → Ordered R (map g xs)
ordered-map R g [] ordered = tt
ordered-map R g (x ∷ xs) ordered = (each-map (R (g x)) g xs ordered.0, ordered-map R g xs ordered.1)

pub ordered-weaker : {X : Type 0} (R Q : X → X → Type 0) (xs : List X) → ((x y : X) → R x y → Q x y) → Ordered R xs → Ordered Q xs
ordered-weaker R Q [] weaker ordered = tt
ordered-weaker R Q (x ∷ xs) weaker ordered = (each-weaker (R x) (Q x) xs (weaker x) ordered.0, ordered-weaker R Q xs weaker ordered.1)

module _ {X : Type 0} (R : X → X → Type 0) where
  -- two lists of which each has a property that decides the order
  pub across-by : (P Q : X → Type 0) (xs ys : List X) → ((x y : X) → P x → Q y → R x y) → Each P xs → Each Q ys → Across R xs ys
  across-by P Q [] ys decides ex ey = tt
  across-by P Q (x ∷ xs) ys decides ex ey = (each-weaker Q (R x) ys (λ y q. decides x y ex.0 q) ey, across-by P Q xs ys decides ex.1 ey)

  across-append : (xs ys zs : List X) → Across R xs ys → Across R xs zs → Across R xs (ys ++ zs)
  across-append [] ys zs ay az = tt
  across-append (x ∷ xs) ys zs ay az = (each-append (R x) ys zs ay.0 az.0, across-append xs ys zs ay.1 az.1)

  across-flat : (xs : List X) (f : ℕ → List X) (a n : ℕ) → ((k : ℕ) → a ≤ k → k < a + n → Across R xs (f k)) → Across R xs (flat_map f (range_with_len a n))
  across-flat xs f a zero across = each-always (λ x. Unit {0}) xs (λ x. tt)
  across-flat xs f a (suc n) across =
      across-append xs (f a) (flat_map f (range_with_len (a + 1) n)) (across a (omega arith) (omega arith)) (across-flat xs f (a + 1) n (λ k h h'. across k (omega arith) (omega arith)))

  pub ordered-append : (xs ys : List X) → Ordered R xs → Ordered R ys → Across R xs ys → Ordered R (xs ++ ys)
  ordered-append [] ys ox oy across = oy
  ordered-append (x ∷ xs) ys ox oy across = (each-append (R x) xs ys ox.0 across.0, ordered-append xs ys ox.1 oy across.1)

  pub ordered-flat : (f : ℕ → List X) (a n : ℕ) → ((k : ℕ) → Ordered R (f k)) → ((k l : ℕ) → k < l → l < a + n → Across R (f k) (f l)) → Ordered R (flat_map f (range_with_len a n))
  ordered-flat f a zero ordered across = tt
  ordered-flat f a (suc n) ordered across =
      ordered-append (f a) (flat_map f (range_with_len (a + 1) n)) (ordered a)
      (ordered-flat f (a + 1) n ordered (λ k l h h'. across k l h (omega arith)))
      (across-flat (f a) f (a + 1) n (λ l h h'. across a l (omega arith) (omega arith)))

  -- in the words of the library
  pub ordered-pairs : (xs : List X) → Ordered R xs → AllPairs R xs
  ordered-pairs [] ordered = λ i j d h h'. absurd (let past : j < 0 = h' in omega arith)
  ordered-pairs (x ∷ xs) ordered = AllPairs-cons R x xs (each-all (R x) xs ordered.0) (ordered-pairs xs ordered.1)
