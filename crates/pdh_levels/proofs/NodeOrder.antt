-- The order of the nodes: where each stands, and that each stands there once.
use Rattle.std.proofs.Common.{◌≡◌, ℕ, zero, suc, ◌+◌, ◌-◌, ◌*◌, ◌<◌, ◌≤◌, ◌&&◌, nat_le, Bool, true, false, cond, List, [], ◌∷◌, ◌++◌, length, get_or, map, Option, None, IsSome, All, inl, inr, refl, ap, sym, ◌∙◌, subst, arith, suc-mul, zero-mul, append-nil}
use Rattle.std.specs.List.{flat_map, range_with_len, Contains}
use Rattle.std.proofs.lemmas.Bool.{cases_lt, le-leb, leb-true, and_parts, false≢true}
use Rattle.std.proofs.lemmas.List.{map-append, length-map, get_or-map, get_or_default}
use Rattle.std.proofs.lemmas.List.Elements.{All-nil, All-cons, All-append, All-map, Contains-append_left, Contains-append_right}
use Rattle.std.proofs.lemmas.List.FromFn.{length-range_with_len, get_or-range_with_len}
use Rattle.pdh_shape.specs.declared.place.Level.{Level}
use Rattle.pdh_levels.specs.Levels.{level_at, nodes_in, size_of, place_of}

-- ---- lists

range_append : (a m n : ℕ) → range_with_len a m ++ range_with_len (a + m) n ≡ range_with_len a (m + n)
range_append a zero n =
    let here : a + 0 ≡ a = omega arith in
    let all : 0 + n ≡ n = omega arith in
    ap (λ k. range_with_len k n) here ∙ ap (range_with_len a) (sym all)
range_append a (suc m) n =
    let next : a + suc m ≡ a + 1 + m = omega arith in
    let all : suc m + n ≡ suc (m + n) = omega arith in
    ap (λ k. a ∷ (range_with_len (a + 1) m ++ range_with_len k n)) next
    ∙ ap (λ rest. a ∷ rest) (range_append (a + 1) m n)
    ∙ ap (range_with_len a) (sym all)

map_range : (f : ℕ → ℕ) (a b n : ℕ) → ((k : ℕ) → f (b + k) ≡ a + k) → map f (range_with_len b n) ≡ range_with_len a n
map_range f a b zero each = refl
map_range f a b (suc n) each =
    let here : b + 0 ≡ b = omega arith in
    let there : a + 0 ≡ a = omega arith in
    let first : f b ≡ a = ap f (sym here) ∙ each 0 ∙ there in
    let rest : map f (range_with_len (b + 1) n) ≡ range_with_len (a + 1) n = map_range f (a + 1) (b + 1) n (λ k.
    let more : b + 1 + k ≡ b + (1 + k) = omega arith in ap f more ∙ each (1 + k) ∙ omega arith) in
    ap (λ x. x ∷ map f (range_with_len (b + 1) n)) first ∙ ap (λ xs. a ∷ xs) rest

map_map : {X Y Z : Type 0} (g : Y → Z) (f : X → Y) (h : X → Z) → ((x : X) → g (f x) ≡ h x) → (xs : List X) → map g (map f xs) ≡ map h xs
map_map g f h same [] = refl
map_map g f h same (x ∷ xs) = ap (λ y. y ∷ map g (map f xs)) (same x) ∙ ap (λ ys. h x ∷ ys) (map_map g f h same xs)

none_joined : {X Y : Type 0} (h : X → List Y) (xs : List X) (d : X) → ((j : ℕ) → j < length xs → h (get_or xs j d) ≡ []) → flat_map h xs ≡ []
none_joined h [] d none = refl
none_joined h (x ∷ xs) d none = ap (λ ys. ys ++ flat_map h xs) (none 0 (omega arith)) ∙ none_joined h xs d (λ j l. none (suc j) (omega arith))

-- where one element alone gives something
pub only_at : {X Y : Type 0} (h : X → List Y) (xs : List X) (k : ℕ) (d : X) → k < length xs
    → ((j : ℕ) → j < length xs → (j ≡ k → ⊥) → h (get_or xs j d) ≡ []) → flat_map h xs ≡ h (get_or xs k d)
only_at h [] k d l none = absurd (omega arith)
only_at h (x ∷ xs) zero d l none =
    ap (λ ys. h x ++ ys) (none_joined h xs d (λ j m. none (suc j) (omega arith) (λ e. omega arith))) ∙ append-nil (h x)
only_at h (x ∷ xs) (suc k) d l none =
    ap (λ ys. ys ++ flat_map h xs) (none 0 (omega arith) (λ e. omega arith))
    ∙ only_at h xs k d (omega arith) (λ j m other. none (suc j) (omega arith) (λ e. other (omega arith)))

-- ---- the order of nodes

-- the nodes below each tributary of so many behind the first b ones
abbrev pub below_each : List Level → ℕ → ℕ → List (List ℕ)
below_each below b n = flat_map (λ step. map (λ path. step ∷ path) (nodes_in below)) (range_with_len b n)

place_below : (level : Level) (below : List Level) (b : ℕ)
    → map (place_of below) (nodes_in below) ≡ range_with_len 0 (size_of below)
    → map (place_of (level ∷ below)) (map (λ path. suc b ∷ path) (nodes_in below)) ≡ range_with_len (suc (b * size_of below)) (size_of below)
place_below level below b each =
    let step : suc b - 1 ≡ b = omega arith in
    map_map (place_of (level ∷ below)) (λ path. suc b ∷ path) (λ path. suc (b * size_of below + place_of below path))
    (λ path. ap (λ n. suc (n * size_of below + place_of below path)) step) (nodes_in below)
    ∙ sym (map_map (λ k. suc (b * size_of below + k)) (place_of below) (λ path. suc (b * size_of below + place_of below path)) (λ path. refl) (nodes_in below))
    ∙ ap (map (λ k. suc (b * size_of below + k))) each
    ∙ map_range (λ k. suc (b * size_of below + k)) (suc (b * size_of below)) 0 (size_of below) (λ k. omega arith)

places_below : (level : Level) (below : List Level) (b n : ℕ)
    → map (place_of below) (nodes_in below) ≡ range_with_len 0 (size_of below)
    → map (place_of (level ∷ below)) (below_each below (suc b) n) ≡ range_with_len (suc (b * size_of below)) (n * size_of below)
places_below level below b zero each = ap (range_with_len (suc (b * size_of below))) (sym (zero-mul (size_of below)))
places_below level below b (suc n) each =
    let next : suc b + 1 ≡ suc (suc b) = omega arith in
    let first = place_below level below b each in
    let rest = places_below level below (suc b) n each in
    let from : suc (suc b * size_of below) ≡ suc (b * size_of below) + size_of below = omega (arith, suc-mul b (size_of below)) in
    let all : size_of below + n * size_of below ≡ suc n * size_of below = omega (arith, suc-mul n (size_of below)) in
    map-append (place_of (level ∷ below)) (map (λ path. suc b ∷ path) (nodes_in below)) (below_each below (suc b + 1) n)
    ∙ ap (λ xs. xs ++ map (place_of (level ∷ below)) (below_each below (suc b + 1) n)) first
    ∙ ap (λ k. range_with_len (suc (b * size_of below)) (size_of below) ++ map (place_of (level ∷ below)) (below_each below k n)) next
    ∙ ap (λ xs. range_with_len (suc (b * size_of below)) (size_of below) ++ xs) (rest ∙ ap (λ k. range_with_len k (n * size_of below)) from)
    ∙ range_append (suc (b * size_of below)) (size_of below) (n * size_of below)
    ∙ ap (range_with_len (suc (b * size_of below))) all

-- the places of the nodes are 0, 1, 2 and so on
pub places : (levels : List Level) → map (place_of levels) (nodes_in levels) ≡ range_with_len 0 (size_of levels)
places [] = refl
places (level ∷ below) =
    let from : suc (0 * size_of below) ≡ 0 + 1 = omega arith in
    ap (λ xs. 0 ∷ xs) (places_below level below 0 level.tribs (places below) ∙ ap (λ k. range_with_len k (level.tribs * size_of below)) from)

pub length-nodes_in : (levels : List Level) → length (nodes_in levels) ≡ size_of levels
length-nodes_in levels = sym (length-map (nodes_in levels) (place_of levels)) ∙ ap length (places levels) ∙ length-range_with_len 0 (size_of levels)

-- each node stands at its place
pub node_place : (levels : List Level) (k : ℕ) (d : List ℕ) → k < length (nodes_in levels) → place_of levels (get_or (nodes_in levels) k d) ≡ k
node_place levels k d l =
    let zero_more : 0 + k ≡ k = omega arith in
    sym (get_or-map (place_of levels) (nodes_in levels) k d 0 l) ∙ ap (λ ks. get_or ks k 0) (places levels)
    ∙ get_or-range_with_len 0 (size_of levels) k 0 (omega (arith, length-nodes_in levels)) ∙ zero_more

-- ---- each path is a node's

record IsStep (b n step : ℕ) : Type 0 where
  low : b ≤ step
  high : step < b + n

known_below : (level : Level) (below : List Level) (step : ℕ) → 1 ≤ step → step ≤ level.tribs
    → All (λ path. IsSome (level_at below path)) (nodes_in below)
    → All (λ path. IsSome (level_at (level ∷ below) path)) (map (λ path. step ∷ path) (nodes_in below))
known_below level below step low high each =
    let some : (nat_le 1 step && nat_le step level.tribs) ≡ true = rw (le-leb 1 step low, le-leb step level.tribs high) refl in
    All-map (λ path. IsSome (level_at (level ∷ below) path)) (λ path. step ∷ path) (nodes_in below)
    (λ k d l. subst (λ b. IsSome (cond b (level_at below (get_or (nodes_in below) k d)) None)) (sym some) (each k d l))

known_from : (level : Level) (below : List Level) (b n : ℕ) → 1 ≤ b → b + n ≤ suc level.tribs
    → All (λ path. IsSome (level_at below path)) (nodes_in below)
    → All (λ path. IsSome (level_at (level ∷ below) path)) (below_each below b n)
known_from level below b zero low high each = All-nil (λ path. IsSome (level_at (level ∷ below) path))
known_from level below b (suc n) low high each =
    All-append (λ path. IsSome (level_at (level ∷ below) path)) (map (λ path. b ∷ path) (nodes_in below)) (below_each below (b + 1) n)
    (known_below level below b low (omega arith) each) (known_from level below (b + 1) n (omega arith) (omega arith) each)

-- each node has a level
pub nodes_known : (levels : List Level) → All (λ path. IsSome (level_at levels path)) (nodes_in levels)
nodes_known [] = All-nil (λ path. IsSome (level_at [] path))
nodes_known (level ∷ below) = All-cons (λ path. IsSome (level_at (level ∷ below) path)) [] (below_each below 1 level.tribs) refl
    (known_from level below 1 level.tribs (omega arith) (omega arith) (nodes_known below))

Contains-map : {X Y : Type 0} (f : X → Y) (xs : List X) (x : X) → Contains xs x → Contains (map f xs) (f x)
Contains-map f xs x (k, l, e) = (k, omega (arith, length-map xs f), get_or-map f xs k x (f x) l ∙ ap f e)

contains_below : (below : List Level) (b n step : ℕ) (path : List ℕ) → b ≤ step → step < b + n → Contains (nodes_in below) path
    → Contains (below_each below b n) (step ∷ path)
contains_below below b zero step path low high h = absurd (omega arith)
contains_below below b (suc n) step path low high h = elim (cases_lt b step) [
  | inl later ↦ Contains-append_right (map (λ path. b ∷ path) (nodes_in below)) (below_each below (b + 1) n) (step ∷ path)
      (contains_below below (b + 1) n step path (omega arith) (omega arith) h)
  | inr here ↦
      let same : b ≡ step = omega arith in
      Contains-append_left (map (λ path. b ∷ path) (nodes_in below)) (below_each below (b + 1) n) (step ∷ path)
      (subst (λ s. Contains (map (λ path. b ∷ path) (nodes_in below)) (s ∷ path)) same (Contains-map (λ path. b ∷ path) (nodes_in below) path h))
]

some_if : (b : Bool) (o : Option Level) → IsSome (cond b o None) → (b ≡ true) × IsSome o
some_if true o h = (refl, h)
some_if false o h = absurd (false≢true h)

-- what a path that has a level begins with
pub record IsBelow (level : Level) (below : List Level) (step : ℕ) (path : List ℕ) : Type 0 where
  pub low : 1 ≤ step
  pub high : step ≤ level.tribs
  pub rest : IsSome (level_at below path)

pub is_below : (level : Level) (below : List Level) (step : ℕ) (path : List ℕ) → IsSome (level_at (level ∷ below) (step ∷ path)) → IsBelow level below step path
is_below level below step path h =
    let parts = some_if (nat_le 1 step && nat_le step level.tribs) (level_at below path) h in
    let bounds = and_parts (nat_le 1 step) (nat_le step level.tribs) parts.0 in
    record { low = leb-true 1 step bounds.0; high = leb-true step level.tribs bounds.1; rest = parts.1 }

contains_node : (levels : List Level) (path : List ℕ) → IsSome (level_at levels path) → Contains (nodes_in levels) path
contains_node [] path h = absurd (false≢true h)
contains_node (level ∷ below) [] h = (0, omega arith, refl)
contains_node (level ∷ below) (step ∷ path) h =
    let is = is_below level below step path h in
    Contains-append_right ([] ∷ []) (below_each below 1 level.tribs) (step ∷ path)
    (contains_below below 1 level.tribs step path is.low (let high = is.high in omega arith) (contains_node below path is.rest))

-- the node at a path is found by its place
pub record IsPlaced (levels : List Level) (path : List ℕ) : Type 0 where
  pub inside : place_of levels path < length (nodes_in levels)
  pub node : (d : List ℕ) → get_or (nodes_in levels) (place_of levels path) d ≡ path

pub placed : (levels : List Level) (path : List ℕ) → IsSome (level_at levels path) → IsPlaced levels path
placed levels path some =
    let h = contains_node levels path some in
    let place : place_of levels path ≡ h.0 = sym (ap (place_of levels) h.2) ∙ node_place levels h.0 path h.1 in
    record {
      inside = subst (λ k. k < length (nodes_in levels)) (sym place) h.1;
      node = λ d. ap (λ k. get_or (nodes_in levels) k d) place ∙ get_or_default (nodes_in levels) h.0 d path h.1 ∙ h.2;
    }
