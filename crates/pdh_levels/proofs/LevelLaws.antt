-- The levels of nodes, how many nodes there are, and which stands where.
use Rattle.std.proofs.Common.{◌≡◌, ℕ, zero, suc, ◌+◌, ◌-◌, ◌*◌, ◌/◌, ◌%◌, ◌<◌, ◌≤◌, ◌^◌, ◌&&◌, nat_le, true, cond, List, [], ◌∷◌, length, get_or, drop, take, Option, Some, None, is_some, IsSome, All, inl, inr, refl, ap, sym, ◌∙◌, subst, arith, lit<}
use Rattle.std.specs.Option.{option_map_or}
use Rattle.std.proofs.Math.Nat.{mul-le-mul_right, pow-le-pow_right}
use Rattle.std.proofs.lemmas.Nat.{div-add-mod', mod_below}
use Rattle.std.proofs.lemmas.List.{take_rest, take_all}
use Rattle.std.proofs.lemmas.Bool.{cases_Bool, cases_lt, le-leb, false≢true}
use Rattle.std.proofs.lemmas.List.Elements.{All-head, All-tail, All-get_or}
use Rattle.pdh_shape.specs.declared.place.Level.{Level}
use Rattle.pdh_shape.specs.declared.place.Path.{Path}
use Rattle.pdh_levels.specs.Levels.{IsLevel, AreLevels, IsElastic, level_at, level_stores, stores_at, len_at, size_of, place_of, nodes_in}
use Rattle.pdh_line.specs.Paths.{steps_of}
use Rattle.pdh_line.specs.Progress.{by_stores}
use Rattle.pdh_line.specs.Progress.Stores.{Elastic, Locked}
use Rattle.pdh_levels.proofs.NodeOrder.{is_below, length-nodes_in, placed}

-- ---- levels by paths

-- the level that there is
pub record HasLevel (o : Option Level) : Type 0 where
  pub level : Level
  pub is : o ≡ Some level

pub has_level : (o : Option Level) → IsSome o → HasLevel o
has_level None some = absurd (false≢true some)
has_level (Some level) some = record { level = level; is = refl }

some_of : (o : Option Level) (level : Level) → o ≡ Some level → IsSome o
some_of o level is = ap is_some is

-- the levels have it at the path's length
pub record IsLevelIn (levels : List Level) (path : List ℕ) (level : Level) : Type 0 where
  pub inside : length path < length levels
  pub at : (d : Level) → get_or levels (length path) d ≡ level

pub level_in : (levels : List Level) (path : List ℕ) (level : Level) → level_at levels path ≡ Some level → IsLevelIn levels path level
level_in [] path level h = absurd (false≢true (some_of (level_at [] path) level h))
level_in (first ∷ below) [] level h = record { inside = omega arith; at = λ d. cc }
level_in (first ∷ below) (step ∷ path) level h =
    let is = is_below first below step path (some_of (level_at (first ∷ below) (step ∷ path)) level h) in
    let inside : (nat_le 1 step && nat_le step first.tribs) ≡ true = rw (le-leb 1 step is.low, le-leb step first.tribs is.high) refl in
    let rest : level_at below path ≡ Some level = sym (ap (λ b. cond b (level_at below path) None) inside) ∙ h in
    let at = level_in below path level rest in
    record { inside = (let l = at.inside in omega arith); at = λ d. at.at d }

pub level_is : (levels : List Level) (path : List ℕ) (level : Level) → All IsLevel levels → level_at levels path ≡ Some level → IsLevel level
level_is levels path level each h =
    let at = level_in levels path level h in
    subst IsLevel (at.at level) (All-get_or IsLevel levels (length path) level at.inside each)

-- the number of a tributary is a step to the node below
pub step_is : (level : Level) (below : List Level) (j : ℕ) (steps : List ℕ) → j < level.tribs → level_at (level ∷ below) (suc j ∷ steps) ≡ level_at below steps
step_is level below j steps known = rw (le-leb 1 (suc j) (omega arith), le-leb (suc j) level.tribs (omega arith)) refl

-- by the place of a level among the levels
pub level_by_place : (levels : List Level) (path : List ℕ) (k : ℕ) (d : Level) → IsSome (level_at levels path) → length path ≡ k
    → level_at levels path ≡ Some (get_or levels k d)
level_by_place levels path k d some long =
    let has = has_level (level_at levels path) some in
    let at = level_in levels path has.level has.is in
    has.is ∙ ap Some (sym (at.at d) ∙ ap (λ n. get_or levels n d) long)

-- how many stores a node has
pub stores_count : (levels : List Level) (path : List ℕ) (level : Level) → level_at levels path ≡ Some level → stores_at levels path ≡ level_stores level
stores_count levels path level h = ap (λ o. option_map_or level_stores o 0) h

pub level_stores_is : (level : Level) → IsElastic level → level_stores level ≡ level.tribs
level_stores_is level elastic = ap (λ b. by_stores (cond b (Locked (λ j t. 0)) Elastic) level.tribs (λ reads. 0)) elastic

pub no_stores_is : (level : Level) → level.locked ≡ true → level_stores level ≡ 0
no_stores_is level locked = ap (λ b. by_stores (cond b (Locked (λ j t. 0)) Elastic) level.tribs (λ reads. 0)) locked

-- no node has more stores than tributaries
pub stores_few : (level : Level) → level_stores level ≤ level.tribs
stores_few level = elim (cases_Bool level.locked) [
  | inl locked ↦ omega (arith, no_stores_is level locked)
  | inr elastic ↦ omega (arith, level_stores_is level elastic)
]

-- a node that has a store has one for each tributary
pub has_stores : (level : Level) (trib : ℕ) → trib < level_stores level → IsElastic level
has_stores level trib store = elim (cases_Bool level.locked) [
  | inl locked ↦ absurd (omega (arith, no_stores_is level locked))
  | inr elastic ↦ elastic
]

pub stores_is : (levels : List Level) (path : List ℕ) (level : Level) → IsElastic level → level_at levels path ≡ Some level
    → stores_at levels path ≡ level.tribs
stores_is levels path level elastic h = stores_count levels path level h ∙ level_stores_is level elastic

-- each node below the top has stores
pub below_has_stores : (levels : List Level) (step : ℕ) (path : List ℕ) (level : Level) → AreLevels levels → level_at levels (step ∷ path) ≡ Some level
    → IsElastic level
below_has_stores [] step path level are h = absurd (false≢true (some_of (level_at [] (step ∷ path)) level h))
below_has_stores (first ∷ below) step path level are h =
    let at = level_in (first ∷ below) (step ∷ path) level h in
    let inside : length path < length below = (let all = at.inside in omega arith) in
    subst IsElastic (at.at level) (All-get_or IsElastic below (length path) level inside are.stores_below)

pub len_is : (levels : List Level) (path : List ℕ) (level : Level) → level_at levels path ≡ Some level → len_at levels path ≡ level.len
len_is levels path level h = ap (λ o. option_map_or (λ (level : Level). level.len) o 0) h

known_by_stores : (o : Option Level) (trib : ℕ) → trib < option_map_or level_stores o 0 → IsSome o
known_by_stores None trib h = absurd (omega arith)
known_by_stores (Some level) trib h = refl

-- a node that has a store has a level
pub known : (levels : List Level) (path : List ℕ) (trib : ℕ) → trib < stores_at levels path → IsSome (level_at levels path)
known levels path trib h = known_by_stores (level_at levels path) trib h

-- ---- how many nodes there are

size_power : (levels : List Level) → All IsLevel levels → suc (size_of levels) ≤ 8 ^ length levels
size_power [] each = omega arith
size_power (level ∷ below) each =
    let is = All-head IsLevel level below each in
    let rest = size_power below (All-tail IsLevel level below each) in
    let more : level.tribs * size_of below ≤ 7 * size_of below = mul-le-mul_right (size_of below) is.most in
    let power : 8 ^ suc (length below) ≡ 8 * 8 ^ length below = omega arith in
    omega (arith, more, rest, power)

pub size_small : (levels : List Level) → length levels ≤ 3 → All IsLevel levels → size_of levels ≤ 512
size_small levels few each =
    let power : 8 ^ length levels ≤ 8 ^ 3 = pow-le-pow_right (lit< tt) {i = length levels} {j = 3} few in
    omega (arith, power, size_power levels each)

pub size_below_small : (levels : List Level) → length levels ≤ 3 → All IsLevel levels → size_of (drop 1 levels) ≤ 64
size_below_small [] few each = omega arith
size_below_small (level ∷ below) few each =
    let power : 8 ^ length below ≤ 8 ^ 2 = pow-le-pow_right (lit< tt) {i = length below} {j = 2} (omega arith) in
    omega (arith, power, size_power below (All-tail IsLevel level below each))

pub size_times : (level : Level) (below : List Level) → suc (length below) ≤ 3 → All IsLevel (level ∷ below) → level.tribs * size_of below ≤ 512
size_times level below few each = let small = size_small (level ∷ below) few each in omega arith

-- ---- the steps of a path

pub steps_top : (path : Path) → path.depth ≡ 0 → steps_of path ≡ []
steps_top path is = ap (λ n. take n (path.first ∷ path.second ∷ [])) is

pub steps_one : (path : Path) → path.depth ≡ 1 → steps_of path ≡ path.first ∷ []
steps_one path is = ap (λ n. take n (path.first ∷ path.second ∷ [])) is

two_or_more : (n : ℕ) → (n ≡ 0 → ⊥) → (n ≡ 1 → ⊥) → 2 ≤ n
two_or_more zero other other' = absurd (other refl)
two_or_more (suc zero) other other' = absurd (other' refl)
two_or_more (suc (suc n)) other other' = omega arith

pub steps_two : (path : Path) → (path.depth ≡ 0 → ⊥) → (path.depth ≡ 1 → ⊥) → steps_of path ≡ path.first ∷ path.second ∷ []
steps_two path other other' = take_all path.depth (path.first ∷ path.second ∷ []) (two_or_more path.depth other other')

-- the numbers on the way to a node are those of tributaries
step_small : (levels : List Level) (step : ℕ) (path : List ℕ) → All IsLevel levels → IsSome (level_at levels (step ∷ path)) → (1 ≤ step) × (step ≤ 7)
step_small [] step path each some = absurd (false≢true some)
step_small (level ∷ below) step path each some =
    let is = is_below level below step path some in
    let most = (All-head IsLevel level below each).most in
    let high = is.high in
    (is.low, omega arith)

pub first_step : (levels : List Level) (path : Path) → All IsLevel levels → (path.depth ≡ 0 → ⊥) → IsSome (level_at levels (steps_of path))
    → (1 ≤ path.first) × (path.first ≤ 7)
first_step levels path each other some = go path.depth other some
  where
    go : (n : ℕ) → (n ≡ 0 → ⊥) → IsSome (level_at levels (take n (path.first ∷ path.second ∷ []))) → (1 ≤ path.first) × (path.first ≤ 7)
    go zero other some = absurd (other refl)
    go (suc n) other some = step_small levels path.first (take n (path.second ∷ [])) each some

second_known : (levels : List Level) (a b : ℕ) → All IsLevel levels → IsSome (level_at levels (a ∷ b ∷ [])) → (1 ≤ b) × (b ≤ 7)
second_known [] a b each some = absurd (false≢true some)
second_known (level ∷ below) a b each some =
    step_small below b [] (All-tail IsLevel level below each) (is_below level below a (b ∷ []) some).rest

pub second_step : (levels : List Level) (path : Path) → All IsLevel levels → (path.depth ≡ 0 → ⊥) → (path.depth ≡ 1 → ⊥)
    → IsSome (level_at levels (steps_of path)) → (1 ≤ path.second) × (path.second ≤ 7)
second_step levels path each other other' some =
    second_known levels path.first path.second each (subst (λ steps. IsSome (level_at levels steps)) (steps_two path other other') some)

-- the levels that there are for a path of that length
pub inside_one : (levels : List Level) (path : Path) → path.depth ≡ 1 → IsSome (level_at levels (steps_of path)) → 1 < length levels
inside_one levels path one some =
    let has = has_level (level_at levels (steps_of path)) some in
    let at = level_in levels (steps_of path) has.level has.is in
    subst (λ steps. length steps < length levels) (steps_one path one) at.inside

pub inside_two : (levels : List Level) (path : Path) → (path.depth ≡ 0 → ⊥) → (path.depth ≡ 1 → ⊥) → IsSome (level_at levels (steps_of path)) → 2 < length levels
inside_two levels path other other' some =
    let has = has_level (level_at levels (steps_of path)) some in
    let at = level_in levels (steps_of path) has.level has.is in
    subst (λ steps. length steps < length levels) (steps_two path other other') at.inside

-- ---- where a node stands

-- the levels that are left
nothing_below : (level : Level) (step : ℕ) (path : List ℕ) → IsSome (level_at (level ∷ []) (step ∷ path)) → ⊥
nothing_below level step path h = false≢true (is_below level [] step path h).rest

pub place_one : (levels : List Level) (a : ℕ) → IsSome (level_at levels (a ∷ [])) → place_of levels (a ∷ []) ≡ 1 + (a - 1) * size_of (drop 1 levels)
place_one [] a h = absurd (false≢true h)
place_one (level ∷ []) a h = absurd (nothing_below level a [] h)
place_one (level ∷ next ∷ below) a h = omega arith

pub place_two : (levels : List Level) (a b : ℕ) → length levels ≤ 3 → IsSome (level_at levels (a ∷ b ∷ []))
    → place_of levels (a ∷ b ∷ []) ≡ 1 + (a - 1) * size_of (drop 1 levels) + b
place_two [] a b few h = absurd (false≢true h)
place_two (level ∷ []) a b few h = absurd (nothing_below level a (b ∷ []) h)
place_two (level ∷ next ∷ []) a b few h = absurd (nothing_below next b [] (is_below level (next ∷ []) a (b ∷ []) h).rest)
place_two (level ∷ next ∷ last ∷ []) a b few h =
    let low = (is_below next (last ∷ []) b [] (is_below level (next ∷ last ∷ []) a (b ∷ []) h).rest).low in
    omega arith
place_two (level ∷ next ∷ last ∷ more ∷ below) a b few h = absurd (omega arith)

-- the node that stands at a place
pub record StandsAt (levels : List Level) (path : List ℕ) (place : ℕ) : Type 0 where
  pub node : IsSome (level_at levels path)
  pub place_is : place_of levels path ≡ place

-- the place, as so many whole trees below the first tributaries and a rest
pub record IsSplit (place size q r : ℕ) : Type 0 where
  pub whole : place ≡ 1 + q * size + r
  pub rest : r < size

known_step : (level : Level) (below : List Level) (step : ℕ) (path : List ℕ) → 1 ≤ step → step ≤ level.tribs → IsSome (level_at below path)
    → IsSome (level_at (level ∷ below) (step ∷ path))
known_step level below step path low high some =
    let inside : (nat_le 1 step && nat_le step level.tribs) ≡ true = rw (le-leb 1 step low, le-leb step level.tribs high) refl in
    subst (λ b. IsSome (cond b (level_at below path) None)) (sym inside) some

-- a whole tree less than there are
few_whole : (n size q r : ℕ) → q * size + r < n * size → suc q ≤ n
few_whole n size q r h = elim (cases_lt q n) [
  | inl below ↦ below
  | inr past ↦ absurd (let more : n * size ≤ q * size = mul-le-mul_right size past in omega arith)
]

pub stands_first : (levels : List Level) (place q : ℕ) → place < size_of levels → IsSplit place (size_of (drop 1 levels)) q 0
    → StandsAt levels (suc q ∷ []) place
stands_first [] place q h s = absurd (omega arith)
stands_first (level ∷ []) place q h s = absurd (let r = s.rest in omega arith)
stands_first (level ∷ next ∷ below) place q h s =
    let whole = s.whole in
    let high = few_whole level.tribs (size_of (next ∷ below)) q 0 (omega arith) in
    let step : (suc q - 1) * size_of (next ∷ below) ≡ q * size_of (next ∷ below) = ap (λ n. n * size_of (next ∷ below)) (let e : suc q - 1 ≡ q = omega arith in e) in
    record { node = known_step level (next ∷ below) (suc q) [] (omega arith) high refl; place_is = omega arith }

pub stands_second : (levels : List Level) (place q r : ℕ) → length levels ≤ 3 → place < size_of levels → IsSplit place (size_of (drop 1 levels)) q r → 0 < r
    → StandsAt levels (suc q ∷ r ∷ []) place
stands_second [] place q r few h s some = absurd (omega arith)
stands_second (level ∷ []) place q r few h s some = absurd (let r = s.rest in omega arith)
stands_second (level ∷ next ∷ []) place q r few h s some = absurd (let r = s.rest in omega arith)
stands_second (level ∷ next ∷ last ∷ []) place q r few h s some =
    let whole = s.whole in
    let rest = s.rest in
    let high = few_whole level.tribs (size_of (next ∷ last ∷ [])) q r (omega arith) in
    let step : (suc q - 1) * size_of (next ∷ last ∷ []) ≡ q * size_of (next ∷ last ∷ []) = ap (λ n. n * size_of (next ∷ last ∷ [])) (let e : suc q - 1 ≡ q = omega arith in e) in
    let trees : size_of (last ∷ []) ≡ 1 = omega arith in
    let nodes : next.tribs * size_of (last ∷ []) ≡ next.tribs = ap (λ n. next.tribs * n) trees ∙ omega arith in
    let alone : (r - 1) * size_of (last ∷ []) ≡ r - 1 = ap (λ n. (r - 1) * n) trees ∙ omega arith in
    record {
      node = known_step level (next ∷ last ∷ []) (suc q) (r ∷ []) (omega arith) high
          (known_step next (last ∷ []) r [] (omega arith) (omega arith) refl);
      place_is = omega arith;
    }
stands_second (level ∷ next ∷ last ∷ more ∷ below) place q r few h s some = absurd (omega arith)

-- the levels below the top, where a place is behind it
pub some_below : (levels : List Level) (place : ℕ) → 0 < place → place < size_of levels → 0 < size_of (drop 1 levels)
some_below [] place some h = absurd (omega arith)
some_below (level ∷ below) place some h = elim (cases_lt 0 (size_of below)) [
  | inl more ↦ more
  | inr none ↦ absurd (let zero : size_of below ≡ 0 = omega arith in let nothing : level.tribs * size_of below ≡ 0 = ap (λ n. level.tribs * n) zero ∙ omega arith in omega arith)
]

-- the place by the whole trees before it
pub split : (levels : List Level) (place size : ℕ) → 0 < place → place < size_of levels → size ≡ size_of (drop 1 levels)
    → IsSplit place (size_of (drop 1 levels)) ((place - 1) / size) ((place - 1) % size)
split levels place size some inside same =
    let more : 0 < size = omega (arith, some_below levels place some inside) in
    let parts = div-add-mod' (place - 1) size in
    let rest = mod_below (place - 1) size more in
    subst (λ n. IsSplit place n ((place - 1) / size) ((place - 1) % size)) same (record { whole = omega arith; rest = rest })

-- the levels below the top
pub below_top : (levels : List Level) → take (length levels - 1) (drop 1 levels) ≡ drop 1 levels
below_top levels = take_rest levels 1

first_known : (levels : List Level) → 1 ≤ length levels → IsSome (level_at levels [])
first_known [] some = absurd (omega arith)
first_known (level ∷ below) some = refl

pub place_none : (levels : List Level) → place_of levels [] ≡ 0
place_none [] = refl
place_none (level ∷ below) = refl

pub stands_top : (levels : List Level) (place : ℕ) → 1 ≤ length levels → place ≡ 0 → StandsAt levels [] place
stands_top levels place some none = record { node = first_known levels some; place_is = place_none levels ∙ sym none }

pub stands_at_first : (levels : List Level) (place size : ℕ) → AreLevels levels → 0 < place → place < size_of levels → size ≡ size_of (drop 1 levels)
    → (place - 1) % size ≡ 0 → StandsAt levels (((place - 1) / size + 1) ∷ []) place
stands_at_first levels place size h some inside same none =
    let next : suc ((place - 1) / size) ≡ (place - 1) / size + 1 = omega arith in
    subst (λ n. StandsAt levels (n ∷ []) place) next
    (stands_first levels place ((place - 1) / size) inside
    (subst (λ r. IsSplit place (size_of (drop 1 levels)) ((place - 1) / size) r) none (split levels place size some inside same)))

pub stands_at_second : (levels : List Level) (place size : ℕ) → AreLevels levels → 0 < place → place < size_of levels → size ≡ size_of (drop 1 levels)
    → ((place - 1) % size ≡ 0 → ⊥) → StandsAt levels (((place - 1) / size + 1) ∷ (place - 1) % size ∷ []) place
stands_at_second levels place size h some inside same more =
    let next : suc ((place - 1) / size) ≡ (place - 1) / size + 1 = omega arith in
    subst (λ n. StandsAt levels (n ∷ (place - 1) % size ∷ []) place) next
    (stands_second levels place ((place - 1) / size) ((place - 1) % size) h.few inside (split levels place size some inside same) (not_none ((place - 1) % size) more))
  where
    not_none : (n : ℕ) → (n ≡ 0 → ⊥) → 0 < n
    not_none zero other = absurd (other refl)
    not_none (suc n) other = omega arith

-- all numbers of nodes are small
pub first_small : (levels : List Level) (place size : ℕ) → AreLevels levels → 0 < place → place < size_of levels → size ≡ size_of (drop 1 levels)
    → (place - 1) / size + 1 ≤ 7
first_small levels place size h some inside same =
    let parts = split levels place size some inside same in
    top levels h.each inside parts
  where
    top : (levels : List Level) → All IsLevel levels → place < size_of levels → IsSplit place (size_of (drop 1 levels)) ((place - 1) / size) ((place - 1) % size)
        → (place - 1) / size + 1 ≤ 7
    top [] each inside parts = absurd (omega arith)
    top (level ∷ below) each inside parts =
        let whole = parts.whole in
        let few = few_whole level.tribs (size_of below) ((place - 1) / size) ((place - 1) % size) (omega arith) in
        let most = (All-head IsLevel level below each).most in
        omega arith

pub second_small : (levels : List Level) (place size : ℕ) → AreLevels levels → 0 < place → place < size_of levels → size ≡ size_of (drop 1 levels)
    → (place - 1) % size ≤ 64
second_small levels place size h some inside same =
    let parts = split levels place size some inside same in
    let rest = parts.rest in
    let small = size_below_small levels h.few h.each in
    omega arith

-- how many nodes stand below a tributary of the top, where a function was given the levels below
pub size_below : (levels : List Level) (size : ℕ) → size ≡ length (nodes_in (take (length levels - 1) (drop 1 levels))) → size ≡ size_of (drop 1 levels)
size_below levels size h = h ∙ length-nodes_in (take (length levels - 1) (drop 1 levels)) ∙ ap size_of (below_top levels)

-- one node more than those below each tributary
pub one_more : (levels : List Level) (tribs size : ℕ) (d : Level) → 1 ≤ length levels → tribs ≡ (get_or levels 0 d).tribs
    → size ≡ length (nodes_in (take (length levels - 1) (drop 1 levels))) → 1 + tribs * size ≡ length (nodes_in levels)
one_more [] tribs size d some head rest = absurd (omega arith)
one_more (level ∷ below) tribs size d some head rest =
    let below_is : size ≡ size_of below = size_below (level ∷ below) size rest in
    let all : 1 + level.tribs * size_of below ≡ size_of (level ∷ below) = omega arith in
    ap (λ n. 1 + n * size) head ∙ ap (λ k. 1 + level.tribs * k) below_is ∙ all ∙ sym (length-nodes_in (level ∷ below))

pub nodes_few : (levels : List Level) (n : ℕ) → length levels ≤ 3 → All IsLevel levels → n ≡ length (nodes_in levels) → n ≤ 512
nodes_few levels n few each same = omega (arith, same, length-nodes_in levels, size_small levels few each)

-- the nodes of the trees before a node are few
pub trees_before : (levels : List Level) (path : Path) (n size : ℕ) → AreLevels levels → (path.depth ≡ 0 → ⊥) → IsSome (level_at levels (steps_of path))
    → n ≡ path.first - 1 → size ≡ size_of (drop 1 levels) → n * size ≤ 448
trees_before levels path n size h other some e same =
    let high = (first_step levels path h.each other some).1 in
    let small = size_below_small levels h.few h.each in
    let few : n ≤ 7 = omega arith in
    omega (arith, mul-le-mul_right size few)

pub place_of_one : (levels : List Level) (path : Path) (n size : ℕ) → path.depth ≡ 1 → IsSome (level_at levels (steps_of path))
    → n ≡ path.first - 1 → size ≡ size_of (drop 1 levels) → 1 + n * size ≡ place_of levels (steps_of path)
place_of_one levels path n size one some e same =
    let steps = steps_one path one in
    ap (λ k. 1 + k * size) e ∙ ap (λ k. 1 + (path.first - 1) * k) same
    ∙ sym (ap (place_of levels) steps ∙ place_one levels path.first (subst (λ steps. IsSome (level_at levels steps)) steps some))

pub place_of_two : (levels : List Level) (path : Path) (n size : ℕ) → length levels ≤ 3 → (path.depth ≡ 0 → ⊥) → (path.depth ≡ 1 → ⊥)
    → IsSome (level_at levels (steps_of path))
    → n ≡ path.first - 1 → size ≡ size_of (drop 1 levels) → 1 + n * size + path.second ≡ place_of levels (steps_of path)
place_of_two levels path n size few other other' some e same =
    let steps = steps_two path other other' in
    ap (λ k. 1 + k * size + path.second) e ∙ ap (λ k. 1 + (path.first - 1) * k + path.second) same
    ∙ sym (ap (place_of levels) steps ∙ place_two levels path.first path.second few (subst (λ steps. IsSome (level_at levels steps)) steps some))

-- ---- the node at a place

-- the node of a place has the steps of the node that stands there
pub node_steps : (levels : List Level) (path : List ℕ) (place : ℕ) → StandsAt levels path place → path ≡ get_or (nodes_in levels) place []
node_steps levels path place stands =
    sym (ap (λ k. get_or (nodes_in levels) k []) (sym stands.place_is) ∙ (placed levels path stands.node).node [])
