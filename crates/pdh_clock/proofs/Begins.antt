-- What nodes begin, from the top down.
use Rattle.std.proofs.Common.{◌≡◌, ℕ, zero, suc, ◌+◌, ◌-◌, ◌*◌, ◌/◌, ◌%◌, ◌<◌, ◌≤◌, ◌==◌, ◌&&◌, nat_le, min, Bool, true, false, cond, List, [], ◌∷◌, ◌++◌, length, get_or, take, Option, Some, None, is_some, IsSome, IsNone, ◌⊎◌, inl, inr, refl, ap, sym, ◌∙◌, subst, arith, zero-add, append-nil, append_assoc, suc-mul}
use Rattle.std.specs.Prelude.{nat_lt, find}
use Rattle.std.specs.Option.{option_map}
use Rattle.std.proofs.lemmas.Bool.{cases_Bool, cases_lt, eq-eqb, eqb-true, eqb-false, le-leb, ltb-false, le-ltb, lt-ltb, false≢true}
use Rattle.std.proofs.lemmas.Nat.{div-add-mod'}
use Rattle.std.proofs.Math.Nat.{add-mul-mod_self_right, mul-div_cancel, mul-le-mul_right}
use Rattle.pdh_rows.proofs.OutsideLaws.{find_none}
use Rattle.pdh_shape.specs.declared.place.Level.{Level}
use Rattle.pdh_clock.specs.Row.{Row}
use Rattle.pdh_shape.specs.declared.place.Path.{Path}
use Rattle.pdh_levels.specs.Levels.{nodes_in, level_at, place_of}
use Rattle.pdh_line.specs.Paths.{steps_of}
use Rattle.pdh_clock.specs.Contents.{Contents, counts, frame_count}
use Rattle.pdh_clock.specs.Begun.{taken, begun_from, bits_from, bits_made, top_len, frames_begun, NoneShort, shortage}
use Rattle.pdh_line.specs.Progress.{begun_by}
use Rattle.pdh_levels.proofs.NodeOrder.{is_below, placed}
use Rattle.pdh_levels.proofs.LevelLaws.{has_level, level_in, steps_one, steps_two, place_none}

-- ---- frames and bits

pub begun_by_ceil : (len x : ℕ) → x / len + min 1 (x % len) ≡ begun_by len x
begun_by_ceil len x = elim (cases_Bool (x % len == 0)) [
  | inl is ↦
      let none : x % len ≡ 0 = eqb-true (x % len) 0 is in
      rw is (ap (λ r. x / len + min 1 r) none ∙ omega arith)
  | inr isnt ↦
      let some : min 1 (x % len) ≡ 1 = at_least (x % len) (eqb-false (x % len) 0 isnt) in
      rw isnt (ap (λ r. x / len + r) some ∙ omega arith)
]
  where
    at_least : (r : ℕ) → (r ≡ 0 → ⊥) → min 1 r ≡ 1
    at_least zero other = absurd (other refl)
    at_least (suc r) other = omega arith

pub begun_by_whole : (len n : ℕ) → 0 < len → begun_by len (n * len) ≡ n
begun_by_whole len n h =
    let whole : n * len % len ≡ 0 = ap (λ k. k % len) (sym (zero-add (n * len))) ∙ add-mul-mod_self_right 0 n len ∙ omega arith in
    ap (λ b. cond b (n * len / len) (suc (n * len / len))) (eq-eqb (n * len % len) 0 whole) ∙ mul-div_cancel n h

less_of_products : (q m len : ℕ) → q * len < m * len → q < m
less_of_products q m len h = elim (cases_lt q m) [
  | inl less ↦ less
  | inr more ↦ absurd (let up : m * len ≤ q * len = mul-le-mul_right len more in omega arith)
]

-- so many bits begin no more frames than so many whole ones
pub begun_by-le : (len x m : ℕ) → 0 < len → x ≤ m * len → begun_by len x ≤ m
begun_by-le len x m some h =
    let parts = div-add-mod' x len in
    elim (cases_Bool (x % len == 0)) [
      | inl is ↦
          let next : suc m * len ≡ m * len + len = omega (arith, suc-mul m len) in
          let below = less_of_products (x / len) (suc m) len (omega arith) in
          rw is (omega arith)
      | inr isnt ↦
          let rest : (x % len ≡ 0 → ⊥) = eqb-false (x % len) 0 isnt in
          let more : 0 < x % len = grind arith in
          let below = less_of_products (x / len) m len (omega arith) in
          rw isnt (omega arith)
    ]

pub whole_frames-le : (len x m : ℕ) → 0 < len → x ≤ m * len → x / len ≤ m
whole_frames-le len x m some h =
    let parts = div-add-mod' x len in
    let next : suc m * len ≡ m * len + len = omega (arith, suc-mul m len) in
    let below = less_of_products (x / len) (suc m) len (omega arith) in
    omega arith

-- the whole frames are some of those that are begun, and one more where bits are left
pub whole_frames-begun : (len x : ℕ) → x / len ≤ begun_by len x
whole_frames-begun len x = elim (cases_Bool (x % len == 0)) [ inl is ↦ rw is (omega arith) | inr isnt ↦ rw isnt (omega arith) ]

pub frame_begun : (len x : ℕ) → (x % len ≡ 0 → ⊥) → x / len < begun_by len x
frame_begun len x other = elim (cases_Bool (x % len == 0)) [
  | inl is ↦ absurd (other (eqb-true (x % len) 0 is))
  | inr isnt ↦ rw isnt (omega arith)
]

-- a part of a frame brings no more bits than the frame
pub part_small : (r count len : ℕ) → r < len → r * count / len ≤ count
part_small r count len h =
    let part : r * count ≤ len * count = mul-le-mul_right count (omega arith) in
    whole_frames-le len (r * count) count (omega arith) (omega arith)

-- ---- nodes and those below them

pub level_below : (first : Level) (below : List Level) (step : ℕ) (path : List ℕ) (level : Level) → level_at (first ∷ below) (step ∷ path) ≡ Some level
    → level_at below path ≡ Some level
level_below first below step path level h = go (nat_le 1 step && nat_le step first.tribs) h
  where
    go : (b : Bool) → cond b (level_at below path) None ≡ Some level → level_at below path ≡ Some level
    go true h = h
    go false h = cc

pub begun_bits : (rows : List Row) (levels : List Level) (from path : List ℕ) (x : ℕ) (level : Level) → level_at levels path ≡ Some level
    → begun_from rows levels from x path ≡ begun_by level.len (bits_from rows levels from x path)
begun_bits rows [] from path x level h = cc
begun_bits rows (first ∷ below) from [] x level h = let same : first ≡ level = cc in ap (λ (l : Level). begun_by l.len x) same
begun_bits rows (first ∷ below) from (step ∷ path) x level h =
    begun_bits rows below (from ++ step ∷ []) path (taken first (step - 1) (counts rows from (step - 1)) x) level (level_below first below step path level h)

pub bits_step : (rows : List Row) (levels : List Level) (from path : List ℕ) (step x : ℕ) (level : Level) → level_at levels path ≡ Some level
    → bits_from rows levels from x (path ++ step ∷ []) ≡ taken level (step - 1) (counts rows (from ++ path) (step - 1)) (bits_from rows levels from x path)
bits_step rows [] from path step x level h = cc
bits_step rows (first ∷ below) from [] step x level h =
    let same : first ≡ level = cc in
    ap (λ (l : Level). taken l (step - 1) (counts rows from (step - 1)) x) same ∙ ap (λ p. taken level (step - 1) (counts rows p (step - 1)) x) (sym (append-nil from))
bits_step rows (first ∷ below) from (number ∷ path) step x level h =
    bits_step rows below (from ++ number ∷ []) path step (taken first (number - 1) (counts rows from (number - 1)) x) level (level_below first below number path level h)
    ∙ ap (λ p. taken level (step - 1) (counts rows p (step - 1)) (bits_from rows below (from ++ number ∷ []) (taken first (number - 1) (counts rows from (number - 1)) x) path))
    (append_assoc from (number ∷ []) path)

-- a node below a tributary of another
pub record IsChild (levels : List Level) (path : List ℕ) (step : ℕ) : Type 0 where
  pub level : Level
  pub is : level_at levels path ≡ Some level
  pub low : 1 ≤ step
  pub high : step ≤ level.tribs
  pub after : place_of levels path < place_of levels (path ++ step ∷ [])

pub child : (levels : List Level) (path : List ℕ) (step : ℕ) → IsSome (level_at levels (path ++ step ∷ [])) → IsChild levels path step
child [] path step some = absurd (no_level (path ++ step ∷ []) some)
  where
    no_level : (path : List ℕ) → IsSome (level_at [] path) → ⊥
    no_level path some = false≢true some
child (level ∷ below) [] step some =
    let is = is_below level below step [] some in
    record { level = level; is = refl; low = is.low; high = is.high; after = omega arith }
child (level ∷ below) (number ∷ path) step some =
    let is = is_below level below number (path ++ step ∷ []) some in
    let rest = child below path step is.rest in
    let inside : (nat_le 1 number && nat_le number level.tribs) ≡ true = rw (le-leb 1 number is.low, le-leb number level.tribs is.high) refl in
    let after = rest.after in
    record {
      level = rest.level;
      is = ap (λ b. cond b (level_at below path) None) inside ∙ rest.is;
      low = rest.low;
      high = rest.high;
      after = omega arith;
    }

-- ---- schedules

pub frames_begun_is : (schedule : Contents) (n : ℕ) (path : List ℕ) (level : Level) → level_at schedule.levels path ≡ Some level
    → frames_begun schedule n path ≡ begun_by level.len (bits_made schedule n path)
unfolding frames_begun
frames_begun_is schedule n path level is = begun_bits schedule.rows schedule.levels [] path (n * top_len schedule.levels) level is

pub enough_at : (schedule : Contents) (n place : ℕ) (path : List ℕ) (level : Level) → NoneShort schedule n place → level_at schedule.levels path ≡ Some level
    → place_of schedule.levels path < place → begun_by level.len (bits_made schedule n path) ≤ frame_count schedule.rows path
enough_at schedule n place path level enough is before =
    let at = placed schedule.levels path (ap is_some is) in
    let here = subst (λ p. frames_begun schedule n p ≤ frame_count schedule.rows p) (at.node []) (enough (place_of schedule.levels path) before at.inside) in
    subst (λ k. k ≤ frame_count schedule.rows path) (frames_begun_is schedule n path level is) here

-- what a node takes is what the one below it makes
pub bits_child : (schedule : Contents) (n : ℕ) (path : List ℕ) (step : ℕ) (level : Level) → level_at schedule.levels path ≡ Some level
    → bits_made schedule n (path ++ step ∷ []) ≡ taken level (step - 1) (counts schedule.rows path (step - 1)) (bits_made schedule n path)
bits_child schedule n path step level is = bits_step schedule.rows schedule.levels [] path step (n * top_len schedule.levels) level is

-- ---- the way from the top to a node

pub top_len_is : (levels : List Level) (d : Level) → 1 ≤ length levels → top_len levels ≡ (get_or levels 0 d).len
top_len_is [] d some = absurd (omega arith)
top_len_is (level ∷ below) d some = refl

pub first_node : (levels : List Level) (path : Path) → (path.depth ≡ 0 → ⊥) → IsSome (level_at levels (steps_of path)) → IsSome (level_at levels (path.first ∷ []))
first_node levels path other some = go (cases_Bool (path.depth == 1))
  where
    go : (path.depth == 1 ≡ true) ⊎ (path.depth == 1 ≡ false) → IsSome (level_at levels (path.first ∷ []))
    go (inl is) = subst (λ steps. IsSome (level_at levels steps)) (steps_one path (eqb-true path.depth 1 is)) some
    go (inr isnt) =
        let deep = subst (λ steps. IsSome (level_at levels steps)) (steps_two path other (eqb-false path.depth 1 isnt)) some in
        ap is_some (child levels (path.first ∷ []) path.second deep).is

-- a node below the top is of a level below the first
pub some_below_top : (levels : List Level) (path : Path) → (path.depth ≡ 0 → ⊥) → IsSome (level_at levels (steps_of path)) → 1 < length levels
some_below_top levels path other some =
    let has = has_level (level_at levels (path.first ∷ [])) (first_node levels path other some) in
    (level_in levels (path.first ∷ []) has.level has.is).inside

place_some : (levels : List Level) (step : ℕ) (path : List ℕ) → IsSome (level_at levels (step ∷ path)) → 0 < place_of levels (step ∷ path)
place_some [] step path some = absurd (false≢true some)
place_some (level ∷ below) step path some = omega arith

pub top_before : (levels : List Level) (path : Path) → (path.depth ≡ 0 → ⊥) → IsSome (level_at levels (steps_of path))
    → place_of levels [] < place_of levels (steps_of path)
top_before levels path other some =
    subst (λ n. n < place_of levels (steps_of path)) (sym (place_none levels)) (go path.depth other some)
  where
    go : (n : ℕ) → (n ≡ 0 → ⊥) → IsSome (level_at levels (take n (path.first ∷ path.second ∷ []))) → 0 < place_of levels (take n (path.first ∷ path.second ∷ []))
    go zero other some = absurd (other refl)
    go (suc n) other some = place_some levels path.first (take n (path.second ∷ [])) some

pub second_node : (levels : List Level) (path : Path) → (path.depth ≡ 0 → ⊥) → (path.depth ≡ 1 → ⊥) → IsSome (level_at levels (steps_of path))
    → IsChild levels (path.first ∷ []) path.second
second_node levels path other other' some =
    child levels (path.first ∷ []) path.second (subst (λ steps. IsSome (level_at levels steps)) (steps_two path other other') some)

pub first_before : (levels : List Level) (path : Path) → (path.depth ≡ 0 → ⊥) → (path.depth ≡ 1 → ⊥) → IsSome (level_at levels (steps_of path))
    → place_of levels (path.first ∷ []) < place_of levels (steps_of path)
first_before levels path other other' some =
    subst (λ steps. place_of levels (path.first ∷ []) < place_of levels steps) (sym (steps_two path other other')) (second_node levels path other other' some).after

-- a node stands below one of the tributaries of the node above it
pub child_tributary : (levels : List Level) (path : List ℕ) (step : ℕ) (level : Level) → IsChild levels path step → level_at levels path ≡ Some level → step - 1 < level.tribs
child_tributary levels path step level c is =
    let high : step ≤ level.tribs = subst (λ (l : Level). step ≤ l.tribs) (same_some c.level level (sym c.is ∙ is)) c.high in
    let low = c.low in
    omega arith
  where
    same_some : (a b : Level) → Some a ≡ Some b → a ≡ b
    same_some a b h = cc

-- ---- the first node with too few frames

find_first : {X : Type 0} (p : X → Bool) (xs : List X) (k : ℕ) (d x : X) → k < length xs → get_or xs k d ≡ x → p x ≡ true
    → ((j : ℕ) → j < k → j < length xs → p (get_or xs j d) ≡ false) → find p xs ≡ Some x
find_first p [] k d x l at is least = absurd (omega arith)
find_first p (y ∷ xs) zero d x l at is least = rw (ap p at ∙ is) (ap Some at)
find_first p (y ∷ xs) (suc k) d x l at is least =
    rw (least 0 (omega arith) (omega arith)) (find_first p xs k d x (omega arith) at is (λ j h m. least (suc j) (omega arith) (omega arith)))

none_found : {X : Type 0} (p : X → Bool) (xs : List X) (d : X) → ((j : ℕ) → j < length xs → p (get_or xs j d) ≡ false) → find p xs ≡ None
none_found p [] d least = refl
none_found p (x ∷ xs) d least = rw (least 0 (omega arith)) (none_found p xs d (λ j m. least (suc j) (omega arith)))

pub shortage_first : (schedule : Contents) (n k : ℕ) (path : List ℕ) → k < length (nodes_in schedule.levels) → get_or (nodes_in schedule.levels) k [] ≡ path
    → NoneShort schedule n k → frame_count schedule.rows path < frames_begun schedule n path
    → shortage schedule n ≡ Some (record { path = path; have = frame_count schedule.rows path; need = frames_begun schedule n path })
unfolding shortage
shortage_first schedule n k path l at enough short =
    ap (option_map (λ path. record { path = path; have = frame_count schedule.rows path; need = frames_begun schedule n path }))
    (find_first (λ path. nat_lt (frame_count schedule.rows path) (frames_begun schedule n path)) (nodes_in schedule.levels) k [] path l at (lt-ltb _ _ short)
    (λ j h m. le-ltb _ _ (enough j h m)))

pub shortage_none : (schedule : Contents) (n k : ℕ) → length (nodes_in schedule.levels) ≤ k → NoneShort schedule n k → shortage schedule n ≡ None
unfolding shortage
shortage_none schedule n k all enough =
    ap (option_map (λ path. record { path = path; have = frame_count schedule.rows path; need = frames_begun schedule n path }))
    (none_found (λ path. nat_lt (frame_count schedule.rows path) (frames_begun schedule n path)) (nodes_in schedule.levels) []
    (λ j m. le-ltb _ _ (enough j (omega arith) m)))

found_some : {X Y : Type 0} (shown : X → Y) (o : Option X) → IsNone (option_map shown o) → o ≡ None
found_some shown None none = refl
found_some shown (Some x) none = absurd (false≢true (sym none))

-- where no node has too few frames, each has enough
pub none_short : (schedule : Contents) (n place : ℕ) → IsNone (shortage schedule n) → NoneShort schedule n place
unfolding shortage
none_short schedule n place none = λ k h l.
    ltb-false _ _ (find_none (λ path. nat_lt (frame_count schedule.rows path) (frames_begun schedule n path)) (nodes_in schedule.levels)
    (found_some (λ path. record { path = path; have = frame_count schedule.rows path; need = frames_begun schedule n path }) _ none) k [] l)

pub none_short_more : (schedule : Contents) (n k : ℕ) (path : List ℕ) → NoneShort schedule n k → get_or (nodes_in schedule.levels) k [] ≡ path
    → frames_begun schedule n path ≤ frame_count schedule.rows path → NoneShort schedule n (k + 1)
none_short_more schedule n k path enough at more = λ j h l. elim (cases_lt j k) [
  | inl before ↦ enough j before l
  | inr last ↦
      let same : j ≡ k = omega arith in
      let here : get_or (nodes_in schedule.levels) j [] ≡ path = ap (λ k. get_or (nodes_in schedule.levels) k []) same ∙ at in
      subst (λ p. frames_begun schedule n p ≤ frame_count schedule.rows p) (sym here) more
]

-- where no node has too few frames, a node has those that it begins
pub scheduled_at : (schedule : Contents) (n : ℕ) (path : List ℕ) → IsNone (shortage schedule n) → IsSome (level_at schedule.levels path) → frames_begun schedule n path ≤ frame_count schedule.rows path
scheduled_at schedule n path none some =
    let at = placed schedule.levels path some in
    subst (λ p. frames_begun schedule n p ≤ frame_count schedule.rows p) (at.node [])
    (none_short schedule n (suc (place_of schedule.levels path)) none (place_of schedule.levels path) (omega arith) at.inside)
