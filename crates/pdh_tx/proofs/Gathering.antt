-- Tributaries that gather the bits of many frames, one after another.
use Rattle.std.proofs.Common.{◌≡◌, inl, inr, ℕ, zero, suc, ◌+◌, ◌*◌, ◌<◌, ◌≤◌, Bool, true, false, ◌&&◌, List, [], ◌∷◌, length, map, cond, eqb, refl, sym, ap, ◌∙◌, subst, arith, Some, slice_get, slice_set}
use Rattle.std.specs.List.{zip}
use Rattle.std.proofs.lemmas.Bool.{cases_lt, eqb-true}
use Rattle.pdh_edge.specs.Ports.{Inputs}
use Rattle.pdh_shape.specs.declared.shape.Shape as shape
use Rattle.pdh_shape.specs.Frame.{FrameShape, IsFrame}
use Rattle.pdh_shape.specs.OwnNumbers.{lead, store_size}
use Rattle.pdh_shape.specs.declared.place.Path.{Path}
use Rattle.pdh_line.specs.Sending.{HasStores, Source, came_before, taken}
use Rattle.pdh_line.proofs.Ranges.{and_true}
use Rattle.pdh_line.proofs.SameLines.{taken-grows}
use Rattle.pdh_line.proofs.SendingLaws.{came_before-first, came_before_grows}
use Rattle.pdh_tx.specs.declared.queue.Queue.{Queue}
use Rattle.pdh_tx.specs.declared.quiet.NextBits.{NextBits}
use Rattle.pdh_tx.specs.declared.tributaries.Tributaries.{Tributaries}
use Rattle.pdh_tx.specs.declared.tributary.Tributary.{Tributary}
use Rattle.pdh_tx.specs.declared.tx.Tx.{Ghosts}
use Rattle.pdh_tx.specs.Meaning.{Meaning, Plan}
use Rattle.pdh_tx.specs.Held.{Readout, Gains, unslipped, gone_with, put_with}
use Rattle.pdh_tx.specs.Slipping.{read_to}
use Rattle.pdh_tx.specs.Tributary.{placed_in, held_in, meaning_in}
use Rattle.pdh_tx.specs.Node.{taken_to, came_at, IsDisjoint, EachPlaced}
use Rattle.pdh_tx.specs.Passing.{up_to, Passes}
use Rattle.pdh_tx.specs.Tributaries.{meanings}
use Rattle.pdh_tx.specs.Gathered.{IsGathered, HoldsGathered, GathersBits, Progress, progress_at, placed_by, held_by, made_before, made_behind, pairs, HaveGathered, AreEmptied}
use Rattle.pdh_tx.proofs.Advancing.{upto_here}
use Rattle.pdh_tx.proofs.Lists.{some_same}
use Rattle.pdh_tx.proofs.Moving.{slice_get_set}
use Rattle.pdh_tx.proofs.PassingAll.{placed_one, passes_one}
use Rattle.pdh_tx.proofs.QuietSlots.{taken_ahead}
use Rattle.pdh_tx.proofs.Readouts.{none-by}
use Rattle.pdh_tx.specs.laws.Stepping.{first_is, taken_is, came_follows, following}

-- ---- lists side by side

none_there : {X : Type 0} (j : ℕ) {x : X} → slice_get {X = X} [] j ≡ Some x → ⊥
none_there j h = cc

pub zip_parts : {X Y : Type 0} (xs : List X) (ys : List Y) (j : ℕ) (p : X × Y) → slice_get (zip xs ys) j ≡ Some p → (slice_get xs j ≡ Some p.0) × (slice_get ys j ≡ Some p.1)
zip_parts [] ys j p h = absurd (none_there j h)
zip_parts (x ∷ xs) [] j p h = absurd (none_there j h)
zip_parts {X = X} {Y = Y} (x ∷ xs) (y ∷ ys) zero p h = (let same : (x, y) ≡ p = some_same h in (ap (λ (q : X × Y). Some q.0) same, ap (λ (q : X × Y). Some q.1) same))
zip_parts (x ∷ xs) (y ∷ ys) (suc j) p h = zip_parts xs ys j p h

pub zip_at : {X Y : Type 0} (xs : List X) (ys : List Y) (j : ℕ) (x : X) (y : Y) → slice_get xs j ≡ Some x → slice_get ys j ≡ Some y → slice_get (zip xs ys) j ≡ Some (x, y)
zip_at [] ys j x y h k = absurd (none_there j h)
zip_at (x' ∷ xs) [] j x y h k = absurd (none_there j k)
zip_at {X = X} {Y = Y} (x' ∷ xs) (y' ∷ ys) zero x y h k = (let first : x' ≡ x = some_same h in let second : y' ≡ y = some_same k in ap (λ (v : X). Some (v, y')) first ∙ ap (λ (v : Y). Some (x, v)) second)
zip_at (x' ∷ xs) (y' ∷ ys) (suc j) x y h k = zip_at xs ys j x y h k

pub zip_set : {X Y : Type 0} (xs : List X) (ys : List Y) (i : ℕ) (x : X) (y : Y) → zip (slice_set xs i x) (slice_set ys i y) ≡ slice_set (zip xs ys) i (x, y)
zip_set [] ys i x y = refl
zip_set (a ∷ xs) [] zero x y = refl
zip_set (a ∷ xs) [] (suc i) x y = refl
zip_set (a ∷ xs) (b ∷ ys) zero x y = refl
zip_set {X = X} {Y = Y} (a ∷ xs) (b ∷ ys) (suc i) x y = ap (λ (l : List (X × Y)). (a, b) ∷ l) (zip_set xs ys i x y)

pub map_zip : {X Y Z : Type 0} (f : X → Z) (xs : List X) (ys : List Y) → length xs ≡ length ys → map (λ (p : X × Y). f p.0) (zip xs ys) ≡ map f xs
map_zip f [] ys h = refl
map_zip f (x ∷ xs) [] h = absurd (omega (arith, h))
map_zip {Z = Z} f (x ∷ xs) (y ∷ ys) h = ap (λ (l : List Z). f x ∷ l) (map_zip f xs ys (omega (arith, h)))

-- ---- one tributary

-- with the lead, where it comes at once, so many bits have come
pub led_is : (s : FrameShape) (path : Path) (plan : Plan) (n t made led j : ℕ) → IsFrame s → n * s.len + t ≡ made → t < s.len → led ≡ cond (eqb made 0) lead 0 → taken_to s path plan n t j + led ≡ came_at s path plan n t j
led_is s path plan n t made led j frame place inside is =
    ap (λ k. taken_to s path plan n t j + k) (is ∙ ap (λ b. cond b lead 0) (first_is s n t made place inside)) ∙ taken_ahead s path plan n t j frame

-- no fewer bits are taken behind the next bits
pub taken_behind : (s : FrameShape) (plan : Plan) (next : NextBits) (j : ℕ) → IsFrame s → next.frame * s.len + next.slot ≡ next.made → next.slot < s.len → next.made ≤ next.end → made_before s plan next j ≤ made_behind s plan next j
taken_behind s plan next j frame place inside longer =
    omega (arith, taken_is s next.frame next.slot next.made place inside next.path plan j, taken-grows s (plan.counts next.path j) next.made next.end frame longer)

-- which are among those that the next bits bring
pub led_within : (s : FrameShape) (path : Path) (plan : Plan) (n t made end j : ℕ) → IsFrame s → n * s.len + t ≡ made → t < s.len → made < end → came_at s path plan n t j ≤ taken s (plan.counts path j) end
led_within s path plan n t made end j frame place inside some =
    let next = following s n t inside in
    let counts : ℕ → ℕ = plan.counts path j in
    let here : came_before s counts n (suc t) ≡ taken s counts (suc made) = came_follows s n t next.0 next.1 next.2 path plan j frame ∙ sym (taken_is s next.0 next.1 (suc made) (next.2.place ∙ ap suc place) next.2.inside path plan j) in
    omega (arith, here, came_before_grows s counts n t frame, taken-grows s counts (suc made) end frame (omega (arith, some)))

-- and then the store has what it may hold
pub led_few : {C : Type 0} (tx : Ghosts C) (s : FrameShape) (path : Path) (plan : Plan) (n t made led j e : ℕ) (child : C) (queue : Queue) → IsFrame s → HasStores s → n * s.len + t ≡ made → t < s.len → led ≡ cond (eqb made 0) lead 0 → queue.fill ≤ store_size + led
    → IsGathered tx child queue plan e (came_at s path plan n t j) (read_to s path plan n t j) → queue.fill ≤ store_size
led_few tx s path plan n t made led j e child queue frame stores place inside is few placed =
    go (eqb n 0 && eqb t 0) refl
  where
    led_by : led ≡ cond (eqb n 0 && eqb t 0) lead 0
    led_by = is ∙ ap (λ b. cond b lead 0) (first_is s n t made place inside)

    go : (b : Bool) → (eqb n 0 && eqb t 0) ≡ b → queue.fill ≤ store_size
    go true first =
        let both = and_true (eqb n 0) (eqb t 0) first in
        let out : read_to s path plan n t j ≡ unslipped 0 = ap (λ m. read_to s path plan m t j) (eqb-true n 0 both.0) ∙ ap (λ u. read_to s path plan 0 u j) (eqb-true t 0 both.1) ∙ none-by s j (plan.counts path j) plan.mode stores in
        let come : came_at s path plan n t j ≡ lead = ap (λ m. came_at s path plan m t j) (eqb-true n 0 both.0) ∙ ap (λ u. came_at s path plan 0 u j) (eqb-true t 0 both.1) ∙ came_before-first s (plan.counts path j) frame in
        let P : Readout → Type 0 = λ r. gone_with r.edits r.read + queue.fill ≡ put_with r.edits (came_at s path plan n t j) in
        let count : 0 + queue.fill ≡ came_at s path plan n t j = subst P out placed.count in
        omega (arith, count, come)
    go false later = omega (arith, few, led_by, ap (λ b. cond b lead 0) later)

module _ {S C : Type 0} {shape : shape.Ghosts S} {tx : Ghosts C} (old : Tributaries S C shape tx) (plan : Plan) (next : NextBits) (i : ℕ) (w : Tributary C) (q : Queue) (here : slice_get old.list.items i ≡ Some w) (there : slice_get old.queues.items i ≡ Some q) where
  abbrev s : FrameShape
  s = shape.shape

  abbrev f : ℕ → ℕ
  f = made_before s plan next

  abbrev f' : ℕ → ℕ
  f' = made_behind s plan next

  abbrev h : ℕ → Progress
  h = progress_at false s next.path plan next.frame next.slot

  abbrev h' : ℕ → Progress
  h' = progress_at true s next.path plan next.frame next.slot

  abbrev read : Readout
  read = read_to s next.path plan next.frame next.slot i

  abbrev meaning : Tributary C × Queue → Meaning
  meaning p = meaning_in tx p.0

  meanings_are : map meaning (pairs old) ≡ meanings old
  meanings_are = map_zip (meaning_in tx) old.list.items old.queues.items (old.count ∙ sym old.queue_count)

  -- it stands before its next bits
  pub stands_one : HaveGathered old plan next i → placed_in tx w plan (f i) read
  stands_one placed =
      let was = placed i (w, q) (zip_at old.list.items old.queues.items i w q here there) in
      let M : ℕ → Type 0 = λ n. placed_by tx (w, q) plan n (up_to h h' i i) in
      let N : Progress → Type 0 = λ p. placed_by tx (w, q) plan (f i) p in
      subst N (upto_here h h' i) (subst M (upto_here f f' i) was)

  -- it gathered them
  module _ (w' : Tributary C) (q' : Queue) where
    abbrev after : List (Tributary C × Queue)
    after = zip (slice_set old.list.items i w') (slice_set old.queues.items i q')

    after_is : after ≡ slice_set (pairs old) i (w', q')
    after_is = zip_set old.list.items old.queues.items i w' q'

    module _ (count led : ℕ) (a b : Inputs) (all : f i + count ≡ f' i) (come : f i + led ≡ came_at s next.path plan next.frame next.slot i) (gathers : GathersBits tx w w' q' plan count led (f i) read a b) where
      pub one_placed : IsGathered tx w'.child q' plan (f' i) (came_at s next.path plan next.frame next.slot i) read
      one_placed = subst (λ k. IsGathered tx w'.child q' plan (f' i) k read) come (subst (λ e. IsGathered tx w'.child q' plan e (f i + led) read) all gathers.placed)

      pub all_placed : HaveGathered old plan next i → EachPlaced (placed_by tx) after plan (up_to f f' (suc i)) (up_to h h' (suc i))
      all_placed placed =
          subst (λ (ps : List (Tributary C × Queue)). EachPlaced (placed_by tx) ps plan (up_to f f' (suc i)) (up_to h h' (suc i))) (sym after_is)
          (placed_one (placed_by tx) (held_by tx) meaning next.path plan (pairs old) i (w', q') f f' h h' placed one_placed)

      pub gathers_on : Passes (held_by tx) next.path (meanings old) plan (pairs old) after (up_to f f' i) (up_to f f' (suc i)) (up_to h h' i) (up_to h h' (suc i)) a b (λ source. Unit {0})
      gathers_on =
          let E : ℕ → Type 0 = λ e. Gains (meaning_in tx w) plan (held_in tx w) (λ supply end out. HoldsGathered tx w'.child q' supply end (f i + led) out) (f i) e read read a b in
          let K : ℕ → Type 0 = λ k. Gains (meaning_in tx w) plan (held_in tx w) (λ supply end out. HoldsGathered tx w'.child q' supply end k out) (f i) (f' i) read read a b in
          let now : K (came_at s next.path plan next.frame next.slot i) = subst K come (subst E all gathers.gains) in
          let none : Source → Type 0 = λ source. Unit {0} in
          let dis : IsDisjoint (map meaning (pairs old)) = subst IsDisjoint (sym meanings_are) old.disjoint in
          let gains : Gains (meaning (w, q)) plan (held_by tx (w, q)) (λ supply made at. held_by tx (w', q') supply made (h' i)) (f i) (f' i) (h i) (h i) a b =
          record { given = now.given; takes = now.takes; others = now.others; exact = now.exact; onward = λ supply is was agrees. now.onward supply is was agrees } in
          let passes = passes_one (placed_by tx) (held_by tx) meaning next.path plan (pairs old) i (w, q) (w', q') f f' h h' (λ supply made at. held_by tx (w', q') supply made (h' i)) none a b dis (zip_at old.list.items old.queues.items i w q here there) gains (λ supply is held. (held, tt)) in
          subst (λ (ps : List (Tributary C × Queue)). Passes (held_by tx) next.path (meanings old) plan (pairs old) ps (up_to f f' i) (up_to f f' (suc i)) (up_to h h' i) (up_to h h' (suc i)) a b none) (sym after_is)
          (subst (λ (ms : List Meaning). Passes (held_by tx) next.path ms plan (pairs old) (slice_set (pairs old) i (w', q')) (up_to f f' i) (up_to f f' (suc i)) (up_to h h' i) (up_to h h' (suc i)) a b none) meanings_are passes)

    earlier : (j : ℕ) → j < suc i → (j ≡ i → ⊥) → j < i
    earlier j less ne = elim (cases_lt j i) [
      | inl below' ↦ below'
      | inr past ↦ absurd (ne (omega (arith, less, past)))
    ]

    pub stores_empty : w'.store ≡ [] → AreEmptied old i → (j : ℕ) (v : Tributary C) → j < suc i → slice_get (slice_set old.list.items i w') j ≡ Some v → v.store ≡ []
    stores_empty none was j v less e = elim (slice_get_set old.list.items i j w' v e) [
      | inl p ↦ ap (λ (x : Tributary C). x.store) (sym p.1) ∙ none
      | inr p ↦ was.stores j v (earlier j less p.0) p.1
    ]

    pub queues_few : q'.fill ≤ store_size → AreEmptied old i → (j : ℕ) (v : Queue) → j < suc i → slice_get (slice_set old.queues.items i q') j ≡ Some v → v.fill ≤ store_size
    queues_few few was j v less e = elim (slice_get_set old.queues.items i j q' v e) [
      | inl p ↦ (let same = ap (λ (x : Queue). x.fill) p.1 in omega (arith, same, few))
      | inr p ↦ was.few j v (earlier j less p.0) p.1
    ]
