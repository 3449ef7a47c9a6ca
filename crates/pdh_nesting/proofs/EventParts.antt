-- The events in making one bit of a node's line, part by part: a bit has none exactly where no part has.
use Rattle.std.proofs.Common.{◌≡◌, ℕ, zero, suc, ◌+◌, ◌*◌, ◌/◌, ◌%◌, ◌<◌, ◌≤◌, Bool, true, false, cond, eqb, List, [], ◌∷◌, ◌++◌, None, refl, sym, ap, ◌∙◌, inl, inr, arith, append_assoc}
use Rattle.std.specs.Prelude.{flat_map, slice_get}
use Rattle.std.specs.List.{range_with_len}
use Rattle.std.proofs.lemmas.Bool.{eqb-true, cases_eq}
use Rattle.pdh_shape.specs.Frame.{FrameShape}
use Rattle.pdh_shape.specs.Tributary.{reads_from, reads_below}
use Rattle.pdh_shape.specs.OwnNumbers.{lead}
use Rattle.pdh_line.specs.Sending.{HasStores, arrives_at, came_before}
use Rattle.pdh_line.specs.Nodes.{child, Counts}
use Rattle.pdh_line.specs.Sending.Mode.{Plain}
use Rattle.pdh_line.specs.Events.{Event, overflows, underflows, overflow_at, underflow_at}
use Rattle.pdh_nesting.specs.Chains.{top_len}
use Rattle.pdh_nesting.specs.Events.{events_with_stores, events_without_stores, events_in, events_below, first_event}

-- ---- lists that are joined end to end

none_of_both : {X : Type 0} (xs ys : List X) → xs ++ ys ≡ [] → (xs ≡ []) × (ys ≡ [])
none_of_both [] ys h = (refl, h)
none_of_both (x ∷ xs) ys h = cc

pub none_of_range : {X : Type 0} (f : ℕ → List X) (a n : ℕ) → ((k : ℕ) → a ≤ k → k < a + n → f k ≡ []) → flat_map f (range_with_len a n) ≡ []
none_of_range f a zero none = refl
none_of_range f a (suc n) none =
    ap (λ xs. xs ++ flat_map f (range_with_len (a + 1) n)) (none a (omega arith) (omega arith))
    ∙ none_of_range f (a + 1) n (λ k h h'. none k (omega arith) (omega arith))

pub each_of_range : {X : Type 0} (f : ℕ → List X) (a n k : ℕ) → flat_map f (range_with_len a n) ≡ [] → a ≤ k → k < a + n → f k ≡ []
each_of_range f a zero k none h h' = absurd (omega arith)
each_of_range f a (suc n) k none h h' =
    let parts = none_of_both (f a) (flat_map f (range_with_len (a + 1) n)) none in
    elim (cases_eq k a) [
      | inl same ↦ ap f same ∙ parts.0
      | inr other ↦ each_of_range f (a + 1) n k parts.1 (omega arith) (omega arith)
    ]

-- ---- the parts

-- the events in making bit k of tributary j
abbrev made_of : List FrameShape → Counts → List ℕ → ℕ → ℕ → List Event
made_of below counts path j k = events_in Plain below counts (child path j) k

-- the events in taking the leads of all tributaries
abbrev pub leads_of : FrameShape → List FrameShape → Counts → List ℕ → List Event
leads_of s below counts path = flat_map (λ j. flat_map (events_in Plain below counts (child path j)) (range_with_len 0 lead)) (range_with_len 0 s.tribs)

-- the events in making the bit of a tributary that arrives in a slot
abbrev pub arrival_of : FrameShape → List FrameShape → Counts → List ℕ → ℕ → ℕ → ℕ → List Event
arrival_of s below counts path n t j = cond (arrives_at s (counts path j n) t) (events_in Plain below counts (child path j) (came_before s (counts path j) n t)) []

-- the events of all arrivals of a slot
abbrev pub arrivals_of : FrameShape → List FrameShape → Counts → List ℕ → ℕ → ℕ → List Event
arrivals_of s below counts path n t = flat_map (λ j. arrival_of s below counts path n t j ++ overflow_at Plain s path j (counts path j) n t) (range_with_len 0 s.tribs)

abbrev pub reads_of : FrameShape → Counts → List ℕ → ℕ → ℕ → List Event
reads_of s counts path n t = flat_map (λ j. underflow_at Plain s path j (counts path j) n t) (range_with_len 0 s.tribs)

-- those of a node with stores
pub events_in-is : (s : FrameShape) (below : List FrameShape) (counts : Counts) (path : List ℕ) (x : ℕ) → HasStores s
    → events_in Plain (s ∷ below) counts path x ≡ cond (eqb x 0) (leads_of s below counts path) [] ++ (arrivals_of s below counts path (x / s.len) (x % s.len) ++ reads_of s counts path (x / s.len) (x % s.len))
unfolding events_in
events_in-is s below counts path x stores =
    ap (λ locked. cond locked (events_without_stores s (made_of below counts path) x) (events_with_stores Plain s counts path (made_of below counts path) x)) stores
    ∙ append_assoc (cond (eqb x 0) (leads_of s below counts path) []) (arrivals_of s below counts path (x / s.len) (x % s.len)) (reads_of s counts path (x / s.len) (x % s.len))

-- the events in making the bit of a tributary that a slot reads, in a node without stores
abbrev pub read_of : FrameShape → List FrameShape → Counts → List ℕ → ℕ → ℕ → ℕ → List Event
read_of s below counts path n t j = cond (reads_from j false (s.role t)) (events_in Plain below counts (child path j) (n * s.low + reads_below s j false t)) []

pub events_in-locked : (s : FrameShape) (below : List FrameShape) (counts : Counts) (path : List ℕ) (x : ℕ) → eqb s.copies 0 ≡ true
    → events_in Plain (s ∷ below) counts path x ≡ flat_map (read_of s below counts path (x / s.len) (x % s.len)) (range_with_len 0 s.tribs)
unfolding events_in
events_in-locked s below counts path x locked =
    ap (λ locked. cond locked (events_without_stores s (made_of below counts path) x) (events_with_stores Plain s counts path (made_of below counts path) x)) locked

-- ---- a bit without events

one_if_none : {X : Type 0} (test : Bool) (x : X) → cond test (x ∷ []) [] ≡ [] → test ≡ false
one_if_none true x h = cc
one_if_none false x h = refl

none_if : {X : Type 0} (test : Bool) (xs : List X) → (test ≡ true → xs ≡ []) → cond test xs [] ≡ []
none_if true xs h = h refl
none_if false xs h = refl

-- a node with stores
module _ (s : FrameShape) (below : List FrameShape) (counts : Counts) (path : List ℕ) (stores : HasStores s) where
  -- no tributary has an event in making a bit of its lead,
  pub lead_none : (j k : ℕ) → events_in Plain (s ∷ below) counts path 0 ≡ [] → j < s.tribs → k < lead → events_in Plain below counts (child path j) k ≡ []
  lead_none j k none known h =
      let parts = none_of_both (leads_of s below counts path) _ (sym (events_in-is s below counts path 0 stores) ∙ none) in
      each_of_range (events_in Plain below counts (child path j)) 0 lead k
      (each_of_range (λ j. flat_map (events_in Plain below counts (child path j)) (range_with_len 0 lead)) 0 s.tribs j parts.0 (omega arith) (omega arith))
      (omega arith) (omega arith)

  slot_none : (x : ℕ) → events_in Plain (s ∷ below) counts path x ≡ []
      → (arrivals_of s below counts path (x / s.len) (x % s.len) ≡ []) × (reads_of s counts path (x / s.len) (x % s.len) ≡ [])
  slot_none x none =
      none_of_both _ _ (none_of_both (cond (eqb x 0) (leads_of s below counts path) []) _ (sym (events_in-is s below counts path x stores) ∙ none)).1

  -- none has one in making the bit that arrives,
  pub arrival_none : (j x : ℕ) → events_in Plain (s ∷ below) counts path x ≡ [] → j < s.tribs → arrives_at s (counts path j (x / s.len)) (x % s.len) ≡ true
      → events_in Plain below counts (child path j) (came_before s (counts path j) (x / s.len) (x % s.len)) ≡ []
  arrival_none j x none known arrives =
      let n : ℕ = x / s.len in
      let t : ℕ = x % s.len in
      let here = each_of_range (λ j. arrival_of s below counts path n t j ++ overflow_at Plain s path j (counts path j) n t) 0 s.tribs j (slot_none x none).0 (omega arith) (omega arith) in
      let parts = none_of_both (arrival_of s below counts path n t j) _ here in
      ap (λ b. cond b (events_in Plain below counts (child path j) (came_before s (counts path j) n t)) []) (sym arrives) ∙ parts.0

  -- and none has an underflow
  pub underflow_none : (j x : ℕ) → events_in Plain (s ∷ below) counts path x ≡ [] → j < s.tribs → underflows s j (counts path j) (x / s.len) (x % s.len) ≡ false
  underflow_none j x none known =
      one_if_none _ _ (each_of_range (λ j. underflow_at Plain s path j (counts path j) (x / s.len) (x % s.len)) 0 s.tribs j (slot_none x none).1 (omega arith) (omega arith))

  -- a bit has none where no part has
  pub events_in-none : (x : ℕ) → ((j k : ℕ) → x ≡ 0 → j < s.tribs → k < lead → events_in Plain below counts (child path j) k ≡ [])
      → ((j : ℕ) → j < s.tribs → arrives_at s (counts path j (x / s.len)) (x % s.len) ≡ true → events_in Plain below counts (child path j) (came_before s (counts path j) (x / s.len) (x % s.len)) ≡ [])
      → ((j : ℕ) → j < s.tribs → overflows s j (counts path j) (x / s.len) (x % s.len) ≡ false)
      → ((j : ℕ) → j < s.tribs → underflows s j (counts path j) (x / s.len) (x % s.len) ≡ false)
      → events_in Plain (s ∷ below) counts path x ≡ []
  events_in-none x leads arrivals over under =
      let n : ℕ = x / s.len in
      let t : ℕ = x % s.len in
      let made : arrivals_of s below counts path n t ≡ [] =
      none_of_range (λ j. arrival_of s below counts path n t j ++ overflow_at Plain s path j (counts path j) n t) 0 s.tribs
      (λ j l h. ap (λ es. es ++ overflow_at Plain s path j (counts path j) n t) (none_if (arrives_at s (counts path j n) t) _ (arrivals j (omega arith))) ∙ rw (over j (omega arith)) refl) in
      let read : reads_of s counts path n t ≡ [] = none_of_range (λ j. underflow_at Plain s path j (counts path j) n t) 0 s.tribs (λ j l h. rw (under j (omega arith)) refl) in
      let taken : cond (eqb x 0) (leads_of s below counts path) [] ≡ [] =
      none_if (eqb x 0) _ (λ first. none_of_range (λ j. flat_map (events_in Plain below counts (child path j)) (range_with_len 0 lead)) 0 s.tribs
      (λ j l h. none_of_range (events_in Plain below counts (child path j)) 0 lead (λ k l' h'. leads j k (eqb-true x 0 first) (omega arith) (omega arith)))) in
      events_in-is s below counts path x stores ∙ ap (λ es. es ++ (arrivals_of s below counts path n t ++ reads_of s counts path n t)) taken
      ∙ ap (λ es. es ++ reads_of s counts path n t) made ∙ read

-- a node without stores
module _ (s : FrameShape) (below : List FrameShape) (counts : Counts) (path : List ℕ) (locked : eqb s.copies 0 ≡ true) where
  -- no tributary has an event in making the bit that a slot reads,
  pub read_none : (j x : ℕ) → events_in Plain (s ∷ below) counts path x ≡ [] → j < s.tribs → reads_from j false (s.role (x % s.len)) ≡ true
      → events_in Plain below counts (child path j) (x / s.len * s.low + reads_below s j false (x % s.len)) ≡ []
  read_none j x none known reads =
      ap (λ b. cond b (events_in Plain below counts (child path j) (x / s.len * s.low + reads_below s j false (x % s.len))) []) (sym reads)
      ∙ each_of_range (read_of s below counts path (x / s.len) (x % s.len)) 0 s.tribs j (sym (events_in-locked s below counts path x locked) ∙ none) (omega arith) (omega arith)

  -- and a bit has none where no such bit has
  pub events_in-none_read : (x : ℕ)
      → ((j : ℕ) → j < s.tribs → reads_from j false (s.role (x % s.len)) ≡ true → events_in Plain below counts (child path j) (x / s.len * s.low + reads_below s j false (x % s.len)) ≡ [])
      → events_in Plain (s ∷ below) counts path x ≡ []
  events_in-none_read x none =
      events_in-locked s below counts path x locked
      ∙ none_of_range (read_of s below counts path (x / s.len) (x % s.len)) 0 s.tribs (λ j l h. none_if (reads_from j false (s.role (x % s.len))) _ (none j (omega arith)))

-- ---- a run without events

-- the first x bits have none exactly where none of them has
pub events_below-none : (chain : List FrameShape) (counts : Counts) (x : ℕ) → ((y : ℕ) → y < x → events_in Plain chain counts [] y ≡ []) → events_below Plain chain counts x ≡ []
unfolding events_below
events_below-none chain counts x none = none_of_range (events_in Plain chain counts []) 0 x (λ y l h. none y (omega arith))

pub events_below-each : (chain : List FrameShape) (counts : Counts) (x y : ℕ) → events_below Plain chain counts x ≡ [] → y < x → events_in Plain chain counts [] y ≡ []
unfolding events_below
events_below-each chain counts x y none h = each_of_range (events_in Plain chain counts []) 0 x y none (omega arith) (omega arith)

-- a run without a first event has none at all
pub events_below-none_first : (chain : List FrameShape) (counts : Counts) (frames : ℕ) → first_event chain counts frames ≡ None → events_below Plain chain counts (frames * top_len chain) ≡ []
events_below-none_first chain counts frames none = none_of_first (events_below Plain chain counts (frames * top_len chain)) none
  where
    none_of_first : (events : List Event) → slice_get events 0 ≡ None → events ≡ []
    none_of_first [] h = refl
    none_of_first (event ∷ events) h = cc
