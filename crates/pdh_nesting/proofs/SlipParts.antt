-- What holds of each event in making a bit of a node's line holds of those of each part: in either mode.
use Rattle.std.proofs.Common.{◌≡◌, ℕ, zero, suc, ◌+◌, ◌*◌, ◌/◌, ◌%◌, ◌<◌, ◌≤◌, true, false, cond, eqb, List, [], ◌∷◌, ◌++◌, refl, sym, subst, inl, inr, arith}
use Rattle.std.specs.Prelude.{flat_map}
use Rattle.std.specs.List.{range_with_len}
use Rattle.std.proofs.lemmas.Bool.{cases_eq, cases_Bool}
use Rattle.std.proofs.lemmas.Nat.{div-mul-add, mod-mul-add}
use Rattle.pdh_shape.specs.Frame.{FrameShape}
use Rattle.pdh_shape.specs.Tributary.{reads_from, reads_below}
use Rattle.pdh_shape.specs.OwnNumbers.{lead}
use Rattle.pdh_line.specs.Sending.{Mode, HasStores, arrives_at, came_before, begun, given}
use Rattle.pdh_line.specs.Events.{Event, overflow_at, underflow_at}
use Rattle.pdh_line.specs.Nodes.{child, Counts}
use Rattle.pdh_line.proofs.SendingLaws.{given-stores}
use Rattle.pdh_nesting.specs.Chains.{AreFrames}
use Rattle.pdh_nesting.specs.Events.{events_with_stores, events_without_stores, events_in, events_below}
use Rattle.pdh_nesting.proofs.Orders.{Each}
use Rattle.pdh_nesting.proofs.Nodes.{taken_once, given_once}

module _ {X : Type 0} (P : X → Type 0) where
  each-both : (xs ys : List X) → Each P (xs ++ ys) → Each P xs × Each P ys
  each-both [] ys each = (tt, each)
  each-both (x ∷ xs) ys each = (let rest = each-both xs ys each.1 in ((each.0, rest.0), rest.1))

  pub each-of_range : (f : ℕ → List X) (a n k : ℕ) → Each P (flat_map f (range_with_len a n)) → a ≤ k → k < a + n → Each P (f k)
  each-of_range f a zero k each h h' = absurd (omega arith)
  each-of_range f a (suc n) k each h h' =
      let parts = each-both (f a) (flat_map f (range_with_len (a + 1) n)) each in
      elim (cases_eq k a) [
        | inl same ↦ subst (λ k. Each P (f k)) (sym same) parts.0
        | inr other ↦ each-of_range f (a + 1) n k parts.1 (omega arith) (omega arith)
      ]

module _ (P : Event → Type 0) (mode : Mode) (s : FrameShape) (below : List FrameShape) (counts : Counts) (path : List ℕ) where
  abbrev made : ℕ → ℕ → List Event
  made j k = events_in mode below counts (child path j) k

  abbrev leads : List Event
  leads = flat_map (λ j. flat_map (made j) (range_with_len 0 lead)) (range_with_len 0 s.tribs)

  abbrev arrival_in : ℕ → ℕ → ℕ → List Event
  arrival_in n t j = cond (arrives_at s (counts path j n) t) (made j (came_before s (counts path j) n t)) [] ++ overflow_at mode s path j (counts path j) n t

  abbrev arrivals : ℕ → ℕ → List Event
  arrivals n t = flat_map (arrival_in n t) (range_with_len 0 s.tribs)

  abbrev reads : ℕ → ℕ → List Event
  reads n t = flat_map (λ j. underflow_at mode s path j (counts path j) n t) (range_with_len 0 s.tribs)

  module _ (stores : HasStores s) where
    -- the leads, the arrivals of a slot, and its reads
    parts : (x : ℕ) → Each P (events_in mode (s ∷ below) counts path x) → Each P (cond (eqb x 0) leads []) × Each P (arrivals (x / s.len) (x % s.len)) × Each P (reads (x / s.len) (x % s.len))
    unfolding events_in
    parts x each =
        let n : ℕ = x / s.len in
        let t : ℕ = x % s.len in
        let all : Each P ((cond (eqb x 0) leads [] ++ arrivals n t) ++ reads n t) =
        subst (λ locked. Each P (cond locked (events_without_stores s made x) (events_with_stores mode s counts path made x))) stores each in
        let outer = each-both P (cond (eqb x 0) leads [] ++ arrivals n t) (reads n t) all in
        let inner = each-both P (cond (eqb x 0) leads []) (arrivals n t) outer.0 in
        (inner.0, inner.1, outer.1)

    lead_each : (j k : ℕ) → Each P (events_in mode (s ∷ below) counts path 0) → j < s.tribs → k < lead → Each P (made j k)
    lead_each j k each known h =
        each-of_range P (made j) 0 lead k
        (each-of_range P (λ j. flat_map (made j) (range_with_len 0 lead)) 0 s.tribs j (parts 0 each).0 (omega arith) (omega arith)) (omega arith) (omega arith)

    arrival_each : (j x : ℕ) → Each P (events_in mode (s ∷ below) counts path x) → j < s.tribs → Each P (arrival_in (x / s.len) (x % s.len) j)
    arrival_each j x each known = each-of_range P (arrival_in (x / s.len) (x % s.len)) 0 s.tribs j (parts x each).1 (omega arith) (omega arith)

    made_each : (j x : ℕ) → Each P (events_in mode (s ∷ below) counts path x) → j < s.tribs → arrives_at s (counts path j (x / s.len)) (x % s.len) ≡ true
        → Each P (made j (came_before s (counts path j) (x / s.len) (x % s.len)))
    made_each j x each known arrives =
        let bit : List Event = made j (came_before s (counts path j) (x / s.len) (x % s.len)) in
        subst (λ b. Each P (cond b bit [])) arrives
        (each-both P (cond (arrives_at s (counts path j (x / s.len)) (x % s.len)) bit []) (overflow_at mode s path j (counts path j) (x / s.len) (x % s.len)) (arrival_each j x each known)).0

    -- the events of a slot's own store
    pub slot_each : (j n t : ℕ) → t < s.len → Each P (events_in mode (s ∷ below) counts path (n * s.len + t)) → j < s.tribs
        → Each P (overflow_at mode s path j (counts path j) n t) × Each P (underflow_at mode s path j (counts path j) n t)
    slot_each j n t inside each known =
        let x : ℕ = n * s.len + t in
        let m : ℕ = x / s.len in
        let u : ℕ = x % s.len in
        let both : ℕ → ℕ → Type 0 = λ m u. Each P (overflow_at mode s path j (counts path j) m u) × Each P (underflow_at mode s path j (counts path j) m u) in
        let over : Each P (overflow_at mode s path j (counts path j) m u) =
        (each-both P (cond (arrives_at s (counts path j m) u) (made j (came_before s (counts path j) m u)) []) (overflow_at mode s path j (counts path j) m u) (arrival_each j x each known)).1 in
        let under : Each P (underflow_at mode s path j (counts path j) m u) =
        each-of_range P (λ j. underflow_at mode s path j (counts path j) m u) 0 s.tribs j (parts x each).2 (omega arith) (omega arith) in
        subst (both n) (mod-mul-add n s.len t inside) (subst (λ m. both m u) (div-mul-add n s.len t inside) (over, under))

  -- in a node without stores, those of the bit that a slot reads
  read_each : eqb s.copies 0 ≡ true → (j x : ℕ) → Each P (events_in mode (s ∷ below) counts path x) → j < s.tribs → reads_from j false (s.role (x % s.len)) ≡ true
      → Each P (made j (x / s.len * s.low + reads_below s j false (x % s.len)))
  unfolding events_in
  read_each locked j x each known reads =
      let bit : List Event = made j (x / s.len * s.low + reads_below s j false (x % s.len)) in
      let all = subst (λ locked. Each P (cond locked (events_without_stores s made x) (events_with_stores mode s counts path made x))) locked each in
      subst (λ b. Each P (cond b bit [])) reads
      (each-of_range P (λ j. cond (reads_from j false (s.role (x % s.len))) (made j (x / s.len * s.low + reads_below s j false (x % s.len))) []) 0 s.tribs j all (omega arith) (omega arith))

-- What holds of each event in making the first x bits of a node's line holds of those in making each bit that it has taken of a
-- tributary.
pub taken_each : (P : Event → Type 0) (mode : Mode) (s : FrameShape) (below : List FrameShape) (counts : Counts) (path : List ℕ) (x j i : ℕ) → AreFrames (s ∷ below) → j < s.tribs
    → (HasStores s → (n : ℕ) → n < begun s x → counts path j n ≤ s.len) → ((y : ℕ) → y < x → Each P (events_in mode (s ∷ below) counts path y)) → i < given s j (counts path j) x
    → Each P (events_in mode below counts (child path j) i)
taken_each P mode s below counts path x j i are known single each h =
    elim (cases_Bool (eqb s.copies 0)) [
      | inl locked ↦
          let read = given_once s j (counts path j) are.0 are.1 known locked x i h in
          subst (λ i. Each P (events_in mode below counts (child path j) i)) read.3 (read_each P mode s below counts path locked j read.0 (each read.0 read.1) known read.2)
      | inr stores ↦ elim (taken_once s (counts path j) x i are.0 (single stores) (subst (λ n. i < n) (given-stores s j (counts path j) x stores) h)) [
        | inl leads ↦ lead_each P mode s below counts path stores j i (each 0 leads.0) known leads.1
        | inr arrived ↦
            let y : ℕ = arrived.0 in
            subst (λ i. Each P (events_in mode below counts (child path j) i)) arrived.3 (made_each P mode s below counts path stores j y (each y arrived.1) known arrived.2)
      ]
    ]

-- the same of the events of a run
pub run_each : (P : Event → Type 0) (mode : Mode) (chain : List FrameShape) (counts : Counts) (x y : ℕ) → Each P (events_below mode chain counts x) → y < x → Each P (events_in mode chain counts [] y)
unfolding events_below
run_each P mode chain counts x y each h = each-of_range P (events_in mode chain counts []) 0 x y each (omega arith) (omega arith)
