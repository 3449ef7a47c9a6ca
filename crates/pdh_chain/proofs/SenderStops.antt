-- What stands first in the way of a bit of a chain's line is the first event in making it, or a leaf's list is used up, or a
-- node has no more frames.
use Rattle.std.proofs.Common.{◌≡◌, ℕ, zero, suc, ◌+◌, ◌*◌, ◌/◌, ◌%◌, ◌<◌, ◌≤◌, ◌⊎◌, inl, inr, Bool, true, false, ◌&&◌, cond, eqb, leb, leb-true, List, [], ◌∷◌, ◌++◌, map, refl, sym, ap, ◌∙◌, subst, arith, Some, None, slice_get}
use Rattle.std.specs.Prelude.{flat_map}
use Rattle.std.specs.List.{range_with_len}
use Rattle.std.proofs.lemmas.Bool.{cases_Bool, cases_eq, cases_lt, eq-eqb, ne_eqb}
use Rattle.std.proofs.lemmas.Nat.{div-mul-add, mod-mul-add, div-add-mod', mod_below, le-div}
use Rattle.std.proofs.Math.Nat.{div-mul-le_self, mul-le-mul_right}
use Rattle.pdh_shape.specs.declared.place.Path.{Path}
use Rattle.pdh_shape.specs.Frame.{FrameShape, IsFrame}
use Rattle.pdh_shape.specs.Tributary.{reads_from, reads_below, HasTributaries}
use Rattle.pdh_shape.specs.OwnNumbers.{lead, store_size}
use Rattle.pdh_line.specs.Sending.{arrives_at, came_before, read_before, begun, given, HasStores}
use Rattle.pdh_line.proofs.SendingLaws.{given-stores, given-locked}
use Rattle.pdh_line.specs.Sending.Mode.{Plain}
use Rattle.pdh_line.specs.Events.{underflows, overflow_at, underflow_at}
use Rattle.pdh_line.specs.Events.Kind.{Overflow as OverflowKind, Underflow as UnderflowKind}
use Rattle.pdh_line.proofs.SameLines.{taken-grows}
use Rattle.pdh_line.specs.Nodes.{child, Counts, given_at}
use Rattle.pdh_nesting.specs.Chains.{width, AreFrames}
use Rattle.pdh_nesting.specs.Sending.{given_below}
use Rattle.pdh_nesting.specs.Events.{events_in}
use Rattle.pdh_line.specs.Paths.{steps_of, path_of}
use Rattle.pdh_nesting.proofs.Nodes.{begun-suc, begun_more, lead_given, arrival_given, read_given, given-grows, reads_below-unknown}
use Rattle.pdh_nesting.proofs.EventParts.{leads_of, arrival_of, arrivals_of, reads_of, events_in-is, read_of, events_in-locked}
use Rattle.pdh_tx.specs.declared.tx.TxStop.{TxStop}
use Rattle.pdh_tx.specs.declared.tx.TxStop.TheVariants.{Overflow, Underflow, NoFrame, Failed, Ended, LogFailed}
use Rattle.pdh_tx.specs.Meaning.{Plan, Meaning}
use Rattle.pdh_tx.specs.Held.{first_some, some_if}
use Rattle.pdh_tx.specs.Node.{obstacle_of, place_at, lead_at, leads, beginning, arrival_at, arrivals, reads}
use Rattle.pdh_tx.specs.Locked.{locked_beginning, locked_read, locked_steps}
use Rattle.pdh_events.specs.Chain.{child_path}
use Rattle.pdh_chain.specs.Trees.{sender_of, senders_below}
use Rattle.pdh_chain.specs.Muxes.{LacksFrames, plan_with}
use Rattle.pdh_chain.proofs.Numbered.{stands_at, below_node, IsAt, child_at}
use Rattle.pdh_chain.proofs.Senders.{senders, node-locked, node-stores}
use Rattle.pdh_chain.proofs.TreeLeaves.{tributary}
use Rattle.pdh_chain.proofs.Stops.{Tells, tells-weaker, tells-append, tells-cons, tells-flat, tells-map, tells-event, tells-arrival, tells-beginning, tells-unscheduled, tells-read}

-- ---- what a longer line takes

pub given-more : (s : FrameShape) (j : ℕ) (counts : ℕ → ℕ) (x y : ℕ) → IsFrame s → HasTributaries s → x ≤ y → given s j counts x ≤ given s j counts y
given-more s j counts x y frame has h = elim (cases_lt j s.tribs) [
  | inl known ↦ given-grows s j counts x y frame has known h
  | inr past ↦ elim (cases_Bool (eqb s.copies 0)) [
    | inl locked ↦
        let none : (x : ℕ) → reads_below s j false (x % s.len) ≡ 0 = λ x. reads_below-unknown s j (x % s.len) has past (omega (arith, mod_below x s.len frame.some_slots)) in
        let whole : x / s.len ≤ y / s.len = le-div (x / s.len) y s.len frame.some_slots (omega (arith, h, div-mul-le_self x s.len)) in
        omega (arith, given-locked s j counts x locked, given-locked s j counts y locked, none x, none y, mul-le-mul_right s.low whole)
    | inr stores ↦ omega (arith, given-stores s j counts x stores, given-stores s j counts y stores, taken-grows s counts x y frame h)
  ]
]

pub given_below-grows : (shapes : List FrameShape) (counts : Counts) (steps : List ℕ) (x y k : ℕ) → AreFrames shapes → x ≤ y → given_below shapes counts steps x k ≤ given_below shapes counts steps y k
unfolding given_at
given_below-grows [] counts steps x y k are h = h
given_below-grows (s ∷ below) counts steps x y k are h =
    let j : ℕ = k / width below in
    given_below-grows below counts (child steps j) (given s j (counts steps j) x) (given s j (counts steps j) y) (k % width below) are.2 (given-more s j (counts steps j) x y are.0 are.1 h)

pub begun-grows : (s : FrameShape) (x y : ℕ) → IsFrame s → x ≤ y → begun s x ≤ begun s y
begun-grows s zero y frame h =
    let q : 0 / s.len ≡ 0 = omega (arith, div-mul-add 0 s.len 0 frame.some_slots) in
    let r : 0 % s.len ≡ 0 = omega (arith, mod-mul-add 0 s.len 0 frame.some_slots) in
    let none : begun s 0 ≡ 0 = ap (λ t. cond (eqb t 0) (0 / s.len) (suc (0 / s.len))) r ∙ q in
    omega arith
begun-grows s (suc x) y frame h = omega (arith, begun-suc s x frame, begun_more s y x frame h)

-- a node that lacks frames lacks them later too
pub lacks-grows : (shapes : List FrameShape) (counts : Counts) (scheduled : List ℕ → ℕ) (steps : List ℕ) (x y : ℕ) (node : List ℕ) → AreFrames shapes → x ≤ y
    → LacksFrames shapes counts scheduled steps x node → LacksFrames shapes counts scheduled steps y node
unfolding LacksFrames
lacks-grows [] counts scheduled steps x y node are h lacks = lacks
lacks-grows (s ∷ below) counts scheduled steps x y node are h lacks = elim lacks [
  | inl here ↦ inl (here.0, omega (arith, here.1, begun-grows s x y are.0 h))
  | inr there ↦
      let j : ℕ = there.0 in
      inr (
        j,
        there.1,
        lacks-grows below counts scheduled (child steps j) (given s j (counts steps j) x) (given s j (counts steps j) y) node are.2 (given-more s j (counts steps j) x y are.0 are.1 h) there.2,
      )
]

-- ---- what stops a bit besides an event

-- a leaf's list ends before what is given by the time when x bits are made, or a node lacks a frame by then
abbrev pub Other : List FrameShape → Counts → (List ℕ → ℕ) → (ℕ → ℕ) → List ℕ → ℕ → ℕ → TxStop → Type 0
Other shapes counts scheduled size steps first x (Ended leaf) = (k : ℕ) × (leaf ≡ first + k) × (k < width shapes) × (size leaf < given_below shapes counts steps x k)
Other shapes counts scheduled size steps first x (NoFrame node) = (at : List ℕ) × (node ≡ path_of at) × LacksFrames shapes counts scheduled steps x at
Other shapes counts scheduled size steps first x _ = ⊥

-- what stops a tributary's bit stops the node's bit that takes it
pub lift : (s : FrameShape) (below : List FrameShape) (counts : Counts) (scheduled : List ℕ → ℕ) (size : ℕ → ℕ) (steps : List ℕ) (first j y x : ℕ) (stop : TxStop) → AreFrames (s ∷ below) → j < s.tribs → y ≤ given s j (counts steps j) x
    → Other below counts scheduled size (child steps j) (first + j * width below) y stop → Other (s ∷ below) counts scheduled size steps first x stop
unfolding given_at LacksFrames
lift s below counts scheduled size steps first j y x (Ended leaf) are known h why =
    let w : ℕ = width below in
    let k : ℕ = why.0 in
    let tributary : (j * w + k) / w ≡ j = div-mul-add j w k why.2 in
    let rest : (j * w + k) % w ≡ k = mod-mul-add j w k why.2 in
    let gives : ℕ → ℕ → ℕ = λ j k. given_below below counts (child steps j) (given s j (counts steps j) x) k in
    let same : gives ((j * w + k) / w) ((j * w + k) % w) ≡ gives j k = ap (λ i. gives i ((j * w + k) % w)) tributary ∙ ap (gives j) rest in (
      j * w + k,
      omega (arith, why.1),
      omega (arith, why.2, below_node 0 w s.tribs j known),
      omega (arith, same, why.3, given_below-grows below counts (child steps j) y (given s j (counts steps j) x) k are.2 h),
    )
lift s below counts scheduled size steps first j y x (NoFrame node) are known h why =
    (why.0, why.1, inr (j, known, lacks-grows below counts scheduled (child steps j) y (given s j (counts steps j) x) why.0 are.2 h why.2))
lift s below counts scheduled size steps first j y x (Overflow place) are known h why = absurd why
lift s below counts scheduled size steps first j y x (Underflow place) are known h why = absurd why
lift s below counts scheduled size steps first j y x Failed are known h why = absurd why
lift s below counts scheduled size steps first j y x LogFailed are known h why = absurd why

-- ---- one node

pub first_is : (len x : ℕ) → 0 < len → eqb x 0 ≡ (eqb (x / len) 0 && eqb (x % len) 0)
first_is len x some = elim (cases_eq x 0) [
  | inl none ↦
      let q : 0 / len ≡ 0 = omega (arith, div-mul-add 0 len 0 some) in
      let r : 0 % len ≡ 0 = omega (arith, mod-mul-add 0 len 0 some) in
      eq-eqb x 0 none ∙ sym (ap (λ b. b && eqb (x % len) 0) (eq-eqb (x / len) 0 (ap (λ v. v / len) none ∙ q)) ∙ eq-eqb (x % len) 0 (ap (λ v. v % len) none ∙ r))
  | inr other ↦ ne_eqb x 0 other ∙ sym (differ (cases_eq (x / len) 0) (cases_eq (x % len) 0) other)
]
  where
    differ : (x / len ≡ 0) ⊎ (x / len ≡ 0 → ⊥) → (x % len ≡ 0) ⊎ (x % len ≡ 0 → ⊥) → (x ≡ 0 → ⊥) → (eqb (x / len) 0 && eqb (x % len) 0) ≡ false
    differ (inr h) q other = ap (λ b. b && eqb (x % len) 0) (ne_eqb (x / len) 0 h)
    differ (inl h) (inr q) other = ap (λ b. b && eqb (x % len) 0) (eq-eqb (x / len) 0 h) ∙ ne_eqb (x % len) 0 q
    differ (inl h) (inl q) other = absurd (other (sym (div-add-mod' x len) ∙ ap (λ v. v * len + x % len) h ∙ ap (λ v. 0 * len + v) q ∙ omega arith))

module _ (s : FrameShape) (below : List FrameShape) (counts : Counts) (scheduled : List ℕ → ℕ) (size : ℕ → ℕ) (path : Path) (first x : ℕ) (are : AreFrames (s ∷ below)) (canonical : path ≡ path_of (steps_of path))
    (inner : (j k : ℕ) → j < s.tribs → Tells (Other below counts scheduled size (child (steps_of path) j) (first + j * width below) (suc k)) ((tributary senders below path first j).obstacle (plan_with Plain scheduled counts) size k) (events_in Plain below counts (child (steps_of path) j) k)) where
  abbrev steps : List ℕ
  steps = steps_of path

  abbrev plan : Plan
  plan = plan_with Plain scheduled counts

  abbrev ms : List Meaning
  ms = senders_below below path first s.tribs

  abbrev other : TxStop → Type 0
  other = Other (s ∷ below) counts scheduled size steps first (suc x)

  -- a bit of a tributary that is taken for the node's bit
  child_tells : (j k : ℕ) → j < s.tribs → k < given s j (counts steps j) (suc x) → Tells other (obstacle_of (slice_get ms j) plan size k) (events_in Plain below counts (child steps j) k)
  child_tells j k known h =
      let here : 0 + j ≡ j = omega arith in
      let found : slice_get ms j ≡ Some (tributary senders below path first j) = stands_at (tributary senders below path first) 0 s.tribs j known ∙ ap (λ i. Some (tributary senders below path first i)) here in
      subst (λ o. Tells other (obstacle_of o plan size k) (events_in Plain below counts (child steps j) k)) (sym found)
      (tells-weaker (Other below counts scheduled size (child steps j) (first + j * width below) (suc k)) other _ (events_in Plain below counts (child steps j) k)
      (λ stop why. lift s below counts scheduled size steps first j (suc k) (suc x) stop are known h why) (inner j k known))

  place_is : (j n t : ℕ) → place_at path j n t ≡ record { path = path_of steps; trib = j + 1; frame = n; slot = t }
  place_is j n t = ap (λ p. record { path = p; trib = j + 1; frame = n; slot = t }) canonical

  unscheduled : leb (scheduled steps) (x / s.len) ≡ true → other (NoFrame path)
  unfolding LacksFrames
  unscheduled late = (steps, canonical, inl (refl, omega (arith, leb-true _ _ late, begun-suc s x are.0)))

  -- with a store for each tributary
  module _ (stores : HasStores s) where
    leads_tell : Tells other (first_some (leads s plan ms size)) (leads_of s below counts steps)
    leads_tell =
        tells-flat other (lead_at plan ms size) (λ j. flat_map (events_in Plain below counts (child steps j)) (range_with_len 0 lead)) 0 s.tribs
        (λ j l h. tells-map other (obstacle_of (slice_get ms j) plan size) (events_in Plain below counts (child steps j)) 0 lead
        (λ k l' h'. child_tells j k (omega (arith, h)) (lead_given s j (counts steps j) (suc x) k are.0 stores (omega arith) (omega (arith, h')))))

    begins_tell : Tells other (first_some (beginning s path plan ms size (x / s.len) (x % s.len))) (cond (eqb x 0) (leads_of s below counts steps) [])
    begins_tell =
        subst (λ z. Tells other (first_some (beginning s path plan ms size (x / s.len) (x % s.len))) (cond z (leads_of s below counts steps) [])) (sym (first_is s.len x are.0.some_slots))
        (tells-beginning other (eqb (x % s.len) 0) (leb (scheduled steps) (x / s.len)) (eqb (x / s.len) 0) (NoFrame path) (leads s plan ms size) (leads_of s below counts steps) unscheduled leads_tell)

    arrivals_tell : (n t : ℕ) → n ≡ x / s.len → t ≡ x % s.len → Tells other (first_some (arrivals s path plan ms size n t)) (arrivals_of s below counts steps n t)
    arrivals_tell n t frame slot =
        tells-flat other (arrival_at s path plan ms size n t) (λ j. arrival_of s below counts steps n t j ++ overflow_at Plain s steps j (counts steps j) n t) 0 s.tribs
        (λ j l h. tells-arrival other (arrives_at s (counts steps j n) t) (leb (read_before s j (counts steps j) n t + store_size) (came_before s (counts steps j) n t)) (obstacle_of (slice_get ms j) plan size (came_before s (counts steps j) n t)) (events_in Plain below counts (child steps j) (came_before s (counts steps j) n t)) (Overflow (place_at path j n t))
        (record { kind = OverflowKind; path = steps; trib = j; frame = n; slot = t })
        (λ arrives. child_tells j (came_before s (counts steps j) n t) (omega (arith, h)) (arrived j n t frame slot arrives)) (ap Overflow (place_is j n t)))
      where
        arrived : (j n t : ℕ) → n ≡ x / s.len → t ≡ x % s.len → arrives_at s (counts steps j n) t ≡ true → came_before s (counts steps j) n t < given s j (counts steps j) (suc x)
        arrived j n t frame slot arrives =
            let here : arrives_at s (counts steps j (x / s.len)) (x % s.len) ≡ true = ap (λ n. arrives_at s (counts steps j n) (x % s.len)) (sym frame) ∙ ap (λ t. arrives_at s (counts steps j n) t) (sym slot) ∙ arrives in
            let same : came_before s (counts steps j) n t ≡ came_before s (counts steps j) (x / s.len) (x % s.len) = ap (λ n. came_before s (counts steps j) n t) frame ∙ ap (came_before s (counts steps j) (x / s.len)) slot in
            omega (arith, same, arrival_given s j (counts steps j) (suc x) x are.0 stores (omega arith) here)

    reads_tell : (n t : ℕ) → Tells other (first_some (reads s path plan n t)) (reads_of s counts steps n t)
    reads_tell n t =
        tells-map other (λ j. some_if (underflows s j (counts steps j) n t) (Underflow (place_at path j n t))) (λ j. underflow_at Plain s steps j (counts steps j) n t) 0 s.tribs
        (λ j l h. tells-event other (underflows s j (counts steps j) n t) (Underflow (place_at path j n t)) (record { kind = UnderflowKind; path = steps; trib = j; frame = n; slot = t }) (ap Underflow (place_is j n t)))

    stores_tell : Tells other (first_some (beginning s path plan ms size (x / s.len) (x % s.len) ++ (arrivals s path plan ms size (x / s.len) (x % s.len) ++ reads s path plan (x / s.len) (x % s.len)))) (events_in Plain (s ∷ below) counts steps x)
    stores_tell =
        let n : ℕ = x / s.len in
        let t : ℕ = x % s.len in
        subst (Tells other (first_some (beginning s path plan ms size n t ++ (arrivals s path plan ms size n t ++ reads s path plan n t)))) (sym (events_in-is s below counts steps x stores))
        (tells-append other (beginning s path plan ms size n t) (arrivals s path plan ms size n t ++ reads s path plan n t) (cond (eqb x 0) (leads_of s below counts steps) []) (arrivals_of s below counts steps n t ++ reads_of s counts steps n t) begins_tell
        (tells-append other (arrivals s path plan ms size n t) (reads s path plan n t) (arrivals_of s below counts steps n t) (reads_of s counts steps n t) (arrivals_tell n t refl refl) (reads_tell n t)))

  -- without stores
  module _ (locked : eqb s.copies 0 ≡ true) where
    begins_alone : Tells other (locked_beginning path plan (x / s.len) (x % s.len)) []
    begins_alone = tells-unscheduled other (eqb (x % s.len) 0) (leb (scheduled steps) (x / s.len)) (NoFrame path) unscheduled

    slot_tells : Tells other (first_some (map (locked_read s plan ms size (x / s.len) (x % s.len)) (range_with_len 0 s.tribs))) (flat_map (read_of s below counts steps (x / s.len) (x % s.len)) (range_with_len 0 s.tribs))
    slot_tells =
        let n : ℕ = x / s.len in
        let t : ℕ = x % s.len in
        tells-map other (locked_read s plan ms size n t) (read_of s below counts steps n t) 0 s.tribs
        (λ j l h.
        let known : j < s.tribs = omega (arith, h) in
        let next : ℕ = n * s.low + reads_below s j false t in
        tells-read other (reads_from j false (s.role t)) (obstacle_of (slice_get ms j) plan size next) (events_in Plain below counts (child steps j) next)
        (λ reads. child_tells j next known (read_given s j (counts steps j) are.0 are.1 known locked (suc x) x (omega arith) reads)))

    locked_tell : Tells other (first_some (locked_steps s path plan ms size (x / s.len) (x % s.len))) (events_in Plain (s ∷ below) counts steps x)
    locked_tell =
        subst (Tells other (first_some (locked_steps s path plan ms size (x / s.len) (x % s.len)))) (sym (events_in-locked s below counts steps x locked))
        (tells-cons other (locked_beginning path plan (x / s.len) (x % s.len)) (map (locked_read s plan ms size (x / s.len) (x % s.len)) (range_with_len 0 s.tribs)) []
        (flat_map (read_of s below counts steps (x / s.len) (x % s.len)) (range_with_len 0 s.tribs)) begins_alone slot_tells)

  node_tells : Tells other ((sender_of (s ∷ below) path first).obstacle plan size x) (events_in Plain (s ∷ below) counts steps x)
  node_tells = elim (cases_Bool (eqb s.copies 0)) [
    | inl locked ↦ subst (λ (m : Meaning). Tells other (m.obstacle plan size x) (events_in Plain (s ∷ below) counts steps x)) (sym (node-locked s below path first locked)) (locked_tell locked)
    | inr stores ↦ subst (λ (m : Meaning). Tells other (m.obstacle plan size x) (events_in Plain (s ∷ below) counts steps x)) (sym (node-stores s below path first stores)) (stores_tell stores)
  ]

-- ---- the whole chain

leaf_tells : (counts : Counts) (scheduled : List ℕ → ℕ) (size : ℕ → ℕ) (steps : List ℕ) (first x : ℕ) (b : Bool) → leb (size first) x ≡ b
    → Tells (Other [] counts scheduled size steps first (suc x)) (cond b (Some (Ended first)) None) []
unfolding given_at
leaf_tells counts scheduled size steps first x true over = inr (0, omega arith, omega arith, omega (arith, leb-true _ _ over))
leaf_tells counts scheduled size steps first x false over = refl

pub chain_tells : (shapes : List FrameShape) (counts : Counts) (scheduled : List ℕ → ℕ) (size : ℕ → ℕ) (path : Path) (steps : List ℕ) (first x : ℕ) → AreFrames shapes → IsAt shapes path steps
    → Tells (Other shapes counts scheduled size steps first (suc x)) ((sender_of shapes path first).obstacle (plan_with Plain scheduled counts) size x) (events_in Plain shapes counts steps x)
unfolding sender_of events_in
chain_tells [] counts scheduled size path steps first x are at = leaf_tells counts scheduled size steps first x (leb (size first) x) refl
chain_tells (s ∷ below) counts scheduled size path steps first x are at =
    subst (λ st. Tells (Other (s ∷ below) counts scheduled size st first (suc x)) ((sender_of (s ∷ below) path first).obstacle (plan_with Plain scheduled counts) size x) (events_in Plain (s ∷ below) counts st x)) at.0
    (node_tells s below counts scheduled size path first x are (at.1 ∙ ap path_of (sym at.0))
    (λ j k known. chain_tells below counts scheduled size (child_path path j) (child (steps_of path) j) (first + j * width below) k are.2
    (subst (λ st. IsAt below (child_path path j) (child st j)) (sym at.0) (child_at s below path steps j at))))
