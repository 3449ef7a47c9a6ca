-- The events of a chain come in the order of their lists, so that the first event is that with the least list.
use Rattle.std.proofs.Common.{◌≡◌, ℕ, zero, suc, ◌+◌, ◌*◌, ◌/◌, ◌%◌, ◌<◌, ◌≤◌, Bool, true, false, cond, eqb, List, [], ◌∷◌, ◌++◌, length, map, get_or, Some, refl, sym, ap, ◌∙◌, subst, inl, inr, arith, append_assoc}
use Rattle.std.specs.Prelude.{flat_map, slice_get}
use Rattle.std.specs.List.{range_with_len, AllPairs}
use Rattle.std.proofs.lemmas.Bool.{eqb-true, cases_lt}
use Rattle.pdh_shape.specs.declared.role.Role.{Role}
use Rattle.pdh_shape.specs.declared.role.Role.TheVariants.{Align, Service, Control, Just, Info}
use Rattle.pdh_shape.specs.Frame.{FrameShape}
use Rattle.pdh_shape.specs.Tributary.{reads_from, reads_below}
use Rattle.pdh_shape.specs.OwnNumbers.{lead}
use Rattle.pdh_line.specs.Sending.{Mode, arrives_at, came_before, carriage}
use Rattle.pdh_line.specs.Sending.Mode.{Plain}
use Rattle.pdh_line.specs.Events.{Event, overflow_at, underflow_at}
use Rattle.pdh_line.specs.Nodes.{child, Counts}
use Rattle.pdh_line.proofs.Ranges.{and_true}
use Rattle.pdh_nesting.specs.Chains.{top_len}
use Rattle.pdh_nesting.specs.Events.{first_event}
use Rattle.pdh_nesting.specs.StepOrder.{comes_before, Keyed, at_key, below_key, Before, IsLeast, keyed_in, keyed_below, keyed_events}
use Rattle.pdh_nesting.proofs.Orders.{Each, Ordered, each-append, each-flat, each-weaker, across-by, ordered-append, ordered-flat, ordered-pairs}
use Rattle.pdh_nesting.proofs.Keys.{comes_before-same, comes_before-self, comes_before-other, Begins, begins-below, begins-at, less-after, across-less, ordered-below, ordered-if, each-if, ordered-one, across-one}
use Rattle.pdh_nesting.proofs.SlipOnce.{overflow-one, underflow-one, underflow-reads}
use Rattle.pdh_nesting.proofs.KeyedEvents.{keyed_made, keyed_lead, keyed_arrival, keyed_read, keyed_bit_read, keyed_below-events}

-- ---- the events of a bit

-- a slot carries a bit of one tributary at most
reads_one : (j k : ℕ) (more more' : Bool) (r : Role) → reads_from j more r ≡ true → reads_from k more' r ≡ true → j ≡ k
reads_one j k more more' (Info i) h h' = sym (eqb-true i j h) ∙ eqb-true i k h'
reads_one j k more more' (Just i) h h' = sym (eqb-true i j (and_true (eqb i j) more h).0) ∙ eqb-true i k (and_true (eqb i k) more' h').0
reads_one j k more more' (Align signal) h h' = cc
reads_one j k more more' (Service number) h h' = cc
reads_one j k more more' (Control i copy) h h' = cc

module _ (mode : Mode) (s : FrameShape) (below : List FrameShape) (counts : Counts) (path : List ℕ) (inner : (j k : ℕ) → Ordered Before (keyed_in mode below counts (child path j) k)) where
  ordered-made : (mark j k : ℕ) → Ordered Before (keyed_made mode below counts path mark j k)
  ordered-made mark j k = ordered-below (mark ∷ suc j ∷ k ∷ []) (keyed_in mode below counts (child path j) k) (inner j k)

  begins-made : (mark j k : ℕ) → Each (Begins (mark ∷ suc j ∷ k ∷ [])) (keyed_made mode below counts path mark j k)
  begins-made mark j k = begins-below (mark ∷ suc j ∷ k ∷ []) (keyed_in mode below counts (child path j) k)

  ordered-lead : (j : ℕ) → Ordered Before (keyed_lead mode below counts path j)
  ordered-lead j =
      ordered-flat Before (keyed_made mode below counts path 0 j) 0 lead (ordered-made 0 j)
      (λ k l h h'. across-less (0 ∷ suc j ∷ []) k l (keyed_made mode below counts path 0 j k) (keyed_made mode below counts path 0 j l) h (begins-made 0 j k) (begins-made 0 j l))

  begins-lead : (j : ℕ) → Each (Begins (0 ∷ suc j ∷ [])) (keyed_lead mode below counts path j)
  begins-lead j =
      each-flat (Begins (0 ∷ suc j ∷ [])) (keyed_made mode below counts path 0 j) 0 lead
      (λ k h h'. each-weaker (Begins (0 ∷ suc j ∷ k ∷ [])) (Begins (0 ∷ suc j ∷ [])) (keyed_made mode below counts path 0 j k) (λ event begins. (k ∷ begins.0, begins.1)) (begins-made 0 j k))

  ordered-leads : Ordered Before (flat_map (keyed_lead mode below counts path) (range_with_len 0 s.tribs))
  ordered-leads =
      ordered-flat Before (keyed_lead mode below counts path) 0 s.tribs ordered-lead
      (λ j i h h'. across-less (0 ∷ []) (suc j) (suc i) (keyed_lead mode below counts path j) (keyed_lead mode below counts path i) (omega arith) (begins-lead j) (begins-lead i))

  begins-leads : Each (Begins (0 ∷ [])) (flat_map (keyed_lead mode below counts path) (range_with_len 0 s.tribs))
  begins-leads =
      each-flat (Begins (0 ∷ [])) (keyed_lead mode below counts path) 0 s.tribs
      (λ j h h'. each-weaker (Begins (0 ∷ suc j ∷ [])) (Begins (0 ∷ [])) (keyed_lead mode below counts path j) (λ event begins. (suc j ∷ begins.0, begins.1)) (begins-lead j))

  module _ (n t : ℕ) where
    abbrev made_at : ℕ → List Keyed
    made_at j = cond (arrives_at s (counts path j n) t) (keyed_made mode below counts path 1 j (came_before s (counts path j) n t)) []

    abbrev over_at : ℕ → List Keyed
    over_at j = at_key (1 ∷ suc j ∷ []) (overflow_at mode s path j (counts path j) n t)

    ordered-arrival : (j : ℕ) → Ordered Before (keyed_arrival mode s below counts path n t j)
    ordered-arrival j =
        let bit : ℕ = came_before s (counts path j) n t in
        ordered-append Before (made_at j) (over_at j) (ordered-if (arrives_at s (counts path j n) t) (keyed_made mode below counts path 1 j bit) (ordered-made 1 j bit))
        (ordered-one (1 ∷ suc j ∷ []) (overflow_at mode s path j (counts path j) n t) (overflow-one mode s path j (counts path j) n t))
        (across-by Before (Begins (1 ∷ suc j ∷ bit ∷ [])) (λ event. event.0 ≡ 1 ∷ suc j ∷ []) (made_at j) (over_at j)
        (λ a b ea eb. ap (comes_before a.0) eb ∙ ap (λ key. comes_before key (1 ∷ suc j ∷ [])) ea.1 ∙ comes_before-same (1 ∷ suc j ∷ []) (bit ∷ ea.0) [])
        (each-if (Begins (1 ∷ suc j ∷ bit ∷ [])) (arrives_at s (counts path j n) t) (keyed_made mode below counts path 1 j bit) (begins-made 1 j bit))
        (begins-at (1 ∷ suc j ∷ []) (overflow_at mode s path j (counts path j) n t)))

    begins-arrival : (j : ℕ) → Each (Begins (1 ∷ suc j ∷ [])) (keyed_arrival mode s below counts path n t j)
    begins-arrival j =
        let bit : ℕ = came_before s (counts path j) n t in
        each-append (Begins (1 ∷ suc j ∷ [])) (made_at j) (over_at j)
        (each-if (Begins (1 ∷ suc j ∷ [])) (arrives_at s (counts path j n) t) (keyed_made mode below counts path 1 j bit)
        (each-weaker (Begins (1 ∷ suc j ∷ bit ∷ [])) (Begins (1 ∷ suc j ∷ [])) (keyed_made mode below counts path 1 j bit) (λ event begins. (bit ∷ begins.0, begins.1)) (begins-made 1 j bit)))
        (each-weaker (λ event. event.0 ≡ 1 ∷ suc j ∷ []) (Begins (1 ∷ suc j ∷ [])) (over_at j) (λ event is. ([], is)) (begins-at (1 ∷ suc j ∷ []) (overflow_at mode s path j (counts path j) n t)))

    abbrev arrivals : List Keyed
    arrivals = flat_map (keyed_arrival mode s below counts path n t) (range_with_len 0 s.tribs)

    abbrev reads : List Keyed
    reads = flat_map (keyed_read mode s counts path n t) (range_with_len 0 s.tribs)

    ordered-arrivals : Ordered Before arrivals
    ordered-arrivals =
        ordered-flat Before (keyed_arrival mode s below counts path n t) 0 s.tribs ordered-arrival
        (λ j i h h'. across-less (1 ∷ []) (suc j) (suc i) (keyed_arrival mode s below counts path n t j) (keyed_arrival mode s below counts path n t i) (omega arith) (begins-arrival j) (begins-arrival i))

    -- a slot has one underflow at most
    ordered-reads : Ordered Before reads
    ordered-reads =
        ordered-flat Before (keyed_read mode s counts path n t) 0 s.tribs (λ j. ordered-one (1 ∷ suc s.tribs ∷ []) (underflow_at mode s path j (counts path j) n t) (underflow-one mode s path j (counts path j) n t))
        (λ j i h h'. across-one (1 ∷ suc s.tribs ∷ []) (underflow_at mode s path j (counts path j) n t) (underflow_at mode s path i (counts path i) n t) (two_reads j i h))
      where
        more : ℕ → Bool
        more j = (carriage mode s j (counts path j)).more n

        two_reads : (j i : ℕ) → j < i → (x y : Event) (xs ys : List Event) → underflow_at mode s path j (counts path j) n t ≡ x ∷ xs → underflow_at mode s path i (counts path i) n t ≡ y ∷ ys → ⊥
        two_reads j i h x y xs ys u u' =
            let same : j ≡ i =
            reads_one j i (more j) (more i) (s.role t) (underflow-reads mode s path j (counts path j) n t x xs u) (underflow-reads mode s path i (counts path i) n t y ys u') in
            absurd (omega arith)

    begins-reads : Each (Begins (1 ∷ suc s.tribs ∷ [])) reads
    begins-reads =
        each-flat (Begins (1 ∷ suc s.tribs ∷ [])) (keyed_read mode s counts path n t) 0 s.tribs
        (λ j h h'. each-weaker (λ event. event.0 ≡ 1 ∷ suc s.tribs ∷ []) (Begins (1 ∷ suc s.tribs ∷ [])) (keyed_read mode s counts path n t j) (λ event is. ([], is))
        (begins-at (1 ∷ suc s.tribs ∷ []) (underflow_at mode s path j (counts path j) n t)))

    -- a list of one of the node's tributaries, of an arrival
    abbrev IsArrival : Keyed → Type 0
    IsArrival event = (j : ℕ) × (j < s.tribs) × Begins (1 ∷ suc j ∷ []) event

    begins-arrivals : Each IsArrival arrivals
    begins-arrivals =
        each-flat IsArrival (keyed_arrival mode s below counts path n t) 0 s.tribs
        (λ j h h'. each-weaker (Begins (1 ∷ suc j ∷ [])) IsArrival (keyed_arrival mode s below counts path n t j) (λ event begins. (j, omega arith, begins)) (begins-arrival j))

    -- the steps of a slot: the arrivals, then the read
    ordered-slot : Ordered Before (arrivals ++ reads)
    ordered-slot =
        ordered-append Before arrivals reads ordered-arrivals ordered-reads
        (across-by Before IsArrival (Begins (1 ∷ suc s.tribs ∷ [])) arrivals reads (λ a b ea eb. less-after (1 ∷ []) (suc ea.0) (suc s.tribs) a b (omega (arith, ea.1)) ea.2 eb) begins-arrivals begins-reads)

    begins-slot : Each (Begins (1 ∷ [])) (arrivals ++ reads)
    begins-slot =
        each-append (Begins (1 ∷ [])) arrivals reads
        (each-weaker IsArrival (Begins (1 ∷ [])) arrivals (λ event is. (suc is.0 ∷ is.2.0, is.2.1)) begins-arrivals)
        (each-weaker (Begins (1 ∷ suc s.tribs ∷ [])) (Begins (1 ∷ [])) reads (λ event begins. (suc s.tribs ∷ begins.0, begins.1)) begins-reads)

    -- the leads come before them
    ordered-bit : (first : Bool) → Ordered Before (cond first (flat_map (keyed_lead mode below counts path) (range_with_len 0 s.tribs)) [] ++ (arrivals ++ reads))
    ordered-bit first =
        let leads : List Keyed = flat_map (keyed_lead mode below counts path) (range_with_len 0 s.tribs) in
        ordered-append Before (cond first leads []) (arrivals ++ reads) (ordered-if first leads ordered-leads) ordered-slot
        (across-less [] 0 1 (cond first leads []) (arrivals ++ reads) (omega arith) (each-if (Begins (0 ∷ [])) first leads begins-leads) begins-slot)

    -- in a node without stores, those of the bits that a slot reads
    ordered-bit_reads : Ordered Before (flat_map (keyed_bit_read mode s below counts path n t) (range_with_len 0 s.tribs))
    ordered-bit_reads =
        ordered-flat Before (keyed_bit_read mode s below counts path n t) 0 s.tribs
        (λ j. ordered-if (reads_from j false (s.role t)) (keyed_made mode below counts path 1 j (bit j)) (ordered-made 1 j (bit j)))
        (λ j i h h'. across-less (1 ∷ []) (suc j) (suc i) (keyed_bit_read mode s below counts path n t j) (keyed_bit_read mode s below counts path n t i) (omega arith) (begins j) (begins i))
      where
        bit : ℕ → ℕ
        bit j = n * s.low + reads_below s j false t

        begins : (j : ℕ) → Each (Begins (1 ∷ suc j ∷ [])) (keyed_bit_read mode s below counts path n t j)
        begins j =
            each-if (Begins (1 ∷ suc j ∷ [])) (reads_from j false (s.role t)) (keyed_made mode below counts path 1 j (bit j))
            (each-weaker (Begins (1 ∷ suc j ∷ bit j ∷ [])) (Begins (1 ∷ suc j ∷ [])) (keyed_made mode below counts path 1 j (bit j)) (λ event begins. (bit j ∷ begins.0, begins.1)) (begins-made 1 j (bit j)))

-- ---- the events of a chain

ordered-either : (test : Bool) (a b : List Keyed) → Ordered Before a → Ordered Before b → Ordered Before (cond test a b)
ordered-either true a b oa ob = oa
ordered-either false a b oa ob = ob

-- those in making a bit of a node's line come in the order of their lists
pub keyed_in-ordered : (mode : Mode) (chain : List FrameShape) (counts : Counts) (path : List ℕ) (x : ℕ) → Ordered Before (keyed_in mode chain counts path x)
unfolding keyed_in
keyed_in-ordered mode [] counts path x = tt
keyed_in-ordered mode (s ∷ below) counts path x =
    let n : ℕ = x / s.len in
    let t : ℕ = x % s.len in
    let inner : (j k : ℕ) → Ordered Before (keyed_in mode below counts (child path j) k) = λ j k. keyed_in-ordered mode below counts (child path j) k in
    ordered-either (eqb s.copies 0) _ _ (ordered-bit_reads mode s below counts path inner n t)
    (subst (Ordered Before)
    (sym (append_assoc (cond (eqb x 0) (flat_map (keyed_lead mode below counts path) (range_with_len 0 s.tribs)) []) (flat_map (keyed_arrival mode s below counts path n t) (range_with_len 0 s.tribs)) (flat_map (keyed_read mode s counts path n t) (range_with_len 0 s.tribs))))
    (ordered-bit mode s below counts path inner n t (eqb x 0)))

-- and so do those of a run,
pub keyed_below-ordered : (mode : Mode) (chain : List FrameShape) (counts : Counts) (x : ℕ) → Ordered Before (keyed_below mode chain counts x)
unfolding keyed_below
keyed_below-ordered mode chain counts x =
    let bits : ℕ → List Keyed = λ bit. below_key (bit ∷ []) (keyed_in mode chain counts [] bit) in
    ordered-flat Before bits 0 x (λ bit. ordered-below (bit ∷ []) (keyed_in mode chain counts [] bit) (keyed_in-ordered mode chain counts [] bit))
    (λ a b h h'. across-less [] a b (bits a) (bits b) h (begins-below (a ∷ []) (keyed_in mode chain counts [] a)) (begins-below (b ∷ []) (keyed_in mode chain counts [] b)))

-- each before all later ones
pub keyed_below-pairs : (mode : Mode) (chain : List FrameShape) (counts : Counts) (x : ℕ) → AllPairs Before (keyed_below mode chain counts x)
keyed_below-pairs mode chain counts x = ordered-pairs Before (keyed_below mode chain counts x) (keyed_below-ordered mode chain counts x)

-- ---- the least list

-- an element that a list has at a place
get-is : (keyed : List Keyed) (k : ℕ) (none event : Keyed) → slice_get keyed k ≡ Some event → (k < length keyed) × (get_or keyed k none ≡ event)
get-is [] k none event is = cc
get-is (first ∷ keyed) zero none event is = (omega arith, cc)
get-is (first ∷ keyed) (suc k) none event is = let rest = get-is keyed k none event is in (omega (arith, rest.0), rest.1)

-- of a list in order no later event comes before an earlier one
later-not : (keyed : List Keyed) (i k : ℕ) (a b : Keyed) → AllPairs Before keyed → slice_get keyed i ≡ Some a → slice_get keyed k ≡ Some b → i ≤ k → comes_before b.0 a.0 ≡ false
later-not keyed i k a b pairs here there h =
    let ours = get-is keyed i a a here in
    let other = get-is keyed k a b there in
    subst (λ b. comes_before b.0 a.0 ≡ false) other.1 (subst (λ x. comes_before (get_or keyed k a).0 x.0 ≡ false) ours.1 (elim (cases_lt i k) [
      | inl later ↦ comes_before-other (get_or keyed i a).0 (get_or keyed k a).0 (pairs i k a later other.0)
      | inr same ↦
          let e : i ≡ k = omega arith in
          ap (λ k. comes_before (get_or keyed k a).0 (get_or keyed i a).0) (sym e) ∙ comes_before-self (get_or keyed i a).0
    ]))

-- an event of a run with the least list is the first event,
pub least-first : (chain : List FrameShape) (counts : Counts) (frames : ℕ) (key : List ℕ) (event : Event) → IsLeast (keyed_events chain counts frames) (key, event)
    → first_event chain counts frames ≡ Some event
least-first chain counts frames key event least =
    let x : ℕ = frames * top_len chain in
    ap (λ events. slice_get events 0) (sym (keyed_below-events Plain chain counts x)) ∙ first_of (keyed_below Plain chain counts x) (keyed_below-pairs Plain chain counts x) least
  where
    first_of : (keyed : List Keyed) → AllPairs Before keyed → IsLeast keyed (key, event) → slice_get (map (λ event. event.1) keyed) 0 ≡ Some event
    first_of [] pairs least = absurd (let wrong : slice_get [] least.place ≡ Some (key, event) = least.among in cc)
    first_of (first ∷ keyed) pairs least =
        let ours = get-is (first ∷ keyed) least.place first (key, event) least.among in
        elim (cases_lt 0 least.place) [
          | inl later ↦
              let before : comes_before first.0 (get_or (first ∷ keyed) least.place first).0 ≡ true = pairs 0 least.place first later ours.0 in
              let wrong : true ≡ false = sym before ∙ ap (λ other. comes_before first.0 other.0) ours.1 ∙ least.first 0 first refl in
              absurd (cc)
          | inr none ↦
              let e : least.place ≡ 0 = omega arith in
              let same : first ≡ (key, event) = ap (λ k. get_or (first ∷ keyed) k first) (sym e) ∙ ours.1 in
              ap (λ first. Some first.1) same
        ]

-- and the first event has the least list
pub first-least : (chain : List FrameShape) (counts : Counts) (frames : ℕ) (event : Event) → first_event chain counts frames ≡ Some event
    → (key : List ℕ) × IsLeast (keyed_events chain counts frames) (key, event)
first-least chain counts frames event found =
    let x : ℕ = frames * top_len chain in
    least_of (keyed_below Plain chain counts x) (keyed_below-pairs Plain chain counts x) (ap (λ events. slice_get events 0) (keyed_below-events Plain chain counts x) ∙ found)
  where
    least_of : (keyed : List Keyed) → AllPairs Before keyed → slice_get (map (λ event. event.1) keyed) 0 ≡ Some event → (key : List ℕ) × IsLeast keyed (key, event)
    least_of [] pairs found = cc
    least_of (first ∷ keyed) pairs found =
        let same : first.1 ≡ event = cc in
        let here : slice_get (first ∷ keyed) 0 ≡ Some (first.0, event) = ap (λ event. Some (first.0, event)) same in
        (first.0, record { place = 0; among = here; first = λ k other is. later-not (first ∷ keyed) 0 k (first.0, event) other pairs here is (omega arith) })
