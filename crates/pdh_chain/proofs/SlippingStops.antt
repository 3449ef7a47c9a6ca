-- What stands in the way of a line whose stores slip: the end of a leaf's list or of a node's frames, and no event of a store.
use Rattle.std.proofs.Common.{◌≡◌, ℕ, zero, suc, ◌+◌, ◌*◌, ◌/◌, ◌%◌, ◌<◌, ◌≤◌, Bool, true, false, cond, eqb, leb, leb-true, List, [], ◌∷◌, ◌++◌, map, Option, None, Some, slice_get, refl, sym, ap, ◌∙◌, subst, inl, inr, arith}
use Rattle.std.specs.Prelude.{flat_map}
use Rattle.std.specs.List.{range_with_len}
use Rattle.std.proofs.lemmas.Bool.{cases_Bool}
use Rattle.pdh_shape.specs.declared.place.Path.{Path}
use Rattle.pdh_shape.specs.Frame.{FrameShape}
use Rattle.pdh_shape.specs.Tributary.{reads_from, reads_below}
use Rattle.pdh_shape.specs.OwnNumbers.{lead}
use Rattle.pdh_line.specs.Sending.{HasStores, arrives_at, came_before, given}
use Rattle.pdh_line.specs.Sending.Mode.{Slipping}
use Rattle.pdh_line.specs.Nodes.{child, given_at, Counts}
use Rattle.pdh_line.specs.Paths.{steps_of, path_of}
use Rattle.pdh_events.specs.Chain.{child_path}
use Rattle.pdh_nesting.specs.Chains.{width, AreFrames}
use Rattle.pdh_nesting.proofs.Nodes.{begun-suc, lead_given, arrival_given, read_given}
use Rattle.pdh_tx.specs.declared.tx.TxStop.{TxStop}
use Rattle.pdh_tx.specs.declared.tx.TxStop.TheVariants.{NoFrame, Ended}
use Rattle.pdh_tx.specs.Meaning.{Plan, Meaning}
use Rattle.pdh_tx.specs.Held.{first_some, some_if}
use Rattle.pdh_tx.specs.Node.{obstacle_of, lead_at, leads, beginning, arrival_at, arrivals, reads, steps}
use Rattle.pdh_tx.specs.Locked.{locked_beginning, locked_read, locked_steps}
use Rattle.pdh_chain.specs.Trees.{sender_of, senders_below}
use Rattle.pdh_chain.specs.Muxes.{LacksFrames, plan_with}
use Rattle.pdh_chain.proofs.Numbered.{stands_at, IsAt, child_at}
use Rattle.pdh_chain.proofs.Senders.{senders, node-locked, node-stores}
use Rattle.pdh_chain.proofs.TreeLeaves.{tributary}
use Rattle.pdh_chain.proofs.SenderStops.{Other, lift}

-- ---- the first of some steps

-- nothing stands in the way, or this does for such a reason
abbrev pub Only : (TxStop → Type 0) → Option TxStop → Type 0
Only why None = Unit {0}
Only why (Some stop) = why stop

only-weaker : (P Q : TxStop → Type 0) (o : Option TxStop) → ((stop : TxStop) → P stop → Q stop) → Only P o → Only Q o
only-weaker P Q None more h = h
only-weaker P Q (Some stop) more h = more stop h

module _ (why : TxStop → Type 0) where
  only-append : (a b : List (Option TxStop)) → Only why (first_some a) → Only why (first_some b) → Only why (first_some (a ++ b))
  only-append [] b p q = q
  only-append (None ∷ a) b p q = only-append a b p q
  only-append (Some stop ∷ a) b p q = p

  only-cons : (o : Option TxStop) (b : List (Option TxStop)) → Only why o → Only why (first_some b) → Only why (first_some (o ∷ b))
  only-cons None b p q = q
  only-cons (Some stop) b p q = p

  only-flat : (f : ℕ → List (Option TxStop)) (a n : ℕ) → ((j : ℕ) → a ≤ j → j < a + n → Only why (first_some (f j))) → Only why (first_some (flat_map f (range_with_len a n)))
  only-flat f a zero each = tt
  only-flat f a (suc n) each =
      only-append (f a) (flat_map f (range_with_len (a + 1) n)) (each a (omega arith) (omega arith)) (only-flat f (a + 1) n (λ j l h. each j (omega arith) (omega arith)))

  only-map : (f : ℕ → Option TxStop) (a n : ℕ) → ((j : ℕ) → a ≤ j → j < a + n → Only why (f j)) → Only why (first_some (map f (range_with_len a n)))
  only-map f a zero each = tt
  only-map f a (suc n) each =
      only-cons (f a) (map f (range_with_len (a + 1) n)) (each a (omega arith) (omega arith)) (only-map f (a + 1) n (λ j l h. each j (omega arith) (omega arith)))

  only-arrival : (arrives : Bool) (o : Option TxStop) → (arrives ≡ true → Only why o) → Only why (first_some (cond arrives (o ∷ None ∷ []) []))
  only-arrival true o child = only-cons o (None ∷ []) (child refl) tt
  only-arrival false o child = tt

  only-beginning : (begins missing first : Bool) (stop : TxStop) (leads : List (Option TxStop)) → (missing ≡ true → why stop) → Only why (first_some leads)
      → Only why (first_some (cond begins (some_if missing stop ∷ cond first leads []) []))
  only-beginning false missing first stop leads late h = tt
  only-beginning true true first stop leads late h = late refl
  only-beginning true false true stop leads late h = h
  only-beginning true false false stop leads late h = tt

  only-unscheduled : (begins missing : Bool) (stop : TxStop) → (missing ≡ true → why stop) → Only why (cond begins (some_if missing stop) None)
  only-unscheduled false missing stop late = tt
  only-unscheduled true true stop late = late refl
  only-unscheduled true false stop late = tt

  only-read : (reads : Bool) (o : Option TxStop) → (reads ≡ true → Only why o) → Only why (cond reads o None)
  only-read true o child = child refl
  only-read false o child = tt

-- ---- one node

module _ (s : FrameShape) (below : List FrameShape) (counts : Counts) (scheduled : List ℕ → ℕ) (size : ℕ → ℕ) (path : Path) (first x : ℕ) (are : AreFrames (s ∷ below)) (canonical : path ≡ path_of (steps_of path))
    (inner : (j k : ℕ) → j < s.tribs → Only (Other below counts scheduled size (child (steps_of path) j) (first + j * width below) (suc k)) ((tributary senders below path first j).obstacle (plan_with Slipping scheduled counts) size k)) where
  abbrev at : List ℕ
  at = steps_of path

  abbrev plan : Plan
  plan = plan_with Slipping scheduled counts

  abbrev ms : List Meaning
  ms = senders_below below path first s.tribs

  abbrev other : TxStop → Type 0
  other = Other (s ∷ below) counts scheduled size at first (suc x)

  abbrev n : ℕ
  n = x / s.len

  abbrev t : ℕ
  t = x % s.len

  child_stops : (j k : ℕ) → j < s.tribs → k < given s j (counts at j) (suc x) → Only other (obstacle_of (slice_get ms j) plan size k)
  child_stops j k known h =
      let here : 0 + j ≡ j = omega arith in
      let found : slice_get ms j ≡ Some (tributary senders below path first j) = stands_at (tributary senders below path first) 0 s.tribs j known ∙ ap (λ i. Some (tributary senders below path first i)) here in
      subst (λ o. Only other (obstacle_of o plan size k)) (sym found)
      (only-weaker (Other below counts scheduled size (child at j) (first + j * width below) (suc k)) other _
      (λ stop why. lift s below counts scheduled size at first j (suc k) (suc x) stop are known h why) (inner j k known))

  unscheduled : leb (scheduled at) n ≡ true → other (NoFrame path)
  unfolding LacksFrames
  unscheduled late = (at, canonical, inl (refl, omega (arith, leb-true _ _ late, begun-suc s x are.0)))

  stores_stop : HasStores s → Only other (first_some (steps s path plan ms size n t))
  stores_stop stores =
      only-append other (beginning s path plan ms size n t) (arrivals s path plan ms size n t ++ reads s path plan n t)
      (only-beginning other (eqb t 0) (leb (scheduled at) n) (eqb n 0) (NoFrame path) (leads s plan ms size) unscheduled
      (only-flat other (lead_at plan ms size) 0 s.tribs
      (λ j l h. only-map other (obstacle_of (slice_get ms j) plan size) 0 lead
      (λ k l' h'. child_stops j k (omega (arith, h)) (lead_given s j (counts at j) (suc x) k are.0 stores (omega arith) (omega (arith, h')))))))
      (only-append other (arrivals s path plan ms size n t) (reads s path plan n t)
      (only-flat other (arrival_at s path plan ms size n t) 0 s.tribs
      (λ j l h. only-arrival other (arrives_at s (counts at j n) t) (obstacle_of (slice_get ms j) plan size (came_before s (counts at j) n t))
      (λ arrives. child_stops j (came_before s (counts at j) n t) (omega (arith, h)) (arrival_given s j (counts at j) (suc x) x are.0 stores (omega arith) arrives))))
      (only-map other _ 0 s.tribs (λ j l h. tt)))

  locked_stop : eqb s.copies 0 ≡ true → Only other (first_some (locked_steps s path plan ms size n t))
  locked_stop locked =
      only-cons other (locked_beginning path plan n t) (map (locked_read s plan ms size n t) (range_with_len 0 s.tribs))
      (only-unscheduled other (eqb t 0) (leb (scheduled at) n) (NoFrame path) unscheduled)
      (only-map other (locked_read s plan ms size n t) 0 s.tribs
      (λ j l h. only-read other (reads_from j false (s.role t)) (obstacle_of (slice_get ms j) plan size (n * s.low + reads_below s j false t))
      (λ reads. child_stops j (n * s.low + reads_below s j false t) (omega (arith, h)) (read_given s j (counts at j) are.0 are.1 (omega (arith, h)) locked (suc x) x (omega arith) reads))))

  node_stops : Only other ((sender_of (s ∷ below) path first).obstacle plan size x)
  node_stops = elim (cases_Bool (eqb s.copies 0)) [
    | inl locked ↦ subst (λ (m : Meaning). Only other (m.obstacle plan size x)) (sym (node-locked s below path first locked)) (locked_stop locked)
    | inr stores ↦ subst (λ (m : Meaning). Only other (m.obstacle plan size x)) (sym (node-stores s below path first stores)) (stores_stop stores)
  ]

-- ---- the whole chain

leaf_stops : (counts : Counts) (scheduled : List ℕ → ℕ) (size : ℕ → ℕ) (steps : List ℕ) (first x : ℕ) (b : Bool) → leb (size first) x ≡ b
    → Only (Other [] counts scheduled size steps first (suc x)) (cond b (Some (Ended first)) None)
unfolding given_at
leaf_stops counts scheduled size steps first x true over = (0, omega arith, omega arith, omega (arith, leb-true _ _ over))
leaf_stops counts scheduled size steps first x false over = tt

pub chain_stops : (shapes : List FrameShape) (counts : Counts) (scheduled : List ℕ → ℕ) (size : ℕ → ℕ) (path : Path) (steps : List ℕ) (first x : ℕ) → AreFrames shapes → IsAt shapes path steps
    → Only (Other shapes counts scheduled size steps first (suc x)) ((sender_of shapes path first).obstacle (plan_with Slipping scheduled counts) size x)
unfolding sender_of
chain_stops [] counts scheduled size path steps first x are placed = leaf_stops counts scheduled size steps first x (leb (size first) x) refl
chain_stops (s ∷ below) counts scheduled size path steps first x are placed =
    subst (λ st. Only (Other (s ∷ below) counts scheduled size st first (suc x)) ((sender_of (s ∷ below) path first).obstacle (plan_with Slipping scheduled counts) size x)) placed.0
    (node_stops s below counts scheduled size path first x are (placed.1 ∙ ap path_of (sym placed.0))
    (λ j k known. chain_stops below counts scheduled size (child_path path j) (child (steps_of path) j) (first + j * width below) k are.2
    (subst (λ st. IsAt below (child_path path j) (child st j)) (sym placed.0) (child_at s below path steps j placed))))
