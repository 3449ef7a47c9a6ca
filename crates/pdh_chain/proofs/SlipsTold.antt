-- The slips that a chain's sender tells of are those of the definitions, in the same order.
use Rattle.std.proofs.Common.{◌≡◌, ℕ, zero, suc, ◌+◌, ◌*◌, ◌/◌, ◌%◌, ◌<◌, ◌≤◌, Bool, true, false, ◌&&◌, cond, eqb, List, [], ◌∷◌, ◌++◌, map, Some, slice_get, refl, sym, ap, ◌∙◌, subst, inl, inr, arith, append_assoc}
use Rattle.std.specs.Prelude.{flat_map}
use Rattle.std.specs.List.{range_with_len}
use Rattle.std.proofs.lemmas.Bool.{cases_Bool}
use Rattle.std.proofs.lemmas.List.{map-append}
use Rattle.pdh_shape.specs.declared.place.Path.{Path}
use Rattle.pdh_shape.specs.declared.place.Place.{Place}
use Rattle.pdh_shape.specs.Frame.{FrameShape}
use Rattle.pdh_shape.specs.Tributary.{reads_from, reads_below}
use Rattle.pdh_shape.specs.OwnNumbers.{lead}
use Rattle.pdh_line.specs.Sending.{HasStores, Slip as FrameSlip, arrives_at, came_before}
use Rattle.pdh_line.specs.Sending.Mode.{Slipping}
use Rattle.pdh_line.specs.Events.{Event, overflow_at, underflow_at}
use Rattle.pdh_line.specs.Events.Kind.{Overflow, Underflow}
use Rattle.pdh_line.specs.Nodes.{child, Counts}
use Rattle.pdh_line.specs.Paths.{steps_of, path_of, top}
use Rattle.pdh_events.specs.Chain.{child_path}
use Rattle.pdh_nesting.specs.Chains.{width, top_len, AreFrames}
use Rattle.pdh_nesting.specs.Events.{events_with_stores, events_without_stores, events_in, events_below}
use Rattle.pdh_nesting.proofs.Orders.{Each}
use Rattle.pdh_nesting.proofs.SlipOnce.{AtMostOne, overflow-one, underflow-one}
use Rattle.pdh_slips.specs.declared.slip.Slip.{Slip}
use Rattle.pdh_slips.specs.Logs.{slip_at}
use Rattle.pdh_clock.specs.Contents.{Contents, frame_count, counts as counts_in}
use Rattle.pdh_tx.specs.Meaning.{Plan, Meaning, plan_in}
use Rattle.pdh_tx.specs.Held.{slip_if}
use Rattle.pdh_tx.specs.Slipping.{has_any}
use Rattle.pdh_tx.specs.Node.{place_at, slips_below, lead_slips, leads_slips, beginning_slips, arrival_slips, arrivals_slips, slot_slips}
use Rattle.pdh_tx.specs.Locked.{locked_read_slips, locked_slot_slips}
use Rattle.pdh_tx.proofs.Readouts.{over-told, no-arrival-by}
use Rattle.pdh_chain.specs.Trees.{sender_of, senders_below}
use Rattle.pdh_chain.specs.Muxes.{plan_with}
use Rattle.pdh_chain.specs.Slipping.{slip_of, slips_over, told_slips}
use Rattle.pdh_chain.proofs.Numbered.{stands_at, IsAt, child_at}
use Rattle.pdh_chain.proofs.Senders.{senders, node-locked, node-stores}
use Rattle.pdh_chain.proofs.TreeLeaves.{tributary}
use Rattle.pdh_chain.proofs.SenderStops.{first_is}

-- events as a log is told of them
abbrev slips_of_events : List Event → List Slip
slips_of_events events = map slip_of events

told_flat : (f : ℕ → List Event) (g : ℕ → List Slip) (a n : ℕ) → ((j : ℕ) → a ≤ j → j < a + n → slips_of_events (f j) ≡ g j) → slips_of_events (flat_map f (range_with_len a n)) ≡ flat_map g (range_with_len a n)
told_flat f g a zero same = refl
told_flat f g a (suc n) same =
    map-append slip_of (f a) (flat_map f (range_with_len (a + 1) n)) ∙ ap (λ l. l ++ slips_of_events (flat_map f (range_with_len (a + 1) n))) (same a (omega arith) (omega arith))
    ∙ ap (λ l. g a ++ l) (told_flat f g (a + 1) n (λ j l h. same j (omega arith) (omega arith)))

told_if : (test : Bool) (es : List Event) (slips : List Slip) → (test ≡ true → slips_of_events es ≡ slips) → slips_of_events (cond test es []) ≡ cond test slips []
told_if true es slips same = same refl
told_if false es slips same = refl

-- ---- the events of a slot

always : (xs : List FrameSlip) (event : Event) → Each (λ e. e ≡ event) (map (λ (slip : FrameSlip). event) xs)
always [] event = tt
always (x ∷ xs) event = (refl, always xs event)

told_one : (events : List Event) (event : Event) (over : Bool) (place : Place) → AtMostOne events → Each (λ e. e ≡ event) events → slip_of event ≡ slip_at over place → slips_of_events events ≡ slip_if (has_any events) over place
told_one [] event over place few each same = refl
told_one (e ∷ []) event over place few each same = ap (λ s. s ∷ []) (ap slip_of each.0 ∙ same)
told_one (e ∷ other ∷ events) event over place few each same = absurd few

module _ (s : FrameShape) (path : Path) (j : ℕ) (counts : ℕ → ℕ) (n t : ℕ) (canonical : path ≡ path_of (steps_of path)) where
  place_is : record { path = path_of (steps_of path); trib = j + 1; frame = n; slot = t } ≡ place_at path j n t
  place_is = ap (λ p. record { path = p; trib = j + 1; frame = n; slot = t }) (sym canonical)

  told_over : slips_of_events (overflow_at Slipping s (steps_of path) j counts n t) ≡ slip_if (has_any (overflow_at Slipping s (steps_of path) j counts n t)) true (place_at path j n t)
  told_over =
      told_one (overflow_at Slipping s (steps_of path) j counts n t) (record { kind = Overflow; path = steps_of path; trib = j; frame = n; slot = t }) true (place_at path j n t)
      (overflow-one Slipping s (steps_of path) j counts n t) (always _ _) (ap (slip_at true) place_is)

  told_under : slips_of_events (underflow_at Slipping s (steps_of path) j counts n t) ≡ slip_if (has_any (underflow_at Slipping s (steps_of path) j counts n t)) false (place_at path j n t)
  told_under =
      told_one (underflow_at Slipping s (steps_of path) j counts n t) (record { kind = Underflow; path = steps_of path; trib = j; frame = n; slot = t }) false (place_at path j n t)
      (underflow-one Slipping s (steps_of path) j counts n t) (always _ _) (ap (slip_at false) place_is)

  -- where no bit arrives none overflows
  none_over : HasStores s → arrives_at s (counts n) t ≡ false → overflow_at Slipping s (steps_of path) j counts n t ≡ []
  none_over stores idle = none (overflow_at Slipping s (steps_of path) j counts n t) (over-told s j counts Slipping (steps_of path) n t stores ∙ no-arrival-by s j counts Slipping n t idle)
    where
      none : (events : List Event) → has_any events ≡ false → events ≡ []
      none [] h = refl
      none (e ∷ events) h = cc

-- ---- one node

both_first : (a b : Bool) (slips : List Slip) → cond (a && b) slips [] ≡ cond b (cond a slips []) []
both_first true true slips = refl
both_first true false slips = refl
both_first false true slips = refl
both_first false false slips = refl

module _ (s : FrameShape) (below : List FrameShape) (counts : Counts) (scheduled : List ℕ → ℕ) (path : Path) (first x : ℕ) (are : AreFrames (s ∷ below)) (canonical : path ≡ path_of (steps_of path))
    (inner : (j k : ℕ) → j < s.tribs → (tributary senders below path first j).slips (plan_with Slipping scheduled counts) k ≡ slips_of_events (events_in Slipping below counts (child (steps_of path) j) k)) where
  abbrev at : List ℕ
  at = steps_of path

  abbrev plan : Plan
  plan = plan_with Slipping scheduled counts

  abbrev ms : List Meaning
  ms = senders_below below path first s.tribs

  abbrev n : ℕ
  n = x / s.len

  abbrev t : ℕ
  t = x % s.len

  abbrev made : ℕ → ℕ → List Event
  made j k = events_in Slipping below counts (child at j) k

  -- those in making a bit of a tributary
  child_slips : (j k : ℕ) → j < s.tribs → slips_of_events (made j k) ≡ slips_below (slice_get ms j) plan k
  child_slips j k known =
      let here : 0 + j ≡ j = omega arith in
      let found : slice_get ms j ≡ Some (tributary senders below path first j) = stands_at (tributary senders below path first) 0 s.tribs j known ∙ ap (λ i. Some (tributary senders below path first i)) here in
      sym (ap (λ o. slips_below o plan k) found ∙ inner j k known)

  leads_told : slips_of_events (flat_map (λ j. flat_map (made j) (range_with_len 0 lead)) (range_with_len 0 s.tribs)) ≡ leads_slips s plan ms
  leads_told =
      told_flat (λ j. flat_map (made j) (range_with_len 0 lead)) (lead_slips plan ms) 0 s.tribs
      (λ j l h. told_flat (made j) (slips_below (slice_get ms j) plan) 0 lead (λ k l' h'. child_slips j k (omega (arith, h))))

  begins_told : slips_of_events (cond (eqb x 0) (flat_map (λ j. flat_map (made j) (range_with_len 0 lead)) (range_with_len 0 s.tribs)) []) ≡ beginning_slips s plan ms n t
  begins_told =
      told_if (eqb x 0) _ (leads_slips s plan ms) (λ start. leads_told) ∙ ap (λ b. cond b (leads_slips s plan ms) []) (first_is s.len x are.0.some_slots)
      ∙ both_first (eqb n 0) (eqb t 0) (leads_slips s plan ms)

  arrival_told : HasStores s → (j : ℕ) → j < s.tribs
      → slips_of_events (cond (arrives_at s (counts at j n) t) (made j (came_before s (counts at j) n t)) [] ++ overflow_at Slipping s at j (counts at j) n t) ≡ arrival_slips s path plan ms n t j
  arrival_told stores j known = go (arrives_at s (counts at j n) t) refl
    where
      bit : List Event
      bit = made j (came_before s (counts at j) n t)

      over : List Event
      over = overflow_at Slipping s at j (counts at j) n t

      own : List Slip
      own = slip_if (has_any over) true (place_at path j n t)

      go : (b : Bool) → arrives_at s (counts at j n) t ≡ b → slips_of_events (cond b bit [] ++ over) ≡ cond b (slips_below (slice_get ms j) plan (came_before s (counts at j) n t) ++ own) []
      go true arrives =
          map-append slip_of bit over ∙ ap (λ l. l ++ slips_of_events over) (child_slips j (came_before s (counts at j) n t) known)
          ∙ ap (λ l. slips_below (slice_get ms j) plan (came_before s (counts at j) n t) ++ l) (told_over s path j (counts at j) n t canonical)
      go false idle = ap slips_of_events (none_over s path j (counts at j) n t canonical stores idle)

  stores_told : HasStores s → slips_of_events (events_in Slipping (s ∷ below) counts at x) ≡ slot_slips s path plan ms n t
  unfolding events_in
  stores_told stores =
      let leads : List Event = cond (eqb x 0) (flat_map (λ j. flat_map (made j) (range_with_len 0 lead)) (range_with_len 0 s.tribs)) [] in
      let arrivals : List Event = flat_map (λ j. cond (arrives_at s (counts at j n) t) (made j (came_before s (counts at j) n t)) [] ++ overflow_at Slipping s at j (counts at j) n t) (range_with_len 0 s.tribs) in
      let reads : List Event = flat_map (λ j. underflow_at Slipping s at j (counts at j) n t) (range_with_len 0 s.tribs) in
      let arrived = told_flat _ (arrival_slips s path plan ms n t) 0 s.tribs (λ j l h. arrival_told stores j (omega (arith, h))) in
      let read = told_flat _ (λ j. slip_if (has_any (underflow_at Slipping s at j (counts at j) n t)) false (place_at path j n t)) 0 s.tribs (λ j l h. told_under s path j (counts at j) n t canonical) in
      ap (λ locked. slips_of_events (cond locked (events_without_stores s made x) (events_with_stores Slipping s counts at made x))) stores
      ∙ map-append slip_of (leads ++ arrivals) reads ∙ ap (λ l. l ++ slips_of_events reads) (map-append slip_of leads arrivals)
      ∙ append_assoc (slips_of_events leads) (slips_of_events arrivals) (slips_of_events reads)
      ∙ ap (λ l. l ++ (slips_of_events arrivals ++ slips_of_events reads)) begins_told
      ∙ ap (λ l. beginning_slips s plan ms n t ++ (l ++ slips_of_events reads)) arrived
      ∙ ap (λ l. beginning_slips s plan ms n t ++ (arrivals_slips s path plan ms n t ++ l)) read

  locked_told : eqb s.copies 0 ≡ true → slips_of_events (events_in Slipping (s ∷ below) counts at x) ≡ locked_slot_slips s plan ms n t
  unfolding events_in
  locked_told locked =
      ap (λ locked. slips_of_events (cond locked (events_without_stores s made x) (events_with_stores Slipping s counts at made x))) locked
      ∙ told_flat _ (locked_read_slips s plan ms n t) 0 s.tribs
      (λ j l h. told_if (reads_from j false (s.role t)) _ _ (λ reads. child_slips j (n * s.low + reads_below s j false t) (omega (arith, h))))

  node_told : (sender_of (s ∷ below) path first).slips plan x ≡ slips_of_events (events_in Slipping (s ∷ below) counts at x)
  node_told = elim (cases_Bool (eqb s.copies 0)) [
    | inl locked ↦ ap (λ (m : Meaning). m.slips plan x) (node-locked s below path first locked) ∙ sym (locked_told locked)
    | inr stores ↦ ap (λ (m : Meaning). m.slips plan x) (node-stores s below path first stores) ∙ sym (stores_told stores)
  ]

-- ---- the whole chain

pub chain_slips : (shapes : List FrameShape) (counts : Counts) (scheduled : List ℕ → ℕ) (path : Path) (steps : List ℕ) (first x : ℕ) → AreFrames shapes → IsAt shapes path steps
    → (sender_of shapes path first).slips (plan_with Slipping scheduled counts) x ≡ slips_of_events (events_in Slipping shapes counts steps x)
unfolding sender_of events_in
chain_slips [] counts scheduled path steps first x are placed = refl
chain_slips (s ∷ below) counts scheduled path steps first x are placed =
    subst (λ st. (sender_of (s ∷ below) path first).slips (plan_with Slipping scheduled counts) x ≡ slips_of_events (events_in Slipping (s ∷ below) counts st x)) placed.0
    (node_told s below counts scheduled path first x are (placed.1 ∙ ap path_of (sym placed.0))
    (λ j k known. chain_slips below counts scheduled (child_path path j) (child (steps_of path) j) (first + j * width below) k are.2
    (subst (λ st. IsAt below (child_path path j) (child st j)) (sym placed.0) (child_at s below path steps j placed))))

-- so are those of a run
pub run_slips : (shapes : List FrameShape) (counts : Counts) (scheduled : List ℕ → ℕ) (bits : ℕ) → AreFrames shapes → IsAt shapes top []
    → slips_over (sender_of shapes top 0) (plan_with Slipping scheduled counts) 0 bits ≡ slips_of_events (events_below Slipping shapes counts bits)
unfolding events_below
run_slips shapes counts scheduled bits are at =
    sym (told_flat (events_in Slipping shapes counts []) ((sender_of shapes top 0).slips (plan_with Slipping scheduled counts)) 0 bits (λ x l h. sym (chain_slips shapes counts scheduled top [] 0 x are at)))

-- in so many frames, by a schedule for lines whose stores slip
pub frames_slips : (shapes : List FrameShape) (schedule : Contents) (takes : Bool) (m : Meaning) (frames len : ℕ) → AreFrames shapes → IsAt shapes top [] → m ≡ sender_of shapes top 0 → takes ≡ true → top_len shapes ≡ len
    → told_slips shapes (counts_in schedule.rows) frames ≡ slips_over m (plan_in schedule takes) 0 (frames * len)
frames_slips shapes schedule takes m frames len are at same slips whole =
    sym (ap (λ n. slips_over m (plan_in schedule takes) 0 (frames * n)) (sym whole)
    ∙ ap (λ takes. slips_over m (plan_in schedule takes) 0 (frames * top_len shapes)) slips
    ∙ ap (λ m. slips_over m (plan_in schedule true) 0 (frames * top_len shapes)) same
    ∙ run_slips shapes (counts_in schedule.rows) (frame_count schedule.rows) (frames * top_len shapes) are at)
