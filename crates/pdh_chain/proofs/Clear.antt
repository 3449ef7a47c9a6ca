-- Nothing stands in the way of a chain's line that is within the tolerance, where its nodes have the frames that they begin and its
-- leaves the bits that they give; and a line that the first event of a store ends brings no slip.
use Rattle.std.proofs.Common.{◌≡◌, ℕ, zero, suc, ◌+◌, ◌/◌, ◌%◌, ◌<◌, ◌≤◌, Bool, true, false, cond, eqb, List, [], ◌∷◌, ◌++◌, map, refl, ap, ◌∙◌, arith, inl, inr, Option, Some, None, slice_get}
use Rattle.std.specs.Prelude.{flat_map}
use Rattle.std.specs.List.{range_with_len}
use Rattle.std.proofs.lemmas.Bool.{cases_Bool}
use Rattle.pdh_shape.specs.declared.place.Path.{Path}
use Rattle.pdh_shape.specs.Frame.{FrameShape}
use Rattle.pdh_shape.specs.Tributary.{reads_from}
use Rattle.pdh_shape.specs.OwnNumbers.{lead}
use Rattle.pdh_edge.specs.Ports.{Inputs}
use Rattle.pdh_line.specs.Events.{Event}
use Rattle.pdh_line.specs.Nodes.{Counts}
use Rattle.pdh_line.specs.Paths.{top}
use Rattle.pdh_line.specs.Sending.{arrives_at, came_before}
use Rattle.pdh_line.specs.Sending.Mode.{Plain}
use Rattle.pdh_clock.specs.Contents.{Contents, counts as counts_in, frame_count}
use Rattle.pdh_nesting.specs.Chains.{width}
use Rattle.pdh_nesting.specs.Sending.{given_below, AllScheduled}
use Rattle.pdh_nesting.specs.Events.{events_in}
use Rattle.pdh_nesting.proofs.NoEvents.{no_events}
use Rattle.pdh_slips.specs.declared.slip.Slip.{Slip}
use Rattle.pdh_tx.specs.declared.tx.TxStop.{TxStop}
use Rattle.pdh_tx.specs.declared.tx.TxStop.TheVariants.{Overflow, Underflow, NoFrame, Failed, Ended, LogFailed}
use Rattle.pdh_tx.specs.Meaning.{Plan, Meaning, plan_of}
use Rattle.pdh_tx.specs.Node.{slips_below, lead_slips, leads_slips, beginning_slips, arrival_slips, arrivals_slips, read_slips, slot_slips}
use Rattle.pdh_tx.specs.Locked.{locked_read_slips, locked_slot_slips}
use Rattle.pdh_chain.specs.Trees.{sender_of, senders_below}
use Rattle.pdh_chain.specs.Muxes.{plan_with, obstacle_at, IsTolerated}
use Rattle.pdh_chain.specs.Calls.{IsScheduledWithin, HaveEnough, GoesClear}
use Rattle.pdh_chain.proofs.Senders.{senders, node-locked, node-stores, given_is}
use Rattle.pdh_chain.proofs.Stops.{Tells}
use Rattle.pdh_chain.proofs.SenderStops.{Other, chain_tells, given_below-grows}
use Rattle.pdh_chain.proofs.Scheduled.{none_lacks, scheduled-fewer}
use Rattle.pdh_chain.proofs.Tolerated.{at_top, none_first}
use Rattle.pdh_chain.proofs.TreeLeaves.{tributary}

-- ---- nothing stands in the way

module _ (shapes : List FrameShape) (counts : Counts) (scheduled : List ℕ → ℕ) (size : ℕ → ℕ) (bits to : ℕ) (is : IsTolerated shapes counts bits) (all : AllScheduled shapes counts scheduled [] bits) (upto : to ≤ bits)
    (long : (k : ℕ) → k < width shapes → given_below shapes counts [] to k ≤ size k) where
  -- no other reason to stop than an event
  no_other : (x : ℕ) → x < to → (stop : TxStop) → Other shapes counts scheduled size [] 0 (suc x) stop → ⊥
  no_other x less (Ended leaf) why =
      let k : ℕ = why.0 in
      let same : size leaf ≡ size k = ap size (let e : leaf ≡ k = omega (arith, why.1) in e) in
      omega (arith, same, why.3, long k why.2, given_below-grows shapes counts [] (suc x) to k is.frames less)
  no_other x less (NoFrame node) why = none_lacks shapes counts scheduled [] (suc x) why.0 (scheduled-fewer shapes counts scheduled [] (suc x) bits is.frames (omega (arith, less, upto)) all) why.2
  no_other x less (Overflow place) why = why
  no_other x less (Underflow place) why = why
  no_other x less Failed why = why
  no_other x less LogFailed why = why

  none_stands : (x : ℕ) → x < to → (o : Option TxStop) (es : List Event) → es ≡ [] → Tells (Other shapes counts scheduled size [] 0 (suc x)) o es → o ≡ None
  none_stands x less None es none tells = refl
  none_stands x less (Some stop) es none tells = absurd (let P : ⊥ = elim tells [ inl first ↦ none_first es stop none first | inr other ↦ no_other x less stop other ] in P)

  clear_within : (x : ℕ) → x < to → obstacle_at Plain shapes counts scheduled size x ≡ None
  clear_within x less =
      none_stands x less (obstacle_at Plain shapes counts scheduled size x) (events_in Plain shapes counts [] x) (no_events shapes counts [] bits x is.frames is.even is.within (omega (arith, less, upto)))
      (chain_tells shapes counts scheduled size top [] 0 x is.frames (at_top shapes is.levels))

-- ---- no bit brings a slip

none_flat : {X : Type 0} (f : ℕ → List X) (a n : ℕ) → ((j : ℕ) → f j ≡ []) → flat_map f (range_with_len a n) ≡ []
none_flat f a zero none = refl
none_flat f a (suc n) none = ap (λ l. l ++ flat_map f (range_with_len (a + 1) n)) (none a) ∙ none_flat f (a + 1) n none

none_if : {X : Type 0} (test : Bool) (xs : List X) → xs ≡ [] → cond test xs [] ≡ []
none_if true xs none = none
none_if false xs none = refl

-- nor does a bit of a tributary, where there is one
none_below : (f : ℕ → Meaning) (a n j k : ℕ) (plan : Plan) → ((i : ℕ) → (f i).slips plan k ≡ []) → slips_below (slice_get (map f (range_with_len a n)) j) plan k ≡ []
none_below f a zero j k plan none = refl
none_below f a (suc n) zero k plan none = none a
none_below f a (suc n) (suc j) k plan none = none_below f (a + 1) n j k plan none

module _ (counts : Counts) (scheduled : List ℕ → ℕ) (s : FrameShape) (path : Path) (ms : List Meaning) (none : (j k : ℕ) → slips_below (slice_get ms j) (plan_with Plain scheduled counts) k ≡ []) where
  abbrev plan : Plan
  plan = plan_with Plain scheduled counts

  no_locked : (n t : ℕ) → locked_slot_slips s plan ms n t ≡ []
  no_locked n t = none_flat (locked_read_slips s plan ms n t) 0 s.tribs (λ j. none_if (reads_from j false (s.role t)) _ (none j _))

  begins_none : (n t : ℕ) → beginning_slips s plan ms n t ≡ []
  begins_none n t =
      none_if (eqb t 0) _ (none_if (eqb n 0) (leads_slips s plan ms) (none_flat (lead_slips plan ms) 0 s.tribs (λ j. none_flat (slips_below (slice_get ms j) plan) 0 lead (none j))))

  arrives_none : (n t : ℕ) → arrivals_slips s path plan ms n t ≡ []
  arrives_none n t =
      none_flat (arrival_slips s path plan ms n t) 0 s.tribs
      (λ j. none_if (arrives_at s (plan.counts path j n) t) _ (ap (λ (l : List Slip). l ++ []) (none j (came_before s (plan.counts path j) n t))))

  reads_none : (n t : ℕ) → read_slips s path plan n t ≡ []
  reads_none n t = none_flat _ 0 s.tribs (λ j. refl)

  no_slot : (n t : ℕ) → slot_slips s path plan ms n t ≡ []
  no_slot n t =
      ap (λ l. l ++ (arrivals_slips s path plan ms n t ++ read_slips s path plan n t)) (begins_none n t) ∙ ap (λ l. l ++ read_slips s path plan n t) (arrives_none n t) ∙ reads_none n t

plain_slips : (counts : Counts) (scheduled : List ℕ → ℕ) (shapes : List FrameShape) (path : Path) (first x : ℕ) → (sender_of shapes path first).slips (plan_with Plain scheduled counts) x ≡ []
unfolding sender_of
plain_slips counts scheduled [] path first x = refl
plain_slips counts scheduled (s ∷ below) path first x =
    let plan : Plan = plan_with Plain scheduled counts in
    let ms : List Meaning = senders_below below path first s.tribs in
    let none : (j k : ℕ) → slips_below (slice_get ms j) plan k ≡ [] = λ j k. none_below (tributary senders below path first) 0 s.tribs j k plan (λ i. plain_slips counts scheduled below _ _ k) in
    elim (cases_Bool (eqb s.copies 0)) [
      | inl locked ↦ ap (λ (m : Meaning). m.slips plan x) (node-locked s below path first locked) ∙ no_locked counts scheduled s path ms none (x / s.len) (x % s.len)
      | inr stores ↦ ap (λ (m : Meaning). m.slips plan x) (node-stores s below path first stores) ∙ no_slot counts scheduled s path ms none (x / s.len) (x % s.len)
    ]

-- ---- so its sender may make any of its bits at once

pub goes_clear : (shapes : List FrameShape) (schedule : Contents) (bits : ℕ) → IsScheduledWithin shapes schedule bits → (from to : ℕ) → to ≤ bits → (inputs : Inputs) → HaveEnough shapes (counts_in schedule.rows) from to inputs
    → GoesClear shapes schedule from to inputs
goes_clear shapes schedule bits is from to upto inputs enough =
    let counts : Counts = counts_in schedule.rows in
    let scheduled : List ℕ → ℕ = frame_count schedule.rows in
    let gave : ℕ → ℕ = (sender_of shapes top 0).given (plan_of schedule) from in
    let size : ℕ → ℕ = λ k. gave k + inputs.left k in
    let long : (k : ℕ) → k < width shapes → given_below shapes counts [] to k ≤ size k =
    λ k known.
    let here : gave (0 + k) ≡ gave k = ap gave (omega arith) in
    omega (arith, here, given_is Plain scheduled counts shapes top [] 0 from k (at_top shapes is.tolerated.levels) known, enough k known) in
    record {
      size = size;
      fits = λ k is. refl;
      clear = λ y after below. clear_within shapes counts scheduled size bits to is.tolerated is.scheduled upto long y below;
      no_slip = λ y after below. plain_slips counts scheduled shapes top 0 y;
    }
