-- What a slot carries, and what a read does.
use Rattle.std.proofs.Common.{◌≡◌, ◌⊎◌, inl, inr, ℕ, zero, suc, ◌+◌, ◌<◌, Bool, true, false, not, ◌&&◌, List, [], ◌∷◌, length, map, cond, leb, eqb, refl, sym, ap, ◌∙◌, subst, arith, Option, Some, None, slice_get, eq-eqb, eqb-true}
use Rattle.std.specs.List.{slice_index_or}
use Rattle.std.proofs.lemmas.Bool.{cases_eq, ne_eqb}
use Rattle.pdh_shape.specs.declared.role.Role.{Role}
use Rattle.pdh_shape.specs.declared.role.Role.TheVariants.{Align, Service as ServiceSlot, Control, Just, Info}
use Rattle.pdh_shape.specs.declared.role.Service.{Service}
use Rattle.pdh_shape.specs.declared.place.Path.{Path}
use Rattle.pdh_shape.specs.Frame.{FrameShape, IsFrame}
use Rattle.pdh_shape.specs.Tributary.{reads_from, reads_below, HasTributaries}
use Rattle.pdh_line.specs.Sending.{HasStores, Mode, Source, carriage, came_before, read_before, more_in, slot_bit, input_bit, odd_before}
use Rattle.pdh_line.specs.Sending.Mode.{Plain, Slipping}
use Rattle.pdh_line.specs.Paths.{steps_of}
use Rattle.pdh_line.specs.Edits.{edited}
use Rattle.pdh_line.specs.Events.{underflows}
use Rattle.pdh_slips.specs.declared.slip.Slip.{Slip}
use Rattle.pdh_tx.specs.declared.tx.TxStop.{TxStop}
use Rattle.pdh_tx.specs.declared.tx.TxStop.TheVariants.{Underflow}
use Rattle.pdh_tx.specs.declared.tributary.FrameShare.{FrameShare}
use Rattle.pdh_tx.specs.Meaning.{Meaning, Plan}
use Rattle.pdh_tx.specs.Held.{first_some, some_if, stops, slips, slip_if, Readout, with_read, with_slip}
use Rattle.pdh_tx.specs.Slipping.{carriage_in, slips_under, arrives_full, read_to, arrived_to}
use Rattle.pdh_tx.proofs.Readouts.{IsCount, arrived_out, empty_same, under-by, not-under-by, under-told, next-by, stays-by}
use Rattle.pdh_tx.specs.Node.{set_at, reads, read_slips, place_at, source_of, carried_by, overhead_bit, IsDecided}
use Rattle.pdh_tx.proofs.Firsts.{map_none, map_some}
use Rattle.pdh_tx.proofs.Lists.{some_same, flat_nothing, flat_one}
use Rattle.pdh_tx.proofs.Moving.{set_here, set_other}
use Rattle.pdh_tx.proofs.Storing.{slip_read}

-- ---- what the frame carries of each tributary

-- the decisions, as a list
decided_index : {W : Type 0} (share : W → FrameShare) (f : ℕ → Bool) (ws : List W) (j : ℕ) → ((j : ℕ) (w : W) → slice_get ws j ≡ Some w → (share w).more ≡ f j) → j < length ws
    → (slice_index_or (map share ws) j (record { arriving = 0; more = false })).more ≡ f j
decided_index share f [] j h l = absurd (omega arith)
decided_index share f (w ∷ ws) zero h l = h 0 w refl
decided_index share f (w ∷ ws) (suc j) h l = decided_index share (λ i. f (suc i)) ws j (λ i v e. h (suc i) v e) (omega arith)

module _ {W : Type 0} (share : W → FrameShare) (s : FrameShape) (has : HasTributaries s) (path : Path) (plan : Plan) (n : ℕ) (ws : List W) (long : length ws ≡ s.tribs) (decided : IsDecided share s path plan n ws) where
  abbrev carries : ℕ → Bool
  carries j = (carriage_in s path plan j).more n

  abbrev on : ℕ → Bool
  on j = (slice_index_or (map share ws) j (record { arriving = 0; more = false })).more

  on_is : (j : ℕ) → j < s.tribs → on j ≡ carries j
  on_is j h = decided_index share carries ws j (λ i w e. (decided i w e).more) (omega (arith, long, h))

  -- a slot that carries tributary i reads it alone
  pub carried_some : (t : ℕ) (r : Role) (i : ℕ) → t < s.len → s.role t ≡ r → carried_by (map share ws) r ≡ Some i → (i < s.tribs) × ((j : ℕ) → reads_from j (carries j) r ≡ eqb i j)
  carried_some t (Info k) i within role e = let same : k ≡ i = some_same e in (subst (λ v. v < s.tribs) same (has.info_known t k within role), λ j. ap (λ v. eqb v j) same)
  carried_some t (Just k) i within role e = go (on k) refl e
    where
      go : (b : Bool) → on k ≡ b → cond b (Some k) None ≡ Some i → (i < s.tribs) × ((j : ℕ) → reads_from j (carries j) (Just k) ≡ eqb i j)
      go false is e = absurd (no e)
        where
          no : {X : Type 0} {x : X} → None ≡ Some x → ⊥
          no h = cc
      go true is e =
          let same : k ≡ i = some_same e in
          let known : k < s.tribs = has.just_known t k within role in
          let more : carries k ≡ true = sym (on_is k known) ∙ is in
          (subst (λ v. v < s.tribs) same known, λ j. both j (cases_eq k j) more ∙ ap (λ v. eqb v j) same)
        where
          both : (j : ℕ) → (k ≡ j) ⊎ (k ≡ j → ⊥) → carries k ≡ true → (eqb k j && carries j) ≡ eqb k j
          both j (inl here) more = ap (λ b. eqb k j && b) (ap carries (sym here) ∙ more) ∙ and_true (eqb k j)
            where
              and_true : (b : Bool) → (b && true) ≡ b
              and_true true = refl
              and_true false = refl
          both j (inr other) more = ap (λ b. b && carries j) (ne_eqb k j other) ∙ sym (ne_eqb k j other)
  carried_some t (Align b) i within role e = absurd (cc e)
  carried_some t (ServiceSlot k) i within role e = absurd (cc e)
  carried_some t (Control k copy) i within role e = absurd (cc e)

  -- a slot that carries none reads none
  pub carried_none : (t : ℕ) (r : Role) → t < s.len → s.role t ≡ r → carried_by (map share ws) r ≡ None → (j : ℕ) → reads_from j (carries j) r ≡ false
  carried_none t (Info k) within role e j = absurd (cc e)
  carried_none t (Just k) within role e j = go (on k) refl e
    where
      go : (b : Bool) → on k ≡ b → cond b (Some k) None ≡ None → (eqb k j && carries j) ≡ false
      go true is e = absurd (no e)
        where
          no : {X : Type 0} {x : X} → Some x ≡ None → ⊥
          no h = cc
      go false is e =
          let off : carries k ≡ false = sym (on_is k (has.just_known t k within role)) ∙ is in
          both (cases_eq k j) off
        where
          both : (k ≡ j) ⊎ (k ≡ j → ⊥) → carries k ≡ false → (eqb k j && carries j) ≡ false
          both (inl here) off = ap (λ b. eqb k j && b) (ap carries (sym here) ∙ off) ∙ and_false (eqb k j)
            where
              and_false : (b : Bool) → (b && false) ≡ false
              and_false true = refl
              and_false false = refl
          both (inr other) off = ap (λ b. b && carries j) (ne_eqb k j other)
  carried_none t (Align b) within role e j = refl
  carried_none t (ServiceSlot k) within role e j = refl
  carried_none t (Control k copy) within role e j = refl

  -- the bit of a slot that carries none
  pub overhead_is : (ms : List Meaning) (lists : ℕ → ℕ → Bool) (says : ℕ → Service) (say : Service) (odd : Bool) (t : ℕ) (r : Role) → t < s.len → s.role t ≡ r → carried_by (map share ws) r ≡ None → says n ≡ say
      → odd ≡ odd_before s (source_of path ms (record { plan = plan; lists = lists; says = says })) n
      → overhead_bit s say odd (map share ws) r ≡ slot_bit s (source_of path ms (record { plan = plan; lists = lists; says = says })) n t r
  overhead_is ms lists says say odd t (Align b) within role e said parity = refl
  overhead_is ms lists says say odd t (ServiceSlot k) within role e said parity = ap (λ v. s.service k v odd) (sym said) ∙ ap (s.service k (says n)) parity
  overhead_is ms lists says say odd t (Control k copy) within role e said parity = ap not (on_is k (has.control_known t k copy within role).0)
  overhead_is ms lists says say odd t (Just k) within role e said parity =
      let off : (eqb k k && carries k) ≡ false = carried_none t (Just k) within role e k in
      let none : carries k ≡ false = ap (λ b. b && carries k) (sym (eq-eqb k k refl)) ∙ off in
      sym (ap (λ b. cond b (input_bit s (source_of path ms (record { plan = plan; lists = lists; says = says })) n t k) true) none)
  overhead_is ms lists says say odd t (Info k) within role e said parity = absurd (cc e)

-- the bit of a slot that reads tributary i
pub read_is : (s : FrameShape) (source : Source) (n t i : ℕ) (r : Role) → reads_from i (more_in s source i n) r ≡ true → slot_bit s source n t r ≡ input_bit s source n t i
read_is s source n t i (Info k) h = ap (λ v. input_bit s source n t v) (eqb-true k i h)
read_is s source n t i (Just k) h = go (eqb k i) refl h
  where
    go : (b : Bool) → eqb k i ≡ b → (b && more_in s source i n) ≡ true → slot_bit s source n t (Just k) ≡ input_bit s source n t i
    go false e h = absurd (cc h)
    go true e h =
        let same : k ≡ i = eqb-true k i e in
        ap (λ v. slot_bit s source n t (Just v)) same ∙ ap (λ b. cond b (input_bit s source n t i) true) h
read_is s source n t i (Align b) h = absurd (cc h)
read_is s source n t i (ServiceSlot k) h = absurd (cc h)
read_is s source n t i (Control k copy) h = absurd (cc h)

-- ---- reads, by which tributary a slot reads

under_none : (s : FrameShape) (j : ℕ) (counts : ℕ → ℕ) (mode : Mode) (n t : ℕ) → reads_from j ((carriage mode s j counts).more n) (s.role t) ≡ false → stops mode (underflows s j counts n t) ≡ false
under_none s j counts Plain n t none = ap (λ b. b && leb (came_before s counts n (suc t)) (read_before s j counts n t)) none
under_none s j counts Slipping n t none = refl

-- after the slot's arrivals the store holds some bits or none
under_held : (s : FrameShape) (j : ℕ) (counts : ℕ → ℕ) (mode : Mode) (n t held : ℕ) → reads_from j ((carriage mode s j counts).more n) (s.role t) ≡ true → IsCount s j counts (arrived_out s j counts mode n t) held (came_before s counts n (suc t))
    → stops mode (underflows s j counts n t) ≡ stops mode (eqb held 0)
under_held s j counts Plain n t held reads count =
    ap (λ b. b && leb (came_before s counts n (suc t)) (read_before s j counts n t)) reads ∙ sym (empty_same (read_before s j counts n t) (came_before s counts n (suc t)) held count)
under_held s j counts Slipping n t held reads count = refl

module _ (s : FrameShape) (frame : IsFrame s) (stores : HasStores s) (path : Path) (plan : Plan) (n t : ℕ) where
  abbrev reads_it : ℕ → Bool
  reads_it j = reads_from j ((carriage_in s path plan j).more n) (s.role t)

  abbrev met_by : ℕ → Option TxStop
  met_by j = some_if (stops plan.mode (underflows s j (plan.counts path j) n t)) (Underflow (place_at path j n t))

  abbrev told_by : ℕ → List Slip
  told_by j = slip_if (slips_under s path plan n t j) false (place_at path j n t)

  -- ---- it reads none

  module _ (none : (j : ℕ) → reads_it j ≡ false) where
    pub read_same : (j : ℕ) → arrived_to s path plan n t j ≡ read_to s path plan n (suc t) j
    read_same j = stays-by s j (plan.counts path j) plan.mode n t stores (none j)

    pub no_read : first_some (reads s path plan n t) ≡ None
    no_read = map_none met_by 0 s.tribs (λ j l h. ap (λ b. some_if b (Underflow (place_at path j n t))) (under_none s j (plan.counts path j) plan.mode n t (none j)))

    pub none_told : read_slips s path plan n t ≡ []
    none_told = flat_nothing told_by 0 s.tribs (λ j l h. ap (λ b. slip_if b false (place_at path j n t)) (under-told s j (plan.counts path j) plan.mode (steps_of path) n t stores ∙ not-under-by s j (plan.counts path j) plan.mode n t (none j)))

  -- ---- it reads tributary i, whose store holds so many bits

  module _ (i held : ℕ) (inside : i < s.tribs) (one : (j : ℕ) → reads_it j ≡ eqb i j) (count : IsCount s i (plan.counts path i) (arrived_to s path plan n t i) held (came_before s (plan.counts path i) n (suc t))) where
    here : reads_it i ≡ true
    here = one i ∙ eq-eqb i i refl

    off : (j : ℕ) → (j ≡ i → ⊥) → reads_it j ≡ false
    off j other = one j ∙ ne_eqb i j (λ h. other (sym h))

    abbrev pub next_out : Readout
    next_out = with_read 1 (with_slip (slips plan.mode (eqb held 0)) false (arrived_to s path plan n t i))

    next_is : next_out ≡ read_to s path plan n (suc t) i
    next_is = next-by s i (plan.counts path i) plan.mode n t held frame stores here count

    pub bit_is : (line : ℕ → Bool) → edited next_out.edits line (arrived_to s path plan n t i).read
        ≡ edited ((carriage_in s path plan i).edits n (suc t)) line ((carriage_in s path plan i).sent n + reads_below s i ((carriage_in s path plan i).more n) t)
    bit_is line =
        ap (λ (out : Readout). edited out.edits line (arrived_to s path plan n t i).read) next_is
        ∙ ap (edited ((carriage_in s path plan i).edits n (suc t)) line) (slip_read (arrives_full s path plan n t i) true (read_to s path plan n t i))

    pub read_set : (j : ℕ) → set_at (arrived_to s path plan n t) i next_out j ≡ read_to s path plan n (suc t) j
    read_set j = elim (cases_eq j i) [
      | inl same ↦
          let P : ℕ → Type 0 = λ v. set_at (arrived_to s path plan n t) i next_out v ≡ read_to s path plan n (suc t) v in
          subst P (sym same) (set_here (arrived_to s path plan n t) i next_out ∙ next_is)
      | inr other ↦ set_other (arrived_to s path plan n t) i next_out j other ∙ stays-by s j (plan.counts path j) plan.mode n t stores (off j other)
    ]

    pub read_free : stops plan.mode (eqb held 0) ≡ false → first_some (reads s path plan n t) ≡ None
    read_free some = map_none met_by 0 s.tribs (λ j l h. elim (cases_eq j i) [
      | inl same ↦
          ap met_by same ∙ ap (λ b. some_if b (Underflow (place_at path i n t))) (under_held s i (plan.counts path i) plan.mode n t held here count ∙ some)
      | inr other ↦ ap (λ b. some_if b (Underflow (place_at path j n t))) (under_none s j (plan.counts path j) plan.mode n t (off j other))
    ])

    pub read_stop : stops plan.mode (eqb held 0) ≡ true → first_some (reads s path plan n t) ≡ Some (Underflow (place_at path i n t))
    read_stop none = map_some met_by (Underflow (place_at path i n t)) 0 s.tribs i (omega arith) (omega (arith, inside))
        (λ j l h. ap (λ b. some_if b (Underflow (place_at path j n t))) (under_none s j (plan.counts path j) plan.mode n t (off j (λ z. absurd (omega (arith, h, z))))))
        (ap (λ b. some_if b (Underflow (place_at path i n t))) (under_held s i (plan.counts path i) plan.mode n t held here count ∙ none))

    pub one_told : read_slips s path plan n t ≡ slip_if (slips plan.mode (eqb held 0)) false (place_at path i n t)
    one_told =
        flat_one told_by 0 s.tribs i (omega arith) (omega (arith, inside)) (λ j other. ap (λ b. slip_if b false (place_at path j n t)) (under-told s j (plan.counts path j) plan.mode (steps_of path) n t stores ∙ not-under-by s j (plan.counts path j) plan.mode n t (off j other)))
        ∙ ap (λ b. slip_if b false (place_at path i n t)) (under-told s i (plan.counts path i) plan.mode (steps_of path) n t stores ∙ sym (under-by s i (plan.counts path i) plan.mode n t held frame stores here count))
