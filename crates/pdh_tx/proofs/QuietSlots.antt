-- Slots that surely meet nothing, by the stores of a multiplexer, by its children, and by its frames' being scheduled.
use Rattle.std.proofs.Common.{◌≡◌, ℕ, suc, ◌+◌, ◌-◌, ◌*◌, ◌/◌, ◌%◌, ◌<◌, ◌≤◌, min, Bool, true, false, ◌&&◌, List, [], ◌∷◌, ◌++◌, length, cond, eqb, refl, sym, ap, ◌∙◌, subst, inl, inr, arith, leb, Option, Some, None, slice_get}
use Rattle.std.specs.List.{range_with_len}
use Rattle.std.specs.Option.{option_map_or}
use Rattle.std.proofs.lemmas.Bool.{cases_Bool, cases_lt, eqb-true, ltb-true}
use Rattle.std.proofs.lemmas.Nat.{div-add-mod', mod_below}
use Rattle.std.proofs.lemmas.List.FromFn.{length-range_with_len}
use Rattle.std.proofs.lemmas.List.Sums.{count_by-le-length}
use Rattle.std.proofs.Math.Nat.{mul-le-mul_right, add-mul}
use Rattle.pdh_edge.specs.Ports.{Inputs}
use Rattle.pdh_shape.specs.declared.place.Level.{Level}
use Rattle.pdh_shape.specs.declared.place.Path.{Path}
use Rattle.pdh_shape.specs.Frame.{FrameShape, IsFrame}
use Rattle.pdh_shape.specs.Tributary.{reads_from, reads_below}
use Rattle.pdh_shape.specs.OwnNumbers.{lead, threshold}
use Rattle.pdh_line.specs.Paths.{steps_of}
use Rattle.pdh_line.specs.Progress.{arrived, came_by, by_stores}
use Rattle.pdh_line.specs.Progress.Stores.{Elastic, Locked}
use Rattle.pdh_line.specs.Edits.{Edit}
use Rattle.pdh_line.specs.Sending.{HasStores, Mode, Carriage, arrives_at, arrived_in, came_before, taken}
use Rattle.pdh_line.specs.Sending.Mode.{Plain, Slipping}
use Rattle.pdh_line.specs.Events.{Kind, overflows, underflows, overflow_at, underflow_at, one_if}
use Rattle.pdh_line.proofs.FrameBounds.{lt_of_mul}
use Rattle.pdh_line.proofs.Ranges.{and_true}
use Rattle.pdh_line.proofs.SameLines.{taken-grows}
use Rattle.pdh_line.proofs.SendingLaws.{came_before-first, came_before-start, came_before-next, came_before_grows, arrived-grows}
use Rattle.pdh_levels.specs.Levels.{level_stores, stores_at, low_at, len_at}
use Rattle.pdh_clock.specs.Begun.{taken as bits_taken}
use Rattle.pdh_tx.specs.declared.tx.Tx.{Ghosts}
use Rattle.pdh_tx.specs.declared.tx.TxStop.{TxStop}
use Rattle.pdh_tx.specs.declared.tx.TxStop.TheVariants.{Overflow, Underflow}
use Rattle.pdh_tx.specs.Meaning.{Plan, Meaning, IsNodeOf}
use Rattle.pdh_slips.specs.declared.slip.Slip.{Slip}
use Rattle.pdh_tx.specs.Making.{IsUneventful}
use Rattle.pdh_tx.specs.Held.{first_some, some_if, stops, slips, slip_if, Readout, unslipped, gone_with, put_with}
use Rattle.pdh_tx.specs.Slipping.{has_any, carriage_in, read_to, slips_over, slips_under}
use Rattle.pdh_tx.specs.Quiet.{HoldsFrom, HasNoEvent}
use Rattle.pdh_tx.specs.Tributary.{placed_in, held_in, meaning_in}
use Rattle.pdh_tx.specs.Node.{node_frame, place_at, obstacle_of, lead_at, leads, beginning, arrival_at, arrivals, reads, steps, taken_to, slips_below, lead_slips, leads_slips, beginning_slips, arrival_slips, arrivals_slips, read_slips, slot_slips, IsDisjoint, AllFit}
use Rattle.pdh_tx.specs.laws.Stepping.{taken_is, taken_later, came_follows, following}
use Rattle.pdh_tx.proofs.Firsts.{first_after, flat_none, map_none}
use Rattle.pdh_tx.proofs.FrameStarts.{steps_inside, steps_later, steps_first, elastic_level, all_stores}
use Rattle.pdh_tx.proofs.Lists.{get_at, flat_nothing}
use Rattle.pdh_tx.proofs.Moving.{fit_one}
use Rattle.pdh_tx.proofs.PassingAll.{came_grows}
use Rattle.pdh_tx.proofs.QuietStores.{start_holds}
use Rattle.pdh_tx.proofs.Readouts.{IsCount, none-by}
use Rattle.pdh_tx.proofs.SlipSteps.{gone-more, put-more}

-- ---- numbers

-- whole frames that hold so many bits
pub covers : (x len : ℕ) → 0 < len → x ≤ (x / len + min 1 (x % len)) * len
covers x len some =
    let parts : x / len * len + x % len ≡ x = div-add-mod' x len in
    let below : x % len < len = mod_below x len some in
    elim (cases_lt 0 (x % len)) [
      | inl rest ↦
          let one : min 1 (x % len) ≡ 1 = omega (arith, rest) in
          subst (λ m. x ≤ (x / len + m) * len) (sym one) (omega (arith, add-mul (x / len) 1 len, parts, below))
      | inr none ↦
          let no_more : min 1 (x % len) ≡ 0 = omega (arith, none) in
          subst (λ m. x ≤ (x / len + m) * len) (sym no_more) (omega (arith, add-mul (x / len) 0 len, parts, none))
    ]

-- the numbers of the next bits, so many from a slot on, by a frame's slots
pub record AreNumbers (len frame slot count made end end_frame : ℕ) : Type 0 where
  pub first : frame * len + slot ≡ made
  pub all : end ≡ made + count
  pub last : end ≤ end_frame * len

pub next_numbers : (len frame slot count wide f t end_frame : ℕ) → 0 < len → wide ≡ len → f ≡ frame → t ≡ slot → end_frame ≡ (f * wide + t + count) / wide + min 1 ((f * wide + t + count) % wide)
    → AreNumbers len frame slot count (f * wide + t) (f * wide + t + count) end_frame
next_numbers len frame slot count wide f t end_frame some same whole part frames =
    let end : ℕ = f * wide + t + count in
    let above : 0 < wide = omega (arith, some, same) in
    let place : f * wide ≡ frame * len = ap (λ n. n * wide) whole ∙ ap (λ n. frame * n) same in
    record {
      first = omega (arith, place, part);
      all = refl;
      last = subst (λ n. end ≤ n * len) (sym frames) (subst (λ n. end ≤ (end / wide + min 1 (end % wide)) * n) same (covers end wide above));
    }

pub zero_of : (n len : ℕ) → 0 < len → n * len ≡ 0 → n ≡ 0
zero_of n len some none = elim (cases_lt 0 n) [
  | inl more ↦ absurd (omega (arith, mul-le-mul_right len more, none, some))
  | inr few ↦ omega (arith, few)
]

-- a line that has bits stands behind its first slot
pub some_made : (n t len made : ℕ) → n * len + t ≡ made → (made ≡ 0 → ⊥) → 0 < n + t
some_made n t len made is some = elim (cases_lt 0 (n + t)) [
  | inl more ↦ more
  | inr none ↦
      let first : n ≡ 0 = omega (arith, none) in
      let whole : n * len ≡ 0 = ap (λ m. m * len) first ∙ omega arith in
      absurd (some (omega (arith, is, whole, none)))
]

-- no more bits are read in a frame's first slots than these are
pub reads_few : (s : FrameShape) (j : ℕ) (more : Bool) (t : ℕ) → reads_below s j more t ≤ t
reads_few s j more t = omega (arith, count_by-le-length (λ slot. reads_from j more (s.role slot)) (range_with_len 0 t), length-range_with_len 0 t)

-- ---- the level of a multiplexer

module _ (s : FrameShape) (path : Path) (levels : List Level) (stores : HasStores s) (node : IsNodeOf levels (node_frame s path)) where
  pub node_stores : stores_at levels (steps_of path) ≡ s.tribs
  node_stores = ap (λ o. option_map_or level_stores o 0) node.at ∙ all_stores s node.level stores node.numbers

  pub node_low : low_at levels (steps_of path) ≡ s.low
  node_low = ap (λ o. option_map_or (λ (level : Level). level.low) o 0) node.at ∙ node.numbers.low

  pub node_len : len_at levels (steps_of path) ≡ s.len
  node_len = ap (λ o. option_map_or (λ (level : Level). level.len) o 0) node.at ∙ node.numbers.len

  -- what it has taken
  pub node_taken : (j : ℕ) (counts : ℕ → ℕ) (x : ℕ) → bits_taken node.level j counts x ≡ taken s counts x
  node_taken j counts x =
      let level : Level = node.level in
      ap (λ b. by_stores (cond b (Locked (λ j t. 0)) Elastic) (cond (eqb x 0) 0 (came_by level.len counts (x / level.len) (x % level.len))) (λ (reads : ℕ → ℕ → ℕ). x / level.len * level.low + reads j (x % level.len))) (elastic_level s level stores node.numbers)
      ∙ ap (λ len. cond (eqb x 0) 0 (came_by len counts (x / len) (x % len))) node.numbers.len

  -- what it takes with its next bits
  pub node_takes : (plan : Plan) (j n t made end count : ℕ) → n * s.len + t ≡ made → t < s.len → count + bits_taken node.level j (plan.counts path j) made ≡ bits_taken node.level j (plan.counts path j) end
      → taken_to s path plan n t j + count ≡ taken s (plan.counts path j) end
  node_takes plan j n t made end count place inside took =
      omega (arith, took, node_taken j (plan.counts path j) made, node_taken j (plan.counts path j) end, taken_is s n t made place inside path plan j)

-- ---- the fill of a store at the start of the frame of the next bit

module _ (s : FrameShape) (path : Path) (plan : Plan) (n t j : ℕ) (frame : IsFrame s) (stores : HasStores s) where
  abbrev counts : ℕ → ℕ
  counts = plan.counts path j

  -- so many bits stand in the store
  abbrev pub HoldsNow : ℕ → Type 0
  HoldsNow fill = IsCount s j counts (read_to s path plan n t j) fill (taken_to s path plan n t j)

  -- before the first bit it's the lead
  pub first_fill : n ≡ 0 → t ≡ 0 → HoldsFrom plan.mode s j counts n t lead
  first_fill first start =
      let P : Readout → Type 0 = λ out. IsCount s j counts out lead (came_before s counts 0 0) in
      let none : P (unslipped 0) = omega (arith, came_before-first s counts frame) in
      subst (λ m. HoldsFrom plan.mode s j counts m t lead) (sym first) (subst (λ u. HoldsFrom plan.mode s j counts 0 u lead) (sym start)
      (start_holds s j counts plan.mode 0 lead frame stores (subst P (sym (none-by s j counts plan.mode stores)) none)))

  -- at another frame's start it's what the store holds
  pub frame_fill : (fill : ℕ) → t ≡ 0 → 0 < n + t → HoldsNow fill → HoldsFrom plan.mode s j counts n t fill
  frame_fill fill start some held =
      let P : ℕ → Type 0 = λ u. IsCount s j counts (read_to s path plan n u j) fill (came_before s counts n u) in
      let here : P t = held ∙ ap (put_with (read_to s path plan n t j).edits) (taken_later s path plan n t j some) in
      subst (λ u. HoldsFrom plan.mode s j counts n u fill) (sym start) (start_holds s j counts plan.mode n fill frame stores (subst P start here))

  -- inside a frame it's what the store would hold, had the frame brought and carried nothing
  pub slot_fill : (fill carried arrived : ℕ) → 0 < t → HoldsNow fill → carried ≡ reads_below s j ((carriage_in s path plan j).more n) t → arrived ≡ arrived_in s (counts n) t
      → 0 < fill + carried - arrived → leb threshold (fill + carried - arrived) ≡ (carriage_in s path plan j).more n → HoldsFrom plan.mode s j counts n t (fill + carried - arrived)
  slot_fill fill carried arrives inside held reads comes some more =
      let c : Carriage = carriage_in s path plan j in
      let E : List Edit = c.edits n t in
      let came : put_with E (taken_to s path plan n t j) ≡ put_with E (lead + arrived counts n) + arrived_in s (counts n) t =
      ap (put_with E) (taken_later s path plan n t j (omega (arith, inside))) ∙ put-more E (lead + arrived counts n) (arrived_in s (counts n) t) in
      let gone : gone_with E (c.sent n + reads_below s j (c.more n) t) ≡ gone_with E (c.sent n) + reads_below s j (c.more n) t = gone-more E (c.sent n) (reads_below s j (c.more n) t) in
      record { held = omega (arith, came, gone, held, reads, comes, some); more = more }

-- ---- no slot meets anything

-- what has been taken and the lead that is still to come are what will have come
pub taken_ahead : (s : FrameShape) (path : Path) (plan : Plan) (n t j : ℕ) → IsFrame s → taken_to s path plan n t j + cond (eqb n 0 && eqb t 0) lead 0 ≡ came_before s (plan.counts path j) n t
taken_ahead s path plan n t j frame = go (eqb n 0 && eqb t 0) refl
  where
    go : (b : Bool) → (eqb n 0 && eqb t 0) ≡ b → cond b 0 (came_before s (plan.counts path j) n t) + cond b lead 0 ≡ came_before s (plan.counts path j) n t
    go true e =
        let both = and_true (eqb n 0) (eqb t 0) e in
        let first : came_before s (plan.counts path j) n t ≡ lead =
        ap (λ m. came_before s (plan.counts path j) m t) (eqb-true n 0 both.0) ∙ ap (λ u. came_before s (plan.counts path j) 0 u) (eqb-true t 0 both.1) ∙ came_before-first s (plan.counts path j) frame in
        omega (arith, first)
    go false e = omega arith

-- no fewer bits have come by a later slot
came_later : (s : FrameShape) (counts : ℕ → ℕ) (n t m u : ℕ) → IsFrame s → t ≤ s.len → n ≤ m → n * s.len + t ≤ m * s.len + u → came_before s counts n t ≤ came_before s counts m u
came_later s counts n t m u frame within later from = elim (cases_lt n m) [
  | inl before ↦
      let end : came_before s counts n t ≤ came_before s counts n s.len = came_grows s counts n t s.len frame within in
      let next : came_before s counts n s.len ≡ came_before s counts (suc n) 0 = came_before-next s counts n frame in
      let start : came_before s counts (suc n) 0 ≡ lead + arrived counts (suc n) = came_before-start s counts (suc n) frame in
      omega (arith, end, next, start, arrived-grows counts (suc n) m before)
  | inr same ↦
      let e : n ≡ m = omega (arith, later, same) in
      let place : n * s.len ≡ m * s.len = ap (λ x. x * s.len) e in
      subst (λ v. came_before s counts n t ≤ came_before s counts v u) e (came_grows s counts n t u frame (omega (arith, from, place)))
]

-- what the store and the child of tributary j tell of the bits from slot t of frame n up to so many
pub record MeetsNone (s : FrameShape) (path : Path) (plan : Plan) (j : ℕ) (m : Meaning) (n t end : ℕ) (inputs : Inputs) : Type 0 where
  pub events : (k u : ℕ) → u < s.len → n * s.len + t ≤ k * s.len + u → k * s.len + u < end → HasNoEvent s path plan j k u
  pub free : IsUneventful m plan (taken_to s path plan n t j) (taken s (plan.counts path j) end) inputs

one_off : {X : Type 0} (b : Bool) (x : X) → one_if b x ≡ [] → b ≡ false
one_off true x h = absurd (cc h)
one_off false x h = refl

module _ (s : FrameShape) (path : List ℕ) (j : ℕ) (counts : ℕ → ℕ) (m u : ℕ) where
  -- a slot without an event doesn't end a line and brings no slip
  not_over : (mode : Mode) → overflow_at mode s path j counts m u ≡ [] → (stops mode (overflows s j counts m u) ≡ false) × (slips mode (has_any (overflow_at Slipping s path j counts m u)) ≡ false)
  not_over Plain none = (one_off (overflows s j counts m u) (record { kind = Kind.Overflow; path = path; trib = j; frame = m; slot = u }) none, refl)
  not_over Slipping none = (refl, ap has_any none)

  not_under : (mode : Mode) → underflow_at mode s path j counts m u ≡ [] → (stops mode (underflows s j counts m u) ≡ false) × (slips mode (has_any (underflow_at Slipping s path j counts m u)) ≡ false)
  not_under Plain none = (one_off (underflows s j counts m u) (record { kind = Kind.Underflow; path = path; trib = j; frame = m; slot = u }) none, refl)
  not_under Slipping none = (refl, ap has_any none)

module _ {C : Type 0} (tx : Ghosts C) (s : FrameShape) (frame : IsFrame s) (path : Path) (plan : Plan) (ms : List Meaning) (long : length ms ≡ s.tribs) (dis : IsDisjoint ms)
    (n t end : ℕ) (inside : t < s.len) (scheduled : end ≤ plan.frames path * s.len) (a : Inputs) (quiet : (j : ℕ) (m : Meaning) → slice_get ms j ≡ Some m → MeetsNone s path plan j m n t end a)
    (m u : ℕ) (slot : u < s.len) (from : n * s.len + t ≤ m * s.len + u) (to : m * s.len + u < end) where
  later : n ≤ m
  later = elim (cases_lt m n) [
    | inl less ↦ (let up : suc m * s.len ≤ n * s.len = mul-le-mul_right s.len less in absurd (omega (arith, up, from, slot)))
    | inr fine ↦ fine
  ]

  before : m < plan.frames path
  before = lt_of_mul m (plan.frames path) s.len (omega (arith, to, scheduled))

  events : (j : ℕ) → j < s.tribs → HasNoEvent s path plan j m u
  events j known =
      let at = get_at ms j (omega (arith, known, long)) in
      (quiet j at.0 at.1).events m u slot from to

  -- the bits that have come by the slot's end are among those that the slots bring
  came_upto : (j : ℕ) → came_before s (plan.counts path j) m (suc u) ≤ taken s (plan.counts path j) end
  came_upto j =
      let next = following s m u slot in
      let place : next.0 * s.len + next.1 ≡ suc (m * s.len + u) = next.2.place in
      let came : came_before s (plan.counts path j) m (suc u) ≡ taken s (plan.counts path j) (suc (m * s.len + u)) =
      came_follows s m u next.0 next.1 next.2 path plan j frame ∙ sym (taken_is s next.0 next.1 (suc (m * s.len + u)) place next.2.inside path plan j) in
      omega (arith, came, taken-grows s (plan.counts path j) (suc (m * s.len + u)) end frame to)

  -- so is the bit that arrives
  bit_first : (j : ℕ) → taken_to s path plan n t j ≤ came_before s (plan.counts path j) m u
  bit_first j = omega (arith, taken_ahead s path plan n t j frame, came_later s (plan.counts path j) n t m u frame (omega (arith, inside)) later from)

  bit_last : (j : ℕ) → arrives_at s (plan.counts path j m) u ≡ true → came_before s (plan.counts path j) m u < taken s (plan.counts path j) end
  bit_last j is = omega (arith, came_upto j, ltb-true (arrived_in s (plan.counts path j m) u) (arrived_in s (plan.counts path j m) (suc u)) is)

  -- and those of the lead in the first slot
  module _ (first : m ≡ 0) (start : u ≡ 0) (j i : ℕ) (led : i < lead) where
    lead_first : taken_to s path plan n t j ≤ i
    lead_first =
        let n_is : n ≡ 0 = omega (arith, later, first) in
        let none : m * s.len ≡ 0 = ap (λ v. v * s.len) first ∙ omega arith in
        let t_is : t ≡ 0 = omega (arith, from, none, start) in
        let none_taken : taken_to s path plan n t j ≡ 0 = ap (λ v. taken_to s path plan v t j) n_is ∙ ap (λ v. taken_to s path plan 0 v j) t_is in
        omega (arith, none_taken)

    lead_last : i < taken s (plan.counts path j) end
    lead_last =
        let here : came_before s (plan.counts path j) m u ≡ lead = ap (λ v. came_before s (plan.counts path j) v u) first ∙ ap (came_before s (plan.counts path j) 0) start ∙ came_before-first s (plan.counts path j) frame in
        omega (arith, led, here, came_before_grows s (plan.counts path j) m u frame, came_upto j)

  -- ---- nothing stands in its way

  module _ (size : ℕ → ℕ) (fit : AllFit ms plan (taken_to s path plan n t) a size) where
    -- a child's bits up to those that the slots bring
    child_free : (j y : ℕ) → j < s.tribs → taken_to s path plan n t j ≤ y → y < taken s (plan.counts path j) end → obstacle_of (slice_get ms j) plan size y ≡ None
    child_free j y known first last =
        let at = get_at ms j (omega (arith, known, long)) in
        ap (λ o. obstacle_of o plan size y) at.1
        ∙ (quiet j at.0 at.1).free.free size (fit_one (held_in tx) (meaning_in tx) plan ms j at.0 (taken_to s path plan n t) a size dis at.1 fit) y first last

    leads_free : m ≡ 0 → u ≡ 0 → first_some (leads s plan ms size) ≡ None
    leads_free first start =
        flat_none (lead_at plan ms size) 0 s.tribs
        (λ j l h. map_none (obstacle_of (slice_get ms j) plan size) 0 lead
        (λ i l' h'. child_free j i (omega (arith, h)) (lead_first first start j i (omega (arith, h'))) (lead_last first start j i (omega (arith, h')))))

    beginning_free : first_some (beginning s path plan ms size m u) ≡ None
    beginning_free = elim (cases_lt 0 u) [
      | inl within ↦ ap first_some (steps_inside (placed_in tx) (held_in tx) (meaning_in tx) plan s path ms size m u within)
      | inr none ↦
          let start : u ≡ 0 = omega (arith, none) in
          ap (λ v. first_some (beginning s path plan ms size m v)) start
          ∙ elim (cases_lt 0 m) [
            | inl some ↦ steps_later (placed_in tx) (held_in tx) (meaning_in tx) plan s path ms size m before some
            | inr none' ↦
                let first : m ≡ 0 = omega (arith, none') in
                steps_first (placed_in tx) (held_in tx) (meaning_in tx) plan s path ms size m before first ∙ leads_free first start
          ]
    ]

    arrival_free : (j : ℕ) → j < s.tribs → first_some (arrival_at s path plan ms size m u j) ≡ None
    arrival_free j known =
        let o : Option TxStop = obstacle_of (slice_get ms j) plan size (came_before s (plan.counts path j) m u) in
        let p : Bool → Option TxStop = λ b. some_if b (Overflow (place_at path j m u)) in
        let full : Bool = stops plan.mode (overflows s j (plan.counts path j) m u) in
        elim (cases_Bool (arrives_at s (plan.counts path j m) u)) [
          | inl is ↦
              ap (λ b. first_some (cond b (o ∷ p full ∷ []) [])) is
              ∙ ap (λ v. first_some (v ∷ p full ∷ [])) (child_free j (came_before s (plan.counts path j) m u) known (bit_first j) (bit_last j is))
              ∙ ap (λ b. first_some (p b ∷ [])) (not_over s (steps_of path) j (plan.counts path j) m u plan.mode (events j known).0).0
          | inr none ↦ ap (λ b. first_some (cond b (o ∷ p full ∷ []) [])) none
        ]

    pub slot_free : first_some (steps s path plan ms size m u) ≡ None
    slot_free =
        first_after (beginning s path plan ms size m u) (arrivals s path plan ms size m u ++ reads s path plan m u) beginning_free
        ∙ first_after (arrivals s path plan ms size m u) (reads s path plan m u) (flat_none (arrival_at s path plan ms size m u) 0 s.tribs (λ j l h. arrival_free j (omega (arith, h))))
        ∙ map_none (λ j. some_if (stops plan.mode (underflows s j (plan.counts path j) m u)) (Underflow (place_at path j m u))) 0 s.tribs
        (λ j l h. ap (λ b. some_if b (Underflow (place_at path j m u))) (not_under s (steps_of path) j (plan.counts path j) m u plan.mode (events j (omega (arith, h))).1).0)

  -- ---- and it brings no slip

  child_quiet : (j y : ℕ) → j < s.tribs → taken_to s path plan n t j ≤ y → y < taken s (plan.counts path j) end → slips_below (slice_get ms j) plan y ≡ []
  child_quiet j y known first last =
      let at = get_at ms j (omega (arith, known, long)) in
      ap (λ o. slips_below o plan y) at.1 ∙ (quiet j at.0 at.1).free.no_slip y first last

  leads_quiet : m ≡ 0 → u ≡ 0 → leads_slips s plan ms ≡ []
  leads_quiet first start =
      flat_nothing (lead_slips plan ms) 0 s.tribs
      (λ j l h. flat_nothing (slips_below (slice_get ms j) plan) 0 lead
      (λ i l' h'. child_quiet j i (omega (arith, h)) (lead_first first start j i (omega (arith, h'))) (lead_last first start j i (omega (arith, h')))))

  beginning_quiet : beginning_slips s plan ms m u ≡ []
  beginning_quiet = go (eqb u 0) (eqb m 0) (eqb-true u 0) (eqb-true m 0)
    where
      go : (b c : Bool) → (b ≡ true → u ≡ 0) → (c ≡ true → m ≡ 0) → cond b (cond c (leads_slips s plan ms) []) [] ≡ []
      go true true start first = leads_quiet (first refl) (start refl)
      go true false start first = refl
      go false c start first = refl

  arrival_quiet : (j : ℕ) → j < s.tribs → arrival_slips s path plan ms m u j ≡ []
  arrival_quiet j known =
      let o : List Slip = slips_below (slice_get ms j) plan (came_before s (plan.counts path j) m u) in
      let p : Bool → List Slip = λ b. slip_if b true (place_at path j m u) in
      let full : Bool = slips_over s path plan m u j in
      elim (cases_Bool (arrives_at s (plan.counts path j m) u)) [
        | inl is ↦
            ap (λ b. cond b (o ++ p full) []) is ∙ ap (λ l. l ++ p full) (child_quiet j (came_before s (plan.counts path j) m u) known (bit_first j) (bit_last j is))
            ∙ ap p (not_over s (steps_of path) j (plan.counts path j) m u plan.mode (events j known).0).1
        | inr none ↦ ap (λ b. cond b (o ++ p full) []) none
      ]

  pub slot_quiet : slot_slips s path plan ms m u ≡ []
  slot_quiet =
      ap (λ l. l ++ (arrivals_slips s path plan ms m u ++ read_slips s path plan m u)) beginning_quiet
      ∙ ap (λ l. l ++ read_slips s path plan m u) (flat_nothing (arrival_slips s path plan ms m u) 0 s.tribs (λ j l h. arrival_quiet j (omega (arith, h))))
      ∙ flat_nothing (λ j. slip_if (slips_under s path plan m u j) false (place_at path j m u)) 0 s.tribs
      (λ j l h. ap (λ b. slip_if b false (place_at path j m u)) (not_under s (steps_of path) j (plan.counts path j) m u plan.mode (events j (omega (arith, h))).1).1)
