-- What holds of the slots of many frames, in whose way nothing stands.
use Rattle.std.proofs.Common.{◌≡◌, inl, inr, ℕ, zero, suc, ◌+◌, ◌-◌, ◌*◌, ◌/◌, ◌%◌, ◌<◌, ◌≤◌, Bool, true, false, List, [], ◌∷◌, cond, eqb, leb, refl, sym, ap, ◌∙◌, subst, arith, Some, None, slice_get}
use Rattle.std.proofs.lemmas.Bool.{cases_Bool, cases_lt, leb-false}
use Rattle.std.proofs.lemmas.Nat.{div-add-mod', mod_below}
use Rattle.std.proofs.Math.Nat.{mul-le-mul_right}
use Rattle.pdh_edge.specs.Ports.{Inputs}
use Rattle.pdh_shape.specs.Frame.{FrameShape, IsFrame}
use Rattle.pdh_shape.specs.declared.place.Path.{Path}
use Rattle.pdh_shape.specs.OwnNumbers.{lead}
use Rattle.pdh_line.specs.Sending.{arrives_at, came_before, taken}
use Rattle.pdh_line.proofs.FrameBounds.{lt_of_mul}
use Rattle.pdh_line.proofs.SendingLaws.{came_before-suc, came_before-first}
use Rattle.pdh_tx.specs.declared.tx.TxStop.TheVariants.{NoFrame}
use Rattle.pdh_tx.specs.Making.{IsClear}
use Rattle.pdh_tx.specs.Meaning.{Meaning, Plan}
use Rattle.pdh_tx.specs.Held.{first_some, some_if}
use Rattle.pdh_tx.specs.Node.{obstacle_of, lead_at, leads, slips_below, lead_slips, leads_slips, taken_to, IsDisjoint}
use Rattle.pdh_tx.specs.Stored.{stored_kind}
use Rattle.pdh_tx.specs.Batches.{IsBefore, MeetNothing, AreSlotsClear}
use Rattle.pdh_tx.specs.Tributary.{held_in, meaning_in}
use Rattle.pdh_tx.specs.declared.tx.Tx.{Ghosts}
use Rattle.pdh_tx.specs.laws.Stepping.{taken_is, taken_later, came_follows, following}
use Rattle.pdh_tx.proofs.Clearing.{none_right, none_left, none_flat, none_map, nil_flat, beginning_clear, child_clear, beginning_quiet, child_quiet}
use Rattle.pdh_tx.proofs.Moving.{fit_one}

-- ---- how many bits come

module _ (s : FrameShape) (frame : IsFrame s) (path : Path) (plan : Plan) (j : ℕ) where
  -- what is taken before a bit, and with it, by the bit's slot
  pub record IsSlotOf (x : ℕ) : Type 0 where
    pub in_frame : ℕ
    pub in_slot : ℕ
    pub inside : in_slot < s.len
    pub place : in_frame * s.len + in_slot ≡ x
    pub before : taken s (plan.counts path j) x ≡ taken_to s path plan in_frame in_slot j
    pub with_it : taken s (plan.counts path j) (suc x) ≡ came_before s (plan.counts path j) in_frame (suc in_slot)

  pub slot_of : (x : ℕ) → IsSlotOf x
  slot_of x =
      let n : ℕ = x / s.len in
      let t : ℕ = x % s.len in
      let place : n * s.len + t ≡ x = div-add-mod' x s.len in
      let inside : t < s.len = mod_below x s.len frame.some_slots in
      let next = following s n t inside in
      record {
        in_frame = n;
        in_slot = t;
        inside = inside;
        place = place;
        before = taken_is s n t x place inside path plan j;
        with_it = taken_is s next.0 next.1 (suc x) (next.2.place ∙ ap suc place) next.2.inside path plan j ∙ sym (came_follows s n t next.0 next.1 next.2 path plan j frame);
      }

  -- at most one bit for each slot, behind the lead
  pub taken_most : ((m : ℕ) → plan.counts path j m ≤ s.len) → (x count : ℕ) → taken s (plan.counts path j) (x + count) ≤ taken s (plan.counts path j) x + lead + count
  taken_most fits x zero = (let e : x + 0 ≡ x = omega arith in omega (arith, ap (taken s (plan.counts path j)) e))
  taken_most fits x (suc count) =
      let at = slot_of (x + count) in
      let next : x + suc count ≡ suc (x + count) = omega arith in
      let one = came_before-suc s (plan.counts path j) at.in_frame at.in_slot frame (fits at.in_frame) in
      let most = bit_most (arrives_at s (plan.counts path j at.in_frame) at.in_slot) in
      let all : taken s (plan.counts path j) (x + suc count) ≡ came_before s (plan.counts path j) at.in_frame (suc at.in_slot) = ap (taken s (plan.counts path j)) next ∙ at.with_it in
      elim (cases_lt 0 (at.in_frame + at.in_slot)) [
        | inl some ↦ omega (arith, all, one, most, at.before, taken_later s path plan at.in_frame at.in_slot j some, taken_most fits x count)
        | inr none ↦
            let first : at.in_frame ≡ 0 = omega (arith, none) in
            let start : at.in_slot ≡ 0 = omega (arith, none) in
            let led : came_before s (plan.counts path j) at.in_frame at.in_slot ≡ lead = ap (λ m. came_before s (plan.counts path j) m at.in_slot) first ∙ ap (came_before s (plan.counts path j) 0) start ∙ came_before-first s (plan.counts path j) frame in
            omega (arith, all, one, most, led)
      ]
    where
      bit_most : (b : Bool) → cond b 1 0 ≤ 1
      bit_most true = omega arith
      bit_most false = omega arith

-- ---- nothing stands in the way of the slots up to a bit of the line

module _ (s : FrameShape) (frame : IsFrame s) (path : Path) (plan : Plan) (ms : List Meaning) (size : ℕ → ℕ) (n t end : ℕ) (slots : MeetNothing (stored_kind s) s ms path plan size n t end) where
  -- a frame that begins in them is scheduled
  pub begins_scheduled : (m : ℕ) → IsBefore s n t end m 0 → m < plan.frames path
  begins_scheduled m is =
      let all = beginning_clear s path plan ms m 0 size (slots.clear m 0 is) in
      let none = none_left (some_if (leb (plan.frames path) m) (NoFrame path) ∷ []) (cond (eqb m 0) (leads s plan ms size) []) all in
      leb-false _ _ (off (leb (plan.frames path) m) none)
    where
      off : (b : Bool) → first_some (some_if b (NoFrame path) ∷ []) ≡ None → b ≡ false
      off true h = absurd (cc h)
      off false h = refl

  -- and so are all of them
  pub end_scheduled : t < s.len → (0 < t → n < plan.frames path) → n * s.len + t < end → end ≤ plan.frames path * s.len
  end_scheduled inside begun some =
      let z : ℕ = end - 1 in
      let k : ℕ = z / s.len in
      let u : ℕ = z % s.len in
      let whole : k * s.len + u ≡ z = div-add-mod' z s.len in
      let within : u < s.len = mod_below z s.len frame.some_slots in
      let last : suc z ≡ end = omega (arith, some) in
      let up : suc k * s.len ≡ k * s.len + s.len = omega arith in
      let there : k < plan.frames path = elim (cases_lt (k * s.len) (n * s.len + t)) [
        | inl begun_before ↦
            let later : n < suc k = lt_of_mul n (suc k) s.len (omega (arith, some, whole, within, last, up)) in
            let same : n ≡ k = elim (cases_lt n k) [
              | inl less ↦ (let more : suc n * s.len ≤ k * s.len = mul-le-mul_right s.len less in let e : suc n * s.len ≡ n * s.len + s.len = omega arith in absurd (omega (arith, more, e, begun_before, inside)))
              | inr fine ↦ omega (arith, fine, later)
            ] in
            let product : n * s.len ≡ k * s.len = ap (λ m. m * s.len) same in
            subst (λ m. m < plan.frames path) same (begun (omega (arith, begun_before, product)))
        | inr begins ↦ begins_scheduled k (record { inside = frame.some_slots; from = omega (arith, begins); to = omega (arith, whole, last) })
      ] in
      let most : suc k * s.len ≤ plan.frames path * s.len = mul-le-mul_right s.len there in
      omega (arith, most, up, whole, within, last)

  module _ (j : ℕ) (known : j < s.tribs) (fits : (m : ℕ) → plan.counts path j m ≤ s.len) (m : Meaning) (at : slice_get ms j ≡ Some m) where
    abbrev came : ℕ → ℕ → ℕ
    came = came_before s (plan.counts path j)

    abbrev MeetsNone : ℕ → Type 0
    MeetsNone y = (m.obstacle plan size y ≡ None) × (m.slips plan y ≡ [])

    -- a bit that arrives in a slot
    arrives_free : (k u y : ℕ) → IsBefore s n t end k u → came k u ≤ y → y < came k (suc u) → MeetsNone y
    arrives_free k u y is from to = elim (cases_Bool (arrives_at s (plan.counts path j k) u)) [
      | inl arrives ↦
          let next : came k (suc u) ≡ came k u + 1 = came_before-suc s (plan.counts path j) k u frame (fits k) ∙ ap (λ b. came k u + cond b 1 0) arrives in
          let same : came k u ≡ y = omega (arith, next, from, to) in (
            ap (m.obstacle plan size) (sym same) ∙ child_clear s path plan ms k u size (slots.clear k u is) j m known at arrives,
            ap (m.slips plan) (sym same) ∙ child_quiet s path plan ms k u (slots.no_slip k u is) j m known at arrives,
          )
      | inr none ↦
          let next : came k (suc u) ≡ came k u + 0 = came_before-suc s (plan.counts path j) k u frame (fits k) ∙ ap (λ b. came k u + cond b 1 0) none in
          absurd (omega (arith, next, from, to))
    ]

    -- a bit of the lead
    lead_free : (y : ℕ) → IsBefore s n t end 0 0 → y < lead → MeetsNone y
    lead_free y is led =
        let begins = beginning_clear s path plan ms 0 0 size (slots.clear 0 0 is) in
        let all : first_some (leads s plan ms size) ≡ None = none_right (some_if (leb (plan.frames path) 0) (NoFrame path) ∷ []) (leads s plan ms size) begins in
        let own : first_some (lead_at plan ms size j) ≡ None = none_flat (lead_at plan ms size) 0 s.tribs j all (omega arith) (omega (arith, known)) in
        let quiet : leads_slips s plan ms ≡ [] = beginning_quiet s path plan ms 0 0 (slots.no_slip 0 0 is) in
        let own_quiet : lead_slips plan ms j ≡ [] = nil_flat (lead_slips plan ms) 0 s.tribs j quiet (omega arith) (omega (arith, known)) in (
          ap (λ o. obstacle_of o plan size y) (sym at) ∙ none_map (obstacle_of (slice_get ms j) plan size) 0 lead y own (omega arith) (omega (arith, led)),
          ap (λ o. slips_below o plan y) (sym at) ∙ nil_flat (slips_below (slice_get ms j) plan) 0 lead y own_quiet (omega arith) (omega (arith, led)),
        )

    -- all bits that a slot takes
    slot_free : (k u y : ℕ) → IsBefore s n t end k u → taken_to s path plan k u j ≤ y → y < came k (suc u) → MeetsNone y
    slot_free k u y is from to = elim (cases_lt 0 (k + u)) [
      | inl some ↦ arrives_free k u y is (omega (arith, from, taken_later s path plan k u j some)) to
      | inr none ↦
          let first : k ≡ 0 = omega (arith, none) in
          let start : u ≡ 0 = omega (arith, none) in
          let begins : IsBefore s n t end 0 0 = subst (λ v. IsBefore s n t end 0 v) start (subst (λ v. IsBefore s n t end v u) first is) in
          elim (cases_lt y lead) [
            | inl led ↦ lead_free y begins led
            | inr past ↦
                let led : came k u ≡ lead = ap (λ v. came v u) first ∙ ap (came 0) start ∙ came_before-first s (plan.counts path j) frame in
                arrives_free k u y is (omega (arith, led, past)) to
          ]
    ]

    -- all that so many slots take
    upto_free : (count y : ℕ) → n * s.len + t + count ≤ end → taken s (plan.counts path j) (n * s.len + t) ≤ y → y < taken s (plan.counts path j) (n * s.len + t + count) → MeetsNone y
    upto_free zero y upto from to = (let e : n * s.len + t + 0 ≡ n * s.len + t = omega arith in absurd (omega (arith, ap (taken s (plan.counts path j)) e, from, to)))
    upto_free (suc count) y upto from to = elim (cases_lt y (taken s (plan.counts path j) (n * s.len + t + count))) [
      | inl before ↦ upto_free count y (omega (arith, upto)) from before
      | inr here ↦
          let x : ℕ = n * s.len + t + count in
          let slot = slot_of s frame path plan j x in
          let next : n * s.len + t + suc count ≡ suc x = omega arith in
          let is : IsBefore s n t end slot.in_frame slot.in_slot = record { inside = slot.inside; from = omega (arith, slot.place); to = omega (arith, slot.place, upto) } in
          slot_free slot.in_frame slot.in_slot y is (omega (arith, slot.before, here)) (omega (arith, to, ap (taken s (plan.counts path j)) next, slot.with_it))
    ]

    pub child_free : (y : ℕ) → t < s.len → n * s.len + t ≤ end → taken_to s path plan n t j ≤ y → y < taken s (plan.counts path j) end → MeetsNone y
    child_free y inside upto from to =
        let count : ℕ = end - (n * s.len + t) in
        let all : n * s.len + t + count ≡ end = omega (arith, upto) in
        let start : taken s (plan.counts path j) (n * s.len + t) ≡ taken_to s path plan n t j = taken_is s n t (n * s.len + t) refl inside path plan j in
        upto_free count y (omega (arith, all)) (omega (arith, start, from)) (omega (arith, to, ap (taken s (plan.counts path j)) all))

-- nothing stands in the way of the bits of a child that they bring
pub child_clears : {C : Type 0} (tx : Ghosts C) (s : FrameShape) (frame : IsFrame s) (path : Path) (plan : Plan) (ms : List Meaning) (n t end : ℕ) (a : Inputs) (j : ℕ) (m : Meaning) → IsDisjoint ms → t < s.len → n * s.len + t ≤ end → j < s.tribs → ((m : ℕ) → plan.counts path j m ≤ s.len)
    → slice_get ms j ≡ Some m → AreSlotsClear (stored_kind s) s ms path plan n t end a → IsClear m plan (taken_to s path plan n t j) (taken s (plan.counts path j) end) a
child_clears tx s frame path plan ms n t end a j m dis inside upto known fits at clear = record {
  size = clear.size;
  fits = fit_one (held_in tx) (meaning_in tx) plan ms j m (taken_to s path plan n t) a clear.size dis at clear.fits;
  clear = λ y from to. (child_free s frame path plan ms clear.size n t end clear.slots j known fits m at y inside upto from to).0;
  no_slip = λ y from to. (child_free s frame path plan ms clear.size n t end clear.slots j known fits m at y inside upto from to).1;
}
