-- What holds of the slots of many frames, in whose way nothing stands.
use Rattle.std.proofs.Common.{◌≡◌, inl, inr, ℕ, zero, suc, ◌+◌, ◌-◌, ◌*◌, ◌/◌, ◌%◌, ◌<◌, ◌≤◌, Bool, true, false, List, [], ◌∷◌, map, cond, eqb, leb, refl, sym, ap, ◌∙◌, arith, Some, None, slice_get}
use Rattle.std.specs.List.{range_with_len}
use Rattle.std.proofs.lemmas.Bool.{cases_Bool, cases_lt, leb-false}
use Rattle.std.proofs.lemmas.Nat.{div-add-mod', mod_below}
use Rattle.pdh_edge.specs.Ports.{Inputs}
use Rattle.pdh_shape.specs.Frame.{FrameShape, IsFrame}
use Rattle.pdh_shape.specs.Tributary.{HasTributaries, reads_from}
use Rattle.pdh_shape.specs.declared.place.Path.{Path}
use Rattle.pdh_tx.specs.declared.tx.Tx.{Ghosts}
use Rattle.pdh_tx.specs.declared.tx.TxStop.TheVariants.{NoFrame}
use Rattle.pdh_tx.specs.Making.{IsClear}
use Rattle.pdh_tx.specs.Meaning.{Meaning, Plan}
use Rattle.pdh_tx.specs.Held.{first_some, some_if}
use Rattle.pdh_tx.specs.Node.{IsDisjoint}
use Rattle.pdh_tx.specs.Batches.{IsBefore, MeetNothing, AreSlotsClear}
use Rattle.pdh_tx.specs.Locked.{locked_to, locked_beginning, locked_read}
use Rattle.pdh_tx.specs.laws.Stepping.{following}
use Rattle.pdh_tx.proofs.Clearing.{none_left}
use Rattle.pdh_tx.proofs.Moving.{fit_one}
use Rattle.pdh_locked.specs.Children.{held_in, locked_kind}
use Rattle.pdh_locked.specs.laws.LockedLaws.{locked_is, locked_follows}
use Rattle.pdh_locked.proofs.Clearing.{read_clear, read_quiet}
use Rattle.pdh_locked.proofs.OneSlot.{locked_step}

module _ (s : FrameShape) (frame : IsFrame s) (has : HasTributaries s) (locked : eqb s.copies 0 ≡ true) (path : Path) (plan : Plan) (j : ℕ) (known : j < s.tribs) where
  -- how many bits of child j are read, where x bits of the line are made
  abbrev pub by : ℕ → ℕ
  by x = (locked_kind s).by path plan j x

  -- the same before a bit, and with it, by the bit's slot
  pub record IsSlotOf (x : ℕ) : Type 0 where
    pub in_frame : ℕ
    pub in_slot : ℕ
    pub inside : in_slot < s.len
    pub place : in_frame * s.len + in_slot ≡ x
    pub before : by x ≡ locked_to s in_frame in_slot j
    pub with_it : by (suc x) ≡ locked_to s in_frame (suc in_slot) j

  pub slot_of : (x : ℕ) → IsSlotOf x
  slot_of x =
      let n : ℕ = x / s.len in
      let t : ℕ = x % s.len in
      let place : n * s.len + t ≡ x = div-add-mod' x s.len in
      let inside : t < s.len = mod_below x s.len frame.some_slots in
      let next = following s n t inside in
      record {
        in_frame = n;
        in_slot = t;
        inside = inside;
        place = place;
        before = locked_is s n t x place inside locked (plan.counts path j) j;
        with_it = locked_is s next.0 next.1 (suc x) (next.2.place ∙ ap suc place) next.2.inside locked (plan.counts path j) j ∙ sym (locked_follows s has n t next.0 next.1 next.2 j known);
      }

  -- at most one for each bit of the line
  pub by_most : (x count : ℕ) → by (x + count) ≤ by x + count
  by_most x zero = (let e : x + 0 ≡ x = omega arith in omega (arith, ap by e))
  by_most x (suc count) =
      let at = slot_of (x + count) in
      let next : x + suc count ≡ suc (x + count) = omega arith in
      omega (arith, ap by next, at.with_it, at.before, locked_step s at.in_frame at.in_slot j, bit_most (reads_from j false (s.role at.in_slot)), by_most x count)
    where
      bit_most : (b : Bool) → cond b 1 0 ≤ 1
      bit_most true = omega arith
      bit_most false = omega arith

  module _ (ms : List Meaning) (size : ℕ → ℕ) (n t end : ℕ) (slots : MeetNothing (locked_kind s) s ms path plan size n t end) (m : Meaning) (at : slice_get ms j ≡ Some m) where
    abbrev MeetsNone : ℕ → Type 0
    MeetsNone y = (m.obstacle plan size y ≡ None) × (m.slips plan y ≡ [])

    -- a bit that a slot reads
    slot_free : (k u y : ℕ) → IsBefore s n t end k u → locked_to s k u j ≤ y → y < locked_to s k (suc u) j → MeetsNone y
    slot_free k u y is from to =
        let next = locked_step s k u j in
        elim (cases_Bool (reads_from j false (s.role u))) [
          | inl reads ↦
              let one : locked_to s k (suc u) j ≡ locked_to s k u j + 1 = next ∙ ap (λ b. locked_to s k u j + cond b 1 0) reads in
              let same : locked_to s k u j ≡ y = omega (arith, one, from, to) in (
                ap (m.obstacle plan size) (sym same) ∙ read_clear s path plan ms k size u j m known at (slots.clear k u is) reads,
                ap (m.slips plan) (sym same) ∙ read_quiet s path plan ms k u j m known at (slots.no_slip k u is) reads,
              )
          | inr none ↦
              let same : locked_to s k (suc u) j ≡ locked_to s k u j + 0 = next ∙ ap (λ b. locked_to s k u j + cond b 1 0) none in
              absurd (omega (arith, same, from, to))
        ]

    -- all that so many slots read
    upto_free : (count y : ℕ) → n * s.len + t + count ≤ end → by (n * s.len + t) ≤ y → y < by (n * s.len + t + count) → MeetsNone y
    upto_free zero y upto from to = (let e : n * s.len + t + 0 ≡ n * s.len + t = omega arith in absurd (omega (arith, ap by e, from, to)))
    upto_free (suc count) y upto from to = elim (cases_lt y (by (n * s.len + t + count))) [
      | inl before ↦ upto_free count y (omega (arith, upto)) from before
      | inr here ↦
          let x : ℕ = n * s.len + t + count in
          let slot = slot_of x in
          let next : n * s.len + t + suc count ≡ suc x = omega arith in
          let is : IsBefore s n t end slot.in_frame slot.in_slot = record { inside = slot.inside; from = omega (arith, slot.place); to = omega (arith, slot.place, upto) } in
          slot_free slot.in_frame slot.in_slot y is (omega (arith, slot.before, here)) (omega (arith, to, ap by next, slot.with_it))
    ]

    pub child_free : (y : ℕ) → t < s.len → n * s.len + t ≤ end → locked_to s n t j ≤ y → y < by end → MeetsNone y
    child_free y inside upto from to =
        let count : ℕ = end - (n * s.len + t) in
        let all : n * s.len + t + count ≡ end = omega (arith, upto) in
        let start : by (n * s.len + t) ≡ locked_to s n t j = locked_is s n t (n * s.len + t) refl inside locked (plan.counts path j) j in
        upto_free count y (omega (arith, all)) (omega (arith, start, from)) (omega (arith, to, ap by all))

-- a frame that begins in the slots is scheduled
pub begins_scheduled : (s : FrameShape) (path : Path) (plan : Plan) (ms : List Meaning) (size : ℕ → ℕ) (n t end : ℕ) → MeetNothing (locked_kind s) s ms path plan size n t end → (m : ℕ) → IsBefore s n t end m 0 → m < plan.frames path
begins_scheduled s path plan ms size n t end slots m is =
    leb-false _ _ (off (leb (plan.frames path) m) (none_left (locked_beginning path plan m 0 ∷ []) (map (locked_read s plan ms size m 0) (range_with_len 0 s.tribs)) (slots.clear m 0 is)))
  where
    off : (b : Bool) → first_some (some_if b (NoFrame path) ∷ []) ≡ None → b ≡ false
    off true h = absurd (cc h)
    off false h = refl

-- nothing stands in the way of the bits of a child that the slots read
pub child_clears : {C : Type 0} (tx : Ghosts C) (s : FrameShape) (frame : IsFrame s) (has : HasTributaries s) (locked : eqb s.copies 0 ≡ true) (path : Path) (plan : Plan) (ms : List Meaning) (n t end : ℕ) (a : Inputs) (j : ℕ) (m : Meaning) → IsDisjoint ms → t < s.len → n * s.len + t ≤ end → j < s.tribs
    → slice_get ms j ≡ Some m → AreSlotsClear (locked_kind s) s ms path plan n t end a → IsClear m plan (locked_to s n t j) ((locked_kind s).by path plan j end) a
child_clears tx s frame has locked path plan ms n t end a j m dis inside upto known at clear = record {
  size = clear.size;
  fits = fit_one (held_in tx) tx.meaning plan ms j m (locked_to s n t) a clear.size dis at clear.fits;
  clear = λ y from to. (child_free s frame has locked path plan j known ms clear.size n t end clear.slots m at y inside upto from to).0;
  no_slip = λ y from to. (child_free s frame has locked path plan j known ms clear.size n t end clear.slots m at y inside upto from to).1;
}
