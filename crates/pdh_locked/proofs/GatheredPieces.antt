-- A piece of a frame, from what was gathered of children without stores.
use Rattle.std.proofs.Common.{◌≡◌, inl, inr, ℕ, suc, ◌+◌, ◌-◌, ◌*◌, ◌<◌, ◌≤◌, Bool, true, false, List, [], length, map, eqb, refl, sym, ap, ◌∙◌, subst, arith, Some, slice_get}
use Rattle.std.specs.List.{range_with_len, slice_index_or}
use Rattle.std.proofs.lemmas.Bool.{cases_lt}
use Rattle.std.proofs.lemmas.List.{length-drop, drop-drop}
use Rattle.std.proofs.lemmas.Option.{slice_get-map}
use Rattle.std.specs.Prelude.{drop}
use Rattle.pdh_shape.specs.declared.place.Path.{Path}
use Rattle.pdh_shape.specs.declared.shape.Shape as shape
use Rattle.pdh_shape.specs.Frame.{FrameShape, IsFrame}
use Rattle.pdh_shape.specs.Tributary.{HasTributaries, reads_from}
use Rattle.pdh_line.specs.Edits.{Edit, edited}
use Rattle.pdh_runs.specs.Pieces.{FillsColumn}
use Rattle.pdh_runs.proofs.Counts.{before_grows}
use Rattle.pdh_tx.specs.declared.pieces.Piece.{Piece}
use Rattle.pdh_tx.specs.declared.queue.Queue.{Queue}
use Rattle.pdh_tx.specs.declared.tx.Tx.{Ghosts}
use Rattle.pdh_tx.specs.Batches.{IsBefore, MeetNothing}
use Rattle.pdh_tx.specs.Gathered.{waiting_in}
use Rattle.pdh_tx.specs.Held.{IsPart}
use Rattle.pdh_tx.specs.Meaning.{Plan, Supply, Meaning}
use Rattle.pdh_tx.specs.Node.{below, source_of}
use Rattle.pdh_tx.specs.Slipping.{read_to}
use Rattle.pdh_tx.specs.Passing.{carried_in, edits_by, HoldsBits, HoldsBitsOf, HasRows}
use Rattle.pdh_tx.specs.Locked.{locked_to}
use Rattle.pdh_tx.specs.laws.Stepping.{following}
use Rattle.pdh_tx.specs.laws.Growing.{grows_to}
use Rattle.pdh_tx.proofs.Lists.{get_at}
use Rattle.pdh_tx.proofs.Moving.{inside}
use Rattle.pdh_tx.proofs.Passing.{part_drop, fills_part, carried_is}
use Rattle.pdh_tx.proofs.PassingAll.{holds_from}
use Rattle.pdh_locked.specs.declared.children.Children.{Children}
use Rattle.pdh_locked.specs.Children.{locked_kind, meanings, columns}
use Rattle.pdh_locked.specs.Gathered.{IsGathered, HoldsGathered, CarriesBits, Gathered, HoldGathered, CanCarry, Carry}
use Rattle.pdh_locked.specs.laws.LockedLaws.{locked_is, locked_follows, given_less}
use Rattle.pdh_locked.proofs.BatchSlots.{begins_scheduled}
use Rattle.pdh_locked.proofs.OneSlot.{more_by, edits_none, read_by}

-- ---- one child

-- so many of its bits are read with a piece
pub piece_reads : (s : FrameShape) (n t len j : ℕ) → locked_to s n t j + carried_in s j false t len ≡ locked_to s n (t + len) j
piece_reads s n t len j = omega (arith, before_grows (λ x. reads_from j false (s.role x)) t (t + len) (omega arith))

-- and these are among those that it made
pub piece_within : (s : FrameShape) (frame : IsFrame s) (has : HasTributaries s) (locked : eqb s.copies 0 ≡ true) (path : Path) (plan : Plan) (n t len end j : ℕ) → j < s.tribs → 0 < len → t + len ≤ s.len → n * s.len + t + len ≤ end → locked_to s n (t + len) j ≤ (locked_kind s).by path plan j end
piece_within s frame has locked path plan n t len end j known some within upto =
    let v : ℕ = t + len - 1 in
    let last : suc v ≡ t + len = omega (arith, some) in
    let next = following s n v (omega (arith, last, within)) in
    let here : locked_to s n (suc v) j ≡ (locked_kind s).by path plan j (suc (n * s.len + v)) =
    locked_follows s has n v next.0 next.1 next.2 j known ∙ sym (locked_is s next.0 next.1 (suc (n * s.len + v)) next.2.place next.2.inside locked (plan.counts path j) j) in
    let grows = grows_to (λ x. (locked_kind s).by path plan j x) (suc (n * s.len + v)) end (λ x. given_less s frame has locked (plan.counts path j) j x) (omega (arith, upto, last)) in
    omega (arith, here, ap (λ x. locked_to s n x j) last, grows)

module _ {C : Type 0} (tx : Ghosts C) (s : FrameShape) (locked : eqb s.copies 0 ≡ true) (path : Path) (plan : Plan) (n t len e j : ℕ) (child : C) (old new : Queue) (column : List Bool) (within : locked_to s n (t + len) j ≤ e) (carries : CarriesBits s j t len old new column) where
  abbrev carried : ℕ
  carried = carried_in s j false t len

  -- it stands behind it
  pub still_gathered : IsGathered tx child old plan e (locked_to s n t j) → IsGathered tx child new plan e (locked_to s n (t + len) j)
  still_gathered was =
      let long : length new.bits.bits ≡ length old.bits.bits = ap (λ b. length b.bits) carries.bits in
      record {
        runs = was.runs;
        idles = was.idles;
        place = was.place;
        within = omega (arith, long, was.rest, carries.gone, piece_reads s n t len j, within);
        rest = omega (arith, long, was.rest, carries.gone, piece_reads s n t len j);
      }

  waits : waiting_in new ≡ drop carried (waiting_in old)
  waits = ap (λ b. drop new.gone b.bits) carries.bits ∙ ap (λ k. drop k old.bits.bits) carries.gone ∙ sym (drop-drop carried old.gone old.bits.bits)

  -- and its column has the bits of the child's slots
  pub still_held : (ms : List Meaning) (supply : Supply) (columns : List (List Bool)) → supply.plan ≡ plan → slice_get ms j ≡ Some (tx.meaning child) → slice_index_or columns j [] ≡ column → IsGathered tx child old plan e (locked_to s n t j) → HoldsGathered tx child old (below supply) e (locked_to s n t j)
      → HoldsGathered tx child new (below supply) e (locked_to s n (t + len) j) × HoldsBitsOf s (source_of path ms supply) n t len columns j
  still_held ms supply columns is at own placed was =
      let line : ℕ → Bool = (tx.meaning child).line (below supply) in
      let counts : ℕ → ℕ = plan.counts path j in
      let enough : carried ≤ length (waiting_in old) = omega (arith, placed.rest, length-drop old.gone old.bits.bits, placed.within, piece_reads s n t len j, within) in
      let P : List Bool → ℕ → Type 0 = λ l from. IsPart line l from in
      let part : P (waiting_in new) (locked_to s n (t + len) j) = subst (P (waiting_in new)) (piece_reads s n t len j) (subst (λ l. P l (locked_to s n t j + carried)) (sym waits) (part_drop line (waiting_in old) (locked_to s n t j) carried enough was.holds)) in
      let fills = fills_part s j false t len carried line (waiting_in old) column (locked_to s n t j) (carried_is s j false t len) enough was.holds carries.fills in
      let Y : List Edit → ℕ → Type 0 = λ edits v. FillsColumn s j false t len (map (edited edits line) (range_with_len v carried)) column in
      let none : (u : ℕ) → edits_by s path plan n u j ≡ [] = λ u. edits_none s locked plan.mode j counts n u in (
        record { quiet = was.quiet; made_for = was.made_for; holds = part },
        holds_from s path ms plan supply n t len j carried false (tx.meaning child) columns column is (sym (more_by s locked plan.mode j counts n)) at own (carried_is s j false t len) (λ v h. none (t + v) ∙ sym (none t))
            (subst (λ edits. Y edits (read_to s path plan n t j).read) (sym (none t)) (subst (Y []) (sym (read_by s locked plan.mode j counts n t)) fills)),
      )

-- ---- all of them

module _ {S C : Type 0} {shape : shape.Ghosts S} {tx : Ghosts C} (frame : IsFrame shape.shape) (has : HasTributaries shape.shape) (tribs : shape.shape.tribs ≡ shape.TRIBS) (old : Children S C shape tx) (plan : Plan) (at : Piece) (end : ℕ) (some : 0 < at.len) (within : at.slot + at.len ≤ shape.shape.len)
    (upto : at.frame * shape.shape.len + at.slot + at.len ≤ end) (was : Gathered old at.path plan at.frame at.slot end) where
  abbrev numbers : FrameShape
  numbers = shape.shape

  abbrev e : ℕ → ℕ
  e j = (locked_kind numbers).by at.path plan j end

  -- the frame is scheduled
  pub is_scheduled : at.frame < plan.frames at.path
  is_scheduled = elim (cases_lt 0 at.slot) [
    | inl inside ↦ was.scheduled inside
    | inr begins ↦
        let start : at.slot ≡ 0 = omega (arith, begins) in
        begins_scheduled numbers at.path plan (meanings old) was.size at.frame at.slot end was.slots at.frame (record { inside = frame.some_slots; from = omega (arith, start); to = omega (arith, start, upto, some) })
  ]

  known_of : (j : ℕ) (child : C) → slice_get old.list.items j ≡ Some child → j < numbers.tribs
  known_of j child here = omega (arith, inside old.list.items j child here, old.count, tribs)

  most_of : (j : ℕ) → j < numbers.tribs → locked_to numbers at.frame (at.slot + at.len) j ≤ e j
  most_of j known = piece_within numbers frame has old.locked at.path plan at.frame at.slot at.len end j known some within upto

  pub can_carry_all : (j : ℕ) → CanCarry old at j
  can_carry_all j queue there =
      let known : j < numbers.tribs = omega (arith, inside old.queues.items j queue there, old.queue_count, tribs) in
      let child = get_at old.list.items j (omega (arith, old.count, tribs, known)) in
      omega (arith, (was.made j child.0 queue child.1 there).rest, piece_reads numbers at.frame at.slot at.len j, most_of j known)

  module _ (new : Children S C shape tx) (same_list : new.list ≡ old.list) (carried : (j : ℕ) → Carry old new at j) where
    was_here : (j : ℕ) (child : C) → slice_get new.list.items j ≡ Some child → slice_get old.list.items j ≡ Some child
    was_here j child here = ap (λ list. slice_get list.items j) (sym same_list) ∙ here

    queue_before : (j : ℕ) (queue : Queue) → slice_get new.queues.items j ≡ Some queue → (before : Queue) × (slice_get old.queues.items j ≡ Some before)
    queue_before j queue there = get_at old.queues.items j (omega (arith, inside new.queues.items j queue there, new.queue_count, old.queue_count))

    pub piece_gathered : Gathered new at.path plan at.frame (at.slot + at.len) end
    piece_gathered =
        let P : List Meaning → Type 0 = λ ms. MeetNothing (locked_kind numbers) numbers ms at.path plan was.size at.frame (at.slot + at.len) end in
        let later : (m v : ℕ) → IsBefore numbers at.frame (at.slot + at.len) end m v → IsBefore numbers at.frame at.slot end m v = λ m v is. record { inside = is.inside; from = omega (arith, is.from); to = is.to } in
        let slots : P (meanings old) = record { clear = λ m v is. was.slots.clear m v (later m v is); no_slip = λ m v is. was.slots.no_slip m v (later m v is) } in
        record {
          made = λ j child queue here there.
              let before = queue_before j queue there in
              let w_here = was_here j child here in
              still_gathered tx numbers old.locked at.path plan at.frame at.slot at.len (e j) j child before.0 queue (slice_index_or (columns new) j []) (most_of j (known_of j child w_here)) (carried j before.0 queue before.1 there) (was.made j child before.0 w_here before.1);
          scheduled = λ h. is_scheduled;
          bounded = was.bounded;
          upto = omega (arith, upto);
          size = was.size;
          slots = subst P (ap (λ list. map tx.meaning list.items) (sym same_list)) slots;
        }

    pub piece_rows : HasRows numbers at.slot at.len (columns new) numbers.tribs
    piece_rows j known =
        let before = get_at old.queues.items j (omega (arith, old.queue_count, tribs, known)) in
        let after = get_at new.queues.items j (omega (arith, new.queue_count, tribs, known)) in
        (carried j before.0 after.0 before.1 after.1).rows

    -- and so is what they hold, and the columns have the bits of the payload slots
    pub piece_held : (supply : Supply) → supply.plan ≡ plan → HoldGathered old at.path plan supply at.frame at.slot end
        → HoldGathered new at.path plan supply at.frame (at.slot + at.len) end × HoldsBits numbers (source_of at.path (meanings old) supply) at.frame at.slot at.len (columns new) numbers.tribs
    piece_held supply is held = (
      λ j child queue here there.
          let before = queue_before j queue there in
          (both j child before.0 queue (was_here j child here) before.1 there).0,
      λ j known.
          let child = get_at old.list.items j (omega (arith, old.count, tribs, known)) in
          let before = get_at old.queues.items j (omega (arith, old.queue_count, tribs, known)) in
          let after = get_at new.queues.items j (omega (arith, new.queue_count, tribs, known)) in
          (both j child.0 before.0 after.0 child.1 before.1 after.1).1,
    )
      where
        maker : (j : ℕ) (child : C) → slice_get old.list.items j ≡ Some child → slice_get (meanings old) j ≡ Some (tx.meaning child)
        maker j child here = slice_get-map tx.meaning old.list.items j ∙ rw here refl

        both : (j : ℕ) (child : C) (before after : Queue) → slice_get old.list.items j ≡ Some child → slice_get old.queues.items j ≡ Some before → slice_get new.queues.items j ≡ Some after
            → HoldsGathered tx child after (below supply) (e j) (locked_to numbers at.frame (at.slot + at.len) j) × HoldsBitsOf numbers (source_of at.path (meanings old) supply) at.frame at.slot at.len (columns new) j
        both j child before after here there now =
            still_held tx numbers old.locked at.path plan at.frame at.slot at.len (e j) j child before after (slice_index_or (columns new) j []) (most_of j (known_of j child here)) (carried j before after there now) (meanings old) supply (columns new) is (maker j child here) refl
            (was.made j child before here there) (held j child before here there)
