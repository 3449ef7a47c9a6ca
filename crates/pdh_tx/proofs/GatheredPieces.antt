-- A piece of a frame, from what was gathered.
use Rattle.std.proofs.Common.{◌≡◌, inl, inr, ℕ, suc, ◌+◌, ◌-◌, ◌*◌, ◌<◌, ◌≤◌, Bool, List, [], map, refl, sym, ap, ◌∙◌, subst, arith, Some, slice_get}
use Rattle.std.specs.List.{slice_index_or}
use Rattle.std.proofs.lemmas.Bool.{cases_lt}
use Rattle.std.proofs.lemmas.Option.{slice_get-map}
use Rattle.pdh_shape.specs.declared.place.Path.{Path}
use Rattle.pdh_shape.specs.declared.shape.Shape as shape
use Rattle.pdh_shape.specs.Frame.{FrameShape, IsFrame}
use Rattle.pdh_shape.specs.OwnNumbers.{store_size}
use Rattle.pdh_shape.specs.Tributary.{reads_from, reads_below}
use Rattle.pdh_line.specs.Edits.{Edit}
use Rattle.pdh_line.specs.Sending.{HasStores, Carriage, arrived_in, came_before, taken}
use Rattle.pdh_line.proofs.SameLines.{taken-grows}
use Rattle.pdh_runs.proofs.Counts.{before_grows}
use Rattle.pdh_tx.specs.declared.pieces.Piece.{Piece}
use Rattle.pdh_tx.specs.declared.queue.Queue.{Queue}
use Rattle.pdh_tx.specs.declared.tributaries.Tributaries.{Tributaries}
use Rattle.pdh_tx.specs.declared.tributary.FrameShare.{FrameShare}
use Rattle.pdh_tx.specs.declared.tributary.Tributary.{Tributary}
use Rattle.pdh_tx.specs.declared.tx.Tx.{Ghosts}
use Rattle.pdh_tx.specs.Meaning.{Plan, Supply, Meaning}
use Rattle.pdh_tx.specs.Held.{Readout, with_read, gone_with, put_with}
use Rattle.pdh_tx.specs.Tributary.{meaning_in, child_in, store_in, share_in}
use Rattle.pdh_tx.specs.Slipping.{carriage_in, read_to, HasCome, HoldsMost}
use Rattle.pdh_tx.specs.Node.{IsShare, IsDecided, below, source_of, came_at}
use Rattle.pdh_tx.specs.Passing.{carried_in, edits_by, HoldsBits, HoldsBitsOf, HasRows}
use Rattle.pdh_tx.specs.Tributaries.{meanings, columns, HaveDecided}
use Rattle.pdh_tx.specs.Stored.{stored_kind}
use Rattle.pdh_tx.specs.Batches.{IsBefore, MeetNothing}
use Rattle.pdh_tx.specs.Gathered.{IsGathered, HoldsGathered, arriving_in, CanCarryBits, CarriesBits, Gathered, HoldGathered, CanCarry, Carry}
use Rattle.pdh_tx.specs.laws.Stepping.{taken_is, came_follows, following}
use Rattle.pdh_tx.proofs.BatchSlots.{begins_scheduled}
use Rattle.pdh_tx.proofs.Clearing.{AreClear, piece_unchanged, piece_few, piece_enough}
use Rattle.pdh_tx.proofs.FrameStarts.{meanings as meanings_of}
use Rattle.pdh_tx.proofs.Gathered.{gathered_passes, gathered_holds}
use Rattle.pdh_tx.proofs.Lists.{get_at, transfer_one}
use Rattle.pdh_tx.proofs.Moving.{inside}
use Rattle.pdh_tx.proofs.Passing.{carried_is}
use Rattle.pdh_tx.proofs.PassingAll.{came_grows, holds_from}
use Rattle.pdh_tx.proofs.SlipSteps.{gone-more, put-more}

-- ---- one tributary

-- what has come by the end of a piece is taken by bit `end` of the line
came_within : (s : FrameShape) (frame : IsFrame s) (path : Path) (plan : Plan) (n t len end j : ℕ) → 0 < len → t + len ≤ s.len → n * s.len + t + len ≤ end → came_at s path plan n (t + len) j ≤ taken s (plan.counts path j) end
came_within s frame path plan n t len end j some within upto =
    let v : ℕ = t + len - 1 in
    let last : suc v ≡ t + len = omega (arith, some) in
    let next = following s n v (omega (arith, last, within)) in
    let here : came_before s (plan.counts path j) n (suc v) ≡ taken s (plan.counts path j) (suc (n * s.len + v)) =
    came_follows s n v next.0 next.1 next.2 path plan j frame ∙ sym (taken_is s next.0 next.1 (suc (n * s.len + v)) next.2.place next.2.inside path plan j) in
    omega (arith, here, ap (came_before s (plan.counts path j) n) last, taken-grows s (plan.counts path j) (suc (n * s.len + v)) end frame (omega (arith, upto, last)))

-- the numbers of tributary j in a piece of frame n, of slots from t on, in whose way nothing stands
pub record PieceNumbers (s : FrameShape) (path : Path) (plan : Plan) (n t len end j : ℕ) (share : FrameShare) : Type 0 where
  pub fits : share.arriving ≤ s.len
  pub came : came_at s path plan n t j + arriving_in s share t len ≡ came_at s path plan n (t + len) j
  pub within : came_at s path plan n (t + len) j ≤ taken s (plan.counts path j) end
  pub out : with_read (carried_in s j share.more t len) (read_to s path plan n t j) ≡ read_to s path plan n (t + len) j
  pub unchanged : (v : ℕ) → v ≤ len → edits_by s path plan n (t + v) j ≡ edits_by s path plan n t j
  pub enough : HasCome (read_to s path plan n t j) (came_at s path plan n t j) → HasCome (read_to s path plan n (t + len) j) (came_at s path plan n (t + len) j)
  pub few : HoldsMost (read_to s path plan n t j) (came_at s path plan n t j) store_size → HoldsMost (read_to s path plan n (t + len) j) (came_at s path plan n (t + len) j) store_size

pub piece_numbers : (s : FrameShape) (frame : IsFrame s) → HasStores s → (path : Path) (plan : Plan) (ms : List Meaning) (size : ℕ → ℕ) (n t len end j : ℕ) (share : FrameShare) → MeetNothing (stored_kind s) s ms path plan size n t end → 0 < len → t + len ≤ s.len → n * s.len + t + len ≤ end
    → j < s.tribs → IsShare plan.mode s j (plan.counts path j) n share → PieceNumbers s path plan n t len end j share
piece_numbers s frame stores path plan ms size n t len end j share slots some within upto known is =
    let u : ℕ = t + len in
    let c : Carriage = carriage_in s path plan j in
    let more = share.more in
    let before : (v : ℕ) → v < len → IsBefore s n t end n (t + v) = λ v h. record { inside = omega (arith, h, within); from = omega arith; to = omega (arith, h, upto) } in
    let are : AreClear s frame stores path plan ms size n t len = record { clear = λ v h. slots.clear n (t + v) (before v h); quiet = λ v h. slots.no_slip n (t + v) (before v h) } in
    let unchanged = piece_unchanged s frame stores path plan ms size n t j known is.fits len are in
    let arrives : ℕ → ℕ → ℕ = λ count x. arrived_in s count x in
    let from : arrived_in s share.arriving t ≡ arrived_in s (plan.counts path j n) t = ap (λ k. arrives k t) is.arriving in
    let to : arrived_in s share.arriving u ≡ arrived_in s (plan.counts path j n) u = ap (λ k. arrives k u) is.arriving in
    let grows = came_grows s (plan.counts path j) n t u frame (omega arith) in
    let below_t : reads_below s j more t ≡ reads_below s j (c.more n) t = ap (λ b. reads_below s j b t) is.more in
    let below_u : reads_below s j more u ≡ reads_below s j (c.more n) u = ap (λ b. reads_below s j b u) is.more in
    let reads : (read_to s path plan n t j).read + carried_in s j more t len ≡ (read_to s path plan n u j).read = omega (arith, before_grows (λ x. reads_from j (c.more n) (s.role x)) t u (omega arith), below_t, below_u) in
    record {
      fits = omega (arith, is.arriving, is.fits);
      came = omega (arith, from, to, grows);
      within = came_within s frame path plan n t len end j some within upto;
      out = ap (λ (r : ℕ). record { read = r; edits = (read_to s path plan n t j).edits }) reads ∙ ap (λ (e : List Edit). record { read = (read_to s path plan n u j).read; edits = e }) (sym (unchanged len (omega arith)));
      unchanged = unchanged;
      enough = piece_enough s frame stores path plan ms size n t j known is.fits len are;
      few = piece_few s frame stores path plan ms size n t j known is.fits len are;
    }

module _ {C : Type 0} (tx : Ghosts C) (s : FrameShape) (path : Path) (plan : Plan) (n t len end j : ℕ) (share : FrameShare) (numbers : PieceNumbers s path plan n t len end j share) (child : C) (old : Queue) where
  abbrev carried : ℕ
  carried = carried_in s j share.more t len

  -- the queue has what the piece carries
  pub can_carry : IsGathered tx child old plan (taken s (plan.counts path j) end) (came_at s path plan n t j) (read_to s path plan n t j) → CanCarryBits s j share t len old
  can_carry was =
      let out = read_to s path plan n t j in
      let now = numbers.out in
      let gone : gone_with (read_to s path plan n (t + len) j).edits (read_to s path plan n (t + len) j).read ≡ gone_with out.edits out.read + carried = ap (λ (r : Readout). gone_with r.edits r.read) (sym now) ∙ gone-more out.edits out.read carried in
      let put : put_with (read_to s path plan n (t + len) j).edits (came_at s path plan n (t + len) j) ≡ put_with out.edits (came_at s path plan n t j) + arriving_in s share t len =
      ap (λ (r : Readout). put_with r.edits (came_at s path plan n (t + len) j)) (sym now) ∙ ap (put_with out.edits) (sym numbers.came) ∙ put-more out.edits (came_at s path plan n t j) (arriving_in s share t len) in
      record {
        fits = numbers.fits;
        held = omega (arith, was.rest, numbers.came, numbers.within);
        enough = omega (arith, numbers.enough (omega (arith, was.count)), was.count, gone, put);
      }

  module _ (new : Queue) (column : List Bool) (carries : CarriesBits s j share t len old new column) where
    -- it stands behind it
    pub still_gathered : IsGathered tx child old plan (taken s (plan.counts path j) end) (came_at s path plan n t j) (read_to s path plan n t j) → IsGathered tx child new plan (taken s (plan.counts path j) end) (came_at s path plan n (t + len) j) (read_to s path plan n (t + len) j)
    still_gathered was =
        let e : ℕ = taken s (plan.counts path j) end in
        let passed = gathered_passes tx child old new s j share.more t len (arriving_in s share t len) carries.bits carries.gone carries.fill plan e (came_at s path plan n t j) (read_to s path plan n t j) (can_carry was).held was in
        subst (λ (r : Readout). IsGathered tx child new plan e (came_at s path plan n (t + len) j) r) numbers.out (subst (λ k. IsGathered tx child new plan e k (with_read carried (read_to s path plan n t j))) numbers.came passed)

    -- and its column has the bits of the tributary's slots
    pub still_held : (ms : List Meaning) (supply : Supply) (columns : List (List Bool)) → supply.plan ≡ plan → share.more ≡ (carriage_in s path plan j).more n → slice_get ms j ≡ Some (tx.meaning child) → slice_index_or columns j [] ≡ column
        → IsGathered tx child old plan (taken s (plan.counts path j) end) (came_at s path plan n t j) (read_to s path plan n t j)
        → HoldsGathered tx child old (below supply) (taken s (plan.counts path j) end) (came_at s path plan n t j) (read_to s path plan n t j)
        → HoldsGathered tx child new (below supply) (taken s (plan.counts path j) end) (came_at s path plan n (t + len) j) (read_to s path plan n (t + len) j) × HoldsBitsOf s (source_of path ms supply) n t len columns j
    still_held ms supply columns is more at own placed was =
        let e : ℕ = taken s (plan.counts path j) end in
        let both = gathered_holds tx child old new s j share.more t len (arriving_in s share t len) carries.bits carries.gone carries.fill (below supply) e (came_at s path plan n t j) (read_to s path plan n t j) column (can_carry placed).held carries.fills was in (
          subst (λ (r : Readout). HoldsGathered tx child new (below supply) e (came_at s path plan n (t + len) j) r) numbers.out
              (subst (λ k. HoldsGathered tx child new (below supply) e k (with_read carried (read_to s path plan n t j))) numbers.came both.0),
          holds_from s path ms plan supply n t len j carried share.more (tx.meaning child) columns column is more at own (carried_is s j share.more t len) numbers.unchanged both.1,
        )

-- ---- all of them

module _ {S C : Type 0} {shape : shape.Ghosts S} {tx : Ghosts C} (frame : IsFrame shape.shape) (stores : HasStores shape.shape) (tribs : shape.shape.tribs ≡ shape.TRIBS) (old mid : Tributaries S C shape tx) (plan : Plan) (at : Piece) (end : ℕ) (some : 0 < at.len) (within : at.slot + at.len ≤ shape.shape.len)
    (upto : at.frame * shape.shape.len + at.slot + at.len ≤ end) (was : Gathered old at.path plan at.frame at.slot end) (same_children : map child_in mid.list.items ≡ map child_in old.list.items) (same_queues : mid.queues ≡ old.queues) (decided : HaveDecided mid at.path plan at.frame) where
  abbrev s : FrameShape
  s = shape.shape

  abbrev n : ℕ
  n = at.frame

  abbrev t : ℕ
  t = at.slot

  abbrev u : ℕ
  u = at.slot + at.len

  -- the frame is scheduled
  pub is_scheduled : n < plan.frames at.path
  is_scheduled = elim (cases_lt 0 t) [
    | inl inside ↦ was.scheduled inside
    | inr begins ↦
        let start : t ≡ 0 = omega (arith, begins) in
        begins_scheduled s frame at.path plan (meanings old) was.size n t end was.slots n (record { inside = frame.some_slots; from = omega (arith, start); to = omega (arith, start, upto, some) })
  ]

  known_of : (j : ℕ) (w : Tributary C) → slice_get mid.list.items j ≡ Some w → j < s.tribs
  known_of j w here = omega (arith, inside mid.list.items j w here, mid.count, tribs)

  numbers_of : (j : ℕ) (w : Tributary C) → slice_get mid.list.items j ≡ Some w → PieceNumbers s at.path plan n t at.len end j w.share
  numbers_of j w here = piece_numbers s frame stores at.path plan (meanings old) was.size n t at.len end j w.share was.slots some within upto (known_of j w here) (decided j w here)

  -- they stand gathered before the piece, after its frame began
  mid_made : (j : ℕ) (w : Tributary C) (queue : Queue) → slice_get mid.list.items j ≡ Some w → slice_get mid.queues.items j ≡ Some queue
      → IsGathered tx w.child queue plan (taken s (plan.counts at.path j) end) (came_at s at.path plan n t j) (read_to s at.path plan n t j)
  mid_made j w queue here there =
      transfer_one child_in (λ child j. (queue : Queue) → slice_get mid.queues.items j ≡ Some queue → IsGathered tx child queue plan (taken s (plan.counts at.path j) end) (came_at s at.path plan n t j) (read_to s at.path plan n t j))
      old.list.items mid.list.items same_children (λ j w here queue there. was.made j w queue here (ap (λ queues. slice_get queues.items j) (sym same_queues) ∙ there)) j w here queue there

  pub can_carry_all : (j : ℕ) → CanCarry mid at j
  can_carry_all j w queue here there = can_carry tx s at.path plan n t at.len end j w.share (numbers_of j w here) w.child queue (mid_made j w queue here there)

  module _ (new : Tributaries S C shape tx) (same_list : new.list ≡ mid.list) (same_stores : map store_in mid.list.items ≡ map store_in old.list.items) (carried : (j : ℕ) → Carry mid new at j) where
    was_here : (j : ℕ) (w : Tributary C) → slice_get new.list.items j ≡ Some w → slice_get mid.list.items j ≡ Some w
    was_here j w here = ap (λ list. slice_get list.items j) (sym same_list) ∙ here

    queue_before : (j : ℕ) (queue : Queue) → slice_get new.queues.items j ≡ Some queue → (before : Queue) × (slice_get mid.queues.items j ≡ Some before)
    queue_before j queue there = get_at mid.queues.items j (omega (arith, inside new.queues.items j queue there, new.queue_count, mid.queue_count))

    same_meanings : meanings mid ≡ meanings old
    same_meanings = meanings_of tx mid.list.items ∙ ap (map tx.meaning) same_children ∙ sym (meanings_of tx old.list.items)

    pub piece_gathered : Gathered new at.path plan n u end
    piece_gathered =
        let P : List Meaning → Type 0 = λ ms. MeetNothing (stored_kind s) s ms at.path plan was.size n u end in
        let later : (m v : ℕ) → IsBefore s n u end m v → IsBefore s n t end m v = λ m v is. record { inside = is.inside; from = omega (arith, is.from); to = is.to } in
        let slots : P (meanings old) = record { clear = λ m v is. was.slots.clear m v (later m v is); no_slip = λ m v is. was.slots.no_slip m v (later m v is) } in
        let same_new : meanings new ≡ meanings old = ap (λ list. map (meaning_in tx) list.items) same_list ∙ same_meanings in
        record {
          made = λ j w queue here there.
              let before = queue_before j queue there in
              let w_here = was_here j w here in
              still_gathered tx s at.path plan n t at.len end j w.share (numbers_of j w w_here) w.child before.0 queue (slice_index_or (columns new) j []) (carried j w before.0 queue w_here before.1 there) (mid_made j w before.0 w_here before.1);
          empty = λ j w here.
              transfer_one store_in (λ store j. store ≡ []) old.list.items mid.list.items same_stores was.empty j w (was_here j w here);
          few = λ j known.
              let one = get_at mid.list.items j (omega (arith, mid.count, tribs, known)) in
              (numbers_of j one.0 one.1).few (was.few j known);
          decided = λ h. subst (λ list. IsDecided share_in s at.path plan n list.items) (sym same_list) decided;
          scheduled = λ h. is_scheduled;
          bounded = was.bounded;
          upto = omega (arith, upto);
          some = was.some;
          size = was.size;
          slots = subst P (sym same_new) slots;
        }

    pub piece_rows : HasRows s t at.len (columns new) s.tribs
    piece_rows j known =
        let w = get_at mid.list.items j (omega (arith, mid.count, tribs, known)) in
        let before = get_at mid.queues.items j (omega (arith, mid.queue_count, tribs, known)) in
        let after = get_at new.queues.items j (omega (arith, new.queue_count, tribs, known)) in
        (carried j w.0 before.0 after.0 w.1 before.1 after.1).rows

    -- and so is what they hold, and the columns have the bits of the payload slots
    pub piece_held : (supply : Supply) → supply.plan ≡ plan → HoldGathered old at.path plan supply n t end → HoldGathered new at.path plan supply n u end × HoldsBits s (source_of at.path (meanings old) supply) n t at.len (columns new) s.tribs
    piece_held supply is held = (
      λ j w queue here there.
          let before = queue_before j queue there in
          (both j w before.0 queue (was_here j w here) before.1 there).0,
      λ j known.
          let w = get_at mid.list.items j (omega (arith, mid.count, tribs, known)) in
          let before = get_at mid.queues.items j (omega (arith, mid.queue_count, tribs, known)) in
          let after = get_at new.queues.items j (omega (arith, new.queue_count, tribs, known)) in
          (both j w.0 before.0 after.0 w.1 before.1 after.1).1,
    )
      where
        held_mid : (j : ℕ) (w : Tributary C) (queue : Queue) → slice_get mid.list.items j ≡ Some w → slice_get mid.queues.items j ≡ Some queue
            → HoldsGathered tx w.child queue (below supply) (taken s (plan.counts at.path j) end) (came_at s at.path plan n t j) (read_to s at.path plan n t j)
        held_mid j w queue here there =
            transfer_one child_in (λ child j. (queue : Queue) → slice_get mid.queues.items j ≡ Some queue → HoldsGathered tx child queue (below supply) (taken s (plan.counts at.path j) end) (came_at s at.path plan n t j) (read_to s at.path plan n t j))
            old.list.items mid.list.items same_children (λ j w here queue there. held j w queue here (ap (λ queues. slice_get queues.items j) (sym same_queues) ∙ there)) j w here queue there

        maker : (j : ℕ) (w : Tributary C) → slice_get mid.list.items j ≡ Some w → slice_get (meanings old) j ≡ Some (tx.meaning w.child)
        maker j w here = ap (λ ms. slice_get ms j) (sym same_meanings) ∙ slice_get-map (meaning_in tx) mid.list.items j ∙ rw here refl

        both : (j : ℕ) (w : Tributary C) (before after : Queue) → slice_get mid.list.items j ≡ Some w → slice_get mid.queues.items j ≡ Some before → slice_get new.queues.items j ≡ Some after
            → HoldsGathered tx w.child after (below supply) (taken s (plan.counts at.path j) end) (came_at s at.path plan n u j) (read_to s at.path plan n u j) × HoldsBitsOf s (source_of at.path (meanings old) supply) n t at.len (columns new) j
        both j w before after here there now =
            still_held tx s at.path plan n t at.len end j w.share (numbers_of j w here) w.child before after (slice_index_or (columns new) j []) (carried j w before after here there now) (meanings old) supply (columns new) is (decided j w here).more (maker j w here) refl
            (mid_made j w before here there) (held_mid j w before here there)
