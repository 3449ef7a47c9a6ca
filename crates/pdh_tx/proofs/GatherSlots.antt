-- The tributaries of a multiplexer gather the bits of many frames, and put back what is left of them.
use mathlib.Core.Path.{fun_ext}
use Rattle.std.proofs.Common.{◌≡◌, inl, inr, ℕ, ◌+◌, ◌*◌, ◌<◌, ◌≤◌, ◌^◌, true, false, List, length, map, refl, sym, ap, ◌∙◌, subst, arith, Some, slice_get}
use Rattle.std.proofs.lemmas.Bool.{cases_lt}
use Rattle.std.proofs.lemmas.List.{length-map}
use Rattle.pdh_edge.specs.Ports.{Inputs}
use Rattle.pdh_shape.specs.declared.place.Path.{Path}
use Rattle.pdh_shape.specs.declared.shape.Shape as shape
use Rattle.pdh_shape.specs.Frame.{FrameShape, IsFrame}
use Rattle.pdh_line.specs.Sending.{taken}
use Rattle.pdh_tx.specs.declared.queue.Queue.{Queue}
use Rattle.pdh_tx.specs.declared.quiet.NextBits.{NextBits}
use Rattle.pdh_tx.specs.declared.tributaries.Tributaries.{Tributaries}
use Rattle.pdh_tx.specs.declared.tributary.FrameShare.{FrameShare}
use Rattle.pdh_tx.specs.declared.tributary.Tributary.{Tributary}
use Rattle.pdh_tx.specs.declared.tx.Tx.{Ghosts}
use Rattle.pdh_tx.specs.declared.tx.TxStop.TheVariants.{Failed}
use Rattle.pdh_tx.specs.Meaning.{Meaning, Plan, Supply, Agrees}
use Rattle.pdh_tx.specs.Slipping.{read_to}
use Rattle.pdh_tx.specs.Tributary.{placed_in, held_in, meaning_in, child_in, share_in}
use Rattle.pdh_tx.specs.Node.{below, any_leaf, given_by, came_at, IsShare, EachHeld, Stays}
use Rattle.pdh_tx.specs.Passing.{up_to}
use Rattle.pdh_tx.specs.Tributaries.{meanings, StandBefore, HoldToHere}
use Rattle.pdh_tx.specs.Stored.{stored_kind}
use Rattle.pdh_tx.specs.Batches.{batch, MeetNothing, AreSlotsClear, GathersSlots, HaltsGathering}
use Rattle.pdh_tx.specs.Gathered.{IsGathered, HoldsGathered, Progress, progress_at, placed_by, held_by, made_before, made_behind, pairs, HaveGathered, CanGather, GatherAll, FailGathering, Gathered, HoldGathered, IsLeftOver, HasLeft}
use Rattle.pdh_tx.specs.laws.Stepping.{taken_is, taken_later}
use Rattle.pdh_tx.proofs.BatchSlots.{taken_most, child_clears}
use Rattle.pdh_tx.proofs.Gathered.{scattered_placed, scattered_held}
use Rattle.pdh_tx.proofs.Gathering.{zip_parts, zip_at}
use Rattle.pdh_tx.proofs.Lists.{get_at, transfer_one}
use Rattle.pdh_tx.proofs.Moving.{inside, given_same}
use Rattle.pdh_tx.proofs.PassingAll.{upto_past, upto_below}

-- the next bits, in numbers of other widths
pub next_place : (len frame slot wide f t : ℕ) → wide ≡ len → f ≡ frame → t ≡ slot → f * wide + t ≡ frame * len + slot
next_place len frame slot wide f t same whole part = (let place : f * wide ≡ frame * len = ap (λ n. n * wide) whole ∙ ap (λ n. frame * n) same in omega (arith, place, part))

module _ {S C : Type 0} {shape : shape.Ghosts S} {tx : Ghosts C} (frame : IsFrame shape.shape) (tribs : shape.shape.tribs ≡ shape.TRIBS) (old : Tributaries S C shape tx) (plan : Plan) (next : NextBits) (count : ℕ) (a : Inputs) (within : next.slot < shape.shape.len) (some : 0 < count) (end_is : next.end ≡ next.frame * shape.shape.len + next.slot + count)
    (was : StandBefore old next.path plan next.frame next.slot) (clear : AreSlotsClear (stored_kind shape.shape) shape.shape (meanings old) next.path plan next.frame next.slot next.end a) where
  abbrev s : FrameShape
  s = shape.shape

  abbrev n : ℕ
  n = next.frame

  abbrev t : ℕ
  t = next.slot

  abbrev f : ℕ → ℕ
  f = made_before s plan next

  abbrev f' : ℕ → ℕ
  f' = made_behind s plan next

  abbrev h : ℕ → Progress
  h = progress_at false s next.path plan n t

  abbrev h' : ℕ → Progress
  h' = progress_at true s next.path plan n t

  -- none has gathered yet
  pub none_gathered : HaveGathered old plan next 0
  none_gathered j p e =
      let parts = zip_parts old.list.items old.queues.items j p e in
      let M : ℕ → Type 0 = λ k. placed_by tx p plan k (up_to h h' 0 j) in
      let N : Progress → Type 0 = λ r. placed_by tx p plan (f j) r in
      subst M (sym (upto_past f f' 0 j (omega arith))) (subst N (sym (upto_past h h' 0 j (omega arith))) (was.made j p.0 parts.0))

  -- and nothing stands in the way of each
  pub each_can : ((m : ℕ) (j : ℕ) → plan.counts next.path j m ≤ s.len) → count ≤ batch * s.len → (j : ℕ) → CanGather old plan next a j
  each_can fits few j m here =
      let known : j < s.tribs = omega (arith, inside (meanings old) j m here, length-map old.list.items (meaning_in tx), old.count, tribs) in
      let made : taken s (plan.counts next.path j) (n * s.len + t) ≡ f j = taken_is s n t (n * s.len + t) refl within next.path plan j in
      record {
        clear = child_clears tx s frame next.path plan (meanings old) n t next.end a j m old.disjoint within (omega (arith, end_is)) known (λ k. fits k j) here clear;
        few = omega (arith, taken_most s frame next.path plan j (λ k. fits k j) (n * s.len + t) count, made, ap (taken s (plan.counts next.path j)) end_is, few);
      }

  before_all : up_to f f' 0 ≡ f
  before_all = fun_ext (λ j. upto_past f f' 0 j (omega arith))

  -- ---- they gathered

  module _ (new : Tributaries S C shape tx) (b : Inputs) (same : meanings new ≡ meanings old) (shares : map share_in new.list.items ≡ map share_in old.list.items) (all : GatherAll old new plan next shape.TRIBS a b) where
    known_of : (j : ℕ) (w : Tributary C) → slice_get new.list.items j ≡ Some w → j < shape.TRIBS
    known_of j w here = omega (arith, inside new.list.items j w here, new.count)

    made_all : (j : ℕ) (w : Tributary C) (queue : Queue) → slice_get new.list.items j ≡ Some w → slice_get new.queues.items j ≡ Some queue
        → IsGathered tx w.child queue plan (taken s (plan.counts next.path j) next.end) (came_at s next.path plan n t j) (read_to s next.path plan n t j)
    made_all j w queue here there =
        let known : j < shape.TRIBS = known_of j w here in
        let M : ℕ → Type 0 = λ k. placed_by tx (w, queue) plan k (up_to h h' shape.TRIBS j) in
        let N : Progress → Type 0 = λ r. placed_by tx (w, queue) plan (f' j) r in
        subst N (upto_below h h' shape.TRIBS j known) (subst M (upto_below f f' shape.TRIBS j known) (all.placed j (w, queue) (zip_at new.list.items new.queues.items j w queue here there)))

    pub all_gathered : plan.frames next.path < 2 ^ 64 → Gathered new next.path plan n t next.end
    all_gathered bounded =
        let P : List Meaning → Type 0 = λ ms. MeetNothing (stored_kind s) s ms next.path plan clear.size n t next.end in
        record {
          made = made_all;
          empty = λ j w here. all.emptied.stores j w (known_of j w here) here;
          few = λ j known.
              let one = get_at new.list.items j (omega (arith, new.count, tribs, known)) in
              let queue = get_at new.queues.items j (omega (arith, new.queue_count, tribs, known)) in
              omega (arith, (made_all j one.0 queue.0 one.1 queue.1).count, all.emptied.few j queue.0 (omega (arith, tribs, known)) queue.1);
          decided = λ inside. transfer_one share_in (λ (share : FrameShare) j. IsShare plan.mode s j (plan.counts next.path j) n share) old.list.items new.list.items shares (was.decided inside);
          scheduled = was.scheduled;
          bounded = bounded;
          upto = omega (arith, end_is);
          some = omega (arith, end_is, some);
          size = clear.size;
          slots = subst P (sym same) clear.slots;
        }

    pub all_exact : (k : ℕ) → any_leaf (meanings old) k ≡ true → given_by (meanings old) plan f k + length (all.gathers.given k) ≡ given_by (meanings old) plan f' k
    all_exact k leaf =
        let ms : List Meaning = meanings old in
        let last : given_by ms plan (up_to f f' shape.TRIBS) k ≡ given_by ms plan f' k = given_same ms plan (up_to f f' shape.TRIBS) f' k
        (λ j m at leaf. ap (λ x. m.given plan x k) (upto_below f f' shape.TRIBS j (omega (arith, inside ms j m at, length-map old.list.items (meaning_in tx), old.count)))) in
        omega (arith, all.gathers.exact k leaf, ap (λ made. given_by ms plan made k) before_all, last)

    pub all_held : (supply : Supply) → supply.plan ≡ plan → HoldToHere old next.path plan supply n t → Agrees (any_leaf (meanings old)) supply.lists (given_by (meanings old) plan f) all.gathers.given → HoldGathered new next.path plan supply n t next.end
    all_held supply is held agrees j w queue here there =
        let known : j < shape.TRIBS = known_of j w here in
        let A : (ℕ → ℕ) → Type 0 = λ made. Agrees (any_leaf (meanings old)) supply.lists (given_by (meanings old) plan made) all.gathers.given in
        let start : EachHeld (held_by tx) (pairs old) (below supply) (up_to f f' 0) (up_to h h' 0) = λ j p e.
        let parts = zip_parts old.list.items old.queues.items j p e in
        let M : ℕ → Type 0 = λ k. held_by tx p (below supply) k (up_to h h' 0 j) in
        let N : Progress → Type 0 = λ r. held_by tx p (below supply) (f j) r in
        subst M (sym (upto_past f f' 0 j (omega arith))) (subst N (sym (upto_past h h' 0 j (omega arith))) (held j p.0 parts.0)) in
        let both = all.gathers.onward supply is start (subst A (sym before_all) agrees) in
        let M : ℕ → Type 0 = λ k. held_by tx (w, queue) (below supply) k (up_to h h' shape.TRIBS j) in
        let N : Progress → Type 0 = λ r. held_by tx (w, queue) (below supply) (f' j) r in
        subst N (upto_below h h' shape.TRIBS j known) (subst M (upto_below f f' shape.TRIBS j known) (both.0 j (w, queue) (zip_at new.list.items new.queues.items j w queue here there)))

    pub all_slots : plan.frames next.path < 2 ^ 64
        → GathersSlots (stored_kind s) (λ (ts : Tributaries S C shape tx). meanings ts) (λ (ts : Tributaries S C shape tx). Gathered ts) (λ (ts : Tributaries S C shape tx). HoldToHere ts) (λ (ts : Tributaries S C shape tx). HoldGathered ts) old new next.path plan n t next.end a b
    all_slots bounded = record {
      given = all.gathers.given;
      takes = all.gathers.takes;
      others = all.gathers.others;
      exact = all_exact;
      place = all_gathered bounded;
      onward = all_held;
    }

  pub all_halts : (b : Inputs) → FailGathering old plan next 0 a b → HaltsGathering (stored_kind s) (meanings old) next.path plan n t next.end a b
  all_halts b stays = subst (λ (made : ℕ → ℕ). Stays (meanings old) plan made f' Failed a b) before_all stays

-- ---- back into the stores

module _ {S C : Type 0} {shape : shape.Ghosts S} {tx : Ghosts C} (tribs : shape.shape.tribs ≡ shape.TRIBS) (old : Tributaries S C shape tx) (path : Path) (plan : Plan) (n t : ℕ) (within : t < shape.shape.len) (was : Gathered old path plan n t (n * shape.shape.len + t)) where
  abbrev numbers : FrameShape
  numbers = shape.shape

  abbrev all : ℕ
  all = n * shape.shape.len + t

  later : 0 < n + t
  later = elim (cases_lt 0 (n + t)) [
    | inl more ↦ more
    | inr none ↦ (let first : n ≡ 0 = omega (arith, none) in let whole : n * numbers.len ≡ 0 = ap (λ m. m * numbers.len) first ∙ omega arith in absurd (omega (arith, was.some, whole, none)))
  ]

  -- all bits that were gathered have come
  come : (j : ℕ) → taken numbers (plan.counts path j) all ≡ came_at numbers path plan n t j
  come j = taken_is numbers n t all refl within path plan j ∙ taken_later numbers path plan n t j later

  carried : (j : ℕ) (child : C) (queue : Queue) → IsGathered tx child queue plan (taken numbers (plan.counts path j) all) (came_at numbers path plan n t j) (read_to numbers path plan n t j) → queue.gone + queue.fill ≡ length queue.bits.bits
  carried j child queue is = omega (arith, is.rest, come j)

  pub left_over : (j : ℕ) → IsLeftOver old j
  left_over j w queue here there =
      let is = was.made j w queue here there in
      record {
        empty = was.empty j w here;
        all = carried j w.child queue is;
        few = omega (arith, is.count, was.few j (omega (arith, inside old.list.items j w here, old.count, tribs)));
      }

  module _ (new : Tributaries S C shape tx) (children : map child_in new.list.items ≡ map child_in old.list.items) (shares : map share_in new.list.items ≡ map share_in old.list.items) (queues : new.queues ≡ old.queues) (stores : (j : ℕ) → HasLeft new j) where
    queue_of : (j : ℕ) (w : Tributary C) → slice_get new.list.items j ≡ Some w → (queue : Queue) × (slice_get new.queues.items j ≡ Some queue)
    queue_of j w here = get_at new.queues.items j (omega (arith, inside new.list.items j w here, new.count, new.queue_count))

    still_made : (j : ℕ) (w : Tributary C) (queue : Queue) → slice_get new.list.items j ≡ Some w → slice_get new.queues.items j ≡ Some queue
        → IsGathered tx w.child queue plan (taken numbers (plan.counts path j) all) (came_at numbers path plan n t j) (read_to numbers path plan n t j)
    still_made j w queue here there =
        transfer_one child_in (λ child j. (queue : Queue) → slice_get new.queues.items j ≡ Some queue → IsGathered tx child queue plan (taken numbers (plan.counts path j) all) (came_at numbers path plan n t j) (read_to numbers path plan n t j))
        old.list.items new.list.items children (λ j w here queue there. was.made j w queue here (ap (λ queues. slice_get queues.items j) (sym queues) ∙ there)) j w here queue there

    pub scattered_before : StandBefore new path plan n t
    scattered_before = record {
      made = λ j w here.
          let queue = queue_of j w here in
          let is = still_made j w queue.0 here queue.1 in
          let placed = scattered_placed tx w w queue.0 refl (stores j w queue.0 here queue.1) (carried j w.child queue.0 is) plan (taken numbers (plan.counts path j) all) (came_at numbers path plan n t j) (read_to numbers path plan n t j) is in
          subst (λ k. placed_in tx w plan k (read_to numbers path plan n t j)) (sym (taken_later numbers path plan n t j later)) placed.1;
      decided = λ inside. transfer_one share_in (λ (share : FrameShare) j. IsShare plan.mode numbers j (plan.counts path j) n share) old.list.items new.list.items shares (was.decided inside);
      scheduled = was.scheduled;
      bounded = λ inside. omega (arith, was.scheduled inside, was.bounded);
    }

    pub scattered_here : (supply : Supply) → HoldGathered old path plan supply n t all → HoldToHere new path plan supply n t
    scattered_here supply held j w here =
        let queue = queue_of j w here in
        let is = still_made j w queue.0 here queue.1 in
        let now = transfer_one child_in (λ child j. (queue : Queue) → slice_get new.queues.items j ≡ Some queue → HoldsGathered tx child queue (below supply) (taken numbers (plan.counts path j) all) (came_at numbers path plan n t j) (read_to numbers path plan n t j))
        old.list.items new.list.items children (λ j w here queue there. held j w queue here (ap (λ queues. slice_get queues.items j) (sym queues) ∙ there)) j w here queue.0 queue.1 in
        let back = scattered_held tx w w queue.0 refl (stores j w queue.0 here queue.1) (carried j w.child queue.0 is) (below supply) (taken numbers (plan.counts path j) all) (came_at numbers path plan n t j) (read_to numbers path plan n t j) (come j) now in
        subst (λ k. held_in tx w (below supply) k (read_to numbers path plan n t j)) (sym (taken_later numbers path plan n t j later)) back
