-- Children without stores that gather the bits of many frames, one after another.
use mathlib.Core.Path.{fun_ext}
use Rattle.std.proofs.Common.{◌≡◌, inl, inr, ℕ, suc, ◌+◌, ◌-◌, ◌*◌, ◌/◌, ◌%◌, ◌<◌, ◌≤◌, ◌^◌, Bool, true, false, List, length, map, drop, eqb, refl, sym, ap, ◌∙◌, subst, arith, Some, slice_get, slice_set}
use Rattle.std.specs.List.{zip}
use Rattle.std.proofs.lemmas.Nat.{div-add-mod', mod_below}
use Rattle.std.proofs.lemmas.List.{length-map}
use Rattle.std.proofs.lemmas.Bool.{cases_lt}
use Rattle.std.proofs.Math.Nat.{add-mul, mul-le-mul_right}
use Rattle.pdh_edge.specs.Ports.{Inputs}
use Rattle.pdh_shape.specs.declared.place.Path.{Path}
use Rattle.pdh_shape.specs.declared.shape.Shape as shape
use Rattle.pdh_shape.specs.Frame.{FrameShape, IsFrame}
use Rattle.pdh_shape.specs.Tributary.{HasTributaries, reads_from, reads_below}
use Rattle.pdh_line.proofs.FrameBounds.{lt_of_mul}
use Rattle.pdh_line.specs.Sending.{Source}
use Rattle.pdh_tx.specs.declared.queue.Queue.{Queue}
use Rattle.pdh_tx.specs.declared.tx.Tx.{Ghosts}
use Rattle.pdh_tx.specs.declared.tx.TxStop.TheVariants.{Failed}
use Rattle.pdh_tx.specs.Batches.{batch, MeetNothing, AreSlotsClear, GathersSlots, HaltsGathering}
use Rattle.pdh_tx.specs.Gathered.{waiting_in}
use Rattle.pdh_tx.specs.Held.{IsPart, Gains}
use Rattle.pdh_tx.specs.Making.{IsClear, MakesAll}
use Rattle.pdh_tx.specs.Meaning.{Meaning, Plan, Supply, Agrees}
use Rattle.pdh_tx.specs.Node.{below, any_leaf, given_by, IsDisjoint, EachPlaced, EachHeld, Stays}
use Rattle.pdh_tx.specs.Passing.{up_to, Passes}
use Rattle.pdh_tx.proofs.Advancing.{upto_here}
use Rattle.pdh_tx.proofs.Gathering.{zip_parts, zip_at, zip_set, map_zip}
use Rattle.pdh_tx.proofs.Moving.{inside, given_same}
use Rattle.pdh_runs.proofs.Counts.{before_most}
use Rattle.pdh_tx.proofs.PassingAll.{placed_one, passes_one, upto_past, upto_below}
use Rattle.pdh_locked.specs.declared.children.Children.{Children}
use Rattle.pdh_locked.specs.declared.gathering.NextSlots.{NextSlots}
use Rattle.pdh_locked.specs.Children.{Stands, held_in, locked_kind, meanings, StandBefore, HoldsTo}
use Rattle.pdh_locked.specs.Gathered.{IsGathered, HoldsGathered, GathersBits, Progress, placed_by, held_by, AreNextSlots, read_before, read_behind, progress_at, pairs, HaveGathered, CanGather, GatherAll, FailGathering, Gathered, HoldGathered}
use Rattle.pdh_locked.specs.laws.LockedLaws.{below_grows, reads_most, locked_is}
use Rattle.pdh_locked.proofs.BatchSlots.{by, by_most, child_clears}

-- ---- slots over the ends of frames

-- no fewer bits are read behind the slots
pub slots_grow : (s : FrameShape) → HasTributaries s → (slots : NextSlots) (j : ℕ) → AreNextSlots s slots → read_before s slots j ≤ read_behind s slots j
slots_grow s has slots j is =
    let lows : (slots.frame + slots.frames) * s.low ≡ slots.frame * s.low + slots.frames * s.low = add-mul slots.frame slots.frames s.low in
    elim (cases_lt 0 slots.frames) [
      | inl some ↦
          let whole : 1 * s.low ≤ slots.frames * s.low = mul-le-mul_right s.low some in
          let one : 1 * s.low ≡ s.low = omega arith in
          omega (arith, lows, whole, one, reads_most s has j slots.slot (omega (arith, is.inside)))
      | inr none ↦
          let same : slots.frames ≡ 0 = omega (arith, none) in
          let wide : slots.frames * s.len ≡ 0 = ap (λ k. k * s.len) same ∙ omega arith in
          let low : slots.frames * s.low ≡ 0 = ap (λ k. k * s.low) same ∙ omega arith in
          omega (arith, lows, low, below_grows s j slots.slot slots.end (omega (arith, is.longer, wide)))
    ]

-- so many slots from one on, up to the slot behind them
pub slots_of : (s : FrameShape) (frame : IsFrame s) (n t count wide : ℕ) → wide ≡ s.len → t < s.len → 0 < count → count ≤ batch * s.len → AreNextSlots s (record { frame = n; slot = t; frames = (t + count) / wide; end = (t + count) % wide })
slots_of s frame n t count wide same inside some few =
    let whole : (t + count) / s.len * s.len + (t + count) % s.len ≡ t + count = div-add-mod' (t + count) s.len in
    subst (λ w. AreNextSlots s (record { frame = n; slot = t; frames = (t + count) / w; end = (t + count) % w })) (sym same)
    (record {
      inside = inside;
      behind = mod_below (t + count) s.len frame.some_slots;
      longer = omega (arith, whole, some);
      few = omega (arith, whole, few);
    })

pub slots_end : (s : FrameShape) (n t count wide : ℕ) → wide ≡ s.len → (n + (t + count) / wide) * s.len + (t + count) % wide ≡ n * s.len + t + count
slots_end s n t count wide same =
    let whole : (t + count) / s.len * s.len + (t + count) % s.len ≡ t + count = div-add-mod' (t + count) s.len in
    let frames : (n + (t + count) / s.len) * s.len ≡ n * s.len + (t + count) / s.len * s.len = add-mul n ((t + count) / s.len) s.len in
    ap (λ w. (n + (t + count) / w) * s.len + (t + count) % w) same ∙ omega (arith, whole, frames)

-- how many bits are read of a child with the slots, by the frames' numbers
pub record SlotsNumbers (s : FrameShape) (slots : NextSlots) (j LOW before behind : ℕ) : Type 0 where
  pub many : slots.frames ≤ batch
  pub enough : before ≤ slots.frames * LOW + behind
  pub all : read_before s slots j + (slots.frames * LOW + behind - before) ≡ read_behind s slots j
  pub few : slots.frames * LOW + behind - before ≤ batch * s.len
  pub fits : slots.frames * LOW + behind ≤ batch * s.len + s.len

pub slots_numbers : (s : FrameShape) (frame : IsFrame s) (has : HasTributaries s) → eqb s.copies 0 ≡ true → (path : Path) (plan : Plan) (slots : NextSlots) (j LOW before behind : ℕ) → AreNextSlots s slots → j < s.tribs → s.low ≡ LOW
    → reads_below s j false 0 + before ≡ reads_below s j false (0 + slots.slot) → reads_below s j false 0 + behind ≡ reads_below s j false (0 + slots.end) → SlotsNumbers s slots j LOW before behind
slots_numbers s frame has locked path plan slots j LOW before behind is known low first last =
    let n : ℕ = slots.frame in
    let m : ℕ = slots.frame + slots.frames in
    let start : ℕ = n * s.len + slots.slot in
    let end : ℕ = m * s.len + slots.end in
    let count : ℕ = end - start in
    let frames : m * s.len ≡ n * s.len + slots.frames * s.len = add-mul n slots.frames s.len in
    let lows : m * s.low ≡ n * s.low + slots.frames * s.low = add-mul n slots.frames s.low in
    let wide : slots.frames * s.low ≡ slots.frames * LOW = ap (λ k. slots.frames * k) low in
    let whole : start + count ≡ end = omega (arith, frames, is.longer) in
    let from : by s frame has locked path plan j known start ≡ read_before s slots j = locked_is s n slots.slot start refl is.inside locked (plan.counts path j) j in
    let to : by s frame has locked path plan j known end ≡ read_behind s slots j = locked_is s m slots.end end refl is.behind locked (plan.counts path j) j in
    let same : by s frame has locked path plan j known (start + count) ≡ by s frame has locked path plan j known end = ap (by s frame has locked path plan j known) whole in
    let grows = slots_grow s has slots j is in
    let most : read_behind s slots j ≤ read_before s slots j + count = omega (arith, by_most s frame has locked path plan j known start count, same, from, to) in
    let zero : reads_below s j false 0 ≡ 0 = refl in
    let from_slot : 0 + slots.slot ≡ slots.slot = omega arith in
    let to_slot : 0 + slots.end ≡ slots.end = omega arith in
    let at_first : reads_below s j false (0 + slots.slot) ≡ reads_below s j false slots.slot = ap (reads_below s j false) from_slot in
    let at_last : reads_below s j false (0 + slots.end) ≡ reads_below s j false slots.end = ap (reads_below s j false) to_slot in
    let up : suc batch * s.len ≡ batch * s.len + s.len = omega arith in
    record {
      many = (let less : slots.frames < suc batch = lt_of_mul slots.frames (suc batch) s.len (omega (arith, is.few, is.inside, up)) in omega (arith, less));
      enough = omega (arith, grows, lows, wide, first, last, zero, at_first, at_last);
      all = omega (arith, grows, lows, wide, first, last, zero, at_first, at_last);
      few = omega (arith, grows, most, lows, wide, first, last, zero, at_first, at_last, frames, is.few);
      fits = omega (arith, grows, most, lows, wide, first, last, zero, at_first, at_last, frames, is.few, is.inside, before_most (λ x. reads_from j false (s.role x)) slots.slot);
    }

-- ---- one child

-- its bits stand in the queue
pub gathers : {C : Type 0} (tx : Ghosts C) (old new : C) (queue : Queue) (plan : Plan) (count made : ℕ) (a b : Inputs) (bits : List Bool) → tx.meaning new ≡ tx.meaning old → tx.says new ≡ tx.says old → tx.is_stopped new ≡ false → queue.bits.bits ≡ bits → queue.gone ≡ 0 → length bits ≡ count
    → Stands tx old plan made → MakesAll (tx.meaning old) (tx.says old) (tx.stands_at new plan) (tx.stands_for old) (tx.stands_for new) plan made (made + count) bits a b → GathersBits tx old new queue plan count made a b
gathers tx old new queue plan count made a b bits same says runs is none long was makes =
    let waits : waiting_in queue ≡ bits = ap (λ n. drop n queue.bits.bits) none ∙ is in
    record {
      placed = record {
        runs = runs;
        idles = says ∙ was.idles;
        place = makes.place;
        within = omega (arith, none);
        rest = omega (arith, none, ap length is, long);
      };
      gains = record {
        given = makes.given;
        takes = makes.gives.takes;
        others = makes.gives.others;
        exact = makes.gives.exact;
        onward = λ supply plan_is held agrees.
            let next = makes.onward supply (record { plan_is = plan_is; said = λ y l h n e. held.quiet n ∙ sym was.idles; stands = held.made_for; agrees = agrees }) in
            let Q : Meaning → Type 0 = λ m. IsPart (m.line supply) bits made in
            record {
              quiet = held.quiet;
              made_for = next.1;
              holds = subst (λ (l : List Bool). IsPart ((tx.meaning new).line supply) l made) (sym waits) (subst Q (sym same) next.0);
            };
      };
    }

module _ {S C : Type 0} {shape : shape.Ghosts S} {tx : Ghosts C} (old : Children S C shape tx) (plan : Plan) (slots : NextSlots) (i : ℕ) (w : C) (q : Queue) (here : slice_get old.list.items i ≡ Some w) (there : slice_get old.queues.items i ≡ Some q) where
  abbrev f : ℕ → ℕ
  f = read_before shape.shape slots

  abbrev f' : ℕ → ℕ
  f' = read_behind shape.shape slots

  abbrev h : ℕ → Progress
  h = progress_at shape.shape slots false

  abbrev h' : ℕ → Progress
  h' = progress_at shape.shape slots true

  abbrev meaning : C × Queue → Meaning
  meaning p = tx.meaning p.0

  meanings_are : map meaning (pairs old) ≡ meanings old
  meanings_are = map_zip tx.meaning old.list.items old.queues.items (old.count ∙ sym old.queue_count)

  -- it stands before the slots
  pub stands_one : HaveGathered old plan slots i → Stands tx w plan (f i)
  stands_one placed =
      let was = placed i (w, q) (zip_at old.list.items old.queues.items i w q here there) in
      let M : ℕ → Type 0 = λ n. placed_by tx (w, q) plan n (up_to h h' i i) in
      let N : Progress → Type 0 = λ p. placed_by tx (w, q) plan (f i) p in
      subst N (upto_here h h' i) (subst M (upto_here f f' i) was)

  -- it gathered its bits
  module _ (w' : C) (q' : Queue) (count : ℕ) (a b : Inputs) (all : f i + count ≡ f' i) (took : GathersBits tx w w' q' plan count (f i) a b) where
    abbrev after : List (C × Queue)
    after = zip (slice_set old.list.items i w') (slice_set old.queues.items i q')

    after_is : after ≡ slice_set (pairs old) i (w', q')
    after_is = zip_set old.list.items old.queues.items i w' q'

    pub all_placed : HaveGathered old plan slots i → EachPlaced (placed_by tx) after plan (up_to f f' (suc i)) (up_to h h' (suc i))
    all_placed placed =
        subst (λ (ps : List (C × Queue)). EachPlaced (placed_by tx) ps plan (up_to f f' (suc i)) (up_to h h' (suc i))) (sym after_is)
        (placed_one (placed_by tx) (held_by tx) meaning (record { depth = 0; first = 0; second = 0 }) plan (pairs old) i (w', q') f f' h h' placed (subst (λ e. IsGathered tx w' q' plan e (f i)) all took.placed))

    pub gathers_on : (path : Path) → Passes (held_by tx) path (meanings old) plan (pairs old) after (up_to f f' i) (up_to f f' (suc i)) (up_to h h' i) (up_to h h' (suc i)) a b (λ source. Unit {0})
    gathers_on path =
        let E : ℕ → Type 0 = λ e. Gains (tx.meaning w) plan (held_in tx w) (λ supply end read. HoldsGathered tx w' q' supply end read) (f i) e (f i) (f i) a b in
        let now : E (f' i) = subst E all took.gains in
        let none : Source → Type 0 = λ source. Unit {0} in
        let dis : IsDisjoint (map meaning (pairs old)) = subst IsDisjoint (sym meanings_are) old.disjoint in
        let gains : Gains (meaning (w, q)) plan (held_by tx (w, q)) (λ supply made at. held_by tx (w', q') supply made (h' i)) (f i) (f' i) (h i) (h i) a b =
        record { given = now.given; takes = now.takes; others = now.others; exact = now.exact; onward = λ supply is was agrees. now.onward supply is was agrees } in
        let passes = passes_one (placed_by tx) (held_by tx) meaning path plan (pairs old) i (w, q) (w', q') f f' h h' (λ supply made at. held_by tx (w', q') supply made (h' i)) none a b dis (zip_at old.list.items old.queues.items i w q here there) gains (λ supply is held. (held, tt)) in
        subst (λ (ps : List (C × Queue)). Passes (held_by tx) path (meanings old) plan (pairs old) ps (up_to f f' i) (up_to f f' (suc i)) (up_to h h' i) (up_to h h' (suc i)) a b none) (sym after_is)
        (subst (λ (ms : List Meaning). Passes (held_by tx) path ms plan (pairs old) (slice_set (pairs old) i (w', q')) (up_to f f' i) (up_to f f' (suc i)) (up_to h h' i) (up_to h h' (suc i)) a b none) meanings_are passes)

-- ---- all of them

module _ {S C : Type 0} {shape : shape.Ghosts S} {tx : Ghosts C} (frame : IsFrame shape.shape) (has : HasTributaries shape.shape) (tribs : shape.shape.tribs ≡ shape.TRIBS) (old : Children S C shape tx) (path : Path) (plan : Plan) (slots : NextSlots) (end : ℕ) (a : Inputs) (is : AreNextSlots shape.shape slots)
    (end_is : (slots.frame + slots.frames) * shape.shape.len + slots.end ≡ end) (longer : slots.frame * shape.shape.len + slots.slot < end) (was : StandBefore old path plan slots.frame slots.slot) (clear : AreSlotsClear (locked_kind shape.shape) shape.shape (meanings old) path plan slots.frame slots.slot end a) where
  abbrev numbers : FrameShape
  numbers = shape.shape

  abbrev g : ℕ → ℕ
  g = read_before numbers slots

  abbrev g' : ℕ → ℕ
  g' = read_behind numbers slots

  abbrev k : ℕ → Progress
  k = progress_at numbers slots false

  abbrev k' : ℕ → Progress
  k' = progress_at numbers slots true

  behind_is : (j : ℕ) → (locked_kind numbers).by path plan j end ≡ g' j
  behind_is j = locked_is numbers (slots.frame + slots.frames) slots.end end end_is is.behind old.locked (plan.counts path j) j

  behind_all : (λ j. (locked_kind numbers).by path plan j end) ≡ g'
  behind_all = fun_ext behind_is

  before_all : up_to g g' 0 ≡ g
  before_all = fun_ext (λ j. upto_past g g' 0 j (omega arith))

  -- none has gathered yet
  pub none_gathered : HaveGathered old plan slots 0
  none_gathered j p e =
      let parts = zip_parts old.list.items old.queues.items j p e in
      let M : ℕ → Type 0 = λ n. placed_by tx p plan n (up_to k k' 0 j) in
      let N : Progress → Type 0 = λ r. placed_by tx p plan (g j) r in
      subst M (sym (upto_past g g' 0 j (omega arith))) (subst N (sym (upto_past k k' 0 j (omega arith))) (was.made j p.0 parts.0))

  -- and nothing stands in the way of each
  pub each_can : (j : ℕ) → CanGather old plan slots a j
  each_can j m here =
      let known : j < numbers.tribs = omega (arith, inside (meanings old) j m here, length-map old.list.items tx.meaning, old.count, tribs) in
      subst (λ n. IsClear m plan (g j) n a) (behind_is j) (child_clears tx numbers frame has old.locked path plan (meanings old) slots.frame slots.slot end a j m old.disjoint is.inside (omega (arith, longer)) known here clear)

  pub all_halts : (b : Inputs) → FailGathering old plan slots 0 a b → HaltsGathering (locked_kind numbers) (meanings old) path plan slots.frame slots.slot end a b
  all_halts b stays =
      let P : (ℕ → ℕ) → Type 0 = λ made. Stays (meanings old) plan made g' Failed a b in
      let Q : (ℕ → ℕ) → Type 0 = λ most. Stays (meanings old) plan g most Failed a b in
      subst Q (sym behind_all) (subst P before_all stays)

  -- ---- they gathered

  module _ (new : Children S C shape tx) (b : Inputs) (same : meanings new ≡ meanings old) (all : GatherAll old new plan slots shape.TRIBS a b) where
    known_in : (j : ℕ) (child : C) → slice_get new.list.items j ≡ Some child → j < shape.TRIBS
    known_in j child here = omega (arith, inside new.list.items j child here, new.count)

    made_all : (j : ℕ) (child : C) (queue : Queue) → slice_get new.list.items j ≡ Some child → slice_get new.queues.items j ≡ Some queue → IsGathered tx child queue plan ((locked_kind numbers).by path plan j end) (g j)
    made_all j child queue here there =
        let known : j < shape.TRIBS = known_in j child here in
        let M : ℕ → Type 0 = λ n. placed_by tx (child, queue) plan n (up_to k k' shape.TRIBS j) in
        let N : Progress → Type 0 = λ r. placed_by tx (child, queue) plan (g' j) r in
        subst (λ n. IsGathered tx child queue plan n (g j)) (sym (behind_is j)) (subst N (upto_below k k' shape.TRIBS j known) (subst M (upto_below g g' shape.TRIBS j known) (all.placed j (child, queue) (zip_at new.list.items new.queues.items j child queue here there))))

    all_gathered : plan.frames path < 2 ^ 64 → Gathered new path plan slots.frame slots.slot end
    all_gathered bounded =
        let P : List Meaning → Type 0 = λ ms. MeetNothing (locked_kind numbers) numbers ms path plan clear.size slots.frame slots.slot end in
        record { made = made_all; scheduled = was.scheduled; bounded = bounded; upto = omega (arith, longer); size = clear.size; slots = subst P (sym same) clear.slots }

    all_exact : (leaf : ℕ) → any_leaf (meanings old) leaf ≡ true → given_by (meanings old) plan g leaf + length ((all.gathers path).given leaf) ≡ given_by (meanings old) plan (λ j. (locked_kind numbers).by path plan j end) leaf
    all_exact leaf is_leaf =
        let ms : List Meaning = meanings old in
        let last : given_by ms plan (up_to g g' shape.TRIBS) leaf ≡ given_by ms plan (λ j. (locked_kind numbers).by path plan j end) leaf = given_same ms plan (up_to g g' shape.TRIBS) (λ j. (locked_kind numbers).by path plan j end) leaf
        (λ j m at l. ap (λ x. m.given plan x leaf) (upto_below g g' shape.TRIBS j (omega (arith, inside ms j m at, length-map old.list.items tx.meaning, old.count)) ∙ sym (behind_is j))) in
        omega (arith, (all.gathers path).exact leaf is_leaf, ap (λ made. given_by ms plan made leaf) before_all, last)

    all_held : (supply : Supply) → supply.plan ≡ plan → HoldsTo old path plan supply slots.frame slots.slot → Agrees (any_leaf (meanings old)) supply.lists (given_by (meanings old) plan g) (all.gathers path).given → HoldGathered new path plan supply slots.frame slots.slot end
    all_held supply plan_is held agrees j child queue here there =
        let known : j < shape.TRIBS = known_in j child here in
        let A : (ℕ → ℕ) → Type 0 = λ made. Agrees (any_leaf (meanings old)) supply.lists (given_by (meanings old) plan made) (all.gathers path).given in
        let start : EachHeld (held_by tx) (pairs old) (below supply) (up_to g g' 0) (up_to k k' 0) = λ j p e.
        let parts = zip_parts old.list.items old.queues.items j p e in
        let M : ℕ → Type 0 = λ n. held_by tx p (below supply) n (up_to k k' 0 j) in
        let N : Progress → Type 0 = λ r. held_by tx p (below supply) (g j) r in
        subst M (sym (upto_past g g' 0 j (omega arith))) (subst N (sym (upto_past k k' 0 j (omega arith))) (held j p.0 parts.0)) in
        let both = (all.gathers path).onward supply plan_is start (subst A (sym before_all) agrees) in
        let M : ℕ → Type 0 = λ n. held_by tx (child, queue) (below supply) n (up_to k k' shape.TRIBS j) in
        let N : Progress → Type 0 = λ r. held_by tx (child, queue) (below supply) (g' j) r in
        subst (λ n. HoldsGathered tx child queue (below supply) n (g j)) (sym (behind_is j))
        (subst N (upto_below k k' shape.TRIBS j known) (subst M (upto_below g g' shape.TRIBS j known) (both.0 j (child, queue) (zip_at new.list.items new.queues.items j child queue here there))))

    pub all_slots : plan.frames path < 2 ^ 64
        → GathersSlots (locked_kind numbers) (λ (cs : Children S C shape tx). meanings cs) (λ (cs : Children S C shape tx). Gathered cs) (λ (cs : Children S C shape tx). HoldsTo cs) (λ (cs : Children S C shape tx). HoldGathered cs) old new path plan slots.frame slots.slot end a b
    all_slots bounded = record {
      given = (all.gathers path).given;
      takes = (all.gathers path).takes;
      others = (all.gathers path).others;
      exact = all_exact;
      place = all_gathered bounded;
      onward = all_held;
    }
