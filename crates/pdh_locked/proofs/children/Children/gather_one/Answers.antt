use Rattle.std.proofs.Common.{◌≡◌, ◌≤◌, ◌+◌, ◌-◌, ◌*◌, ℕ, map, refl, sym, ap, ◌∙◌, subst, arith}
use Rattle.std.proofs.lemmas.List.{length-set}
use Rattle.std.proofs.lemmas.List.Elements.{All-set}
use Rattle.std.proofs.lemmas.Option.{slice_get_read, slice_get-map}
use Rattle.std.proofs.lemmas.Result.{on_ok_weaker, on_err_weaker}
use Rattle.std.proofs.Math.Seq.{map-set_same}
use Rattle.pdh_shape.specs.declared.place.Path.{Path}
use Rattle.pdh_shape.specs.Frame.{FrameShape}
use Rattle.pdh_shape.specs.OwnNumbers.{lead, store_size}
use Rattle.pdh_tx.specs.declared.queue.Queue.{Queue}
use Rattle.pdh_tx.specs.declared.tx.TxStop.TheVariants.{Failed}
use Rattle.pdh_tx.specs.Batches.{batch}
use Rattle.pdh_tx.specs.Held.{Halts}
use Rattle.pdh_tx.specs.Making.{IsClear}
use Rattle.pdh_tx.specs.Meaning.{plan_in, Plan, Meaning}
use Rattle.pdh_tx.specs.Node.{IsDisjoint}
use Rattle.pdh_tx.specs.laws.Growing.{given_more}
use Rattle.pdh_tx.proofs.Advancing.{upto_here, upto_most}
use Rattle.pdh_tx.proofs.Moving.{stays_one}
use Rattle.pdh_locked.specs.Children.{held_in}
use Rattle.pdh_locked.specs.Gathered.{read_before, read_behind, gathered_made}
use Rattle.pdh_locked.proofs.Filled.{fed_one}
use Rattle.pdh_locked.proofs.GatherSlots.{slots_grow, slots_numbers, stands_one, all_placed, gathers_on}
use Rattle.pdh_locked.proofs.children.Children.gather_one.Goals as goal

-- the path of no node, where none matters
no_path : Path
no_path = record { depth = 0; first = 0; second = 0 }

pub overflow_mul-count : goal.overflow_mul-count
overflow_mul-count g c =
    let laws = g.met.S.Shape in
    let numbers = slots_numbers g.S.Shape.shape laws.is_frame laws.has_tributaries c.args.self.now.locked no_path (plan_in c.args.clock.now g.G.SlipLog.takes) c.args.slots c.args.trib g.S.Shape.LOW c.carried-before.result c.carried-behind.result c.requires.slots (omega (arith, c.requires.trib, laws.tribs_is)) laws.low_is c.carried-before.ensures c.carried-behind.ensures in
    omega (arith, numbers.fits, laws.is_frame.few_slots, ap (λ n. c.args.slots.frames * n) c.LOW.ensures)

pub overflow_add-count : goal.overflow_add-count
overflow_add-count g c =
    let laws = g.met.S.Shape in
    let numbers = slots_numbers g.S.Shape.shape laws.is_frame laws.has_tributaries c.args.self.now.locked no_path (plan_in c.args.clock.now g.G.SlipLog.takes) c.args.slots c.args.trib g.S.Shape.LOW c.carried-before.result c.carried-behind.result c.requires.slots (omega (arith, c.requires.trib, laws.tribs_is)) laws.low_is c.carried-before.ensures c.carried-behind.ensures in
    omega (arith, numbers.fits, laws.is_frame.few_slots, ap (λ n. c.args.slots.frames * n) c.LOW.ensures)

pub overflow_sub-count : goal.overflow_sub-count
overflow_sub-count g c =
    let laws = g.met.S.Shape in
    let numbers = slots_numbers g.S.Shape.shape laws.is_frame laws.has_tributaries c.args.self.now.locked no_path (plan_in c.args.clock.now g.G.SlipLog.takes) c.args.slots c.args.trib g.S.Shape.LOW c.carried-before.result c.carried-behind.result c.requires.slots (omega (arith, c.requires.trib, laws.tribs_is)) laws.low_is c.carried-before.ensures c.carried-behind.ensures in
    omega (arith, numbers.enough, ap (λ n. c.args.slots.frames * n) c.LOW.ensures)

pub gather-requires-clause-fed : goal.gather-requires-clause-fed
gather-requires-clause-fed g c =
    let i : ℕ = c.args.trib in
    let here = slice_get_read _ _ i _ refl (omega (arith, c.requires.trib, c.args.self.now.count)) c.index_mut.ensures.value in
    fed_one c.args.self.now c.args.clock.now (g.F.Feed.inputs c.args.feed.now) i _ (slice_get-map g.C.Tx.meaning c.args.self.now.list.items i ∙ rw here refl) c.requires.fed

pub gather-requires-clause-room : goal.gather-requires-clause-room
gather-requires-clause-room g c =
    let laws = g.met.S.Shape in
    let numbers = slots_numbers g.S.Shape.shape laws.is_frame laws.has_tributaries c.args.self.now.locked no_path (plan_in c.args.clock.now g.G.SlipLog.takes) c.args.slots c.args.trib g.S.Shape.LOW c.carried-before.result c.carried-behind.result c.requires.slots (omega (arith, c.requires.trib, laws.tribs_is)) laws.low_is c.carried-before.ensures c.carried-behind.ensures in
    let P : Queue → Type 0 = λ queue. batch * g.S.Shape.LEN + lead + store_size ≤ queue.bits.capacity in
    let room : P c.index_mut-2.result.now = subst P (sym c.index_mut-2.ensures.value) (c.args.self.now.queue_room c.args.trib _ (omega (arith, c.requires.trib, c.args.self.now.queue_count))) in
    omega (arith, room, numbers.few, ap (λ n. batch * n) laws.len_is, ap (λ n. c.args.slots.frames * n) c.LOW.ensures)

pub gather-requires-clause-clear : goal.gather-requires-clause-clear
gather-requires-clause-clear g c =
    let laws = g.met.S.Shape in
    let s : FrameShape = g.S.Shape.shape in
    let plan : Plan = plan_in c.args.clock.now g.G.SlipLog.takes in
    let slots = c.args.slots in
    let i : ℕ = c.args.trib in
    let w = c.index_mut.result.now in
    let here = slice_get_read _ _ i _ refl (omega (arith, c.requires.trib, c.args.self.now.count)) c.index_mut.ensures.value in
    let there = slice_get_read _ _ i _ refl (omega (arith, c.requires.trib, c.args.self.now.queue_count)) c.index_mut-2.ensures.value in
    let numbers = slots_numbers s laws.is_frame laws.has_tributaries c.args.self.now.locked no_path plan slots i g.S.Shape.LOW c.carried-before.result c.carried-behind.result c.requires.slots (omega (arith, c.requires.trib, laws.tribs_is)) laws.low_is c.carried-before.ensures c.carried-behind.ensures in
    let count : ℕ = slots.frames * c.LOW.result + c.carried-behind.result - c.carried-before.result in
    let f : ℕ = read_before s slots i in
    let all : f + count ≡ read_behind s slots i = ap (λ n. f + (slots.frames * n + c.carried-behind.result - c.carried-before.result)) c.LOW.ensures ∙ numbers.all in
    record {
      made = f;
      stands = stands_one c.args.self.now plan slots i w c.index_mut-2.result.now here there c.requires.placed;
      clear = subst (λ k. IsClear (g.C.Tx.meaning w) plan f k (g.F.Feed.inputs c.args.feed.now)) (sym all) (c.requires.clear _ (slice_get-map g.C.Tx.meaning c.args.self.now.list.items i ∙ rw here refl));
    }

pub returns-clause-ok : goal.returns-clause-ok
returns-clause-ok g c =
    let laws = g.met.S.Shape in
    let s : FrameShape = g.S.Shape.shape in
    let plan : Plan = plan_in c.args.clock.now g.G.SlipLog.takes in
    let slots = c.args.slots in
    let i : ℕ = c.args.trib in
    let old = c.args.self.now in
    let w = c.index_mut.result.now in
    let q = c.index_mut-2.result.now in
    let w' = c.gather.new.child in
    let q' = c.gather.new.queue in
    let here = slice_get_read _ _ i _ refl (omega (arith, c.requires.trib, old.count)) c.index_mut.ensures.value in
    let there = slice_get_read _ _ i _ refl (omega (arith, c.requires.trib, old.queue_count)) c.index_mut-2.ensures.value in
    let numbers = slots_numbers s laws.is_frame laws.has_tributaries old.locked no_path plan slots i g.S.Shape.LOW c.carried-before.result c.carried-behind.result c.requires.slots (omega (arith, c.requires.trib, laws.tribs_is)) laws.low_is c.carried-before.ensures c.carried-behind.ensures in
    let count : ℕ = slots.frames * c.LOW.result + c.carried-behind.result - c.carried-before.result in
    let f : ℕ = read_before s slots i in
    let all : f + count ≡ read_behind s slots i = ap (λ n. f + (slots.frames * n + c.carried-behind.result - c.carried-before.result)) c.LOW.ensures ∙ numbers.all in
    let stands = stands_one old plan slots i w q here there c.requires.placed in
    on_ok_weaker c.gather.result
    (λ ok.
    let bits = ok f stands in
    record {
      placed = all_placed old plan slots i w q here there w' q' count _ _ all bits c.requires.placed;
      gathers = gathers_on old plan slots i w q here there w' q' count _ _ all bits;
    })
    c.gather.ensures.ok

pub returns-clause-halts : goal.returns-clause-halts
returns-clause-halts g c =
    let laws = g.met.S.Shape in
    let s : FrameShape = g.S.Shape.shape in
    let plan : Plan = plan_in c.args.clock.now g.G.SlipLog.takes in
    let slots = c.args.slots in
    let i : ℕ = c.args.trib in
    let old = c.args.self.now in
    let cs = old.list.items in
    let w = c.index_mut.result.now in
    let q = c.index_mut-2.result.now in
    let here = slice_get_read _ _ i _ refl (omega (arith, c.requires.trib, old.count)) c.index_mut.ensures.value in
    let there = slice_get_read _ _ i _ refl (omega (arith, c.requires.trib, old.queue_count)) c.index_mut-2.ensures.value in
    let numbers = slots_numbers s laws.is_frame laws.has_tributaries old.locked no_path plan slots i g.S.Shape.LOW c.carried-before.result c.carried-behind.result c.requires.slots (omega (arith, c.requires.trib, laws.tribs_is)) laws.low_is c.carried-before.ensures c.carried-behind.ensures in
    let count : ℕ = slots.frames * c.LOW.result + c.carried-behind.result - c.carried-before.result in
    let f : ℕ → ℕ = read_before s slots in
    let f' : ℕ → ℕ = read_behind s slots in
    let m : Meaning = g.C.Tx.meaning w in
    let all : f i + count ≡ f' i = ap (λ n. f i + (slots.frames * n + c.carried-behind.result - c.carried-before.result)) c.LOW.ensures ∙ numbers.all in
    let X : ℕ → Type 0 = λ v. Halts m plan (f i) v Failed (g.F.Feed.inputs c.args.feed.now) (g.F.Feed.inputs c.gather.new.feed) in
    let Y : ℕ → Type 0 = λ v. Halts m plan v (f' i) Failed (g.F.Feed.inputs c.args.feed.now) (g.F.Feed.inputs c.gather.new.feed) in
    on_err_weaker c.gather.result
    (λ halts. stays_one (held_in g.C.Tx) g.C.Tx.meaning plan (map g.C.Tx.meaning cs) i m (gathered_made s slots i) f' Failed _ _ old.disjoint (slice_get-map g.C.Tx.meaning cs i ∙ rw here refl)
    (λ k leaf. given_more g.C.Tx.meaning plan cs (gathered_made s slots i) f' k (λ v n k. g.met.C.Tx.grows v plan n k) (λ j. upto_most f f' i j (slots_grow s laws.has_tributaries slots j c.requires.slots)))
    (subst Y (sym (upto_here f f' i)) (subst X all (halts (f i) (stands_one old plan slots i w q here there c.requires.placed)))))
    c.gather.ensures.halts

pub returns-clause-same : goal.returns-clause-same
returns-clause-same g c = map-set_same g.C.Tx.meaning c.args.self.now.list.items c.args.trib c.gather.new.child c.index_mut.result.now (c.gather.ensures.same ∙ ap g.C.Tx.meaning c.index_mut.ensures.value)

pub invariant_of-self-clause-count : goal.invariant_of-self-clause-count
invariant_of-self-clause-count g c = length-set c.args.self.now.list.items c.args.trib c.gather.new.child ∙ c.args.self.now.count

pub invariant_of-self-clause-disjoint : goal.invariant_of-self-clause-disjoint
invariant_of-self-clause-disjoint g c =
    subst IsDisjoint (sym (map-set_same g.C.Tx.meaning c.args.self.now.list.items c.args.trib c.gather.new.child c.index_mut.result.now (c.gather.ensures.same ∙ ap g.C.Tx.meaning c.index_mut.ensures.value))) c.args.self.now.disjoint

pub invariant_of-self-clause-queue_count : goal.invariant_of-self-clause-queue_count
invariant_of-self-clause-queue_count g c = length-set c.args.self.now.queues.items c.args.trib c.gather.new.queue ∙ c.args.self.now.queue_count

pub invariant_of-self-clause-queue_room : goal.invariant_of-self-clause-queue_room
invariant_of-self-clause-queue_room g c =
    let P : Queue → Type 0 = λ queue. batch * g.S.Shape.LEN + lead + store_size ≤ queue.bits.capacity in
    let was : P c.index_mut-2.result.now = subst P (sym c.index_mut-2.ensures.value) (c.args.self.now.queue_room c.args.trib _ (omega (arith, c.requires.trib, c.args.self.now.queue_count))) in
    All-set P c.args.self.now.queues.items c.args.trib c.gather.new.queue (omega (arith, was, c.gather.ensures.room)) c.args.self.now.queue_room
