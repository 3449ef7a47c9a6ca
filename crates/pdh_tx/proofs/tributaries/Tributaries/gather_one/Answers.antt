use Rattle.std.proofs.Common.{◌≡◌, ◌≤◌, ◌+◌, ◌*◌, ℕ, map, refl, sym, ap, ◌∙◌, subst, arith, Some, slice_get}
use Rattle.std.proofs.lemmas.List.{length-set}
use Rattle.std.proofs.lemmas.List.Elements.{All-set}
use Rattle.std.proofs.lemmas.Option.{slice_get_read, slice_get-map}
use Rattle.std.proofs.lemmas.Result.{on_ok_weaker, on_err_weaker}
use Rattle.std.proofs.Math.Nat.{mul-le-mul_right}
use Rattle.std.proofs.Math.Seq.{map-set_same}
use Rattle.pdh_shape.specs.Frame.{FrameShape}
use Rattle.pdh_shape.specs.OwnNumbers.{lead, store_size}
use Rattle.pdh_tx.specs.declared.queue.Queue.{Queue}
use Rattle.pdh_tx.specs.declared.tx.TxStop.TheVariants.{Failed}
use Rattle.pdh_tx.specs.Batches.{batch}
use Rattle.pdh_tx.specs.Held.{Halts}
use Rattle.pdh_tx.specs.Making.{IsClear}
use Rattle.pdh_tx.specs.Meaning.{plan_in, Plan, Meaning}
use Rattle.pdh_tx.specs.Tributary.{held_in, meaning_in, share_in}
use Rattle.pdh_tx.specs.Node.{IsDisjoint}
use Rattle.pdh_tx.specs.Slipping.{read_to}
use Rattle.pdh_tx.specs.Gathered.{made_before, made_behind, gathered_made}
use Rattle.pdh_tx.specs.laws.Growing.{given_more}
use Rattle.pdh_tx.proofs.Advancing.{upto_here, upto_most}
use Rattle.pdh_tx.proofs.Feeding.{fed_one}
use Rattle.pdh_tx.proofs.Lists.{get_at}
use Rattle.pdh_tx.proofs.Moving.{stays_one}
use Rattle.pdh_tx.proofs.QuietSlots.{node_stores, node_len, node_takes}
use Rattle.pdh_tx.proofs.Gathering.{taken_behind, led_is, led_within, led_few, stands_one, one_placed, all_placed, gathers_on, stores_empty, queues_few}
use Rattle.pdh_tx.proofs.tributaries.Tributaries.gather_one.Goals as goal

-- the bits up to the last one are scheduled
scheduled : (end frames most len LEN : ℕ) → end ≤ frames * len → frames ≤ most → LEN ≡ len → end ≤ most * LEN
scheduled end frames most len LEN last all is = omega (arith, last, mul-le-mul_right len all, ap (λ n. most * n) is)

pub arriving-count-requires-clause-in_range : goal.arriving-count-requires-clause-in_range
arriving-count-requires-clause-in_range g c = omega (arith, c.requires.trib, g.met.S.Shape.tribs_is, node_stores g.S.Shape.shape c.args.next.path c.args.clock.now.levels c.args.self.now.stores c.requires.next.node)

pub arriving-count-requires-clause-scheduled : goal.arriving-count-requires-clause-scheduled
arriving-count-requires-clause-scheduled g c =
    let next = c.requires.next in
    scheduled _ _ _ _ _ next.last next.scheduled (node_len g.S.Shape.shape c.args.next.path c.args.clock.now.levels c.args.self.now.stores next.node)

pub overflow_cast-count : goal.overflow_cast-count
overflow_cast-count g c =
    let is = c.requires.next in
    let next = c.args.next in
    let s : FrameShape = g.S.Shape.shape in
    let ws = c.args.self.now.list.items in
    let one = get_at ws c.args.trib (omega (arith, c.requires.trib, c.args.self.now.count)) in
    let maker : slice_get (map (meaning_in g.C.Tx) ws) c.args.trib ≡ Some (meaning_in g.C.Tx one.0) = slice_get-map (meaning_in g.C.Tx) ws c.args.trib ∙ (let here = one.1 in rw here refl) in
    let takes = node_takes s next.path c.args.clock.now.levels c.args.self.now.stores is.node (plan_in c.args.clock.now g.G.SlipLog.takes) c.args.trib next.frame next.slot next.made next.end c.arriving-count.result is.first is.inside (c.arriving-count.ensures is.node.level is.node.at) in
    omega (arith, (c.requires.clear _ maker).few, takes, g.met.S.Shape.is_frame.few_slots)

pub gather-requires-clause-fed : goal.gather-requires-clause-fed
gather-requires-clause-fed g c =
    let here = slice_get_read _ _ c.args.trib _ refl (omega (arith, c.requires.trib, c.args.self.now.count)) c.index_mut.ensures.value in
    fed_one c.args.self.now c.args.next.path c.args.clock.now (g.F.Feed.inputs c.args.feed.now) c.args.trib _ here c.requires.fed

pub gather-requires-clause-room : goal.gather-requires-clause-room
gather-requires-clause-room g c =
    let is = c.requires.next in
    let next = c.args.next in
    let plan : Plan = plan_in c.args.clock.now g.G.SlipLog.takes in
    let here = slice_get_read _ _ c.args.trib _ refl (omega (arith, c.requires.trib, c.args.self.now.count)) c.index_mut.ensures.value in
    let takes = node_takes g.S.Shape.shape next.path c.args.clock.now.levels c.args.self.now.stores is.node plan c.args.trib next.frame next.slot next.made next.end c.arriving-count.result is.first is.inside (c.arriving-count.ensures is.node.level is.node.at) in
    let maker : slice_get (map (meaning_in g.C.Tx) c.args.self.now.list.items) c.args.trib ≡ Some (meaning_in g.C.Tx c.index_mut.result.now) = slice_get-map (meaning_in g.C.Tx) c.args.self.now.list.items c.args.trib ∙ rw here refl in
    let can = c.requires.clear _ maker in
    let P : Queue → Type 0 = λ queue. batch * g.S.Shape.LEN + lead + store_size ≤ queue.bits.capacity in
    let room : P c.index_mut-2.result.now = subst P (sym c.index_mut-2.ensures.value) (c.args.self.now.queue_room c.args.trib _ (omega (arith, c.requires.trib, c.args.self.now.queue_count))) in
    omega (arith, room, can.few, takes, ap (λ n. batch * n) g.met.S.Shape.len_is)

pub gather-requires-clause-clear : goal.gather-requires-clause-clear
gather-requires-clause-clear g c =
    let is = c.requires.next in
    let next = c.args.next in
    let s : FrameShape = g.S.Shape.shape in
    let plan : Plan = plan_in c.args.clock.now g.G.SlipLog.takes in
    let i : ℕ = c.args.trib in
    let w = c.index_mut.result.now in
    let here = slice_get_read _ _ i _ refl (omega (arith, c.requires.trib, c.args.self.now.count)) c.index_mut.ensures.value in
    let there = slice_get_read _ _ i _ refl (omega (arith, c.requires.trib, c.args.self.now.queue_count)) c.index_mut-2.ensures.value in
    let maker : slice_get (map (meaning_in g.C.Tx) c.args.self.now.list.items) i ≡ Some (meaning_in g.C.Tx w) = slice_get-map (meaning_in g.C.Tx) c.args.self.now.list.items i ∙ rw here refl in
    let can = c.requires.clear _ maker in
    let f : ℕ = made_before s plan next i in
    let all : f + c.arriving-count.result ≡ made_behind s plan next i =
    node_takes s next.path c.args.clock.now.levels c.args.self.now.stores is.node plan i next.frame next.slot next.made next.end c.arriving-count.result is.first is.inside (c.arriving-count.ensures is.node.level is.node.at) in
    record {
      made = f;
      out = read_to s next.path plan next.frame next.slot i;
      placed = stands_one c.args.self.now plan next i w c.index_mut-2.result.now here there c.requires.placed;
      clear = subst (λ k. IsClear (meaning_in g.C.Tx w) plan f k (g.F.Feed.inputs c.args.feed.now)) (sym all) can.clear;
    }

pub gather-requires-clause-at_once : goal.gather-requires-clause-at_once
gather-requires-clause-at_once g c =
    let is = c.requires.next in
    let next = c.args.next in
    let s : FrameShape = g.S.Shape.shape in
    let plan : Plan = plan_in c.args.clock.now g.G.SlipLog.takes in
    let i : ℕ = c.args.trib in
    let takes = node_takes s next.path c.args.clock.now.levels c.args.self.now.stores is.node plan i next.frame next.slot next.made next.end c.arriving-count.result is.first is.inside (c.arriving-count.ensures is.node.level is.node.at) in
    let come = led_is s next.path plan next.frame next.slot next.made c.at_once-led.result i g.met.S.Shape.is_frame is.first is.inside c.at_once-led.ensures in
    omega (arith, takes, come, led_within s next.path plan next.frame next.slot next.made next.end i g.met.S.Shape.is_frame is.first is.inside c.requires.few.some)

pub returns-clause-ok : goal.returns-clause-ok
returns-clause-ok g c =
    let is = c.requires.next in
    let next = c.args.next in
    let s : FrameShape = g.S.Shape.shape in
    let plan : Plan = plan_in c.args.clock.now g.G.SlipLog.takes in
    let i : ℕ = c.args.trib in
    let w = c.index_mut.result.now in
    let q = c.index_mut-2.result.now in
    let w' = c.gather.new.self in
    let q' = c.gather.new.queue in
    let here = slice_get_read _ _ i _ refl (omega (arith, c.requires.trib, c.args.self.now.count)) c.index_mut.ensures.value in
    let there = slice_get_read _ _ i _ refl (omega (arith, c.requires.trib, c.args.self.now.queue_count)) c.index_mut-2.ensures.value in
    let f : ℕ = made_before s plan next i in
    let count : ℕ = c.arriving-count.result in
    let all : f + count ≡ made_behind s plan next i =
    node_takes s next.path c.args.clock.now.levels c.args.self.now.stores is.node plan i next.frame next.slot next.made next.end c.arriving-count.result is.first is.inside (c.arriving-count.ensures is.node.level is.node.at) in
    let led : ℕ = c.at_once-led.result in
    let come = led_is s next.path plan next.frame next.slot next.made led i g.met.S.Shape.is_frame is.first is.inside c.at_once-led.ensures in
    on_ok_weaker c.gather.result
    (λ ok.
    let bits = ok f (read_to s next.path plan next.frame next.slot i) (stands_one c.args.self.now plan next i w q here there c.requires.placed) in
    let placed = one_placed c.args.self.now plan next i w q here there w' q' count led _ _ all come bits in
    record {
      placed = all_placed c.args.self.now plan next i w q here there w' q' count led _ _ all come bits c.requires.placed;
      gathers = gathers_on c.args.self.now plan next i w q here there w' q' count led _ _ all come bits;
      emptied = λ was. record {
        stores = stores_empty c.args.self.now plan next i w q here there w' q' c.gather.ensures.empty was;
        few = queues_few c.args.self.now plan next i w q here there w' q'
            (led_few g.C.Tx s next.path plan next.frame next.slot next.made led i _ w'.child q' g.met.S.Shape.is_frame c.args.self.now.stores is.first is.inside c.at_once-led.ensures c.gather.ensures.few placed) was;
      };
    })
    c.gather.ensures.ok

pub returns-clause-halts : goal.returns-clause-halts
returns-clause-halts g c =
    let is = c.requires.next in
    let next = c.args.next in
    let s : FrameShape = g.S.Shape.shape in
    let plan : Plan = plan_in c.args.clock.now g.G.SlipLog.takes in
    let i : ℕ = c.args.trib in
    let ws = c.args.self.now.list.items in
    let w = c.index_mut.result.now in
    let q = c.index_mut-2.result.now in
    let here = slice_get_read _ _ i _ refl (omega (arith, c.requires.trib, c.args.self.now.count)) c.index_mut.ensures.value in
    let there = slice_get_read _ _ i _ refl (omega (arith, c.requires.trib, c.args.self.now.queue_count)) c.index_mut-2.ensures.value in
    let f : ℕ → ℕ = made_before s plan next in
    let f' : ℕ → ℕ = made_behind s plan next in
    let m : Meaning = meaning_in g.C.Tx w in
    let all : f i + c.arriving-count.result ≡ f' i =
    node_takes s next.path c.args.clock.now.levels c.args.self.now.stores is.node plan i next.frame next.slot next.made next.end c.arriving-count.result is.first is.inside (c.arriving-count.ensures is.node.level is.node.at) in
    let maker : slice_get (map (meaning_in g.C.Tx) ws) i ≡ Some m = slice_get-map (meaning_in g.C.Tx) ws i ∙ rw here refl in
    let X : ℕ → Type 0 = λ v. Halts m plan (f i) v Failed (g.F.Feed.inputs c.args.feed.now) (g.F.Feed.inputs c.gather.new.feed) in
    let Y : ℕ → Type 0 = λ v. Halts m plan v (f' i) Failed (g.F.Feed.inputs c.args.feed.now) (g.F.Feed.inputs c.gather.new.feed) in
    on_err_weaker c.gather.result
    (λ halts. stays_one (held_in g.C.Tx) (meaning_in g.C.Tx) plan (map (meaning_in g.C.Tx) ws) i m (gathered_made s plan next i) f' Failed _ _ c.args.self.now.disjoint maker
    (λ k leaf. given_more (meaning_in g.C.Tx) plan ws (gathered_made s plan next i) f' k (λ v n k. g.met.C.Tx.grows v.child plan n k) (λ j. upto_most f f' i j (taken_behind s plan next j g.met.S.Shape.is_frame is.first is.inside is.longer)))
    (subst Y (sym (upto_here f f' i)) (subst X all (halts (f i) (read_to s next.path plan next.frame next.slot i) (stands_one c.args.self.now plan next i w q here there c.requires.placed)))))
    c.gather.ensures.halts

pub returns-clause-same : goal.returns-clause-same
returns-clause-same g c = map-set_same (meaning_in g.C.Tx) c.args.self.now.list.items c.args.trib c.gather.new.self c.index_mut.result.now (c.gather.ensures.kept.same ∙ ap (meaning_in g.C.Tx) c.index_mut.ensures.value)

pub returns-clause-shares : goal.returns-clause-shares
returns-clause-shares g c = map-set_same share_in c.args.self.now.list.items c.args.trib c.gather.new.self c.index_mut.result.now (c.gather.ensures.kept.share ∙ ap share_in c.index_mut.ensures.value)

pub invariant_of-self-clause-count : goal.invariant_of-self-clause-count
invariant_of-self-clause-count g c = length-set c.args.self.now.list.items c.args.trib c.gather.new.self ∙ c.args.self.now.count

pub invariant_of-self-clause-disjoint : goal.invariant_of-self-clause-disjoint
invariant_of-self-clause-disjoint g c =
    subst IsDisjoint (sym (map-set_same (meaning_in g.C.Tx) c.args.self.now.list.items c.args.trib c.gather.new.self c.index_mut.result.now (c.gather.ensures.kept.same ∙ ap (meaning_in g.C.Tx) c.index_mut.ensures.value))) c.args.self.now.disjoint

pub invariant_of-self-clause-queue_count : goal.invariant_of-self-clause-queue_count
invariant_of-self-clause-queue_count g c = length-set c.args.self.now.queues.items c.args.trib c.gather.new.queue ∙ c.args.self.now.queue_count

pub invariant_of-self-clause-queue_room : goal.invariant_of-self-clause-queue_room
invariant_of-self-clause-queue_room g c =
    let queues = c.args.self.now.queues.items in
    let P : Queue → Type 0 = λ queue. batch * g.S.Shape.LEN + lead + store_size ≤ queue.bits.capacity in
    let was : P c.index_mut-2.result.now = subst P (sym c.index_mut-2.ensures.value) (c.args.self.now.queue_room c.args.trib _ (omega (arith, c.requires.trib, c.args.self.now.queue_count))) in
    All-set P queues c.args.trib c.gather.new.queue (omega (arith, was, c.gather.ensures.room)) c.args.self.now.queue_room
