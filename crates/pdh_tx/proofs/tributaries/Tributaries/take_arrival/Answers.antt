use Rattle.std.proofs.Common.{rules, ◌≡◌, ◌<◌, ℕ, suc, List, [], ◌++◌, length, map, true, false, cond, refl, sym, ap, ◌∙◌, subst, arith, Some, slice_get}
use Rattle.std.proofs.lemmas.Option.{slice_get_read, slice_get-map}
use Rattle.std.proofs.lemmas.List.{length-map, length-set}
use Rattle.std.proofs.lemmas.Result.{on_ok_weaker, IfErr-weaker}
use Rattle.std.proofs.Math.Seq.{map-set_same}
use Rattle.pdh_shape.specs.Frame.{FrameShape}
use Rattle.pdh_line.specs.Sending.{arrives_at, came_before}
use Rattle.pdh_line.proofs.SendingLaws.{came_before_grows}
use Rattle.pdh_tx.specs.Meaning.{plan_in, Plan, Meaning}
use Rattle.pdh_tx.specs.Held.{Gains, Halts, Readout, slip_if, slips_at_arrival}
use Rattle.pdh_tx.specs.Slipping.{slips_over, read_to, arrived_to, arriving_to}
use Rattle.pdh_tx.specs.Tributary.{placed_in, held_in, meaning_in, share_in, after_arrival}
use Rattle.pdh_tx.specs.Node.{slips_below, arrival_slips, place_at, IsDisjoint}
use Rattle.pdh_tx.proofs.Feeding.{fed_one}
use Rattle.pdh_tx.proofs.Telling.{tells_ok, tells_same, all_none}
use Rattle.pdh_tx.proofs.Advancing.{upto_here, upto_next, upto_other, advance_one, advance_idle, blocked_one}
use Rattle.pdh_tx.proofs.Arriving.{came_arrives, came_same, no_arrival, arrival_same, arrival_told, arrival_out, arriving_idle}
use Rattle.pdh_tx.proofs.tributaries.Tributaries.take_arrival.Goals as goal

pub returns-then-not-arrives-clause-ok : goal.returns-then-not-arrives-clause-ok
returns-then-not-arrives-clause-ok g c =
    let s : FrameShape = g.S.Shape.shape in
    let plan : Plan = plan_in c.args.clock.now g.G.SlipLog.takes in
    let ws = c.args.self.now.list.items in
    let counts : ℕ → ℕ → ℕ = plan.counts c.args.path in
    let within : c.args.trib < length ws = omega (arith, c.requires.trib, c.args.self.now.count) in
    let at : slice_get ws c.args.trib ≡ Some c.index.result.now = slice_get_read _ _ c.args.trib _ refl within c.index.ensures in
    let share = c.requires.decided c.args.trib _ at in
    let none : arrives_at s (counts c.args.trib c.args.frame) c.args.slot ≡ false = (let off : c.arrives.result ≡ false = search rules in ap (λ n. arrives_at s n c.args.slot) (sym share.arriving) ∙ sym c.arrives.ensures ∙ off) in
    advance_idle (placed_in g.C.Tx) (held_in g.C.Tx) (meaning_in g.C.Tx) plan _ ws c.args.trib
    (λ j. came_before s (counts j) c.args.frame c.args.slot) (λ j. came_before s (counts j) c.args.frame (suc c.args.slot)) (arriving_to s c.args.path plan c.args.frame c.args.slot c.args.trib) (arriving_to s c.args.path plan c.args.frame c.args.slot (suc c.args.trib)) _ _ (length-map ws (meaning_in g.C.Tx))
    (came_same s (counts c.args.trib) c.args.frame c.args.slot g.met.S.Shape.is_frame share.fits none) (arriving_idle s c.args.path plan c.args.frame c.args.slot c.args.trib none) c.requires.placed (λ size. no_arrival s c.args.path plan _ size c.args.frame c.args.slot c.args.trib none)

pub arrives-requires-clause-fits : goal.arrives-requires-clause-fits
arrives-requires-clause-fits g c =
    let ws = c.args.self.now.list.items in
    let within : c.args.trib < length ws = omega (arith, c.requires.trib, c.args.self.now.count) in
    let at : slice_get ws c.args.trib ≡ Some c.index.result.now = slice_get_read _ _ c.args.trib _ refl within c.index.ensures in
    let share = c.requires.decided c.args.trib _ at in
    omega (arith, share.fits, share.arriving, g.met.S.Shape.len_is)

pub arrive-requires-clause-fed : goal.arrive-requires-clause-fed
arrive-requires-clause-fed g c =
    let within : c.args.trib < length c.args.self.now.list.items = omega (arith, c.requires.trib, c.args.self.now.count) in
    let at : slice_get c.args.self.now.list.items c.args.trib ≡ Some c.index_mut.result.now = slice_get_read _ _ c.args.trib _ refl within c.index_mut.ensures.value in
    fed_one c.args.self.now c.args.path c.args.clock.now (g.F.Feed.inputs c.args.feed.now) c.args.trib c.index_mut.result.now at c.requires.fed

pub arrive-requires-clause-placed : goal.arrive-requires-clause-placed
arrive-requires-clause-placed g c =
    let within : c.args.trib < length c.args.self.now.list.items = omega (arith, c.requires.trib, c.args.self.now.count) in
    let at : slice_get c.args.self.now.list.items c.args.trib ≡ Some c.index_mut.result.now = slice_get_read _ _ c.args.trib _ refl within c.index_mut.ensures.value in
    (_, _, c.requires.placed c.args.trib _ at)

pub returns-clause-ok : goal.returns-clause-ok
returns-clause-ok g c =
    let s : FrameShape = g.S.Shape.shape in
    let plan : Plan = plan_in c.args.clock.now g.G.SlipLog.takes in
    let counts : ℕ → ℕ → ℕ = plan.counts c.args.path in
    let i : ℕ = c.args.trib in
    let n : ℕ = c.args.frame in
    let t : ℕ = c.args.slot in
    let ws = c.args.self.now.list.items in
    let w = c.index_mut.result.now in
    let w' = c.arrive.new.self in
    let within : i < length ws = omega (arith, c.requires.trib, c.args.self.now.count) in
    let read : slice_get ws i ≡ Some c.index.result.now = slice_get_read _ _ i _ refl within c.index.ensures in
    let share = c.requires.decided i _ read in
    let is : arrives_at s (counts i n) t ≡ true = (let on : c.arrives.result ≡ true = search rules in ap (λ n. arrives_at s n t) (sym share.arriving) ∙ sym c.arrives.ensures ∙ on) in
    let at : slice_get ws i ≡ Some w = slice_get_read _ _ i _ refl within c.index_mut.ensures.value in
    let placed : _ → Plan → ℕ → Readout → Type 0 = placed_in g.C.Tx in
    let held : _ → _ → ℕ → Readout → Type 0 = held_in g.C.Tx in
    let f : ℕ → ℕ = λ j. came_before s (counts j) n t in
    let h : ℕ → ℕ = λ j. came_before s (counts j) n (suc t) in
    let step : suc (f i) ≡ h i = came_arrives s (counts i) n t g.met.S.Shape.is_frame share.fits is in
    let F : ℕ → Readout = read_to s c.args.path plan n t in
    let G : ℕ → Readout = arrived_to s c.args.path plan n t in
    let p : ℕ → Readout = arriving_to s c.args.path plan n t i in
    let q : ℕ → Readout = arriving_to s c.args.path plan n t (suc i) in
    let here : p i ≡ F i = upto_here F G i in
    let was : placed w plan (f i) (F i) = subst (placed w plan (f i)) here (subst (λ v. placed w plan v (p i)) (upto_here f h i) (c.requires.placed i w at)) in
    let then : after_arrival w plan.mode (F i) ≡ q i = arrival_out s c.args.path plan n t i (length w.store) is was.count ∙ sym (upto_next F G i) in
    let R : ℕ → Readout → Readout → Type 0 = λ v r l. Gains (meaning_in g.C.Tx w) plan (held w) (held w') (f i) v r l (g.F.Feed.inputs c.args.feed.now) (g.F.Feed.inputs c.arrive.new.feed) in
    on_ok_weaker c.arrive.result
    (λ took.
    let one = took (f i) (F i) was in
    advance_one placed held (meaning_in g.C.Tx) plan ws i w w' f h p q _ _ _ c.args.self.now.disjoint at (length-set ws i w') (λ j ne. upto_other F G i j ne) c.requires.placed
    (subst (λ v. placed w' plan v (q i)) step (subst (placed w' plan (suc (f i))) then one.placed))
    (subst (λ r. R (h i) r (q i)) (sym here) (subst (R (h i) (F i)) then (subst (λ v. R v (F i) (after_arrival w plan.mode (F i))) step one.gains)))
    (λ size fit. arrival_same s c.args.path plan (map (meaning_in g.C.Tx) ws) size n t i (length w.store) (g.C.Tx.meaning w.child) is
    (slice_get-map (meaning_in g.C.Tx) ws i ∙ rw at refl) was.count ∙ one.free size fit))
    c.arrive.ensures.ok

pub returns-clause-err : goal.returns-clause-err
returns-clause-err g c =
    let s : FrameShape = g.S.Shape.shape in
    let plan : Plan = plan_in c.args.clock.now g.G.SlipLog.takes in
    let counts : ℕ → ℕ → ℕ = plan.counts c.args.path in
    let i : ℕ = c.args.trib in
    let n : ℕ = c.args.frame in
    let t : ℕ = c.args.slot in
    let ws = c.args.self.now.list.items in
    let w = c.index_mut.result.now in
    let within : i < length ws = omega (arith, c.requires.trib, c.args.self.now.count) in
    let read : slice_get ws i ≡ Some c.index.result.now = slice_get_read _ _ i _ refl within c.index.ensures in
    let share = c.requires.decided i _ read in
    let is : arrives_at s (counts i n) t ≡ true = (let on : c.arrives.result ≡ true = search rules in ap (λ n. arrives_at s n t) (sym share.arriving) ∙ sym c.arrives.ensures ∙ on) in
    let at : slice_get ws i ≡ Some w = slice_get_read _ _ i _ refl within c.index_mut.ensures.value in
    let placed : _ → Plan → ℕ → Readout → Type 0 = placed_in g.C.Tx in
    let held : _ → _ → ℕ → Readout → Type 0 = held_in g.C.Tx in
    let f : ℕ → ℕ = λ j. came_before s (counts j) n t in
    let h : ℕ → ℕ = λ j. came_before s (counts j) n (suc t) in
    let step : suc (f i) ≡ h i = came_arrives s (counts i) n t g.met.S.Shape.is_frame share.fits is in
    let F : ℕ → Readout = read_to s c.args.path plan n t in
    let G : ℕ → Readout = arrived_to s c.args.path plan n t in
    let was : placed w plan (f i) (F i) = subst (placed w plan (f i)) (upto_here F G i) (subst (λ v. placed w plan v (arriving_to s c.args.path plan n t i i)) (upto_here f h i) (c.requires.placed i w at)) in
    IfErr-weaker c.arrive.result _ _
    (λ stop stops.
    let one = stops (f i) _ was in
    let R : ℕ → Type 0 = λ v. Halts (meaning_in g.C.Tx w) plan (f i) v stop (g.F.Feed.inputs c.args.feed.now) (g.F.Feed.inputs c.arrive.new.feed) in
    blocked_one placed held (meaning_in g.C.Tx) plan ws i w f h _ _ stop _ _ _ _ c.args.self.now.disjoint at (λ v n k. g.met.C.Tx.grows v.child plan n k) (λ j. came_before_grows s (counts j) n t g.met.S.Shape.is_frame)
    (subst R step one.halts) one.met
    (λ size. arrival_same s c.args.path plan (map (meaning_in g.C.Tx) ws) size n t i (length w.store) (g.C.Tx.meaning w.child) is
    (slice_get-map (meaning_in g.C.Tx) ws i ∙ rw at refl) was.count))
    c.arrive.ensures.err

pub returns-clause-same : goal.returns-clause-same
returns-clause-same g c = map-set_same (meaning_in g.C.Tx) c.args.self.now.list.items c.args.trib c.arrive.new.self c.index_mut.result.now (c.arrive.ensures.kept.same ∙ ap (meaning_in g.C.Tx) c.index_mut.ensures.value)

pub returns-clause-shares : goal.returns-clause-shares
returns-clause-shares g c = map-set_same share_in c.args.self.now.list.items c.args.trib c.arrive.new.self c.index_mut.result.now (c.arrive.ensures.kept.share ∙ ap share_in c.index_mut.ensures.value)

pub invariant_of-self-clause-count : goal.invariant_of-self-clause-count
invariant_of-self-clause-count g c = length-set c.args.self.now.list.items c.args.trib c.arrive.new.self ∙ c.args.self.now.count

pub invariant_of-self-clause-disjoint : goal.invariant_of-self-clause-disjoint
invariant_of-self-clause-disjoint g c =
    subst IsDisjoint (sym (map-set_same (meaning_in g.C.Tx) c.args.self.now.list.items c.args.trib c.arrive.new.self c.index_mut.result.now (c.arrive.ensures.kept.same ∙ ap (meaning_in g.C.Tx) c.index_mut.ensures.value))) c.args.self.now.disjoint

pub returns-then-not-arrives-clause-told : goal.returns-then-not-arrives-clause-told
returns-then-not-arrives-clause-told g c =
    let s : FrameShape = g.S.Shape.shape in
    let plan : Plan = plan_in c.args.clock.now g.G.SlipLog.takes in
    let ws = c.args.self.now.list.items in
    let ms : List Meaning = map (meaning_in g.C.Tx) ws in
    let counts : ℕ → ℕ → ℕ = plan.counts c.args.path in
    let within : c.args.trib < length ws = omega (arith, c.requires.trib, c.args.self.now.count) in
    let at : slice_get ws c.args.trib ≡ Some c.index.result.now = slice_get_read _ _ c.args.trib _ refl within c.index.ensures in
    let share = c.requires.decided c.args.trib _ at in
    let none : arrives_at s (counts c.args.trib c.args.frame) c.args.slot ≡ false = (let off : c.arrives.result ≡ false = search rules in ap (λ n. arrives_at s n c.args.slot) (sym share.arriving) ∙ sym c.arrives.ensures ∙ off) in
    tells_same [] (arrival_slips s c.args.path plan ms c.args.frame c.args.slot c.args.trib)
    (ap (λ b. cond b (slips_below (slice_get ms c.args.trib) plan (came_before s (counts c.args.trib) c.args.frame c.args.slot)
    ++ slip_if (slips_over s c.args.path plan c.args.frame c.args.slot c.args.trib) true (place_at c.args.path c.args.trib c.args.frame c.args.slot)) []) none)
    (tells_ok tt (all_none g.G.SlipLog (record { nothing = g.met.G.SlipLog.logged_nothing; joins = g.met.G.SlipLog.logged_join; breaks = g.met.G.SlipLog.broken_join }) c.args.log.now))

pub returns-clause-told : goal.returns-clause-told
returns-clause-told g c =
    let s : FrameShape = g.S.Shape.shape in
    let plan : Plan = plan_in c.args.clock.now g.G.SlipLog.takes in
    let counts : ℕ → ℕ → ℕ = plan.counts c.args.path in
    let i : ℕ = c.args.trib in
    let n : ℕ = c.args.frame in
    let t : ℕ = c.args.slot in
    let ws = c.args.self.now.list.items in
    let ms : List Meaning = map (meaning_in g.C.Tx) ws in
    let w = c.index_mut.result.now in
    let within : i < length ws = omega (arith, c.requires.trib, c.args.self.now.count) in
    let read : slice_get ws i ≡ Some c.index.result.now = slice_get_read _ _ i _ refl within c.index.ensures in
    let share = c.requires.decided i _ read in
    let is : arrives_at s (counts i n) t ≡ true = (let on : c.arrives.result ≡ true = search rules in ap (λ n. arrives_at s n t) (sym share.arriving) ∙ sym c.arrives.ensures ∙ on) in
    let at : slice_get ws i ≡ Some w = slice_get_read _ _ i _ refl within c.index_mut.ensures.value in
    let f : ℕ → ℕ = λ j. came_before s (counts j) n t in
    let h : ℕ → ℕ = λ j. came_before s (counts j) n (suc t) in
    let F : ℕ → Readout = read_to s c.args.path plan n t in
    let G : ℕ → Readout = arrived_to s c.args.path plan n t in
    let was : placed_in g.C.Tx w plan (f i) (F i) =
    subst (placed_in g.C.Tx w plan (f i)) (upto_here F G i) (subst (λ v. placed_in g.C.Tx w plan v (arriving_to s c.args.path plan n t i i)) (upto_here f h i) (c.requires.placed i w at)) in
    tells_same (slips_at_arrival (g.C.Tx.meaning w.child) plan (place_at c.args.path i n t) (f i) (length w.store)) (arrival_slips s c.args.path plan ms n t i)
    (arrival_told s c.args.path plan ms n t i (length w.store) (g.C.Tx.meaning w.child) c.args.self.now.stores is (slice_get-map (meaning_in g.C.Tx) ws i ∙ rw at refl) was.count)
    (c.arrive.ensures.told (f i) (F i) was)
