use Rattle.std.proofs.Common.{◌≡◌, ◌<◌, ◌≤◌, ◌+◌, ◌*◌, ◌^◌, ℕ, List, IsSome, Some, slice_get, length, map, refl, sym, ap, ◌∙◌, subst, arith}
use Rattle.std.proofs.lemmas.List.{length-map}
use Rattle.std.proofs.lemmas.Option.{slice_get-map}
use Rattle.std.proofs.Math.Nat.{mul-le-mul_right}
use Rattle.pdh_shape.specs.Frame.{FrameShape}
use Rattle.pdh_tx.specs.Meaning.{Plan, plan_in, Meaning}
use Rattle.pdh_tx.specs.Making.{IsUneventful}
use Rattle.pdh_tx.specs.Locked.{locked_to}
use Rattle.pdh_tx.proofs.Lists.{get_at, some_same}
use Rattle.pdh_tx.proofs.SenderSteps.{none_asked}
use Rattle.pdh_tx.proofs.Moving.{inside}
use Rattle.pdh_locked.specs.Children.{locked_kind}
use Rattle.pdh_locked.proofs.QuietSlots.{slot_free, slot_quiet}
use Rattle.pdh_locked.proofs.body.ChildrenBody.quiet.Goals as goal

pub slots_scheduled-slots-requires-clause-node : goal.slots_scheduled-slots-requires-clause-node
slots_scheduled-slots-requires-clause-node g c = subst IsSome (sym c.requires.fed.node.at) refl

pub overflow_mul-bits : goal.overflow_mul-bits
overflow_mul-bits g c =
    let few : c.frames_of.result ≤ 2 ^ 24 + 2 = omega (arith, c.frames_of.ensures.few, c.slots_scheduled-slots.ensures.most, c.min.ensures) in
    omega (arith, mul-le-mul_right c.from.result few)

pub all_stay_free-requires-clause-fed : goal.all_stay_free-requires-clause-fed
all_stay_free-requires-clause-fed g c = record { lists = c.requires.fed.lists; nodes = c.requires.fed.nodes }

pub all_stay_free-requires-clause-placed : goal.all_stay_free-requires-clause-placed
all_stay_free-requires-clause-placed g c = (_, c.requires.placed.made)

pub returns-then-not-all_stay_free-clause-free : goal.returns-then-not-all_stay_free-clause-free
returns-then-not-all_stay_free-clause-free g c = none_asked (locked_kind g.S.Shape.shape) g.S.Shape.shape _ c.args.path _ c.args.frame c.args.slot _

pub returns-clause-free : goal.returns-clause-free
returns-clause-free g c =
    let s : FrameShape = g.S.Shape.shape in
    let laws = g.met.S.Shape in
    let cs = c.args.self.now.list.items in
    let ms : List Meaning = map g.C.Tx.meaning cs in
    let plan : Plan = plan_in c.args.clock.now g.G.SlipLog.takes in
    let n : ℕ = c.args.frame in
    let t : ℕ = c.args.slot in
    let a = g.F.Feed.inputs c.args.feed.now in
    let count : ℕ = c.slots_scheduled-slots.result in
    let is = c.slots_scheduled-slots.ensures.scheduled in
    let asked : ℕ = c.frames_of.result in
    let long : length ms ≡ s.tribs = length-map cs g.C.Tx.meaning ∙ c.args.self.now.count ∙ sym laws.tribs_is in
    let all : t + count ≤ asked * s.len = subst (λ (k : ℕ). t + count ≤ asked * k) (sym laws.len_is) c.frames_of.ensures.all in
    let bits : asked * c.from.result ≡ asked * s.low = ap (λ k. asked * k) (c.from.ensures ∙ c.LOW.ensures ∙ sym laws.low_is) in
    let free = c.all_stay_free.ensures c.if-not-all_stay_free.false in
    let within : t < s.len = omega (arith, c.requires.slot, laws.len_is) in
    let quiet : (j : ℕ) (m : Meaning) → slice_get ms j ≡ Some m → IsUneventful m plan (locked_to s n t j) (locked_to s n t j + asked * s.low) a =
    λ j maker e.
    let at = get_at cs j (omega (arith, inside ms j maker e, length-map cs g.C.Tx.meaning)) in
    let same : g.C.Tx.meaning at.0 ≡ maker = some_same (sym (slice_get-map g.C.Tx.meaning cs j ∙ (let here = at.1 in rw here refl)) ∙ e) in
    subst (λ (v : Meaning). IsUneventful v plan (locked_to s n t j) (locked_to s n t j + asked * s.low) a) same
    (subst (λ (k : ℕ). IsUneventful (g.C.Tx.meaning at.0) plan (locked_to s n t j) (locked_to s n t j + k) a) bits (free j at.0 at.1 (locked_to s n t j) (c.requires.placed.made j at.0 at.1).place)) in
    record {
      free = λ size fit m u one.
          slot_free g.C.Tx s laws.has_tributaries c.args.path plan ms long c.args.self.now.disjoint n t count within a is.frames is.inside is.scheduled asked all quiet m u one.inside one.from one.to size fit;
      no_slip = λ m u one.
          slot_quiet g.C.Tx s laws.has_tributaries c.args.path plan ms long c.args.self.now.disjoint n t count within a is.frames is.inside is.scheduled asked all quiet m u one.inside one.from one.to;
    }
