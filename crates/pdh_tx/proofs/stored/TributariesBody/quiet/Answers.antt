use Rattle.std.proofs.Common.{◌≡◌, ◌<◌, ◌≤◌, ◌+◌, ◌*◌, ℕ, List, Some, length, map, slice_get, refl, sym, ◌∙◌, subst, arith}
use Rattle.std.proofs.lemmas.List.{length-map}
use Rattle.std.proofs.lemmas.Option.{slice_get-map}
use Rattle.std.proofs.Math.Nat.{mul-le-mul_right}
use Rattle.pdh_shape.specs.Frame.{FrameShape}
use Rattle.pdh_tx.specs.Meaning.{Plan, plan_in, Meaning}
use Rattle.pdh_tx.specs.Tributary.{meaning_in}
use Rattle.pdh_tx.proofs.Lists.{get_at, some_same}
use Rattle.pdh_tx.proofs.Moving.{inside}
use Rattle.pdh_tx.specs.Stored.{stored_kind}
use Rattle.pdh_tx.proofs.QuietSlots.{next_numbers, MeetsNone, slot_free, slot_quiet}
use Rattle.pdh_tx.proofs.SenderSteps.{none_asked}
use Rattle.pdh_tx.proofs.stored.TributariesBody.quiet.Goals as goal

pub div_ceil-end_frame-requires : goal.div_ceil-end_frame-requires
div_ceil-end_frame-requires g c = omega (arith, c.from-len.ensures, c.LEN.ensures, g.met.S.Shape.len_is, g.met.S.Shape.is_frame.some_slots)

pub meet_nothing-requires-clause-next : goal.meet_nothing-requires-clause-next
meet_nothing-requires-clause-next g c =
    let are = next_numbers g.S.Shape.shape.len c.args.frame c.args.slot c.args.most c.from-len.result c.from.result c.from-2.result c.div_ceil-end_frame.result
    g.met.S.Shape.is_frame.some_slots (c.from-len.ensures ∙ c.LEN.ensures ∙ sym g.met.S.Shape.len_is) c.from.ensures c.from-2.ensures c.div_ceil-end_frame.ensures in
    record {
      node = c.requires.fed.node;
      inside = omega (arith, c.requires.slot, g.met.S.Shape.len_is);
      first = are.first;
      longer = omega arith;
      last = are.last;
      scheduled = omega (arith, c.if-end_frame-from.false, c.from-3.ensures, c.frames.ensures);
    }

pub returns-then-end_frame-from-clause-free : goal.returns-then-end_frame-from-clause-free
returns-then-end_frame-from-clause-free g c = none_asked (stored_kind g.S.Shape.shape) g.S.Shape.shape _ c.args.path _ c.args.frame c.args.slot _

pub returns-then-not-meet_nothing-clause-free : goal.returns-then-not-meet_nothing-clause-free
returns-then-not-meet_nothing-clause-free g c = none_asked (stored_kind g.S.Shape.shape) g.S.Shape.shape _ c.args.path _ c.args.frame c.args.slot _

pub returns-clause-free : goal.returns-clause-free
returns-clause-free g c =
    let s : FrameShape = g.S.Shape.shape in
    let laws = g.met.S.Shape in
    let tx = g.C.Tx in
    let ws = c.args.self.now.list.items in
    let ms : List Meaning = map (meaning_in tx) ws in
    let plan : Plan = plan_in c.args.clock.now g.G.SlipLog.takes in
    let path = c.args.path in
    let n : ℕ = c.args.frame in
    let t : ℕ = c.args.slot in
    let a = g.F.Feed.inputs c.args.feed.now in
    let are = next_numbers g.S.Shape.shape.len c.args.frame c.args.slot c.args.most c.from-len.result c.from.result c.from-2.result c.div_ceil-end_frame.result
    g.met.S.Shape.is_frame.some_slots (c.from-len.ensures ∙ c.LEN.ensures ∙ sym g.met.S.Shape.len_is) c.from.ensures c.from-2.ensures c.div_ceil-end_frame.ensures in
    let end : ℕ = c.from.result * c.from-len.result + c.from-2.result + c.args.most in
    let long : length ms ≡ s.tribs = length-map ws (meaning_in tx) ∙ c.args.self.now.count ∙ sym laws.tribs_is in
    let frames : c.div_ceil-end_frame.result ≤ plan.frames path = omega (arith, c.if-end_frame-from.false, c.from-3.ensures, c.frames.ensures) in
    let within : t < s.len = omega (arith, c.requires.slot, laws.len_is) in
    let scheduled : end ≤ plan.frames path * s.len = omega (arith, are.last, mul-le-mul_right s.len frames) in
    let meet = c.meet_nothing.ensures c.if-not-meet_nothing.false in
    let quiet : (j : ℕ) (m : Meaning) → slice_get ms j ≡ Some m → MeetsNone s path plan j m n t end a =
    λ j maker e.
    let at = get_at ws j (omega (arith, inside ms j maker e, length-map ws (meaning_in tx))) in
    let same : meaning_in tx at.0 ≡ maker = some_same (sym (slice_get-map (meaning_in tx) ws j ∙ (let is = at.1 in rw is refl)) ∙ e) in
    let meets = meet j at.0 at.1 in
    subst (λ v. MeetsNone s path plan j v n t end a) same
    (record {
      events = λ k u slot from to. meets.events k u slot (omega (arith, from, are.first)) to;
      free = meets.free;
    }) in
    record {
      free = λ size fit m u one.
          slot_free tx s laws.is_frame path plan ms long c.args.self.now.disjoint n t end within scheduled a quiet m u one.inside one.from (omega (arith, one.to, are.first, are.all)) size fit;
      no_slip = λ m u one.
          slot_quiet tx s laws.is_frame path plan ms long c.args.self.now.disjoint n t end within scheduled a quiet m u one.inside one.from (omega (arith, one.to, are.first, are.all));
    }
