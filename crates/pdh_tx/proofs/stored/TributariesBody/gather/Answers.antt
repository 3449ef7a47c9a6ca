use Rattle.std.proofs.Common.{◌≡◌, ◌+◌, ◌*◌, ◌<◌, sym, ap, ◌∙◌, subst, arith}
use Rattle.std.proofs.lemmas.Result.{on_ok_weaker, on_err_weaker}
use Rattle.pdh_shape.specs.Frame.{FrameShape}
use Rattle.pdh_line.specs.Paths.{steps_of}
use Rattle.pdh_tx.specs.declared.tributaries.Tributaries.{Tributaries}
use Rattle.pdh_tx.specs.Meaning.{plan_in, Plan}
use Rattle.pdh_tx.specs.Stored.{stored_kind}
use Rattle.pdh_tx.specs.Tributaries.{meanings, HoldToHere}
use Rattle.pdh_tx.specs.Batches.{AreSlotsClear, GathersSlots, HaltsGathering}
use Rattle.pdh_tx.specs.Gathered.{Gathered, HoldGathered}
use Rattle.pdh_tx.proofs.BatchSlots.{end_scheduled}
use Rattle.pdh_tx.proofs.GatherSlots.{next_place, none_gathered, each_can, all_slots, all_halts}
use Rattle.pdh_tx.proofs.QuietSlots.{node_len}
use Rattle.pdh_tx.proofs.stored.TributariesBody.gather.Goals as goal

pub gather_all-requires-clause-next : goal.gather_all-requires-clause-next
gather_all-requires-clause-next g c =
    let laws = g.met.S.Shape in
    let s : FrameShape = g.S.Shape.shape in
    let place = next_place s.len c.args.frame c.args.slot c.from-slots.result c.from.result c.from-2.result (c.from-slots.ensures ∙ c.LEN.ensures ∙ sym laws.len_is) c.from.ensures c.from-2.ensures in
    let inside : c.args.slot < s.len = omega (arith, c.requires.slot, laws.len_is) in
    let clear = c.requires.clear in
    let last = end_scheduled s laws.is_frame c.args.path (plan_in c.args.clock.now g.G.SlipLog.takes) _ clear.size c.args.frame c.args.slot (c.args.frame * s.len + c.args.slot + c.args.len) clear.slots inside c.requires.placed.scheduled (omega (arith, c.requires.few.some)) in
    record {
      node = c.requires.fed.node;
      inside = inside;
      first = sym place;
      longer = omega arith;
      last = omega (arith, place, last, ap (λ n. n * s.len) c.frames.ensures);
      scheduled = omega (arith, c.frames.ensures);
    }

pub gather_all-requires-clause-few : goal.gather_all-requires-clause-few
gather_all-requires-clause-few g c = record { some = omega (arith, c.requires.few.some); few = omega (arith, c.requires.few.few) }

pub gather_all-requires-clause-placed : goal.gather_all-requires-clause-placed
gather_all-requires-clause-placed g c =
    let laws = g.met.S.Shape in
    let s : FrameShape = g.S.Shape.shape in
    let plan : Plan = plan_in c.args.clock.now g.G.SlipLog.takes in
    let place = next_place s.len c.args.frame c.args.slot c.from-slots.result c.from.result c.from-2.result (c.from-slots.ensures ∙ c.LEN.ensures ∙ sym laws.len_is) c.from.ensures c.from-2.ensures in
    let inside : c.args.slot < s.len = omega (arith, c.requires.slot, laws.len_is) in
    let end_is : c.from.result * c.from-slots.result + c.from-2.result + c.args.len ≡ c.args.frame * s.len + c.args.slot + c.args.len = ap (λ n. n + c.args.len) place in
    let clear = subst (λ e. AreSlotsClear (stored_kind s) s (meanings c.args.self.now) c.args.path plan c.args.frame c.args.slot e (g.F.Feed.inputs c.args.feed.now)) (sym end_is) c.requires.clear in
    none_gathered laws.is_frame laws.tribs_is c.args.self.now plan (record { path = c.args.path; frame = c.args.frame; slot = c.args.slot; made = c.from.result * c.from-slots.result + c.from-2.result; end = c.from.result * c.from-slots.result + c.from-2.result + c.args.len; end_frame = c.frames.result }) c.args.len _ inside c.requires.few.some end_is c.requires.placed clear

pub gather_all-requires-clause-clear : goal.gather_all-requires-clause-clear
gather_all-requires-clause-clear g c =
    let laws = g.met.S.Shape in
    let s : FrameShape = g.S.Shape.shape in
    let plan : Plan = plan_in c.args.clock.now g.G.SlipLog.takes in
    let place = next_place s.len c.args.frame c.args.slot c.from-slots.result c.from.result c.from-2.result (c.from-slots.ensures ∙ c.LEN.ensures ∙ sym laws.len_is) c.from.ensures c.from-2.ensures in
    let inside : c.args.slot < s.len = omega (arith, c.requires.slot, laws.len_is) in
    let end_is : c.from.result * c.from-slots.result + c.from-2.result + c.args.len ≡ c.args.frame * s.len + c.args.slot + c.args.len = ap (λ n. n + c.args.len) place in
    let clear = subst (λ e. AreSlotsClear (stored_kind s) s (meanings c.args.self.now) c.args.path plan c.args.frame c.args.slot e (g.F.Feed.inputs c.args.feed.now)) (sym end_is) c.requires.clear in
    let wide = node_len s c.args.path c.args.clock.now.levels c.args.self.now.stores c.requires.fed.node in
    each_can laws.is_frame laws.tribs_is c.args.self.now plan (record { path = c.args.path; frame = c.args.frame; slot = c.args.slot; made = c.from.result * c.from-slots.result + c.from-2.result; end = c.from.result * c.from-slots.result + c.from-2.result + c.args.len; end_frame = c.frames.result }) c.args.len _ inside c.requires.few.some end_is c.requires.placed clear
    (λ m j. omega (arith, c.counts_fit.ensures (steps_of c.args.path) j m, wide)) (omega (arith, c.requires.few.few, ap (λ n. 16 * n) laws.len_is))

pub returns-clause-made : goal.returns-clause-made
returns-clause-made g c =
    let laws = g.met.S.Shape in
    let s : FrameShape = g.S.Shape.shape in
    let plan : Plan = plan_in c.args.clock.now g.G.SlipLog.takes in
    let old = c.args.self.now in
    let new = c.gather_all.new.self in
    let place = next_place s.len c.args.frame c.args.slot c.from-slots.result c.from.result c.from-2.result (c.from-slots.ensures ∙ c.LEN.ensures ∙ sym laws.len_is) c.from.ensures c.from-2.ensures in
    let inside : c.args.slot < s.len = omega (arith, c.requires.slot, laws.len_is) in
    let end_is : c.from.result * c.from-slots.result + c.from-2.result + c.args.len ≡ c.args.frame * s.len + c.args.slot + c.args.len = ap (λ n. n + c.args.len) place in
    let inputs = g.F.Feed.inputs in
    let clear = subst (λ e. AreSlotsClear (stored_kind s) s (meanings old) c.args.path plan c.args.frame c.args.slot e (inputs c.args.feed.now)) (sym end_is) c.requires.clear in
    on_ok_weaker c.gather_all.result
    (λ all.
    subst (λ e. GathersSlots (stored_kind s) (λ (ts : Tributaries _ _ g.S.Shape g.C.Tx). meanings ts) (λ (ts : Tributaries _ _ g.S.Shape g.C.Tx). Gathered ts) (λ (ts : Tributaries _ _ g.S.Shape g.C.Tx). HoldToHere ts) (λ (ts : Tributaries _ _ g.S.Shape g.C.Tx). HoldGathered ts)
    old new c.args.path plan c.args.frame c.args.slot e (inputs c.args.feed.now) (inputs c.gather_all.new.feed)) end_is
    (all_slots laws.is_frame laws.tribs_is old plan (record { path = c.args.path; frame = c.args.frame; slot = c.args.slot; made = c.from.result * c.from-slots.result + c.from-2.result; end = c.from.result * c.from-slots.result + c.from-2.result + c.args.len; end_frame = c.frames.result }) c.args.len _ inside c.requires.few.some end_is c.requires.placed clear new _ c.gather_all.ensures.same c.gather_all.ensures.shares all (omega (arith, c.frames.ensures))))
    c.gather_all.ensures.ok

pub returns-clause-halts : goal.returns-clause-halts
returns-clause-halts g c =
    let laws = g.met.S.Shape in
    let s : FrameShape = g.S.Shape.shape in
    let plan : Plan = plan_in c.args.clock.now g.G.SlipLog.takes in
    let old = c.args.self.now in
    let place = next_place s.len c.args.frame c.args.slot c.from-slots.result c.from.result c.from-2.result (c.from-slots.ensures ∙ c.LEN.ensures ∙ sym laws.len_is) c.from.ensures c.from-2.ensures in
    let inside : c.args.slot < s.len = omega (arith, c.requires.slot, laws.len_is) in
    let end_is : c.from.result * c.from-slots.result + c.from-2.result + c.args.len ≡ c.args.frame * s.len + c.args.slot + c.args.len = ap (λ n. n + c.args.len) place in
    let inputs = g.F.Feed.inputs in
    let clear = subst (λ e. AreSlotsClear (stored_kind s) s (meanings old) c.args.path plan c.args.frame c.args.slot e (inputs c.args.feed.now)) (sym end_is) c.requires.clear in
    on_err_weaker c.gather_all.result
    (λ stays. subst (λ e. HaltsGathering (stored_kind s) (meanings old) c.args.path plan c.args.frame c.args.slot e (inputs c.args.feed.now) (inputs c.gather_all.new.feed)) end_is
    (all_halts laws.is_frame laws.tribs_is old plan (record { path = c.args.path; frame = c.args.frame; slot = c.args.slot; made = c.from.result * c.from-slots.result + c.from-2.result; end = c.from.result * c.from-slots.result + c.from-2.result + c.args.len; end_frame = c.frames.result }) c.args.len _ inside c.requires.few.some end_is c.requires.placed clear _ stays))
    c.gather_all.ensures.halts
