use Rattle.std.proofs.Common.{◌≡◌, ◌+◌, ◌*◌, ◌/◌, ◌%◌, sym, ap, ◌∙◌, arith}
use Rattle.std.proofs.lemmas.Result.{on_ok_weaker, on_err_weaker}
use Rattle.pdh_shape.specs.Frame.{FrameShape}
use Rattle.pdh_tx.specs.Batches.{batch}
use Rattle.pdh_tx.specs.Meaning.{plan_in, Plan}
use Rattle.pdh_locked.specs.declared.gathering.NextSlots.{NextSlots}
use Rattle.pdh_locked.proofs.GatherSlots.{slots_of, slots_end, none_gathered, each_can, all_slots, all_halts}
use Rattle.pdh_locked.proofs.body.ChildrenBody.gather.Goals as goal

pub gather_all-requires-clause-slots : goal.gather_all-requires-clause-slots
gather_all-requires-clause-slots g c =
    let laws = g.met.S.Shape in
    slots_of g.S.Shape.shape laws.is_frame c.args.frame c.args.slot c.args.len c.LEN-wide.result (c.LEN-wide.ensures ∙ sym laws.len_is) (omega (arith, c.requires.slot, laws.len_is)) c.requires.few.some (omega (arith, c.requires.few.few, ap (λ n. batch * n) laws.len_is))

pub gather_all-requires-clause-fed : goal.gather_all-requires-clause-fed
gather_all-requires-clause-fed g c = record { lists = c.requires.fed.lists; nodes = c.requires.fed.nodes }

pub gather_all-requires-clause-placed : goal.gather_all-requires-clause-placed
gather_all-requires-clause-placed g c =
    let laws = g.met.S.Shape in
    let s : FrameShape = g.S.Shape.shape in
    let plan : Plan = plan_in c.args.clock.now g.G.SlipLog.takes in
    let wide : c.LEN-wide.result ≡ s.len = c.LEN-wide.ensures ∙ sym laws.len_is in
    let slots : NextSlots = record { frame = c.args.frame; slot = c.args.slot; frames = (c.args.slot + c.args.len) / c.LEN-wide.result; end = (c.args.slot + c.args.len) % c.LEN-wide.result } in
    let are = slots_of s laws.is_frame c.args.frame c.args.slot c.args.len c.LEN-wide.result wide (omega (arith, c.requires.slot, laws.len_is)) c.requires.few.some (omega (arith, c.requires.few.few, ap (λ n. batch * n) laws.len_is)) in
    none_gathered laws.is_frame laws.has_tributaries laws.tribs_is c.args.self.now c.args.path plan slots _ _ are (slots_end s c.args.frame c.args.slot c.args.len c.LEN-wide.result wide) (omega (arith, c.requires.few.some)) c.requires.placed c.requires.clear

pub gather_all-requires-clause-clear : goal.gather_all-requires-clause-clear
gather_all-requires-clause-clear g c =
    let laws = g.met.S.Shape in
    let s : FrameShape = g.S.Shape.shape in
    let plan : Plan = plan_in c.args.clock.now g.G.SlipLog.takes in
    let wide : c.LEN-wide.result ≡ s.len = c.LEN-wide.ensures ∙ sym laws.len_is in
    let slots : NextSlots = record { frame = c.args.frame; slot = c.args.slot; frames = (c.args.slot + c.args.len) / c.LEN-wide.result; end = (c.args.slot + c.args.len) % c.LEN-wide.result } in
    let are = slots_of s laws.is_frame c.args.frame c.args.slot c.args.len c.LEN-wide.result wide (omega (arith, c.requires.slot, laws.len_is)) c.requires.few.some (omega (arith, c.requires.few.few, ap (λ n. batch * n) laws.len_is)) in
    each_can laws.is_frame laws.has_tributaries laws.tribs_is c.args.self.now c.args.path plan slots _ _ are (slots_end s c.args.frame c.args.slot c.args.len c.LEN-wide.result wide) (omega (arith, c.requires.few.some)) c.requires.placed c.requires.clear

pub returns-clause-made : goal.returns-clause-made
returns-clause-made g c =
    let laws = g.met.S.Shape in
    let s : FrameShape = g.S.Shape.shape in
    let plan : Plan = plan_in c.args.clock.now g.G.SlipLog.takes in
    let wide : c.LEN-wide.result ≡ s.len = c.LEN-wide.ensures ∙ sym laws.len_is in
    let slots : NextSlots = record { frame = c.args.frame; slot = c.args.slot; frames = (c.args.slot + c.args.len) / c.LEN-wide.result; end = (c.args.slot + c.args.len) % c.LEN-wide.result } in
    let are = slots_of s laws.is_frame c.args.frame c.args.slot c.args.len c.LEN-wide.result wide (omega (arith, c.requires.slot, laws.len_is)) c.requires.few.some (omega (arith, c.requires.few.few, ap (λ n. batch * n) laws.len_is)) in
    on_ok_weaker c.gather_all.result
    (λ all. all_slots laws.is_frame laws.has_tributaries laws.tribs_is c.args.self.now c.args.path plan slots _ _ are (slots_end s c.args.frame c.args.slot c.args.len c.LEN-wide.result wide) (omega (arith, c.requires.few.some)) c.requires.placed c.requires.clear
    c.gather_all.new.self _ c.gather_all.ensures.same all (omega (arith, c.frames-fits.ensures)))
    c.gather_all.ensures.ok

pub returns-clause-halts : goal.returns-clause-halts
returns-clause-halts g c =
    let laws = g.met.S.Shape in
    let s : FrameShape = g.S.Shape.shape in
    let plan : Plan = plan_in c.args.clock.now g.G.SlipLog.takes in
    let wide : c.LEN-wide.result ≡ s.len = c.LEN-wide.ensures ∙ sym laws.len_is in
    let slots : NextSlots = record { frame = c.args.frame; slot = c.args.slot; frames = (c.args.slot + c.args.len) / c.LEN-wide.result; end = (c.args.slot + c.args.len) % c.LEN-wide.result } in
    let are = slots_of s laws.is_frame c.args.frame c.args.slot c.args.len c.LEN-wide.result wide (omega (arith, c.requires.slot, laws.len_is)) c.requires.few.some (omega (arith, c.requires.few.few, ap (λ n. batch * n) laws.len_is)) in
    on_err_weaker c.gather_all.result
    (λ stays. all_halts laws.is_frame laws.has_tributaries laws.tribs_is c.args.self.now c.args.path plan slots _ _ are (slots_end s c.args.frame c.args.slot c.args.len c.LEN-wide.result wide) (omega (arith, c.requires.few.some)) c.requires.placed c.requires.clear _ stays)
    c.gather_all.ensures.halts
