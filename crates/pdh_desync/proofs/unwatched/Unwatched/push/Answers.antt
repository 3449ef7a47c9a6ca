use Rattle.std.proofs.Common.{◌<◌, sym, subst, refl, arith}
use Rattle.std.proofs.lemmas.Result.{on_ok_weaker, on_err_weaker}
use Rattle.pdh_rx.proofs.NodeSteps.{gap_inside}
use Rattle.pdh_desync.specs.States.{FarState}
use Rattle.pdh_desync.specs.FarNode.{IsReady}
use Rattle.pdh_desync.proofs.SmoothSteps.{stores_ready, push_stands, smooth_taken, push_gains, push_part}
use Rattle.pdh_desync.proofs.unwatched.Unwatched.push.Goals as goal

pub give_step-requires-clause-ready : goal.give_step-requires-clause-ready
give_step-requires-clause-ready g c =
    let ready = subst (λ (v : FarState). IsReady g.S.Shape.shape v (g.D.Drain.outputs c.args.drain.now)) (sym c.self.view_is) c.requires in
    stores_ready g.S.Shape.shape _ _ ready

pub returns-clause-taken : goal.returns-clause-taken
returns-clause-taken g c =
    let s = g.S.Shape.shape in
    let shape = g.met.S.Shape.is_frame in
    rw (← c.self.view_is) (on_ok_weaker c.give_step.result (λ p. record {
      stands = λ line st. smooth_taken s _ _ _ c.give_step.ensures.aligner (push_stands s shape _ _ c.push-step.result c.args.bit line st (c.push-step.ensures.tracks line st.node.aligner) c.gap_after-self-inside.result c.gap_after-self-inside.ensures _ _ _ _ c.frames_after-self-inside.ensures p);
      gains = λ line st. push_gains s shape _ _ c.push-step.result c.args.bit line st (c.push-step.ensures.tracks line st.node.aligner) c.gap_after-self-inside.result c.gap_after-self-inside.ensures _ _ _ p;
    }) c.give_step.ensures.given)

pub returns-clause-part : goal.returns-clause-part
returns-clause-part g c =
    let s = g.S.Shape.shape in
    let shape = g.met.S.Shape.is_frame in
    rw (← c.self.view_is) (on_err_weaker c.give_step.result (λ p. record {
      gains = λ line st. push_part s shape _ _ c.push-step.result c.args.bit line st (c.push-step.ensures.tracks line st.node.aligner) c.gap_after-self-inside.result c.gap_after-self-inside.ensures _ _ p;
    }) c.give_step.ensures.part)

pub returns-clause-same : goal.returns-clause-same
returns-clause-same g c = rw (← c.self.view_is) (record { path = refl; leaves = c.give_step.ensures.same })

pub invariant_of-self : goal.invariant_of-self
invariant_of-self g c =
    let s = g.S.Shape.shape in
    let inside : c.self.inside.gap < s.len = omega (arith, c.self.invariant, g.met.S.Shape.len_is) in
    omega (arith, gap_inside s c.push-step.result c.self.inside.gap inside, c.gap_after-self-inside.ensures, g.met.S.Shape.len_is)
