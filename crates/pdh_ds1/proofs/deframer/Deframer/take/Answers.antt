use Rattle.std.proofs.Common.{◌≡◌, ◌<◌, ◌+◌, ◌∷◌, [], ◌++◌, Bool, false, List, length, take, drop, refl, sym, ap, ◌∙◌, subst, arith}
use Rattle.std.proofs.Math.Seq.{take-add}
use Rattle.std.proofs.lemmas.List.{take_more, take_all}
use Rattle.std.proofs.lemmas.Result.{err_from_is_err_and}
use Rattle.pdh_edge.proofs.Runs.{cause_since}
use Rattle.pdh_shape.specs.laws.LawsOfTest.{laws-is_frame}
use Rattle.pdh_ds1.specs.declared.plan.SuperframePlan.{SuperframePlan}
use Rattle.pdh_ds1.specs.Superframe.{in_superframe}
use Rattle.pdh_ds1.specs.Receiving.{ds1_far}
use Rattle.pdh_framed.specs.Taking.{Takes, TakesPart}
use Rattle.pdh_ds1.specs.View.{DeframerStands}
use Rattle.pdh_ds1.proofs.MachineLaws.{far_grows_on}
use Rattle.pdh_framed.proofs.TakeLaws.{takes_quiet, takes_join, takes_fails}
use Rattle.pdh_ds1.proofs.deframer.Deframer.take.Goals as goal

pub loop-done-init : goal.loop-done-init
loop-done-init g c = record {
  within = omega (arith, c.glide-done.ensures.count);
  taken = takes_quiet _ (take c.glide-done.result c.args.bits.now.bits) _ _ (g.D.Drain.outputs c.args.drain.now) c.glide-done.ensures.taken;
  unfailed = refl;
  drained = g.met.D.Drain.drained_same c.args.drain.now;
}

pub push-requires : goal.push-requires
push-requires g c = record {
  stands = (c.requires.stands.0 ++ take c.loop-done.done c.args.bits.now.bits, c.loop-done.invariant.taken.stands c.requires.stands.0 c.requires.stands.1);
  list = ap (λ h. h 0) (g.met.D.Drain.drained_holds c.args.drain.now c.loop-done.drain c.loop-done.invariant.drained) ∙ c.requires.list;
}

pub returns-in_err-push-clause-part : goal.returns-in_err-push-clause-part
returns-in_err-push-clause-part g c =
    let p = err_from_is_err_and c.from_residual.result c.from_residual.ensures.1 in
    let f_bits = g.P.InSuperframe.f_bits in
    let plan : SuperframePlan = g.P.InSuperframe.PLAN in
    let s = in_superframe f_bits plan in
    let bits = c.args.bits.now.bits in
    let n = c.loop-done.done in
    let inside : n < length bits = omega arith in
    let part = subst (λ (bit : Bool). TakesPart (ds1_far s) (DeframerStands f_bits plan c.loop-done.self) (bit ∷ []) (g.D.Drain.outputs c.loop-done.drain) (g.D.Drain.outputs c.push.new.drain)) c.get.ensures c.in_err-push.ensures.part in
    rw p.1
    (takes_fails (ds1_far s) (far_grows_on s (laws-is_frame s g.met.P.InSuperframe.lawful)) bits n inside _ _ (g.D.Drain.outputs c.args.drain.now) (g.D.Drain.outputs c.loop-done.drain) (g.D.Drain.outputs c.push.new.drain) c.loop-done.invariant.taken part)

pub returns-in_err-push-clause-cause : goal.returns-in_err-push-clause-cause
returns-in_err-push-clause-cause g c =
    cause_since c.from_residual.result _ _ _ _ (err_from_is_err_and c.from_residual.result c.from_residual.ensures.1).1 c.loop-done.invariant.unfailed c.in_err-push.ensures.cause

pub returns-in_err-push-clause-drained : goal.returns-in_err-push-clause-drained
returns-in_err-push-clause-drained g c = g.met.D.Drain.drained_join c.args.drain.now c.loop-done.drain c.push.new.drain c.loop-done.invariant.drained c.push.ensures.drained

pub loop-done-preserved : goal.loop-done-preserved
loop-done-preserved g c =
    let outputs = g.D.Drain.outputs in
    let bits = c.args.bits.now.bits in
    let n = c.loop-done.done in
    let k = c.glide-done-in-loop-done.result in
    let inv = c.loop-done.invariant in
    let inside : n < length bits = omega arith in
    let one : take (n + 1) bits ≡ take n bits ++ c.get.result ∷ [] = take_more bits n false inside ∙ ap (λ (bit : Bool). take n bits ++ bit ∷ []) (sym c.get.ensures) in
    let more : take (n + 1 + k) bits ≡ take (n + 1) bits ++ take k (drop (n + 1) bits) = take-add (n + 1) k bits in
    let before = takes_join _ (take n bits) (c.get.result ∷ []) (take (n + 1) bits) _ _ _ (outputs c.args.drain.now) (outputs c.loop-done.drain) (outputs c.push.new.drain) one inv.taken c.in_ok-push.ensures.taken in
    let quiet = takes_quiet _ (take k (drop (n + 1) bits)) _ _ (outputs c.push.new.drain) c.glide-done-in-loop-done.ensures.taken in
    record {
      within = omega (arith, c.glide-done-in-loop-done.ensures.count);
      taken = takes_join _ (take (n + 1) bits) (take k (drop (n + 1) bits)) (take (n + 1 + k) bits) _ _ _ (outputs c.args.drain.now) (outputs c.push.new.drain) (outputs c.push.new.drain) more before quiet;
      unfailed = c.in_ok-push.ensures.cause ∙ inv.unfailed;
      drained = g.met.D.Drain.drained_join c.args.drain.now c.loop-done.drain c.push.new.drain inv.drained c.push.ensures.drained;
    }

pub returns-clause-taken : goal.returns-clause-taken
returns-clause-taken g c =
    let f_bits = g.P.InSuperframe.f_bits in
    let plan : SuperframePlan = g.P.InSuperframe.PLAN in
    let all : take c.loop-done.done c.args.bits.now.bits ≡ c.args.bits.now.bits = take_all c.loop-done.done c.args.bits.now.bits (omega arith) in
    subst (λ (bits : List Bool). Takes (ds1_far (in_superframe f_bits plan)) (DeframerStands f_bits plan c.args.self.now) (DeframerStands f_bits plan c.loop-done.self) bits (g.D.Drain.outputs c.args.drain.now) (g.D.Drain.outputs c.loop-done.drain)) all c.loop-done.invariant.taken
