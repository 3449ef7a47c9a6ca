use Rattle.std.proofs.Common.{◌≡◌, ◌+◌, ◌++◌, Bool, List, take, drop, refl, sym, ap, ◌∙◌, subst, arith}
use Rattle.std.proofs.Math.Seq.{take-add}
use Rattle.std.proofs.lemmas.List.{take_all, take-append-drop}
use Rattle.std.proofs.lemmas.Result.{err_from_is_err_and}
use Rattle.pdh_edge.proofs.Runs.{cause_since}
use Rattle.pdh_framed.specs.Taking.{Takes}
use Rattle.pdh_framed.proofs.TakeLaws.{takes_none, takes_join, takes_part}
use Rattle.pdh_ds1.specs.Packing.{packed_superframes}
use Rattle.pdh_ds1.specs.View.{FramerStands}
use Rattle.pdh_ds1.proofs.framer.Framer.take.Goals as goal

pub loop-done-init : goal.loop-done-init
loop-done-init g c = record {
  within = omega arith;
  taken = takes_none _ _ (g.D.Drain.outputs c.args.drain.now);
  unfailed = refl;
  drained = g.met.D.Drain.drained_same c.args.drain.now;
}

pub take_some-requires : goal.take_some-requires
take_some-requires g c = record {
  more = omega arith;
  stands = (c.requires.stands.0 ++ take c.loop-done.done c.args.bits.now.bits, c.loop-done.invariant.taken.stands c.requires.stands.0 c.requires.stands.1);
  list = ap (λ h. h 0) (g.met.D.Drain.drained_holds c.args.drain.now c.loop-done.drain c.loop-done.invariant.drained) ∙ c.requires.list;
}

pub returns-in_err-done-clause-part : goal.returns-in_err-done-clause-part
returns-in_err-done-clause-part g c =
    let p = err_from_is_err_and c.from_residual.result c.from_residual.ensures.1 in
    let outputs = g.D.Drain.outputs in
    let bits = c.args.bits.now.bits in
    let n = c.loop-done.done in
    rw p.1
    (takes_part (packed_superframes g.P.InSuperframe.f_bits g.P.InSuperframe.PLAN.frames) (take n bits) (drop n bits) bits _ _ (outputs c.args.drain.now) (outputs c.loop-done.drain) (outputs c.take_some.new.drain)
    (sym (take-append-drop n bits)) c.loop-done.invariant.taken c.in_err-done.ensures.part)

pub returns-in_err-done-clause-cause : goal.returns-in_err-done-clause-cause
returns-in_err-done-clause-cause g c =
    cause_since c.from_residual.result _ _ _ _ (err_from_is_err_and c.from_residual.result c.from_residual.ensures.1).1 c.loop-done.invariant.unfailed c.in_err-done.ensures.cause

pub returns-in_err-done-clause-drained : goal.returns-in_err-done-clause-drained
returns-in_err-done-clause-drained g c = g.met.D.Drain.drained_join c.args.drain.now c.loop-done.drain c.take_some.new.drain c.loop-done.invariant.drained c.take_some.ensures.drained

pub loop-done-preserved : goal.loop-done-preserved
loop-done-preserved g c =
    let outputs = g.D.Drain.outputs in
    let bits = c.args.bits.now.bits in
    let n = c.loop-done.done in
    let k = c.in_ok-done.field-0 in
    let inv = c.loop-done.invariant in
    let taken = c.in_ok-done.ensures in
    record {
      within = omega (arith, taken.some.1);
      taken = takes_join _ (take n bits) (take k (drop n bits)) (take (n + k) bits) _ _ _ (outputs c.args.drain.now) (outputs c.loop-done.drain) (outputs c.take_some.new.drain) (take-add n k bits) inv.taken taken.taken;
      unfailed = taken.cause ∙ inv.unfailed;
      drained = g.met.D.Drain.drained_join c.args.drain.now c.loop-done.drain c.take_some.new.drain inv.drained c.take_some.ensures.drained;
    }

pub returns-clause-taken : goal.returns-clause-taken
returns-clause-taken g c =
    let all : take c.loop-done.done c.args.bits.now.bits ≡ c.args.bits.now.bits = take_all c.loop-done.done c.args.bits.now.bits (omega arith) in
    subst (λ (bits : List Bool). Takes (packed_superframes g.P.InSuperframe.f_bits g.P.InSuperframe.PLAN.frames) (FramerStands g.P.InSuperframe.f_bits g.P.InSuperframe.PLAN c.args.self.now) (FramerStands g.P.InSuperframe.f_bits g.P.InSuperframe.PLAN c.loop-done.self) bits (g.D.Drain.outputs c.args.drain.now) (g.D.Drain.outputs c.loop-done.drain)) all c.loop-done.invariant.taken
