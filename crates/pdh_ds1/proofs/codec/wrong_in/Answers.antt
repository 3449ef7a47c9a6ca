use Rattle.std.proofs.Common.{◌≡◌, ℕ, ◌+◌, ap, subst, arith}
use Rattle.pdh_framed.specs.RightFrames.{AreRight}
use Rattle.pdh_ds1.specs.declared.plan.SuperframePlan.{SuperframePlan}
use Rattle.pdh_ds1.specs.Packing.{frame_right}
use Rattle.pdh_ds1.proofs.PackingLaws.{right_more, first_wrong_is}
use Rattle.pdh_ds1.proofs.codec.wrong_in.Goals as goal

pub returns-then-not-fits : goal.returns-then-not-fits
returns-then-not-fits g c =
    let frames : ℕ = g.P.InSuperframe.PLAN.frames in
    let end : c.PLAN-place-end.result.frames ≡ frames = ap (λ (p : SuperframePlan). p.frames) c.PLAN-place-end.ensures in
    first_wrong_is g.P.InSuperframe.f_bits frames c.args.first c.loop-place.place c.args.sent c.args.line.now.bits c.f_bit.result c.get-bit.result c.fits.result c.requires.whole (omega (arith, end)) c.requires.sends c.f_bit.ensures c.get-bit.ensures c.fits.ensures
    c.loop-place.invariant c.if-not-fits.true c.requires.within

pub loop-place-preserved : goal.loop-place-preserved
loop-place-preserved g c =
    let frames : ℕ = g.P.InSuperframe.PLAN.frames in
    let end : c.PLAN-place-end.result.frames ≡ frames = ap (λ (p : SuperframePlan). p.frames) c.PLAN-place-end.ensures in
    right_more g.P.InSuperframe.f_bits frames c.args.first c.loop-place.place c.args.sent c.args.line.now.bits c.f_bit.result c.get-bit.result c.fits.result c.requires.whole (omega (arith, end)) c.requires.sends c.f_bit.ensures c.get-bit.ensures c.fits.ensures
    c.loop-place.invariant c.if-not-fits.false

pub returns : goal.returns
returns g c =
    let frames : ℕ = g.P.InSuperframe.PLAN.frames in
    let end : c.PLAN-place-end.result.frames ≡ frames = ap (λ (p : SuperframePlan). p.frames) c.PLAN-place-end.ensures in
    let all : c.args.first + c.loop-place.place ≡ c.args.first + frames = omega (arith, end) in
    subst (AreRight (frame_right g.P.InSuperframe.f_bits frames c.args.line.now.bits)) all c.loop-place.invariant
