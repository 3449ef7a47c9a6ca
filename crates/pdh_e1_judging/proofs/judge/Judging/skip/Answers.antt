use Rattle.std.proofs.Common.{◌≡◌, length, take, drop, sym, ap, ◌∙◌, subst, arith, length-drop}
use Rattle.std.proofs.lemmas.List.{length-take-le}
use Rattle.pdh_g706.specs.declared.align.E1Align.{E1Align}
use Rattle.pdh_g706.specs.Machine.{Waits}
use Rattle.pdh_g706.specs.View.{phase}
use Rattle.pdh_e1_judging.proofs.PushLaws.{judging_skip}
use Rattle.pdh_e1_judging.proofs.judge.Judging.skip.Goals as goal

pub idle-requires : goal.idle-requires
idle-requires c = c.requires.stands.follows.fits

pub returns-clause-stands : goal.returns-clause-stands
returns-clause-stands c =
    let align = c.args.self.now.align in
    let bits = c.args.line.now.bits in
    let place = c.args.place in
    let count = c.min-count.result in
    let now = c.hold.new.self in
    let piece = take count (drop place bits) in
    let size : length piece ≡ count = length-take-le count (drop place bits) (omega (arith, length-drop place bits)) in
    let waits : Waits (phase align) piece (phase now) = subst (Waits (phase align) piece) (sym c.hold.ensures.phase) (c.idle.ensures.waits piece (omega (arith, size))) in
    judging_skip align c.args.self.now.came c.args.self.now.judged bits place c.requires.stands now count waits (c.hold.ensures.room ∙ c.requires.stands.room)
    (ap (λ (a : E1Align). a.counts.multiframes) c.hold.ensures.same)
