use Rattle.std.proofs.Common.{◌%◌, refl, ap, ◌∙◌, arith}
use Rattle.pdh_g706.specs.Machine.Phase.{Framed}
use Rattle.pdh_g706.specs.View.{phase_of}
use Rattle.pdh_g706.proofs.AlignSteps.{framed_block, framed_frame, turned_from, turned_still}
use Rattle.pdh_g706.proofs.align.E1Align.end_framed.Goals as goal

pub returns-then-held-ne0 : goal.returns-then-held-ne0
returns-then-held-ne0 g c =
    let self = c.args.self.now in
    let bits = self.held.bits in
    turned_still g.D.Drain.outputs g.D.Drain.drain_faults g.D.Drain.drained g.W.Watch.saw _ _ (Framed bits self.group.judged self.group.errored) self _ c.args.drain.now c.args.watch.now
    (g.met.D.Drain.drained_same c.args.drain.now) (g.met.W.Watch.saw_nothing c.args.watch.now)
    (framed_frame bits self.group.judged self.group.errored c.requires.whole (λ e. c.if-held-ne0.true (ap (λ n. n % 2048) c.held.ensures.count ∙ e)))
    (ap (λ s. phase_of s bits self.group) c.requires.stage) refl refl refl refl refl

pub returns : goal.returns
returns g c =
    let self = c.args.self.now in
    turned_from g.D.Drain.outputs g.D.Drain.drain_faults g.D.Drain.drained g.W.Watch.saw c.end_block.result _ _ self self c.end_block.new.self c.args.drain.now c.end_block.new.drain c.args.watch.now c.end_block.new.watch
    (framed_block self.held.bits self.group.judged self.group.errored (omega arith)) refl refl refl refl refl c.end_block.ensures
