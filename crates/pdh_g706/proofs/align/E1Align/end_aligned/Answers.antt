use Rattle.std.proofs.Common.{refl, ap, ◌∙◌, arith}
use Rattle.pdh_g706.specs.declared.align.E1Align.{E1Align}
use Rattle.pdh_g706.specs.Machine.{last_bits}
use Rattle.pdh_g706.specs.Machine.Phase.{Searching, Aligned}
use Rattle.pdh_g706.specs.View.{phase, phase_of}
use Rattle.pdh_g706.proofs.AlignSteps.{aligned_found, aligned_gives_up, aligned_goes, turned_from, turned_still}
use Rattle.pdh_g706.proofs.align.E1Align.end_aligned.Goals as goal

pub returns-in-Some : goal.returns-in-Some
returns-in-Some g c =
    let self = c.args.self.now in
    turned_from g.D.Drain.outputs g.D.Drain.drain_faults g.D.Drain.drained g.W.Watch.saw c.begin_multiframes.result _ _ self self c.begin_multiframes.new.self c.args.drain.now c.begin_multiframes.new.drain c.args.watch.now c.begin_multiframes.new.watch
    (aligned_found self.held.bits c.in-Some.first c.in-Some.ensures.0 c.in-Some.ensures.1) refl refl refl refl refl c.begin_multiframes.ensures

pub returns-then-held-eq16384 : goal.returns-then-held-eq16384
returns-then-held-eq16384 g c =
    let self = c.args.self.now in
    let bits = self.held.bits in
    let is = c.search_anew.ensures in
    turned_still g.D.Drain.outputs g.D.Drain.drain_faults g.D.Drain.drained g.W.Watch.saw _ _ (Searching (last_bits 255 bits)) self c.search_anew.new.self c.args.drain.now c.args.watch.now
    (g.met.D.Drain.drained_same c.args.drain.now) (g.met.W.Watch.saw_nothing c.args.watch.now) (aligned_gives_up bits c.in_default.ensures (omega arith))
    (ap phase is) (ap (λ (a : E1Align). a.counts) is) (ap (λ (a : E1Align). a.held.capacity) is) (ap (λ (a : E1Align). a.bits) is) (ap (λ (a : E1Align). a.ais) is) (ap (λ (a : E1Align). a.alarm) is)

pub returns-else-held-eq16384 : goal.returns-else-held-eq16384
returns-else-held-eq16384 g c =
    let self = c.args.self.now in
    let bits = self.held.bits in
    turned_still g.D.Drain.outputs g.D.Drain.drain_faults g.D.Drain.drained g.W.Watch.saw _ _ (Aligned bits) self _ c.args.drain.now c.args.watch.now
    (g.met.D.Drain.drained_same c.args.drain.now) (g.met.W.Watch.saw_nothing c.args.watch.now)
    (aligned_goes bits c.requires.whole c.in_default.ensures (λ e. c.if-held-eq16384.false (c.held.ensures.count ∙ e)))
    (ap (λ s. phase_of s bits self.group) c.requires.stage) refl refl refl refl refl
