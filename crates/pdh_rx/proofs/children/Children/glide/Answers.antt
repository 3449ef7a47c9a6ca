use Rattle.std.proofs.Common.{take, drop, map}
use Rattle.std.proofs.lemmas.Result.{on_err_weaker, IfOk-weaker}
use Rattle.pdh_rx.specs.Node.{child_notes}
use Rattle.pdh_rx.proofs.OneChild.{child_of, child_ready, child_keeps, still_children, child_notes_at, each_with_bits, gains_of_one, part_of_one}
use Rattle.pdh_rx.proofs.Ahead.{quiet_alike}
use Rattle.pdh_rx.proofs.children.Children.glide.Goals as goal

pub glide-requires : goal.glide-requires
glide-requires g c =
    let child = child_of g.C.Rx.meaning c.self.inside.list.items g.S.Shape.TRIBS c.args.trib c.index_mut-child.result.now c.self.invariant c.requires.known c.index_mut-child.ensures.value in
    let ready = child_ready g.C.Rx.stands g.C.Rx.meaning c.self.inside.list.items c.args.self.now c.args.trib c.index_mut-child.result.now (g.D.Drain.outputs c.args.drain.now) child c.self.view_is c.requires.ready in
    record { begun = c.requires.begun; stands = ready.0; lists = ready.1 }

pub returns-clause-given : goal.returns-clause-given
returns-clause-given g c =
    let child = child_of g.C.Rx.meaning c.self.inside.list.items g.S.Shape.TRIBS c.args.trib c.index_mut-child.result.now c.self.invariant c.requires.known c.index_mut-child.ensures.value in
    let t = c.args.trib in
    let rest = drop c.args.from c.args.bits.now.bits in
    rw (← c.self.view_is) (IfOk-weaker c.glide.result _ _ (λ count taken. record {
      each = λ lines each. each_with_bits g.C.Rx.stands _ lines t (take count rest) c.glide.new.self each (taken.stands (lines t) (each t _ child.here));
      gains = λ lines each. gains_of_one _ lines t (take count rest) (g.C.Rx.meaning c.index_mut-child.result.now) child.known c.self.invariant.disjoint (g.met.C.Rx.sound c.index_mut-child.result.now) _ _ (taken.gains (lines t) (each t _ child.here));
    }) c.glide.ensures.taken)

pub returns-clause-quiet : goal.returns-clause-quiet
returns-clause-quiet g c =
    let child = child_of g.C.Rx.meaning c.self.inside.list.items g.S.Shape.TRIBS c.args.trib c.index_mut-child.result.now c.self.invariant c.requires.known c.index_mut-child.ensures.value in
    let t = c.args.trib in
    let m = g.C.Rx.meaning c.index_mut-child.result.now in
    let rest = drop c.args.from c.args.bits.now.bits in
    rw (← c.self.view_is) (IfOk-weaker c.glide.result _ _ (λ count quiet lines each.
    quiet_alike m.notes (child_notes (map g.C.Rx.meaning c.self.inside.list.items) t) (λ line bit. child_notes_at (map g.C.Rx.meaning c.self.inside.list.items) t m line bit child.known) (lines t) (take count rest) (quiet (lines t) (each t _ child.here))) c.glide.ensures.quiet)

pub returns-clause-part : goal.returns-clause-part
returns-clause-part g c =
    let child = child_of g.C.Rx.meaning c.self.inside.list.items g.S.Shape.TRIBS c.args.trib c.index_mut-child.result.now c.self.invariant c.requires.known c.index_mut-child.ensures.value in
    let t = c.args.trib in
    let rest = drop c.args.from c.args.bits.now.bits in
    rw (← c.self.view_is) (on_err_weaker c.glide.result (λ p. record {
      gains = λ lines each. part_of_one _ lines t rest (g.C.Rx.meaning c.index_mut-child.result.now) child.known c.self.invariant.disjoint (g.met.C.Rx.sound c.index_mut-child.result.now) _ _ (p.gains (lines t) (each t _ child.here));
    }) c.glide.ensures.part)

pub returns-clause-kept : goal.returns-clause-kept
returns-clause-kept g c =
    rw (← c.self.view_is) (child_keeps g.C.Rx.meaning g.D.Drain.drain_faults g.D.Drain.drained _ _ _ _ _ _ _ c.glide.ensures.same c.index_mut-child.ensures.value c.glide.ensures.drained c.glide.ensures.cause)

pub invariant_of-self : goal.invariant_of-self
invariant_of-self g c = still_children g.C.Rx.meaning c.self.inside.list.items g.S.Shape.TRIBS c.args.trib c.index_mut-child.result.now c.glide.new.self c.glide.ensures.same c.index_mut-child.ensures.value c.self.invariant
