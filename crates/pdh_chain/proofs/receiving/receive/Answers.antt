use Rattle.std.proofs.Common.{◌≡◌, ◌++◌, Bool, List, Err, Ok, length, refl, ap, ◌∙◌, sym, subst, append_assoc, arith}
use Rattle.std.proofs.lemmas.Result.{err_from_is_err_and}
use Rattle.pdh_bits.specs.BitOut.{BoundedBits}
use Rattle.pdh_packed.specs.Gaining.{gained}
use Rattle.pdh_edge.specs.Ports.{Takes, for_leaf}
use Rattle.pdh_edge.proofs.Progress.{starts}
use Rattle.pdh_chain.specs.Calls.{ReceivesFirst}
use Rattle.pdh_chain.proofs.Lists.{gained_whole}
use Rattle.pdh_chain.proofs.Received.{receives_none, feed_fails, bits_received, put_fails}
use Rattle.pdh_chain.proofs.receiving.receive.Goals as goal

pub loop-received-init : goal.loop-received-init
loop-received-init g c = record {
  same = refl;
  within = omega arith;
  room = refl;
  receives = starts (g.met.P.Port.kept_same c.args.port.now) (receives_none (g.R.Rx.meaning c.args.receiver.now) (g.R.Rx.stands c.args.receiver.now) (λ events. g.W.Watch.saw c.args.watch.now events c.args.watch.now) (g.P.Feed.inputs c.args.port.now) (g.P.Drain.outputs c.args.port.now) c.requires.stands (g.met.W.Watch.saw_nothing c.args.watch.now));
}

pub bits-requires-clause-held : goal.bits-requires-clause-held
bits-requires-clause-held g c = ap (λ h. h 0) (g.met.P.Port.kept_holds _ _ c.loop-received.invariant.receives.kept).0 ∙ c.requires.port.line

pub bits-requires-clause-some : goal.bits-requires-clause-some
bits-requires-clause-some g c = c.part-most.ensures.some

pub take_watched-requires-clause-stands : goal.take_watched-requires-clause-stands
take_watched-requires-clause-stands g c = (c.loop-received.invariant.receives.does.given, c.loop-received.invariant.receives.does.stood)

pub take_watched-requires-clause-lists : goal.take_watched-requires-clause-lists
take_watched-requires-clause-lists g c k is =
    let inv = c.loop-received.invariant in
    let fed = g.met.P.Port.fed_keeps_outputs _ _ c.bits.ensures.fed in
    ap (λ o. o.holds k) fed.0 ∙ ap (λ h. h k) (g.met.P.Port.kept_holds _ _ inv.receives.kept).1 ∙ c.requires.port.lists k (ap (λ m. m.leaves k) (sym inv.same) ∙ is)

pub returns-in_err-count-clause-received : goal.returns-in_err-count-clause-received
returns-in_err-count-clause-received g c =
    let p = err_from_is_err_and c.from_residual.result c.from_residual.ensures.1 in
    rw (p.1, p.2)
    (feed_fails g.P.Feed g.P.Drain g.P.Port.kept _ _ _ c.loop-received.received c.args.bits _ _ (λ after. g.met.P.Port.kept_join _ _ _) c.loop-received.invariant.receives (g.R.Rx.stands c.loop-received.receiver) _ _ c.loop-received-test.true
    (g.met.P.Port.fed_is_kept _ _ c.bits.ensures.fed) (g.met.P.Port.fed_keeps_outputs _ _ c.bits.ensures.fed) c.in_err-count.ensures.err c.in_err-count.ensures.cause (λ e. c.in_err-count.ensures.ended (ap Err e)))

pub returns-in_err-take_watched-clause-received : goal.returns-in_err-take_watched-clause-received
returns-in_err-take_watched-clause-received g c =
    let p = err_from_is_err_and c.from_residual-in_err-take_watched.result c.from_residual-in_err-take_watched.ensures.1 in
    let bits : List Bool = c.bits.new.into.bits in
    let whole : gained c.clear.new.self c.bits.new.into ≡ bits = gained_whole c.clear.new.self c.bits.new.into (ap (λ (b : BoundedBits). b.bits) c.clear.ensures) in
    let count : length bits ≡ c.in_ok-count.count = sym (ap (λ (l : List Bool). length l) whole) ∙ c.in_ok-count.ensures.grown.count in
    let kept = g.met.P.Port.kept_join _ _ _ (g.met.P.Port.fed_is_kept _ _ c.bits.ensures.fed) (g.met.P.Port.drained_is_kept _ _ c.take_watched.ensures.drained) in
    rw (p.1, p.2)
    (put_fails g.P.Feed g.P.Drain g.P.Port.kept _ _ _ c.loop-received.received c.args.bits _ _ (λ after. g.met.P.Port.kept_join _ _ _) c.loop-received.invariant.receives (g.R.Rx.meaning c.loop-received.receiver) (g.R.Rx.stands c.take_watched.new.receiver) (λ events. g.W.Watch.saw c.args.watch.now events c.take_watched.new.watch) bits _ _
    kept (g.met.P.Port.fed_keeps_outputs _ _ c.bits.ensures.fed) (g.met.P.Port.drained_keeps_inputs _ _ c.take_watched.ensures.drained) c.loop-received.invariant.same c.in_ok-count.ensures.cause
    (subst (λ (l : List Bool). Takes (for_leaf 0 l) (g.P.Feed.inputs c.loop-received.port) (g.P.Feed.inputs c.bits.new.self)) whole c.in_ok-count.ensures.ok) (omega (arith, count, c.in_ok-count.ensures.count.1, c.part-most.ensures.left, c.loop-received-test.true)) c.in_err-take_watched.ensures.part
    (λ line events stood seen. let part = c.in_err-take_watched.ensures.seen_err line stood in (events ++ part.0, part.1, ap (λ v. events ++ v) part.2 ∙ sym (append_assoc events part.0 part.1), g.met.W.Watch.saw_join _ _ _ _ _ seen part.3)) c.in_err-take_watched.ensures.cause)

pub loop-received-preserved : goal.loop-received-preserved
loop-received-preserved g c =
    let bits : List Bool = c.bits.new.into.bits in
    let whole : gained c.clear.new.self c.bits.new.into ≡ bits = gained_whole c.clear.new.self c.bits.new.into (ap (λ (b : BoundedBits). b.bits) c.clear.ensures) in
    let count : length bits ≡ c.in_ok-count.count = sym (ap (λ (l : List Bool). length l) whole) ∙ c.in_ok-count.ensures.grown.count in
    let kept = g.met.P.Port.kept_join _ _ _ (g.met.P.Port.fed_is_kept _ _ c.bits.ensures.fed) (g.met.P.Port.drained_is_kept _ _ c.take_watched.ensures.drained) in
    record {
      within = omega (arith, c.in_ok-count.ensures.count.1, c.part-most.ensures.left, c.loop-received-test.true);
      room = c.in_ok-count.ensures.grown.capacity ∙ ap (λ (b : BoundedBits). b.capacity) c.clear.ensures ∙ c.loop-received.invariant.room;
      same = c.take_watched.ensures.same ∙ c.loop-received.invariant.same;
      receives = bits_received g.P.Feed g.P.Drain g.P.Port.kept _ _ _ c.loop-received.received c.args.bits _ _ (λ after. g.met.P.Port.kept_join _ _ _) c.loop-received.invariant.receives (g.R.Rx.meaning c.loop-received.receiver) (g.R.Rx.stands c.take_watched.new.receiver) (λ events. g.W.Watch.saw c.args.watch.now events c.take_watched.new.watch) bits _ _
          kept (g.met.P.Port.fed_keeps_outputs _ _ c.bits.ensures.fed) (g.met.P.Port.drained_keeps_inputs _ _ c.take_watched.ensures.drained) c.loop-received.invariant.same c.in_ok-count.ensures.cause
          (subst (λ (l : List Bool). Takes (for_leaf 0 l) (g.P.Feed.inputs c.loop-received.port) (g.P.Feed.inputs c.bits.new.self)) whole c.in_ok-count.ensures.ok) c.in_ok-count.count count c.in_ok-take_watched.ensures.taken
          (λ line events stood seen. g.met.W.Watch.saw_join _ _ _ _ _ seen (c.in_ok-take_watched.ensures.seen line stood)) c.in_ok-take_watched.ensures.cause;
    }

pub returns-in_err-count-clause-same : goal.returns-in_err-count-clause-same
returns-in_err-count-clause-same g c = c.loop-received.invariant.same

pub returns-in_err-take_watched-clause-same : goal.returns-in_err-take_watched-clause-same
returns-in_err-take_watched-clause-same g c = c.take_watched.ensures.same ∙ c.loop-received.invariant.same

pub returns-clause-received : goal.returns-clause-received
returns-clause-received g c =
    let all : c.loop-received.received ≡ c.args.bits = omega (arith, c.loop-received.invariant.within, c.loop-received-test.false) in
    subst (λ n. ReceivesFirst {T = Unit {0}} g.P.Feed g.P.Drain g.P.Port.kept (g.R.Rx.meaning c.args.receiver.now) (g.R.Rx.stands c.loop-received.receiver) (λ events. g.W.Watch.saw c.args.watch.now events c.loop-received.watch) n c.args.bits c.args.port.now c.loop-received.port (Ok tt)) all c.loop-received.invariant.receives

pub returns-clause-same : goal.returns-clause-same
returns-clause-same g c = c.loop-received.invariant.same
