use Rattle.std.proofs.Common.{◌≡◌, Bool, List, length, refl, ap, sym, ◌∙◌, subst, arith}
use Rattle.std.proofs.lemmas.Result.{err_from_is_err_and}
use Rattle.pdh_bits.specs.BitOut.{BoundedBits}
use Rattle.pdh_packed.specs.Gaining.{gained}
use Rattle.pdh_edge.specs.Ports.{Inputs, Outputs, Takes, for_leaf}
use Rattle.pdh_framed.specs.Taking.{Takes as MachineTakes, TakesPart}
use Rattle.pdh_streams.specs.Streaming.{Streams}
use Rattle.pdh_streams.proofs.StreamLaws.{gained_whole, streams_none, streams_unread, streams_more, streams_unwritten}
use Rattle.pdh_streams.proofs.streaming.give.Goals as goal

pub loop-given-init : goal.loop-given-init
loop-given-init g c = record {
  within = omega arith;
  room = c.requires.room;
  codec = refl;
  same = refl;
  kept = g.met.P.Port.kept_same _;
  unread = refl;
  unwritten = refl;
  streams = streams_none (g.M.Machine.far c.args.machine.now) c.requires.on (g.M.Machine.stands c.args.machine.now) (g.P.Feed.inputs c.args.port.now) (g.P.Drain.outputs c.args.port.now) c.requires.stands;
}

pub returns-in_err-count-clause-part : goal.returns-in_err-count-clause-part
returns-in_err-count-clause-part g c =
    let p = err_from_is_err_and c.from_residual.result c.from_residual.ensures.1 in
    let kept = g.met.P.Port.fed_keeps_outputs _ _ c.bits.ensures.fed in
    rw p.1 (streams_unread (g.M.Machine.far c.args.machine.now) c.requires.on c.loop-given.invariant.streams (g.P.Feed.inputs c.bits.new.self) (g.P.Drain.outputs c.bits.new.self) c.in_err-count.ensures.err kept.0)

pub returns-in_err-receive-clause-kept : goal.returns-in_err-receive-clause-kept
returns-in_err-receive-clause-kept g c =
    g.met.P.Port.kept_join _ _ _ c.loop-given.invariant.kept (g.met.P.Port.kept_join _ _ _ (g.met.P.Port.fed_is_kept _ _ c.bits.ensures.fed) (g.met.P.Port.drained_is_kept _ _ c.receive.ensures.drained))

pub returns-in_err-receive-clause-part : goal.returns-in_err-receive-clause-part
returns-in_err-receive-clause-part g c =
    let p = err_from_is_err_and c.from_residual-in_err-receive.result c.from_residual-in_err-receive.ensures.1 in
    let inv = c.loop-given.invariant in
    let inputs = g.P.Feed.inputs in
    let outputs = g.P.Drain.outputs in
    let bits : List Bool = c.bits.new.into.bits in
    let stands = g.M.Machine.stands c.loop-given.machine in
    let whole : gained c.clear.new.self c.bits.new.into ≡ bits = gained_whole c.clear.new.self c.bits.new.into (ap (λ (b : BoundedBits). b.bits) c.clear.ensures) in
    let fed = g.met.P.Port.fed_keeps_outputs _ _ c.bits.ensures.fed in
    let drained = g.met.P.Port.drained_keeps_inputs _ _ c.receive.ensures.drained in
    let takes = subst (λ (i : Inputs). Takes (for_leaf 0 bits) (inputs c.loop-given.port) i) (sym drained.0) (subst (λ (l : List Bool). Takes (for_leaf 0 l) (inputs c.loop-given.port) (inputs c.bits.new.self)) whole c.in_ok-count.ensures.ok) in
    let part = subst (λ (o : Outputs). TakesPart (g.M.Machine.far c.args.machine.now) stands bits o (outputs c.receive.new.drain)) fed.0
    (subst (λ (far : List Bool → List Bool). TakesPart far stands bits (outputs c.bits.new.self) (outputs c.receive.new.drain)) inv.same c.in_err-receive.ensures.part) in
    rw p.1 (streams_unwritten (g.M.Machine.far c.args.machine.now) c.requires.on inv.streams bits (inputs c.receive.new.drain) (outputs c.receive.new.drain) takes part)

pub loop-given-preserved : goal.loop-given-preserved
loop-given-preserved g c =
    let inv = c.loop-given.invariant in
    let inputs = g.P.Feed.inputs in
    let outputs = g.P.Drain.outputs in
    let bits : List Bool = c.bits.new.into.bits in
    let stands = g.M.Machine.stands in
    let whole : gained c.clear.new.self c.bits.new.into ≡ bits = gained_whole c.clear.new.self c.bits.new.into (ap (λ (b : BoundedBits). b.bits) c.clear.ensures) in
    let count : length bits ≡ c.in_ok-count.count = sym (ap (λ (l : List Bool). length l) whole) ∙ c.in_ok-count.ensures.grown.count in
    let fed = g.met.P.Port.fed_keeps_outputs _ _ c.bits.ensures.fed in
    let drained = g.met.P.Port.drained_keeps_inputs _ _ c.receive.ensures.drained in
    let takes = subst (λ (i : Inputs). Takes (for_leaf 0 bits) (inputs c.loop-given.port) i) (sym drained.0) (subst (λ (l : List Bool). Takes (for_leaf 0 l) (inputs c.loop-given.port) (inputs c.bits.new.self)) whole c.in_ok-count.ensures.ok) in
    let taken = subst (λ (o : Outputs). MachineTakes (g.M.Machine.far c.args.machine.now) (stands c.loop-given.machine) (stands c.receive.new.self) bits o (outputs c.receive.new.drain)) fed.0
    (subst (λ (far : List Bool → List Bool). MachineTakes far (stands c.loop-given.machine) (stands c.receive.new.self) bits (outputs c.bits.new.self) (outputs c.receive.new.drain)) inv.same c.in_ok-receive.ensures.taken) in
    record {
      within = omega (arith, c.in_ok-count.ensures.count.1, c.min-most.ensures, c.loop-given-test.true);
      room = omega (arith, inv.room, c.in_ok-count.ensures.grown.capacity, ap (λ (b : BoundedBits). b.capacity) c.clear.ensures);
      codec = c.receive.ensures.codec ∙ inv.codec;
      same = c.receive.ensures.same ∙ inv.same;
      kept = g.met.P.Port.kept_join _ _ _ inv.kept (g.met.P.Port.kept_join _ _ _ (g.met.P.Port.fed_is_kept _ _ c.bits.ensures.fed) (g.met.P.Port.drained_is_kept _ _ c.receive.ensures.drained));
      unread = drained.1 ∙ c.in_ok-count.ensures.cause ∙ inv.unread;
      unwritten = c.in_ok-receive.ensures.cause ∙ fed.1 ∙ inv.unwritten;
      streams = streams_more (g.M.Machine.far c.args.machine.now) c.requires.on inv.streams bits (inputs c.receive.new.drain) (outputs c.receive.new.drain) takes c.in_ok-count.count (stands c.receive.new.self) count taken;
    }

pub returns-clause-ok : goal.returns-clause-ok
returns-clause-ok g c =
    let all : c.loop-given.given ≡ c.args.bits = omega arith in
    subst (λ n. Streams (g.M.Machine.far c.args.machine.now) (g.M.Machine.stands c.loop-given.machine) n (g.P.Feed.inputs c.args.port.now) (g.P.Feed.inputs c.loop-given.port) (g.P.Drain.outputs c.args.port.now) (g.P.Drain.outputs c.loop-given.port)) all c.loop-given.invariant.streams
