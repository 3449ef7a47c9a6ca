use Rattle.std.proofs.Common.{◌≡◌, ◌<◌, ◌+◌, ◌∷◌, [], ◌++◌, Bool, false, List, length, take, drop, refl, sym, ap, ◌∙◌, subst, arith}
use Rattle.std.proofs.Math.Seq.{take-add}
use Rattle.std.proofs.lemmas.List.{take_more, take_all}
use Rattle.std.proofs.lemmas.Result.{err_from_is_err_and}
use Rattle.pdh_edge.proofs.Runs.{cause_since}
use Rattle.pdh_watch.specs.Seen.{SawPart}
use Rattle.pdh_events.specs.Chain.{bits_events}
use Rattle.pdh_g706.specs.Events.{e1_bit_events}
use Rattle.pdh_g706.specs.View.{StandsFor, Gains, GainsPart}
use Rattle.pdh_g706.proofs.TakeLaws.{takes_quiet, takes_bit, takes_join, fails_puts, fails_seen}
use Rattle.pdh_g706.proofs.align.E1Align.take.Goals as goal

pub loop-done-init : goal.loop-done-init
loop-done-init g c = record {
  within = omega (arith, c.glide-done.ensures.count);
  taken = takes_quiet g.W.Watch.saw g.met.W.Watch.saw_join c.args.self.now c.glide-done.new.self (take c.glide-done.result c.args.bits.now.bits) (g.D.Drain.outputs c.args.drain.now) c.args.watch.now (g.met.W.Watch.saw_nothing c.args.watch.now)
      c.glide-done.ensures.stands c.glide-done.ensures.gains c.glide-done.ensures.quiet;
  unfailed = refl;
  drained = g.met.D.Drain.drained_same c.args.drain.now;
}

pub push-requires : goal.push-requires
push-requires g c = record {
  stands = (c.requires.stands.0 ++ take c.loop-done.done c.args.bits.now.bits, c.loop-done.invariant.taken.stands c.requires.stands.0 c.requires.stands.1);
  list = ap (λ h. h 0) (g.met.D.Drain.drained_holds c.args.drain.now c.loop-done.drain c.loop-done.invariant.drained) ∙ c.requires.list;
}

pub returns-in_err-push-clause-put_err : goal.returns-in_err-push-clause-put_err
returns-in_err-push-clause-put_err g c =
    let p = err_from_is_err_and c.from_residual.result c.from_residual.ensures.1 in
    let outputs = g.D.Drain.outputs in
    let bits = c.args.bits.now.bits in
    let n = c.loop-done.done in
    let inside : n < length bits = omega arith in
    let part = subst (λ (bit : Bool). (line : List Bool) → StandsFor c.loop-done.self line → GainsPart line (line ++ bit ∷ []) (outputs c.loop-done.drain) (outputs c.push.new.drain)) c.get.ensures c.in_err-push.ensures.put_err in
    rw p.1
    (fails_puts g.W.Watch.saw g.met.W.Watch.saw_join c.args.self.now c.loop-done.self bits n inside (outputs c.args.drain.now) (outputs c.loop-done.drain) (outputs c.push.new.drain) c.args.watch.now c.loop-done.watch c.push.new.watch c.loop-done.invariant.taken part)

pub returns-in_err-push-clause-seen_err : goal.returns-in_err-push-clause-seen_err
returns-in_err-push-clause-seen_err g c =
    let p = err_from_is_err_and c.from_residual.result c.from_residual.ensures.1 in
    let outputs = g.D.Drain.outputs in
    let bits = c.args.bits.now.bits in
    let n = c.loop-done.done in
    let inside : n < length bits = omega arith in
    let part = subst (λ (bit : Bool). (line : List Bool) → StandsFor c.loop-done.self line → SawPart g.W.Watch.saw c.loop-done.watch (e1_bit_events line bit) c.push.new.watch) c.get.ensures c.in_err-push.ensures.seen_err in
    rw p.1
    (fails_seen g.W.Watch.saw g.met.W.Watch.saw_join c.args.self.now c.loop-done.self bits n inside (outputs c.args.drain.now) (outputs c.loop-done.drain) (outputs c.push.new.drain) c.args.watch.now c.loop-done.watch c.push.new.watch c.loop-done.invariant.taken part)

pub returns-in_err-push-clause-cause : goal.returns-in_err-push-clause-cause
returns-in_err-push-clause-cause g c =
    cause_since c.from_residual.result _ _ _ _ (err_from_is_err_and c.from_residual.result c.from_residual.ensures.1).1 c.loop-done.invariant.unfailed c.in_err-push.ensures.cause

pub returns-in_err-push-clause-drained : goal.returns-in_err-push-clause-drained
returns-in_err-push-clause-drained g c = g.met.D.Drain.drained_join c.args.drain.now c.loop-done.drain c.push.new.drain c.loop-done.invariant.drained c.push.ensures.drained

pub glide-done-requires-in-loop-done : goal.glide-done-requires-in-loop-done
glide-done-requires-in-loop-done g c =
    let at = c.requires.stands.0 ++ take c.loop-done.done c.args.bits.now.bits in
    record {
      begun = omega arith;
      stands = (at ++ c.get.result ∷ [], c.in_ok-push.ensures.stands at (c.loop-done.invariant.taken.stands c.requires.stands.0 c.requires.stands.1));
    }

pub loop-done-preserved : goal.loop-done-preserved
loop-done-preserved g c =
    let saw = g.W.Watch.saw in
    let join = g.met.W.Watch.saw_join in
    let outputs = g.D.Drain.outputs in
    let bits = c.args.bits.now.bits in
    let n = c.loop-done.done in
    let k = c.glide-done-in-loop-done.result in
    let inv = c.loop-done.invariant in
    let inside : n < length bits = omega arith in
    let one : take (n + 1) bits ≡ take n bits ++ c.get.result ∷ [] = take_more bits n false inside ∙ ap (λ (bit : Bool). take n bits ++ bit ∷ []) (sym c.get.ensures) in
    let more : take (n + 1 + k) bits ≡ take (n + 1) bits ++ take k (drop (n + 1) bits) = take-add (n + 1) k bits in
    let bit = takes_bit saw join c.loop-done.self c.push.new.self c.get.result (outputs c.loop-done.drain) (outputs c.push.new.drain) c.loop-done.watch c.push.new.watch c.in_ok-push.ensures.stands c.in_ok-push.ensures.put c.in_ok-push.ensures.seen in
    let before = takes_join saw join c.args.self.now c.loop-done.self c.push.new.self (take n bits) (c.get.result ∷ []) (take (n + 1) bits) (outputs c.args.drain.now) (outputs c.loop-done.drain) (outputs c.push.new.drain) c.args.watch.now c.loop-done.watch c.push.new.watch one inv.taken bit in
    let quiet = takes_quiet saw join c.push.new.self c.glide-done-in-loop-done.new.self (take k (drop (n + 1) bits)) (outputs c.push.new.drain) c.push.new.watch (g.met.W.Watch.saw_nothing c.push.new.watch) c.glide-done-in-loop-done.ensures.stands c.glide-done-in-loop-done.ensures.gains c.glide-done-in-loop-done.ensures.quiet in
    record {
      within = omega (arith, c.glide-done-in-loop-done.ensures.count);
      taken = takes_join saw join c.args.self.now c.push.new.self c.glide-done-in-loop-done.new.self (take (n + 1) bits) (take k (drop (n + 1) bits)) (take (n + 1 + k) bits) (outputs c.args.drain.now) (outputs c.push.new.drain) (outputs c.push.new.drain)
          c.args.watch.now c.push.new.watch c.push.new.watch more before quiet;
      unfailed = c.in_ok-push.ensures.cause ∙ inv.unfailed;
      drained = g.met.D.Drain.drained_join c.args.drain.now c.loop-done.drain c.push.new.drain inv.drained c.push.ensures.drained;
    }

pub returns-clause-stands : goal.returns-clause-stands
returns-clause-stands g c line h =
    let all : take c.loop-done.done c.args.bits.now.bits ≡ c.args.bits.now.bits = take_all c.loop-done.done c.args.bits.now.bits (omega arith) in
    subst (λ (bits : List Bool). StandsFor c.loop-done.self (line ++ bits)) all (c.loop-done.invariant.taken.stands line h)

pub returns-clause-put : goal.returns-clause-put
returns-clause-put g c line h =
    let outputs = g.D.Drain.outputs in
    let all : take c.loop-done.done c.args.bits.now.bits ≡ c.args.bits.now.bits = take_all c.loop-done.done c.args.bits.now.bits (omega arith) in
    subst (λ (bits : List Bool). Gains line (line ++ bits) (outputs c.args.drain.now) (outputs c.loop-done.drain)) all (c.loop-done.invariant.taken.puts line h)

pub returns-clause-seen : goal.returns-clause-seen
returns-clause-seen g c line h =
    let all : take c.loop-done.done c.args.bits.now.bits ≡ c.args.bits.now.bits = take_all c.loop-done.done c.args.bits.now.bits (omega arith) in
    subst (λ (bits : List Bool). g.W.Watch.saw c.args.watch.now (bits_events e1_bit_events line bits) c.loop-done.watch) all (c.loop-done.invariant.taken.seen line h)
