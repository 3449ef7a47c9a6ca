use Rattle.std.proofs.Common.{◌≡◌, ◌<◌, ◌+◌, ◌++◌, ◌∷◌, [], Bool, false, List, length, take, drop, sym, ap, ◌∙◌, subst, arith}
use Rattle.std.proofs.lemmas.List.{take_more, take-append-drop}
use Rattle.pdh_watch.specs.declared.event.Event.{Event}
use Rattle.pdh_watch.specs.Seen.{SawPart}
use Rattle.pdh_events.specs.laws.QuietLaws.{IsQuiet}
use Rattle.pdh_events.specs.Chain.{bits_events}
use Rattle.pdh_events.specs.laws.QuietLaws.{quiet_events}
use Rattle.pdh_rx.specs.Meaning.{Meaning, TakesBits}
use Rattle.pdh_rx.proofs.Gains.{on_err_from}
use Rattle.pdh_rx.proofs.Shares.{takes_join, takes_part, bits_rest}
use Rattle.std.proofs.Math.Seq.{take-add}
use Rattle.pdh_rx.proofs.Watched.{seen_push, seen_quiet, part_push, part_more}
use Rattle.pdh_rx.proofs.giving.take_watched.Goals as goal

pub loop-done-init : goal.loop-done-init
loop-done-init g c =
    let m = g.R.Rx.meaning c.args.receiver.now in
    let bits = c.args.bits.now.bits in
    let ok = c.in_ok-done.ensures in
    record {
      within = omega (arith, ok.count);
      taken = ok.taken;
      seen = λ line told.
          let P : List Event → Type 0 = λ x. g.W.Watch.saw c.args.watch.now x c.args.watch.now in
          subst P (sym (quiet_events m.notes line (take c.in_ok-done.done bits) (ok.quiet line told))) (g.met.W.Watch.saw_nothing _);
      same = ok.same;
      unfailed = ok.cause;
      drained = ok.drained;
    }

pub returns-in_err-push-clause-part : goal.returns-in_err-push-clause-part
returns-in_err-push-clause-part g c =
    let m = g.R.Rx.meaning c.args.receiver.now in
    let bits = c.args.bits.now.bits in
    let n = c.loop-done.done in
    let inv = c.loop-done.invariant in
    let bit = c.get.result in
    let lt : n < length bits = omega (arith, c.loop-done-test.true, c.len-len.ensures.count) in
    let next : take (n + 1) bits ≡ take n bits ++ bit ∷ [] = take_more bits n false lt ∙ ap (λ b. take n bits ++ b ∷ []) (sym c.get.ensures) in
    let front : bits ≡ (take n bits ++ bit ∷ []) ++ drop (n + 1) bits = sym (take-append-drop (n + 1) bits) ∙ ap (λ v. v ++ drop (n + 1) bits) next in
    on_err_from _ c.from_residual-in_err-push.result
    (takes_part m (g.R.Rx.meaning c.loop-done.receiver) (take n bits) (bit ∷ []) bits _ _ _ _ _ (g.met.R.Rx.sound c.args.receiver.now) inv.same (drop (n + 1) bits, front) inv.taken (record { gains = c.in_err-push.ensures.put_err }))

pub returns-in_err-push-clause-seen_err : goal.returns-in_err-push-clause-seen_err
returns-in_err-push-clause-seen_err g c =
    let m = g.R.Rx.meaning c.args.receiver.now in
    let bits = c.args.bits.now.bits in
    let n = c.loop-done.done in
    let inv = c.loop-done.invariant in
    let bit = c.get.result in
    let lt : n < length bits = omega (arith, c.loop-done-test.true, c.len-len.ensures.count) in
    let next : take (n + 1) bits ≡ take n bits ++ bit ∷ [] = take_more bits n false lt ∙ ap (λ b. take n bits ++ b ∷ []) (sym c.get.ensures) in
    let front : bits ≡ (take n bits ++ bit ∷ []) ++ drop (n + 1) bits = sym (take-append-drop (n + 1) bits) ∙ ap (λ v. v ++ drop (n + 1) bits) next in
    on_err_from _ c.from_residual-in_err-push.result (λ line told.
    let N : Meaning → Type 0 = λ m. SawPart g.W.Watch.saw c.loop-done.watch (m.notes (line ++ take n bits) bit) c.push.new.watch in
    part_push g.W.Watch.saw g.met.W.Watch.saw_join m.notes line (take n bits) (drop (n + 1) bits) bits bit _ _ _ front (inv.seen line told) (subst N inv.same (c.in_err-push.ensures.seen_err (line ++ take n bits) (inv.taken.stands line told))))

pub returns-in_err-done-2-clause-part : goal.returns-in_err-done-2-clause-part
returns-in_err-done-2-clause-part g c =
    let m = g.R.Rx.meaning c.args.receiver.now in
    let bits = c.args.bits.now.bits in
    let n = c.loop-done.done in
    let inv = c.loop-done.invariant in
    let bit = c.get.result in
    let lt : n < length bits = omega (arith, c.loop-done-test.true, c.len-len.ensures.count) in
    let next : take (n + 1) bits ≡ take n bits ++ bit ∷ [] = take_more bits n false lt ∙ ap (λ b. take n bits ++ b ∷ []) (sym c.get.ensures) in
    let front : bits ≡ (take n bits ++ bit ∷ []) ++ drop (n + 1) bits = sym (take-append-drop (n + 1) bits) ∙ ap (λ v. v ++ drop (n + 1) bits) next in
    let joined : TakesBits m (take (n + 1) bits) (g.R.Rx.stands c.args.receiver.now) (g.R.Rx.stands c.push.new.self) (g.D.Drain.outputs c.args.drain.now) (g.D.Drain.outputs c.push.new.drain) =
    takes_join m (g.R.Rx.meaning c.loop-done.receiver) (take n bits) (bit ∷ []) (take (n + 1) bits) _ _ _ _ _ _ inv.same next inv.taken (record { stands = c.in_ok-push.ensures.stands; gains = c.in_ok-push.ensures.put }) in
    let both : g.R.Rx.meaning c.push.new.self ≡ m = c.in_ok-push.ensures.same ∙ inv.same in
    let seen : (line : List Bool) → g.R.Rx.stands c.args.receiver.now line → g.W.Watch.saw c.args.watch.now (bits_events m.notes line (take (n + 1) bits)) c.push.new.watch = λ line told.
    (let N : Meaning → Type 0 = λ m. g.W.Watch.saw c.loop-done.watch (m.notes (line ++ take n bits) bit) c.push.new.watch in
    seen_push g.W.Watch.saw g.met.W.Watch.saw_join m.notes line (take n bits) (take (n + 1) bits) bit _ _ _ next (inv.seen line told) (subst N inv.same (c.in_ok-push.ensures.seen (line ++ take n bits) (inv.taken.stands line told)))) in
    on_err_from _ c.from_residual-in_err-done-2.result
    (takes_part m (g.R.Rx.meaning c.push.new.self) (take (n + 1) bits) (drop (n + 1) bits) bits _ _ _ _ _ (g.met.R.Rx.sound c.args.receiver.now) both (bits_rest (n + 1) bits) joined c.in_err-done-2.ensures.part)

pub returns-in_err-done-2-clause-seen_err : goal.returns-in_err-done-2-clause-seen_err
returns-in_err-done-2-clause-seen_err g c =
    let m = g.R.Rx.meaning c.args.receiver.now in
    let bits = c.args.bits.now.bits in
    let n = c.loop-done.done in
    let inv = c.loop-done.invariant in
    let bit = c.get.result in
    let lt : n < length bits = omega (arith, c.loop-done-test.true, c.len-len.ensures.count) in
    let next : take (n + 1) bits ≡ take n bits ++ bit ∷ [] = take_more bits n false lt ∙ ap (λ b. take n bits ++ b ∷ []) (sym c.get.ensures) in
    let front : bits ≡ (take n bits ++ bit ∷ []) ++ drop (n + 1) bits = sym (take-append-drop (n + 1) bits) ∙ ap (λ v. v ++ drop (n + 1) bits) next in
    let joined : TakesBits m (take (n + 1) bits) (g.R.Rx.stands c.args.receiver.now) (g.R.Rx.stands c.push.new.self) (g.D.Drain.outputs c.args.drain.now) (g.D.Drain.outputs c.push.new.drain) =
    takes_join m (g.R.Rx.meaning c.loop-done.receiver) (take n bits) (bit ∷ []) (take (n + 1) bits) _ _ _ _ _ _ inv.same next inv.taken (record { stands = c.in_ok-push.ensures.stands; gains = c.in_ok-push.ensures.put }) in
    let both : g.R.Rx.meaning c.push.new.self ≡ m = c.in_ok-push.ensures.same ∙ inv.same in
    let seen : (line : List Bool) → g.R.Rx.stands c.args.receiver.now line → g.W.Watch.saw c.args.watch.now (bits_events m.notes line (take (n + 1) bits)) c.push.new.watch = λ line told.
    (let N : Meaning → Type 0 = λ m. g.W.Watch.saw c.loop-done.watch (m.notes (line ++ take n bits) bit) c.push.new.watch in
    seen_push g.W.Watch.saw g.met.W.Watch.saw_join m.notes line (take n bits) (take (n + 1) bits) bit _ _ _ next (inv.seen line told) (subst N inv.same (c.in_ok-push.ensures.seen (line ++ take n bits) (inv.taken.stands line told)))) in
    on_err_from _ c.from_residual-in_err-done-2.result (λ line told. part_more g.W.Watch.saw g.met.W.Watch.saw_join m.notes line (take (n + 1) bits) (drop (n + 1) bits) bits _ _ (sym (take-append-drop (n + 1) bits)) (seen line told))

pub loop-done-preserved : goal.loop-done-preserved
loop-done-preserved g c =
    let m = g.R.Rx.meaning c.args.receiver.now in
    let bits = c.args.bits.now.bits in
    let n = c.loop-done.done in
    let inv = c.loop-done.invariant in
    let bit = c.get.result in
    let lt : n < length bits = omega (arith, c.loop-done-test.true, c.len-len.ensures.count) in
    let next : take (n + 1) bits ≡ take n bits ++ bit ∷ [] = take_more bits n false lt ∙ ap (λ b. take n bits ++ b ∷ []) (sym c.get.ensures) in
    let front : bits ≡ (take n bits ++ bit ∷ []) ++ drop (n + 1) bits = sym (take-append-drop (n + 1) bits) ∙ ap (λ v. v ++ drop (n + 1) bits) next in
    let joined : TakesBits m (take (n + 1) bits) (g.R.Rx.stands c.args.receiver.now) (g.R.Rx.stands c.push.new.self) (g.D.Drain.outputs c.args.drain.now) (g.D.Drain.outputs c.push.new.drain) =
    takes_join m (g.R.Rx.meaning c.loop-done.receiver) (take n bits) (bit ∷ []) (take (n + 1) bits) _ _ _ _ _ _ inv.same next inv.taken (record { stands = c.in_ok-push.ensures.stands; gains = c.in_ok-push.ensures.put }) in
    let both : g.R.Rx.meaning c.push.new.self ≡ m = c.in_ok-push.ensures.same ∙ inv.same in
    let seen : (line : List Bool) → g.R.Rx.stands c.args.receiver.now line → g.W.Watch.saw c.args.watch.now (bits_events m.notes line (take (n + 1) bits)) c.push.new.watch = λ line told.
    (let N : Meaning → Type 0 = λ m. g.W.Watch.saw c.loop-done.watch (m.notes (line ++ take n bits) bit) c.push.new.watch in
    seen_push g.W.Watch.saw g.met.W.Watch.saw_join m.notes line (take n bits) (take (n + 1) bits) bit _ _ _ next (inv.seen line told) (subst N inv.same (c.in_ok-push.ensures.seen (line ++ take n bits) (inv.taken.stands line told)))) in
    let ok = c.in_ok-done-2.ensures in
    let k = c.in_ok-done-2.field-0 in
    record {
      within = omega (arith, ok.count);
      taken = takes_join m (g.R.Rx.meaning c.push.new.self) (take (n + 1) bits) (take k (drop (n + 1) bits)) (take (n + 1 + k) bits) _ _ _ _ _ _ both (take-add (n + 1) k bits) joined ok.taken;
      seen = λ line told.
          let N : Meaning → Type 0 = λ m. IsQuiet m.notes (line ++ take (n + 1) bits) (take k (drop (n + 1) bits)) in
          seen_quiet g.W.Watch.saw g.met.W.Watch.saw_join m.notes line (take (n + 1) bits) (take k (drop (n + 1) bits)) (take (n + 1 + k) bits) _ _ (take-add (n + 1) k bits) (seen line told) (subst N both (ok.quiet (line ++ take (n + 1) bits) (joined.stands line told)));
      same = ok.same ∙ both;
      unfailed = ok.cause ∙ c.in_ok-push.ensures.cause ∙ inv.unfailed;
      drained = g.met.D.Drain.drained_join _ _ _ (g.met.D.Drain.drained_join _ _ _ inv.drained c.in_ok-push.ensures.drained) ok.drained;
    }
