use Rattle.std.proofs.Common.{[], ◌∷◌, replicate, sym, ap, ◌∙◌, subst}
use Rattle.std.proofs.lemmas.Result.{on_ok_weaker, on_err_weaker}
use Rattle.std.proofs.lemmas.List.{append-nil}
use Rattle.pdh_watch.specs.Seen.{SawPart}
use Rattle.pdh_rx.specs.Meaning.{Meaning}
use Rattle.pdh_rx.specs.Node.{node_meaning}
use Rattle.pdh_rx.proofs.Gains.{on_err_from, on_ok_from, gains_join, part_after}
use Rattle.pdh_desync.specs.Smooth.{mute_meaning}
use Rattle.pdh_desync.specs.FarNode.{far_meaning}
use Rattle.pdh_desync.specs.laws.SmoothSound.{smooth_sound}
use Rattle.pdh_desync.proofs.Quieting.{silent_gains, silent_part, silent_lists}
use Rattle.pdh_desync.proofs.SmoothSteps.{meaning_same}
use Rattle.pdh_desync.proofs.node.SmoothNodeRx.push.Goals as goal

pub push-requires : goal.push-requires
push-requires g c = record {
  stands = (c.requires.stands.0, c.requires.stands.1.noting);
  lists = silent_lists g.S.Shape.shape c.args.self.now.far.path _ (g.D.Drain.outputs c.args.drain.now) c.requires.stands.1.meaning_is;
}

pub push-requires-2 : goal.push-requires-2
push-requires-2 g c = record {
  line = c.requires.stands.0;
  stands = c.requires.stands.1.far;
  lists = λ k is. ap (λ h. h k) (g.met.D.Drain.drained_holds c.args.drain.now c.push.new.drain c.in_ok-push.ensures.drained) ∙ c.requires.lists k is;
}

pub returns-in_err-push-clause-put_err : goal.returns-in_err-push-clause-put_err
returns-in_err-push-clause-put_err g c =
    let s = g.S.Shape.shape in
    let far = c.args.self.now.far in
    on_err_from _ c.from_residual.result (λ line told.
    silent_part s far.path (far_meaning s far) _ line _ (c.args.bit ∷ []) _ _ (smooth_sound s far.path far.stores.leaves.first far.stores.leaves.marks g.met.S.Shape.is_frame) told.meaning_is (c.in_err-push.ensures.put_err line told.noting))

pub returns-in_err-push-clause-seen_err : goal.returns-in_err-push-clause-seen_err
returns-in_err-push-clause-seen_err g c =
    on_err_from _ c.from_residual.result (λ line told.
    let P : Meaning → Type 0 = λ m. SawPart g.W.Watch.saw c.args.watch.now (m.notes line c.args.bit) c.push.new.watch in
    subst P told.meaning_is (c.in_err-push.ensures.seen_err line told.noting))

pub returns-clause-stands : goal.returns-clause-stands
returns-clause-stands g c =
    let s = g.S.Shape.shape in
    on_ok_weaker c.push-2.result (λ taken line told. record {
      far = taken.stands line told.far;
      noting = c.in_ok-push.ensures.stands line told.noting;
      meaning_is = c.in_ok-push.ensures.same ∙ told.meaning_is ∙ ap (λ p. node_meaning s p (replicate s.tribs mute_meaning)) (sym c.push-2.ensures.same.path);
    }) c.push-2.ensures.taken

pub returns-clause-put : goal.returns-clause-put
returns-clause-put g c =
    let s = g.S.Shape.shape in
    let far = c.args.self.now.far in
    on_ok_weaker c.push-2.result (λ taken line told.
    gains_join _ _ _ _ _ _ (silent_gains s far.path ((far_meaning s far).got line) _ line _ _ _ told.meaning_is (c.in_ok-push.ensures.put line told.noting)) (taken.gains line told.far)) c.push-2.ensures.taken

pub returns-clause-put_err : goal.returns-clause-put_err
returns-clause-put_err g c =
    let s = g.S.Shape.shape in
    let far = c.args.self.now.far in
    on_err_weaker c.push-2.result (λ part line told.
    part_after _ _ _ _ _ _ _ (silent_gains s far.path ((far_meaning s far).got line) _ line _ _ _ told.meaning_is (c.in_ok-push.ensures.put line told.noting)) (part.gains line told.far) (λ k. ([], sym (append-nil _)))) c.push-2.ensures.part

pub returns-clause-seen : goal.returns-clause-seen
returns-clause-seen g c =
    on_ok_from _ c.push-2.result (λ line told.
    let P : Meaning → Type 0 = λ m. g.W.Watch.saw c.args.watch.now (m.notes line c.args.bit) c.push.new.watch in
    subst P told.meaning_is (c.in_ok-push.ensures.seen line told.noting))

pub returns-clause-seen_err : goal.returns-clause-seen_err
returns-clause-seen_err g c =
    on_err_from _ c.push-2.result (λ line told.
    let P : Meaning → Type 0 = λ m. g.W.Watch.saw c.args.watch.now (m.notes line c.args.bit) c.push.new.watch in
    (_, [], sym (append-nil _), subst P told.meaning_is (c.in_ok-push.ensures.seen line told.noting)))

pub returns-clause-drained : goal.returns-clause-drained
returns-clause-drained g c = g.met.D.Drain.drained_join _ _ _ c.in_ok-push.ensures.drained c.push-2.ensures.drained

pub returns-clause-same : goal.returns-clause-same
returns-clause-same g c = meaning_same g.S.Shape.shape c.args.self.now.far c.push-2.new.self c.push-2.ensures.same
