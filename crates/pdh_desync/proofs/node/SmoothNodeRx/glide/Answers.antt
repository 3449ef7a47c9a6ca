use Rattle.std.proofs.Common.{take, drop, replicate, sym, ap, ◌∙◌, subst}
use Rattle.pdh_events.specs.laws.QuietLaws.{IsQuiet}
use Rattle.pdh_rx.specs.Meaning.{Meaning}
use Rattle.pdh_rx.specs.Node.{node_meaning}
use Rattle.pdh_rx.proofs.Gains.{on_err_from, gains_join, part_after}
use Rattle.pdh_desync.specs.Smooth.{mute_meaning}
use Rattle.pdh_desync.specs.FarNode.{far_meaning}
use Rattle.pdh_desync.specs.laws.SmoothSound.{smooth_sound}
use Rattle.pdh_desync.proofs.Quieting.{silent_gains, silent_part, silent_lists, front_grows}
use Rattle.pdh_desync.proofs.SmoothSteps.{meaning_same}
use Rattle.pdh_desync.proofs.node.SmoothNodeRx.glide.Goals as goal

pub glide-requires : goal.glide-requires
glide-requires g c = record {
  begun = c.requires.begun;
  stands = (c.requires.stands.0, c.requires.stands.1.noting);
  lists = silent_lists g.S.Shape.shape c.args.self.now.far.path _ (g.D.Drain.outputs c.args.drain.now) c.requires.stands.1.meaning_is;
}

pub take-requires-clause-ready : goal.take-requires-clause-ready
take-requires-clause-ready g c = record {
  line = c.requires.stands.0;
  stands = c.requires.stands.1.far;
  lists = λ k is. ap (λ h. h k) (g.met.D.Drain.drained_holds c.args.drain.now c.glide.new._drain c.in_ok-count.ensures.drained) ∙ c.requires.lists k is;
}

pub returns-in_err-count-clause-part : goal.returns-in_err-count-clause-part
returns-in_err-count-clause-part g c =
    let s = g.S.Shape.shape in
    let far = c.args.self.now.far in
    let rest = drop c.args.from c.args.bits.now.bits in
    on_err_from _ c.from_residual.result (record {
      gains = λ line told. silent_part s far.path (far_meaning s far) _ line _ rest _ _ (smooth_sound s far.path far.stores.leaves.first far.stores.leaves.marks g.met.S.Shape.is_frame) told.meaning_is (c.in_err-count.ensures.part.gains line told.noting);
    })

pub returns-in_err-take-clause-part : goal.returns-in_err-take-clause-part
returns-in_err-take-clause-part g c =
    let s = g.S.Shape.shape in
    let far = c.args.self.now.far in
    let rest = drop c.args.from c.args.bits.now.bits in
    let n = c.in_ok-count.count in
    let sound = smooth_sound s far.path far.stores.leaves.first far.stores.leaves.marks g.met.S.Shape.is_frame in
    on_err_from _ c.from_residual-in_err-take.result (record {
      gains = λ line told.
          part_after _ _ _ _ _ _ _ (silent_gains s far.path ((far_meaning s far).got line) _ line _ _ _ told.meaning_is (c.in_ok-count.ensures.taken.gains line told.noting)) (c.in_err-take.ensures.part.gains line told.far)
          (front_grows (far_meaning s far) line rest n sound);
    })

pub returns-in_err-take-clause-drained : goal.returns-in_err-take-clause-drained
returns-in_err-take-clause-drained g c = g.met.D.Drain.drained_join _ _ _ c.in_ok-count.ensures.drained c.in_err-take.ensures.drained

pub returns-in_err-take-clause-same : goal.returns-in_err-take-clause-same
returns-in_err-take-clause-same g c = meaning_same g.S.Shape.shape c.args.self.now.far c.take.new.self c.in_err-take.ensures.same

pub returns-clause-taken : goal.returns-clause-taken
returns-clause-taken g c =
    let s = g.S.Shape.shape in
    let far = c.args.self.now.far in
    record {
      stands = λ line told. record {
        far = c.in_ok-take.ensures.taken.stands line told.far;
        noting = c.in_ok-count.ensures.taken.stands line told.noting;
        meaning_is = c.in_ok-count.ensures.same ∙ told.meaning_is ∙ ap (λ p. node_meaning s p (replicate s.tribs mute_meaning)) (sym c.in_ok-take.ensures.same.path);
      };
      gains = λ line told. gains_join _ _ _ _ _ _ (silent_gains s far.path ((far_meaning s far).got line) _ line _ _ _ told.meaning_is (c.in_ok-count.ensures.taken.gains line told.noting)) (c.in_ok-take.ensures.taken.gains line told.far);
    }

pub returns-clause-quiet : goal.returns-clause-quiet
returns-clause-quiet g c line told =
    let rest = drop c.args.from c.args.bits.now.bits in
    let P : Meaning → Type 0 = λ m. IsQuiet m.notes line (take c.in_ok-count.count rest) in
    subst P told.meaning_is (c.in_ok-count.ensures.quiet line told.noting)

pub returns-clause-drained : goal.returns-clause-drained
returns-clause-drained g c = g.met.D.Drain.drained_join _ _ _ c.in_ok-count.ensures.drained c.in_ok-take.ensures.drained

pub returns-clause-same : goal.returns-clause-same
returns-clause-same g c = meaning_same g.S.Shape.shape c.args.self.now.far c.take.new.self c.in_ok-take.ensures.same
