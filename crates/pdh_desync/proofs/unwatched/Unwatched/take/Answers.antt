use Rattle.std.proofs.Common.{◌≡◌, ◌+◌, ◌-◌, ◌++◌, ℕ, take, drop, refl, ap, ◌∙◌, subst, arith}
use Rattle.std.proofs.Math.Seq.{take-add}
use Rattle.std.proofs.lemmas.List.{drop-drop}
use Rattle.std.proofs.lemmas.Result.{err_from_is_err_and}
use Rattle.pdh_edge.proofs.Runs.{cause_since}
use Rattle.pdh_rx.specs.Meaning.{TakesBits}
use Rattle.pdh_rx.proofs.Gains.{on_err_from}
use Rattle.pdh_rx.proofs.Shares.{takes_none, takes_join, takes_part}
use Rattle.pdh_desync.specs.FarNode.{SmoothStands, far_meaning}
use Rattle.pdh_desync.specs.laws.SmoothSound.{smooth_sound}
use Rattle.pdh_desync.proofs.SmoothSteps.{meaning_same, keeps_both, still_ready, parts_of}
use Rattle.pdh_desync.proofs.unwatched.Unwatched.take.Goals as goal

pub loop-done-init : goal.loop-done-init
loop-done-init g c = record {
  within = omega arith;
  taken = takes_none _ _ _;
  same = record { path = refl; leaves = refl };
  unfailed = refl;
  drained = g.met.D.Drain.drained_same _;
}

pub advance-requires-clause-ready : goal.advance-requires-clause-ready
advance-requires-clause-ready g c =
    let inv = c.loop-done.invariant in
    still_ready g.S.Shape.shape _ _ _ _ _ (g.met.D.Drain.drained_holds c.args.drain.now c.loop-done.drain inv.drained) inv.same c.requires.ready inv.taken

pub returns-in_err-done-clause-part : goal.returns-in_err-done-clause-part
returns-in_err-done-clause-part g c =
    let s = g.S.Shape.shape in
    let old = c.args.self.now in
    let bits = c.args.bits.now.bits in
    let from = c.args.from in
    let n = c.loop-done.done in
    let inv = c.loop-done.invariant in
    on_err_from _ c.from_residual.result
    (takes_part _ _ (take n (drop from bits)) (take (c.args.count - n) (drop (from + n) bits)) (take c.args.count (drop from bits)) _ _ _ _ _ (smooth_sound s old.path old.stores.leaves.first old.stores.leaves.marks g.met.S.Shape.is_frame)
    (meaning_same s old c.loop-done.self inv.same) (parts_of from c.args.count n bits inv.within) inv.taken c.in_err-done.ensures.part)

pub returns-in_err-done-clause-same : goal.returns-in_err-done-clause-same
returns-in_err-done-clause-same g c = keeps_both _ _ _ c.loop-done.invariant.same c.in_err-done.ensures.same

pub returns-in_err-done-clause-cause : goal.returns-in_err-done-clause-cause
returns-in_err-done-clause-cause g c = cause_since c.from_residual.result _ _ _ _ (err_from_is_err_and c.from_residual.result c.from_residual.ensures.1).1 c.loop-done.invariant.unfailed c.in_err-done.ensures.cause

pub returns-in_err-done-clause-drained : goal.returns-in_err-done-clause-drained
returns-in_err-done-clause-drained g c = g.met.D.Drain.drained_join _ _ _ c.loop-done.invariant.drained c.in_err-done.ensures.drained

pub loop-done-preserved : goal.loop-done-preserved
loop-done-preserved g c =
    let s = g.S.Shape.shape in
    let bits = c.args.bits.now.bits in
    let from = c.args.from in
    let n = c.loop-done.done in
    let k = c.in_ok-done.field-0 in
    let inv = c.loop-done.invariant in
    let ok = c.in_ok-done.ensures in
    record {
      within = omega (arith, ok.count);
      taken = takes_join _ _ (take n (drop from bits)) (take k (drop (from + n) bits)) (take (n + k) (drop from bits)) _ _ _ _ _ _ (meaning_same s c.args.self.now c.loop-done.self inv.same)
          (take-add n k (drop from bits) ∙ ap (λ x. take n (drop from bits) ++ take k x) (drop-drop n from bits)) inv.taken ok.taken;
      same = keeps_both _ _ _ inv.same ok.same;
      unfailed = ok.cause ∙ inv.unfailed;
      drained = g.met.D.Drain.drained_join _ _ _ inv.drained ok.drained;
    }

pub returns-clause-taken : goal.returns-clause-taken
returns-clause-taken g c =
    let s = g.S.Shape.shape in
    let inv = c.loop-done.invariant in
    let all : c.loop-done.done ≡ c.args.count = omega (arith, inv.within, c.loop-done-test.false) in
    let P : ℕ → Type 0 = λ n. TakesBits (far_meaning s c.args.self.now) (take n (drop c.args.from c.args.bits.now.bits)) (SmoothStands s c.args.self.now) (SmoothStands s c.loop-done.self) (g.D.Drain.outputs c.args.drain.now) (g.D.Drain.outputs c.loop-done.drain) in
    subst P all inv.taken
