use Rattle.std.proofs.Common.{◌+◌, ◌++◌, take, drop, refl, ap, ◌∙◌, arith}
use Rattle.std.proofs.Math.Seq.{take-add}
use Rattle.std.proofs.lemmas.List.{drop-drop}
use Rattle.pdh_rx.proofs.QuietNode.{quietly_join, quietly_none, quietly_takes}
use Rattle.pdh_rx.proofs.node.RxNodeRx.glide.Goals as goal

pub loop-done-init : goal.loop-done-init
loop-done-init g c = record { within = omega (arith, c.requires.begun); taken = quietly_none _ _; same = refl }

pub idle-count-requires-clause-stands : goal.idle-count-requires-clause-stands
idle-count-requires-clause-stands g c = (_, c.loop-done.invariant.taken.stands c.requires.stands.0 c.requires.stands.1)

pub loop-done-preserved : goal.loop-done-preserved
loop-done-preserved g c =
    let rest = drop c.args.from c.args.bits.now.bits in
    let n = c.loop-done.done in
    let k = c.idle-count.result in
    record {
      within = omega (arith, c.idle-count.ensures.count);
      taken = quietly_join _ _ (take n rest) (take k (drop (c.args.from + n) c.args.bits.now.bits)) (take (n + k) rest) _ _ _ c.loop-done.invariant.same
          (take-add n k rest ∙ ap (λ x. take n rest ++ take k x) (drop-drop n c.args.from c.args.bits.now.bits)) c.loop-done.invariant.taken c.idle-count.ensures.taken;
      same = c.idle-count.ensures.same ∙ c.loop-done.invariant.same;
    }

pub returns-then-count-eq0-clause-taken : goal.returns-then-count-eq0-clause-taken
returns-then-count-eq0-clause-taken g c =
    let rest = drop c.args.from c.args.bits.now.bits in
    let n = c.loop-done.done in
    let k = c.idle-count.result in
    quietly_takes _ (take (n + k) rest) _ _ _ (quietly_join _ _ (take n rest) (take k (drop (c.args.from + n) c.args.bits.now.bits)) (take (n + k) rest) _ _ _ c.loop-done.invariant.same
    (take-add n k rest ∙ ap (λ x. take n rest ++ take k x) (drop-drop n c.args.from c.args.bits.now.bits)) c.loop-done.invariant.taken c.idle-count.ensures.taken)

pub returns-then-count-eq0-clause-quiet : goal.returns-then-count-eq0-clause-quiet
returns-then-count-eq0-clause-quiet g c =
    let rest = drop c.args.from c.args.bits.now.bits in
    let n = c.loop-done.done in
    let k = c.idle-count.result in
    (quietly_join _ _ (take n rest) (take k (drop (c.args.from + n) c.args.bits.now.bits)) (take (n + k) rest) _ _ _ c.loop-done.invariant.same
    (take-add n k rest ∙ ap (λ x. take n rest ++ take k x) (drop-drop n c.args.from c.args.bits.now.bits)) c.loop-done.invariant.taken c.idle-count.ensures.taken).quiet

pub returns-then-count-eq0-clause-drained : goal.returns-then-count-eq0-clause-drained
returns-then-count-eq0-clause-drained g c = g.met.D.Drain.drained_same _

pub returns-clause-taken : goal.returns-clause-taken
returns-clause-taken g c = quietly_takes _ _ _ _ _ c.loop-done.invariant.taken

pub returns-clause-drained : goal.returns-clause-drained
returns-clause-drained g c = g.met.D.Drain.drained_same _
