use Rattle.std.proofs.Common.{◌≡◌, ◌+◌, Bool, List, Err, Ok, length, ap, refl, ◌∙◌, subst, arith}
use Rattle.std.proofs.lemmas.Result.{err_from_is_err_and}
use Rattle.pdh_bits.specs.BitOut.{BoundedBits}
use Rattle.pdh_packed.specs.Gaining.{gained}
use Rattle.pdh_edge.proofs.Progress.{fails}
use Rattle.pdh_script.specs.Applying.{Passes, PassesSo}
use Rattle.pdh_script.specs.Stored.{becomes}
use Rattle.pdh_script.proofs.Parts.{passing_starts, pass_goes_on, feed_fails, bits_pass, bits_fail, put_is, becomes_nothing}
use Rattle.pdh_script.proofs.passing.pass.Goals as goal

pub loop-passed-init : goal.loop-passed-init
loop-passed-init g c = record {
  within = omega arith;
  capacity = refl;
  passes = passing_starts g.P.Feed g.P.Drain g.P.Port.kept (becomes c.args.effect) (becomes c.args.effect) c.args.bits c.args.port.now (g.met.P.Port.kept_same c.args.port.now) (becomes_nothing c.args.effect);
}

pub returns-in_err-count-clause-passed : goal.returns-in_err-count-clause-passed
returns-in_err-count-clause-passed g c =
    let p = err_from_is_err_and c.from_residual.result c.from_residual.ensures.1 in
    rw (p.1, p.2)
    (fails (pass_goes_on g.P.Feed g.P.Drain g.P.Port.kept c.args.effect c.loop-passed.passed 1 (c.loop-passed.passed + 1) c.args.bits _ _ _ _ refl (omega (arith, c.loop-passed-test.true)) (g.met.P.Port.kept_join _ _ _) c.loop-passed.invariant.passes
    (feed_fails g.P.Feed g.P.Drain g.P.Port.kept (becomes c.args.effect) _ _ _ (g.met.P.Port.fed_is_kept _ _ c.bits.ensures.fed) (g.met.P.Port.fed_keeps_outputs _ _ c.bits.ensures.fed) c.in_err-count.ensures.err c.in_err-count.ensures.cause (λ e. c.in_err-count.ensures.ended (ap Err e)))))

pub returns-in_err-put_all-clause-passed : goal.returns-in_err-put_all-clause-passed
returns-in_err-put_all-clause-passed g c =
    let p = err_from_is_err_and c.from_residual-in_err-put_all.result c.from_residual-in_err-put_all.ensures.1 in
    let taken : List Bool = gained c.clear.new.self c.bits.new.into in
    let grown = c.in_ok-count.ensures.grown in
    let kept = g.met.P.Port.kept_join _ _ _ (g.met.P.Port.fed_is_kept _ _ c.bits.ensures.fed) (g.met.P.Port.drained_is_kept _ _ c.put_all.ensures.drained) in
    rw (p.1, p.2)
    (fails (pass_goes_on g.P.Feed g.P.Drain g.P.Port.kept c.args.effect c.loop-passed.passed (length taken) (c.loop-passed.passed + length taken) c.args.bits _ _ _ _ refl (omega (arith, grown.count, c.in_ok-count.ensures.count.1, c.part-most.ensures.left, c.loop-passed-test.true)) (g.met.P.Port.kept_join _ _ _) c.loop-passed.invariant.passes
    (bits_fail g.P.Feed g.P.Drain g.P.Port.kept c.args.effect taken c.alter.new.bits.bits _ _ _ kept (g.met.P.Port.fed_keeps_outputs _ _ c.bits.ensures.fed) (g.met.P.Port.drained_keeps_inputs _ _ c.put_all.ensures.drained)
    (put_is c.args.effect c.loop-passed.buffer c.clear.new.self c.bits.new.into c.alter.new.bits c.in_ok-count.count c.clear.ensures grown c.alter.ensures) c.in_ok-count.ensures.cause c.in_ok-count.ensures.ok c.in_err-put_all.ensures.cause c.in_err-put_all.ensures.err)))

pub loop-passed-preserved : goal.loop-passed-preserved
loop-passed-preserved g c =
    let taken : List Bool = gained c.clear.new.self c.bits.new.into in
    let grown = c.in_ok-count.ensures.grown in
    let kept = g.met.P.Port.kept_join _ _ _ (g.met.P.Port.fed_is_kept _ _ c.bits.ensures.fed) (g.met.P.Port.drained_is_kept _ _ c.put_all.ensures.drained) in
    record {
      within = omega (arith, c.in_ok-count.ensures.count.1, c.part-most.ensures.left, c.loop-passed-test.true);
      capacity = ap (λ (list : BoundedBits). list.capacity) c.alter.ensures ∙ grown.capacity ∙ ap (λ (list : BoundedBits). list.capacity) c.clear.ensures ∙ c.loop-passed.invariant.capacity;
      passes = pass_goes_on g.P.Feed g.P.Drain g.P.Port.kept c.args.effect c.loop-passed.passed (length taken) (c.loop-passed.passed + c.in_ok-count.count) c.args.bits _ _ _ _ (omega (arith, grown.count)) (omega (arith, grown.count, c.in_ok-count.ensures.count.1, c.part-most.ensures.left, c.loop-passed-test.true)) (g.met.P.Port.kept_join _ _ _) c.loop-passed.invariant.passes
          (bits_pass g.P.Feed g.P.Drain g.P.Port.kept c.args.effect taken c.alter.new.bits.bits _ _ _ kept (g.met.P.Port.fed_keeps_outputs _ _ c.bits.ensures.fed) (g.met.P.Port.drained_keeps_inputs _ _ c.put_all.ensures.drained)
          (put_is c.args.effect c.loop-passed.buffer c.clear.new.self c.bits.new.into c.alter.new.bits c.in_ok-count.count c.clear.ensures grown c.alter.ensures) c.in_ok-count.ensures.cause c.in_ok-count.ensures.ok c.in_ok-put_all.ensures.cause c.in_ok-put_all.ensures.ok);
    }

pub returns-clause-passed : goal.returns-clause-passed
returns-clause-passed g c =
    let all : c.loop-passed.passed ≡ c.args.bits = omega (arith, c.loop-passed.invariant.within, c.loop-passed-test.false) in
    subst (λ n. PassesSo {T = Unit {0}} g.P.Feed g.P.Drain g.P.Port.kept (Passes (becomes c.args.effect) n) (becomes c.args.effect) c.args.bits c.args.port.now c.loop-passed.port (Ok tt)) all c.loop-passed.invariant.passes
