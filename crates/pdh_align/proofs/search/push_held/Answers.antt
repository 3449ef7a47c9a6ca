use Rattle.std.proofs.Common.{◌≡◌, ◌+◌, ◌≤◌, ◌++◌, length, take, append_assoc, sym, ap, ◌∙◌, subst, arith}
use Rattle.std.proofs.lemmas.List.{take_all}
use Rattle.std.proofs.Math.Seq.{take-add}
use Rattle.pdh_phases.specs.Keeping.{StandsFor}
use Rattle.pdh_align.proofs.search.push_held.Goals as goal

pub loop-done-preserved : goal.loop-done-preserved
loop-done-preserved g c =
    let bits = c.args.held.now.bits in
    let done = c.loop-done.done in
    let count = c.min-count.result in
    let within : done + count ≤ length bits = omega (arith, c.min-count.ensures, c.held.ensures.count, c.held-in-loop-done.ensures.count, c.loop-done-test.true) in (
      within,
      λ before h.
          let more : (before ++ take done bits) ++ c.read.result ≡ before ++ take (done + count) bits =
          append_assoc before (take done bits) c.read.result ∙ ap (λ x. before ++ (take done bits ++ x)) c.read.ensures ∙ ap (λ x. before ++ x) (sym (take-add done count bits)) in
          subst (StandsFor g.S.Shape.shape c.push_word.new.phases) more (c.push_word.ensures (before ++ take done bits) (c.loop-done.invariant.1 before h)),
    )

pub returns : goal.returns
returns g c before h =
    let bits = c.args.held.now.bits in
    let all : take c.loop-done.done bits ≡ bits = take_all c.loop-done.done bits (omega (arith, c.held.ensures.count, c.loop-done-test.false)) in
    subst (λ x. StandsFor g.S.Shape.shape c.loop-done.phases (before ++ x)) all (c.loop-done.invariant.1 before h)
