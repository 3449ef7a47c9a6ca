use Rattle.std.proofs.Common.{◌≡◌, ◌+◌, Bool, List, ◌++◌, take, drop, append_assoc, sym, ap, ◌∙◌, subst, arith}
use Rattle.std.proofs.lemmas.List.{drop-drop}
use Rattle.std.proofs.Math.Seq.{take-add}
use Rattle.pdh_phases.specs.Keeping.{StandsFor}
use Rattle.pdh_phases.proofs.phases.Phases.push_all.Goals as goal

pub loop-done-preserved : goal.loop-done-preserved
loop-done-preserved g c =
    let bits = c.args.bits.now.bits in
    let from = c.args.from in
    let done = c.loop-done.done in
    let count = c.push_some-done.result in
    let rest : List Bool = drop from bits in (
      omega (arith, c.push_some-done.ensures.count.1, c.loop-done-test.true),
      λ before stands.
          let more : (before ++ take done rest) ++ take count (drop (from + done) bits) ≡ before ++ take (done + count) rest =
          append_assoc before (take done rest) (take count (drop (from + done) bits))
          ∙ ap (λ (x : List Bool). before ++ (take done rest ++ take count x)) (sym (drop-drop done from bits)) ∙ ap (λ (x : List Bool). before ++ x) (sym (take-add done count rest)) in
          subst (StandsFor g.S.Shape.shape c.push_some-done.new.self) more (c.push_some-done.ensures.taken (before ++ take done rest) (c.loop-done.invariant.1 before stands)),
    )
