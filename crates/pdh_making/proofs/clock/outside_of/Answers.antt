use Rattle.std.proofs.Common.{◌≡◌, ◌+◌, ℕ, List, None, Some, below_more, ap, sym, ◌∙◌, arith}
use Rattle.pdh_shape.specs.declared.place.Path.{Path}
use Rattle.pdh_line.specs.Paths.{steps_of}
use Rattle.pdh_rows.specs.Outside.{run_of}
use Rattle.pdh_making.specs.Clock.{run_outside}
use Rattle.pdh_making.proofs.ClockComes.{tributary_outside, tributaries_inside, stores_of_node, no_stores_outside}
use Rattle.pdh_making.proofs.clock.outside_of.Goals as goal

pub loop-index-init : goal.loop-index-init
loop-index-init c = λ k h. absurd (omega arith)

pub returns-in-Err : goal.returns-in-Err
returns-in-Err c =
    let node : List ℕ = steps_of c.args.node in
    let here : run_outside c.args.clock.now node c.loop-index.index ≡ Some (run_of c.in-Err.run') = sym c.in-Err.ensures.run in
    ap (λ (p : Path). Some (record { node = p; trib = c.loop-index.index + 1; run = c.in-Err.run' })) c.requires.plain
    ∙ sym (tributary_outside c.args.clock.now node c.level_of-level.result.tribs c.loop-index.index (run_of c.in-Err.run')
    (stores_of_node c.args.chain c.args.clock.now _ node c.level_of-level.result c.requires.levels c.levels.ensures.value c.level_of-level.ensures c.if-level.false) c.loop-index-test.true c.loop-index.invariant here)

pub loop-index-preserved : goal.loop-index-preserved
loop-index-preserved c =
    let node : List ℕ = steps_of c.args.node in
    let here : run_outside c.args.clock.now node c.loop-index.index ≡ None = sym c.in_default.ensures.run in
    below_more (λ k. run_outside c.args.clock.now node k ≡ None) c.loop-index.index c.loop-index.invariant here

pub returns : goal.returns
returns c = sym (tributaries_inside c.args.clock.now (steps_of c.args.node) c.level_of-level.result.tribs
    (stores_of_node c.args.chain c.args.clock.now _ (steps_of c.args.node) c.level_of-level.result c.requires.levels c.levels.ensures.value c.level_of-level.ensures c.if-level.false) (λ k h. c.loop-index.invariant k (omega arith)))

pub returns-then-level : goal.returns-then-level
returns-then-level c =
    sym (no_stores_outside c.args.chain c.args.clock.now _ (steps_of c.args.node) c.level_of-level.result c.requires.levels c.levels.ensures.value c.level_of-level.ensures c.if-level.true)
