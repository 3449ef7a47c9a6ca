use Rattle.std.proofs.Common.{ℕ, List, [], ◌∷◌, ◌++◌, map, ap, sym, ◌∙◌, arith}
use Rattle.std.specs.List.{range_with_len}
use Rattle.std.proofs.lemmas.List.FromFn.{map-range_with_len_more}
use Rattle.pdh_making.specs.Mux.{bits_needed}
use Rattle.pdh_answers.specs.declared.file.File.TheVariants.{Leaf}
use Rattle.pdh_runner.specs.declared.port.Input.{Input}
use Rattle.pdh_making.proofs.Scheduled.{needed_here}
use Rattle.pdh_making.proofs.muxing.port_files.Goals as goal

pub overflow_cast-entered : goal.overflow_cast-entered
overflow_cast-entered c =
    let needed = needed_here c.args.chain c.args.plan.now.clock c.args.plan.now.frames c.loop-leaf.leaf c.from-in-loop-leaf.result c.entered.result c.requires.levels_are c.requires.sound c.requires.frames_are c.requires.few c.from-in-loop-leaf.ensures
    (omega (arith, c.leaf_count-leaf-end.ensures.value)) c.entered.ensures in
    record { fits = omega (arith, needed.1) }

pub loop-leaf-preserved : goal.loop-leaf-preserved
loop-leaf-preserved c =
    let chain = c.args.chain in
    let rows = c.args.plan.now.clock.rows in
    let leaf = c.loop-leaf.leaf in
    let needed = needed_here chain c.args.plan.now.clock c.args.plan.now.frames leaf c.from-in-loop-leaf.result c.entered.result c.requires.levels_are c.requires.sound c.requires.frames_are c.requires.few c.from-in-loop-leaf.ensures
    (omega (arith, c.leaf_count-leaf-end.ensures.value)) c.entered.ensures in
    let input : ℕ → Input = λ k. record { file = Leaf k; bits = bits_needed chain rows k } in
    c.in_ok-push.ensures.items
    ∙ ap (λ (all : List Input). all ++ record { file = Leaf leaf; bits = c.entered.result } ∷ []) c.loop-leaf.invariant
    ∙ ap (λ (n : ℕ). map input (range_with_len 0 leaf) ++ record { file = Leaf leaf; bits = n } ∷ []) needed.0
    ∙ sym (map-range_with_len_more input 0 leaf leaf (omega arith))
