use Rattle.std.proofs.Common.{◌≡◌, ℕ, ◌<◌, List, Bool, [], ◌∷◌, ◌++◌, map, ap, sym, ◌∙◌, arith}
use Rattle.std.specs.List.{range_with_len}
use Rattle.std.proofs.lemmas.List.{map-append}
use Rattle.std.proofs.lemmas.List.FromFn.{map-range_with_len_more}
use Rattle.pdh_edge.specs.MemLists.{inputs_of}
use Rattle.pdh_chain.specs.Chains.{leaves_of}
use Rattle.pdh_patterns.specs.Pattern.{state_after, bits_from, first_state}
use Rattle.pdh_patterns.specs.Patterns.{rest_of}
use Rattle.pdh_patterns.specs.declared.patterns.LeafPattern.{LeafPattern}
use Rattle.pdh_patterns.specs.Leaves.{input_of}
use Rattle.pdh_patterns.proofs.Entered.{entered_answer, entered_few}
use Rattle.pdh_patterns.proofs.patterns.Patterns.open.Goals as goal

pub overflow_cast-entered : goal.overflow_cast-entered
overflow_cast-entered c =
    let low : c.loop-leaf.leaf < leaves_of c.args.chain = omega (arith, c.leaves-leaf-end.ensures.value) in
    record { fits = omega (arith, c.entered.ensures, entered_answer c.args.chain c.args.frames c.args.clock.now c.requires.clock c.loop-leaf.leaf, entered_few c.args.chain c.args.frames c.args.clock.now c.requires.clock c.loop-leaf.leaf c.requires.few low) }

pub loop-leaf-preserved : goal.loop-leaf-preserved
unfolding state_after
loop-leaf-preserved c =
    let leaf = c.loop-leaf.leaf in
    let gives : ℕ → List Bool = input_of c.args.chain c.args.seed c.args.frames in
    let new : LeafPattern = record { pattern = c.new.result; left = c.entered.result } in
    let made : rest_of new ≡ gives leaf =
    ap (λ state. bits_from state c.entered.result) c.new.ensures
    ∙ ap (bits_from (first_state c.args.seed leaf)) (c.entered.ensures ∙ entered_answer c.args.chain c.args.frames c.args.clock.now c.requires.clock leaf) in
    ap (map rest_of) c.in_ok-push.ensures.items ∙ map-append rest_of c.loop-leaf.list.items (new ∷ []) ∙ ap (λ lists. lists ++ rest_of new ∷ []) c.loop-leaf.invariant
    ∙ ap (λ bits. map gives (range_with_len 0 leaf) ++ bits ∷ []) made ∙ sym (map-range_with_len_more gives 0 leaf leaf (omega arith))

pub returns : goal.returns
returns c =
    let all : c.loop-leaf.leaf ≡ c.leaves-leaf-end.result = omega (arith, c.loop-leaf-test.false, c.loop-leaf.auto.leaf-end) in
    ap inputs_of (c.loop-leaf.invariant ∙ ap (λ leaves. map (input_of c.args.chain c.args.seed c.args.frames) (range_with_len 0 leaves)) (all ∙ c.leaves-leaf-end.ensures.value))
