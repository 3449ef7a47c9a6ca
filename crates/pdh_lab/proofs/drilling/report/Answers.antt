use Rattle.std.proofs.Common.{◌≡◌, ◌<◌, length, ap, sym, ◌∙◌, subst, arith}
use Rattle.std.specs.Bool.{beq}
use Rattle.std.specs.List.{starts_with}
use Rattle.pdh_chain.specs.Chains.{leaves_of}
use Rattle.pdh_patterns.specs.Pattern.{pattern}
use Rattle.pdh_lab.specs.Drill.{output_of, drill_upto, drill_of}
use Rattle.pdh_patterns.specs.Leaves.{entered_of, input_of}
use Rattle.pdh_lab.specs.Steps.{HasRoom}
use Rattle.pdh_lab.proofs.InTime.{out_fewer}
use Rattle.pdh_lab.proofs.Reported.{has_room, came_out, leaf_more}
use Rattle.pdh_patterns.proofs.Entered.{entered_answer, entered_few}
use Rattle.pdh_lab.proofs.drilling.report.Goals as goal

pub overflow_cast-entered : goal.overflow_cast-entered
overflow_cast-entered c =
    let leaf = c.loop-leaf.leaf in
    let low : leaf < leaves_of c.args.chain = omega (arith, c.leaves-leaf-end.ensures.value) in
    record { fits = omega (arith, c.entered-entered.ensures, entered_answer c.args.chain c.args.frames c.args.clock.now c.requires.clock leaf, entered_few c.args.chain c.args.frames c.args.clock.now c.requires.clock leaf c.requires.few low) }

pub with_leaf-drill-requires-clause-room : goal.with_leaf-drill-requires-clause-room
with_leaf-drill-requires-clause-room c =
    let leaf = c.loop-leaf.leaf in
    let low : leaf < leaves_of c.args.chain = omega (arith, c.leaves-leaf-end.ensures.value) in
    subst HasRoom (sym c.loop-leaf.invariant) (has_room c.args.chain c.args.seed c.args.frames leaf c.args.clock.now c.requires.clock c.requires.few low)

pub with_leaf-drill-requires-clause-entered : goal.with_leaf-drill-requires-clause-entered
with_leaf-drill-requires-clause-entered c =
    let leaf = c.loop-leaf.leaf in
    let low : leaf < leaves_of c.args.chain = omega (arith, c.leaves-leaf-end.ensures.value) in
    omega (arith, c.entered-entered.ensures, entered_answer c.args.chain c.args.frames c.args.clock.now c.requires.clock leaf, entered_few c.args.chain c.args.frames c.args.clock.now c.requires.clock leaf c.requires.few low)

pub with_leaf-drill-requires-clause-out : goal.with_leaf-drill-requires-clause-out
with_leaf-drill-requires-clause-out c =
    let leaf = c.loop-leaf.leaf in
    let low : leaf < leaves_of c.args.chain = omega (arith, c.leaves-leaf-end.ensures.value) in
    let bits : c.output-bits.result.now.bits ≡ output_of c.args.chain c.args.seed c.args.frames leaf = came_out c.args.chain c.args.seed c.args.frames leaf _ c.output-bits.result.now.bits c.output-bits.ensures (c.requires.received.told leaf low) in
    omega (arith, ap length bits, out_fewer c.args.chain c.args.seed c.args.frames leaf low, entered_few c.args.chain c.args.frames c.args.clock.now c.requires.clock leaf c.requires.few low)

pub loop-leaf-preserved : goal.loop-leaf-preserved
loop-leaf-preserved c =
    let leaf = c.loop-leaf.leaf in
    let low : leaf < leaves_of c.args.chain = omega (arith, c.leaves-leaf-end.ensures.value) in
    let bits : c.output-bits.result.now.bits ≡ output_of c.args.chain c.args.seed c.args.frames leaf = came_out c.args.chain c.args.seed c.args.frames leaf _ c.output-bits.result.now.bits c.output-bits.ensures (c.requires.received.told leaf low) in
    let enters : c.entered-entered.result ≡ entered_of c.args.chain c.args.frames leaf = c.entered-entered.ensures ∙ entered_answer c.args.chain c.args.frames c.args.clock.now c.requires.clock leaf in
    leaf_more c.args.chain c.args.seed c.args.frames leaf _ _ _ c.loop-leaf.drill _ c.loop-leaf.invariant enters (c.len.ensures.count ∙ ap length bits)
    (c.is_prefix-equal.ensures ∙ ap (λ n. starts_with beq (pattern c.args.seed leaf n) c.output-bits.result.now.bits) enters ∙ ap (starts_with beq (input_of c.args.chain c.args.seed c.args.frames leaf)) bits)
    c.with_leaf-drill.ensures

pub returns : goal.returns
unfolding drill_of
returns c =
    let all : c.loop-leaf.leaf ≡ leaves_of c.args.chain = omega (arith, c.leaves-leaf-end.ensures.value, c.loop-leaf.auto.leaf-end, c.loop-leaf-test.false) in
    c.loop-leaf.invariant ∙ ap (drill_upto c.args.chain c.args.seed c.args.frames) all
