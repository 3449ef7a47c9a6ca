use Rattle.std.proofs.Common.{◌≡◌, [], None, Some, get_or, length, below_more, ap, sym, ◌∙◌, ◌<◌, arith}
use Rattle.pdh_levels.specs.Levels.{nodes_in}
use Rattle.pdh_chain.specs.Chains.{levels_of}
use Rattle.pdh_making.specs.Schedules.{contents_of}
use Rattle.pdh_making.specs.Clock.{first_outside_of}
use Rattle.pdh_making.proofs.ClockComes.{first_outside_is, all_inside, outside_now}
use Rattle.pdh_making.proofs.clock.checked.Goals as goal

pub loop-place-init : goal.loop-place-init
loop-place-init c = λ k h. absurd (omega arith)

pub returns-in-Some : goal.returns-in-Some
returns-in-Some c =
    let low : c.loop-place.place < length (nodes_in (levels_of c.args.chain)) = omega (arith, c.node_count-place-end.ensures, ap (λ ls. length (nodes_in ls)) c.levels.ensures.value) in
    let here = outside_now c.args.chain c.args.clock.now c.levels-in-loop-place.result.now c.loop-place.place c.node_at.result (Some c.in-Some.out) c.requires c.levels-in-loop-place.ensures.value c.node_at.ensures.steps (sym c.in-Some.is ∙ c.outside_of.ensures) in
    c.outside.ensures ∙ sym (first_outside_is c.args.chain c.args.clock.now.rows c.loop-place.place c.in-Some.out low c.loop-place.invariant here)

pub loop-place-preserved : goal.loop-place-preserved
loop-place-preserved c =
    let low : c.loop-place.place < length (nodes_in (levels_of c.args.chain)) = omega (arith, c.node_count-place-end.ensures, ap (λ ls. length (nodes_in ls)) c.levels.ensures.value) in
    let here = outside_now c.args.chain c.args.clock.now c.levels-in-loop-place.result.now c.loop-place.place c.node_at.result None c.requires c.levels-in-loop-place.ensures.value c.node_at.ensures.steps (sym c.in_default.is ∙ c.outside_of.ensures) in
    below_more (λ k. first_outside_of (contents_of c.args.chain c.args.clock.now.rows) (get_or (nodes_in (levels_of c.args.chain)) k []) ≡ None) c.loop-place.place c.loop-place.invariant here

pub returns : goal.returns
returns c = c.inside.ensures ∙ sym (all_inside c.args.chain c.args.clock.now.rows (λ k h. c.loop-place.invariant k (omega (arith, c.node_count-place-end.ensures, ap (λ ls. length (nodes_in ls)) c.levels.ensures.value))))
