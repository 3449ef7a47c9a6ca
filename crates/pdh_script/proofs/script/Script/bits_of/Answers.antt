use Rattle.std.proofs.Common.{◌≡◌, ◌≤◌, ℕ, List, length, drop, ap, ◌∙◌, arith}
use Rattle.std.proofs.lemmas.List.{drop_all}
use Rattle.pdh_script.specs.declared.step.Step.{Step}
use Rattle.pdh_script.specs.Stored.{rows_in}
use Rattle.pdh_script.proofs.Disturbing.{no_step}
use Rattle.pdh_script.proofs.Lengths.{steps_drop, drop_one, dropped_few, disturbed_long}
use Rattle.pdh_script.proofs.script.Script.bits_of.Goals as goal

pub loop-step-init : goal.loop-step-init
loop-step-init c = omega arith

pub overflow_add-dropped : goal.overflow_add-dropped
overflow_add-dropped c =
    let items : List Step = c.deref-step-items.result.now in
    let i = c.loop-step.step-index in
    let bytes : List ℕ = c.self.inside.rows.added.items in
    let are : rows_in items bytes ≡ c.args.self.now = ap (λ (steps : List Step). rows_in steps bytes) c.deref-step-items.ensures.value ∙ c.self.view_is in
    let few = dropped_few items c.args.bits bytes c.args.self.now are c.requires.fit in
    omega (arith, few, drop_one items i no_step c.loop-step-test.true, c.loop-step.invariant, c.dropped.ensures, c.from-dropped.ensures, c.requires.few)

pub loop-step-preserved : goal.loop-step-preserved
loop-step-preserved c =
    omega (arith, drop_one c.deref-step-items.result.now c.loop-step.step-index no_step c.loop-step-test.true, c.loop-step.invariant, c.dropped.ensures, c.from-dropped.ensures)

pub overflow_sub-result : goal.overflow_sub-result
overflow_sub-result c =
    let items : List Step = c.deref-step-items.result.now in
    let bytes : List ℕ = c.self.inside.rows.added.items in
    let are : rows_in items bytes ≡ c.args.self.now = ap (λ (steps : List Step). rows_in steps bytes) c.deref-step-items.ensures.value ∙ c.self.view_is in
    omega (arith, dropped_few items c.args.bits bytes c.args.self.now are c.requires.fit, c.loop-step.invariant)

pub returns : goal.returns
returns c line long =
    let items : List Step = c.deref-step-items.result.now in
    let i = c.loop-step.step-index in
    let steps : List Step = c.self.inside.rows.steps.items in
    let bytes : List ℕ = c.self.inside.rows.added.items in
    let same : items ≡ steps = c.deref-step-items.ensures.value in
    let all : length items ≤ i = omega (arith, c.loop-step-test.false) in
    let none : steps_drop (drop i items) ≡ 0 = ap steps_drop (drop_all i items all) in
    let drops : c.loop-step.dropped ≡ steps_drop steps = omega (arith, none, c.loop-step.invariant, ap steps_drop same) in
    disturbed_long steps c.args.bits c.loop-step.dropped c.added_bytes.result bytes c.args.self.now line c.self.view_is c.self.invariant c.requires.fit drops c.added_bytes.ensures.value long
