use Rattle.std.proofs.Common.{◌≡◌, ◌∙◌, ◌≤◌, ◌+◌, ◌*◌, suc, [], ◌∷◌, ◌++◌, List, Ok, false, sym, ap, subst, arith, length, All}
use Rattle.std.proofs.lemmas.Result.{err_from_is_err_and}
use Rattle.std.proofs.lemmas.Bool.{eqb-true}
use Rattle.std.proofs.lemmas.List.{nil_from_length, length-map}
use Rattle.pdh_rows.specs.Flows.{flow_in, FlowFits}
use Rattle.pdh_shape.specs.declared.place.Level.{Level}
use Rattle.pdh_line.specs.Paths.{steps_of}
use Rattle.pdh_row_text.specs.Text.{lines_of}
use Rattle.pdh_clock.specs.Contents.{IsRowOf, rows_at, by_nodes}
use Rattle.pdh_row_text.specs.Text.{is_passed_over}
use Rattle.pdh_clock.specs.Judged.{row_judged, rows_judged}
use Rattle.pdh_clock.specs.Row.{Row}
use Rattle.pdh_clock.specs.Stored.{said_in, ratio_at, IsSmallRow, row_bytes, rows_in}
use Rattle.pdh_shape.specs.OwnNumbers.{most_bytes}
use Rattle.pdh_clock.proofs.Laws.{IsJudged, row_judged_is, judged_sound, judged_fits}
use Rattle.pdh_clock.proofs.Growing.{AreFew, reading_begins, reading_fails, reading_ends, few_so_far, small_row, reads_row}
use Rattle.pdh_clock.proofs.reading.read_rows.Goals as goal

pub loop-rest-init : goal.loop-rest-init
loop-rest-init c = reading_begins c.args.levels.now c.in_ok-tree.tree c.version_of-version.result.0 c.lines-number.result c.version_of-version.result.1.now c.args.text.now
    c.in_ok-tree.ensures.tree c.in_ok-tree.ensures.levels c.in_ok-tree.ensures.rows
    (c.version_of-version.ensures.judged c.args.levels.now ∙ ap (λ n. rows_judged c.args.levels.now c.version_of-version.result.0 (suc n) (lines_of c.version_of-version.result.1.now)) (sym c.lines-number.ensures))
    (omega (arith, c.lines-number.ensures, c.version_of-version.ensures.lens))

pub returns-in_err-row-clause-rows : goal.returns-in_err-row-clause-rows
returns-in_err-row-clause-rows c =
    let p = err_from_is_err_and c.from_residual-in_err-row.result c.from_residual-in_err-row.ensures.1 in
    let kept : is_passed_over c.first_line.result.0.now ≡ false = cc in
    rw (p.1, p.2) (reading_fails c.args.levels.now c.loop-rest.tree c.version_of-version.result.0 c.loop-rest.number c.first_line.result.0.now c.loop-rest.rest.now c.first_line.result.1.now
    c.args.text.now c.in_err-row.field-0.0 c.loop-rest.invariant c.first_line.ensures.lines kept c.in_err-row.ensures.judged)

-- the row, as it is added
abbrev added : goal.After-as_slice → Row
added c = said_in c.args.levels.now (steps_of c.in_ok-row.row.path) c.in_ok-row.row.repeat c.in_ok-row.row.says c.as_slice.result.now

judged : (c : goal.After-as_slice) → row_judged c.args.levels.now c.version_of-version.result.0 (c.loop-rest.number + 1) c.first_line.result.0.now ≡ Ok (added c)
judged c = c.in_ok-row.ensures.judged
    ∙ ap (λ numbers. Ok (said_in c.args.levels.now (steps_of c.in_ok-row.row.path) c.in_ok-row.row.repeat c.in_ok-row.row.says numbers)) (sym c.as_slice.ensures)

is_judged : (c : goal.After-as_slice) → IsJudged c.args.levels.now (added c)
is_judged c = row_judged_is c.args.levels.now c.version_of-version.result.0 (c.loop-rest.number + 1) c.first_line.result.0.now (added c) (judged c)

sound : (c : goal.After-as_slice) → IsRowOf c.args.levels.now (added c)
sound c = judged_sound c.args.levels.now (added c) (is_judged c) c.requires.rated

fits : (c : goal.After-as_slice) → All (FlowFits c.in_ok-row.row.repeat) (added c).flows
fits c = judged_fits c.args.levels.now (added c) (is_judged c) c.requires.levels.each c.requires.rated c.in_ok-row.ensures.repeat

small : (c : goal.After-as_slice) → IsSmallRow (added c)
small c = small_row c.args.levels.now (added c) c.requires.levels.each (sound c) c.in_ok-row.ensures.repeat (fits c)

few : (c : goal.After-as_slice) → AreFew c.args.levels.now c.loop-rest.tree (steps_of c.in_ok-row.row.path)
few c = few_so_far c.args.levels.now c.loop-rest.tree c.version_of-version.result.0 c.loop-rest.number c.loop-rest.rest.now c.args.text.now (steps_of c.in_ok-row.row.path)
    c.loop-rest.invariant (sound c).node c.requires.short

-- the levels of the tree are those that were given
given : (c : goal.After-as_slice) → c.args.levels.now ≡ c.loop-rest.tree.levels.items
given c = sym c.loop-rest.invariant.levels_are

abbrev said : goal.After-as_slice → List Level → Row
said c levels = said_in levels (steps_of c.in_ok-row.row.path) c.in_ok-row.row.repeat c.in_ok-row.row.says c.as_slice.result.now

pub add-requires-clause-row : goal.add-requires-clause-row
add-requires-clause-row c = subst (λ levels. IsRowOf levels (said c levels)) (given c) (sound c)

pub add-requires-clause-fits : goal.add-requires-clause-fits
add-requires-clause-fits c = subst (λ levels. All (FlowFits c.in_ok-row.row.repeat) (said c levels).flows) (given c) (fits c)

pub add-requires-clause-small : goal.add-requires-clause-small
add-requires-clause-small c = subst (λ levels. IsSmallRow (said c levels)) (given c) (small c)

pub add-requires-clause-all_small : goal.add-requires-clause-all_small
add-requires-clause-all_small c = (few c).small

pub add-requires-clause-few : goal.add-requires-clause-few
add-requires-clause-few c = subst (λ levels. row_bytes levels (steps_of c.in_ok-row.row.path) * length (rows_at (rows_in c.loop-rest.tree) (steps_of c.in_ok-row.row.path)) ≤ most_bytes)
    (given c) (few c).few

pub loop-rest-preserved-in_ok-add : goal.loop-rest-preserved-in_ok-add
loop-rest-preserved-in_ok-add c =
    let kept : is_passed_over c.first_line.result.0.now ≡ false = cc in
    let levels = c.args.levels.now in
    let row = said_in levels (steps_of c.in_ok-row.row.path) c.in_ok-row.row.repeat c.in_ok-row.row.says c.as_slice.result.now in
    let line = c.first_line.result.0.now in
    let judged = c.in_ok-row.ensures.judged
    ∙ ap (λ numbers. Ok (said_in levels (steps_of c.in_ok-row.row.path) c.in_ok-row.row.repeat c.in_ok-row.row.says numbers)) (sym c.as_slice.ensures) in
    let is = row_judged_is levels c.version_of-version.result.0 (c.loop-rest.number + 1) line row judged in
    let sound = judged_sound levels row is c.requires.rated in
    let fits = judged_fits levels row is c.requires.levels.each c.requires.rated c.in_ok-row.ensures.repeat in
    let small = small_row levels row c.requires.levels.each sound c.in_ok-row.ensures.repeat fits in
    let long : 3 + 2 * length row.flows ≤ length line =
    omega (arith, length-map c.as_slice.result.now (flow_in (ratio_at levels (steps_of c.in_ok-row.row.path)) c.in_ok-row.row.says), ap length c.as_slice.ensures, c.in_ok-row.ensures.lens) in
    let same = sym c.loop-rest.invariant.levels_are in
    reads_row levels c.loop-rest.tree c.add.new.self c.version_of-version.result.0 c.loop-rest.number line c.loop-rest.rest.now
    c.first_line.result.1.now c.args.text.now row c.loop-rest.invariant
    c.first_line.ensures.lines c.first_line.ensures.lens c.first_line.ensures.shorter sound long kept judged small
    c.in_ok-add.ensures.tree c.in_ok-add.ensures.levels
    (subst (λ ls. (rows : List Row) → rows_in c.loop-rest.tree ≡ by_nodes c.loop-rest.tree.levels.items rows
    → rows_in c.add.new.self ≡ by_nodes c.loop-rest.tree.levels.items (rows ++ said_in ls (steps_of c.in_ok-row.row.path) c.in_ok-row.row.repeat c.in_ok-row.row.says c.as_slice.result.now ∷ []))
    (sym same) c.in_ok-add.ensures.rows)

pub returns-clause-rows : goal.returns-clause-rows
returns-clause-rows c =
    let none : c.loop-rest.rest.now ≡ [] = nil_from_length c.loop-rest.rest.now (eqb-true (length c.loop-rest.rest.now) 0 (sym c.loop-rest-test.ensures)) in
    reading_ends c.args.levels.now c.loop-rest.tree c.version_of-version.result.0 c.loop-rest.number c.loop-rest.rest.now c.args.text.now c.loop-rest.invariant none
